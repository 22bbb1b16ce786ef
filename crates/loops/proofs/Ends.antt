-- It ends: where everything is grounded the host was not raised, so every register's high rule holds of the row that entered the round, and
-- the measure falls from that row to the settled one. Rests on `Kept`, `Settle` and `Gap`.
use mathlib.Core.Path.{◌≡◌}
use mathlib.Core.Bool.{true}
use mathlib.Core.List.{List}
use Prim.Native.Nat.{ℕ, zero, suc, ◌<◌}
use native.Mathlib.Omega.{arith}
use lib.IntN.{ℤ, pos, ◌+ℤ◌}
use lib.Signed.{◌≤ℤ◌}
use Rattle.whole.proofs.Lin.{lin, negs}
use Rattle.loops.specs.Arrows.{Arrows, Sound, Highs, amount}
use Rattle.loops.specs.Model.{at, round, all_rooted, settled, row_after, preds_after}
use Rattle.loops.specs.Forest.{Tight, gap}
use Rattle.loops.proofs.Kept.{round_asks, round_loud}
use Rattle.loops.proofs.Settle.{host_still, settled_above, rows_from}
use Rattle.loops.proofs.Gap.{gap_lt}

module _ (Γ : Arrows) (H : ℕ) (s : Sound Γ) (w : Highs Γ H) where
  -- The high arrow of v asks of the host a v less at most H, and the host left the round at 0.
  pub entered_high : (a : List ℤ) (p : List ℕ) → Tight Γ a p → all_rooted Γ (preds_after Γ a p) ≡ true → (v : ℕ) → v < Γ.registers → at a v ≤ℤ pos H
  entered_high a p t r zero b = let e = t.host in omega lin
  entered_high a p t r (suc v) b =
      let o = w (suc v) (omega arith) b in
      let met : (at a (suc v) +ℤ amount Γ o.place) ≤ℤ at (row_after Γ a p) 0 = rw (o.leaves, o.reaches) at (round_asks Γ a p s t o.place o.exists) in
      let still = host_still Γ a p s t r in
      let most = o.most in
      omega (lin, negs (pos H))

  -- No register falls, and one that was at or below H rose.
  pub gap_falls : (a : List ℤ) (p : List ℕ) → Tight Γ a p → (round Γ a p).raised ≡ true → all_rooted Γ (preds_after Γ a p) ≡ true
      → gap Γ H (settled Γ (preds_after Γ a p)) < gap Γ H a
  gap_falls a p t q r =
      let up = round_loud Γ a p s t q in
      let left = up.higher in
      let on = settled_above Γ a p s t r up.register up.below in
      let high = entered_high a p t r up.register up.below in
      gap_lt H a (settled Γ (preds_after Γ a p)) Γ.registers (rows_from Γ a p s t r) up.register up.below (omega lin) high
