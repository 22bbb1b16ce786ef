-- Settling after a round: where every register is rooted the settled row is tight with the new preds and nowhere below the row that the round
-- left, so nowhere below the row that entered. Rests on `Kept`, `Worth` and `Rooted`.
use mathlib.Core.Path.{◌≡◌, ◌∙◌}
use mathlib.Core.Bool.{true}
use mathlib.Core.List.{List}
use Prim.Native.Nat.{ℕ, zero, suc, ◌<◌}
use native.Mathlib.Omega.{arith}
use lib.IntN.{ℤ, pos}
use lib.Signed.{◌≤ℤ◌}
use Rattle.whole.proofs.Lin.{lin}
use Rattle.loops.specs.Arrows.{Arrows, Sound, tail}
use Rattle.loops.specs.Model.{at, pred, all_rooted, settled, row_after, preds_after}
use Rattle.loops.specs.Forest.{Deep, Forest, Tight}
use Rattle.loops.proofs.Rooted.{all_grounded}
use Rattle.loops.proofs.Tight.{host_no_pred}
use Rattle.loops.proofs.Kept.{tight_books, round_grows, round_exact, round_into, round_fed, round_still}
use Rattle.loops.proofs.Worth.{forest_tight}

module _ (Γ : Arrows) (a : List ℤ) (p : List ℕ) (s : Sound Γ) (t : Tight Γ a p) (r : all_rooted Γ (preds_after Γ a p) ≡ true) where
  -- the new preds are a forest
  pub round_forest : Forest Γ (preds_after Γ a p)
  round_forest = record {
    preds_length = (tight_books Γ a p s t).preds_length;
    grounded = all_grounded Γ (preds_after Γ a p) r;
    into = round_into Γ a p s t;
    fed = round_fed Γ a p s t;
  }

  -- the settled row is tight with the new preds
  pub settled_tight : Tight Γ (settled Γ (preds_after Γ a p)) (preds_after Γ a p)
  settled_tight = forest_tight Γ (preds_after Γ a p) s round_forest

  -- Where everything is grounded the host has no pred, so it was not raised.
  pub host_still : at (row_after Γ a p) 0 ≡ pos 0
  host_still = round_still Γ a p s t 0 s.some (host_no_pred Γ (preds_after Γ a p) s round_forest) ∙ t.host

  -- By depth: what the round left at v is what its pred asks of the row that entered, and that row lies below what the round left at the tail,
  -- and so below the settled row there.
  deep_above : (d v : ℕ) → v < Γ.registers → Deep Γ (preds_after Γ a p) d v → at (row_after Γ a p) v ≤ℤ at (settled Γ (preds_after Γ a p)) v
  deep_above zero zero b h = let e = host_still in let f = settled_tight.host in omega lin
  deep_above zero (suc v) b h = absurd (let f = round_fed Γ a p s t (suc v) (omega arith) b in omega arith)
  deep_above (suc d) v b h =
      let u = tail Γ (pred (preds_after Γ a p) v) in
      let ub = s.leaves (pred (preds_after Γ a p) v) h.0 in
      let up = deep_above d u ub h.1 in
      let grows = round_grows Γ a p s t u ub in
      let left = round_exact Γ a p s t v b h.0 in
      let here = settled_tight.exact v b h.0 in
      omega lin

  -- the settled row is nowhere below the row that the round left
  pub settled_above : (v : ℕ) → v < Γ.registers → at (row_after Γ a p) v ≤ℤ at (settled Γ (preds_after Γ a p)) v
  settled_above v b = let g = round_forest.grounded v b in deep_above g.0 v b g.1

  -- rows never fall: the settled row is nowhere below the row that entered the round
  pub rows_from : (v : ℕ) → v < Γ.registers → at a v ≤ℤ at (settled Γ (preds_after Γ a p)) v
  rows_from v b = let g = round_grows Γ a p s t v b in let h = settled_above v b in omega lin
