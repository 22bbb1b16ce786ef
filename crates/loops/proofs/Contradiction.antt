-- A circle after a round from a tight row is a contradicting loop. Going back around it, the row that entered rises by no more than the
-- amounts allow; all registers were grounded before, so some pred on the circle is new, and there the row rose. Rests on `Kept`, `Trails`
-- and `Grounded`.
use mathlib.Core.Path.{◌≡◌, refl, sym, ap, ◌∙◌}
use mathlib.Core.Logic.{◌⊎◌, inl, inr}
use mathlib.Core.List.{List}
use Prim.Native.Nat.{ℕ, zero, suc, ◌<◌}
use native.Mathlib.Omega.{arith}
use lib.IntN.{ℤ, pos, ◌+ℤ◌}
use lib.Signed.{◌≤ℤ◌, ◌<ℤ◌}
use Rattle.whole.proofs.Lin.{lin, plus}
use Rattle.whole.specs.Sums.{total}
use Rattle.loops.specs.Arrows.{Arrows, Sound, Contradicts, tail, amount}
use Rattle.loops.specs.Model.{at, pred, round, back, trail, row_after, preds_after}
use Rattle.loops.specs.Forest.{Tight, Returns, Circle, Arrowed}
use Rattle.loops.proofs.Below.{below_next}
use Rattle.loops.proofs.Grounded.{back_below, grounded_no_circle}
use Rattle.loops.proofs.Round.{Stands}
use Rattle.loops.proofs.Kept.{round_each, round_grows, round_exact, round_into}
use Rattle.loops.proofs.Trails.{Leads, circle_loop, circle_exist}

-- preds p and p' are the same on the way that p' goes back from v
abbrev pub Same : Arrows → List ℕ → List ℕ → ℕ → ℕ → Type 0
Same Γ p p' k v = (j : ℕ) → j < k → pred p' (back Γ p' j v) ≡ pred p (back Γ p' j v)

module _ (Γ : Arrows) (p p' : List ℕ) where
  same_back : (k v : ℕ) → Same Γ p p' k v → back Γ p k v ≡ back Γ p' k v
  unfolding back
  same_back zero v h = refl
  same_back (suc k) v h = ap (λ u. tail Γ (pred p u)) (same_back k v (λ j q. h j (omega arith))) ∙ ap (λ e. tail Γ e) (sym (h k (omega arith)))

  -- then what comes again by p' comes again by p
  same_returns : (k v : ℕ) → Same Γ p p' k v → Returns Γ p' k v → Returns Γ p k v
  same_returns k v h r = record {
    some = r.some;
    again = same_back k v h ∙ r.again;
    arrows = λ j q. rw (same_back j v (λ i m. h i (omega arith)), ← (h j q)) (r.arrows j q);
  }

  same_next : (k v : ℕ) → Same Γ p p' k v → pred p' (back Γ p' k v) ≡ pred p (back Γ p' k v) → Same Γ p p' (suc k) v
  same_next k v = below_next (λ j. pred p' (back Γ p' j v) ≡ pred p (back Γ p' j v)) k

module _ (Γ : Arrows) (a : List ℤ) (p : List ℕ) (s : Sound Γ) (t : Tight Γ a p) where
  -- the amounts of k steps back from v, added to the row that entered
  abbrev reach : ℕ → ℕ → ℤ
  reach k v = at a (back Γ (preds_after Γ a p) k v) +ℤ total (amount Γ) (trail Γ (preds_after Γ a p) k v)

  -- k steps back from v all preds are old and the row rises by no more than the amounts; or it rises by less
  abbrev Along : ℕ → ℕ → Type 0
  Along k v = (Same Γ p (preds_after Γ a p) k v × (at a v ≤ℤ reach k v)) ⊎ (at a v <ℤ reach k v)

  -- At the register k steps back, kept or raised, the row that left is what its pred asks of the row that entered.
  along_next : (k v : ℕ) → back Γ (preds_after Γ a p) k v < Γ.registers → pred (preds_after Γ a p) (back Γ (preds_after Γ a p) k v) < Γ.count
      → Along k v → Along (suc k) v
  unfolding back trail
  along_next k v b h = go (round_each Γ a p s t u b)
    where
      u : ℕ
      u = back Γ (preds_after Γ a p) k v

      e : ℕ
      e = pred (preds_after Γ a p) u

      rest : ℤ
      rest = total (amount Γ) (trail Γ (preds_after Γ a p) k v)

      exact : at (row_after Γ a p) u ≡ (at a (tail Γ e) +ℤ amount Γ e)
      exact = round_exact Γ a p s t u b h

      grows : at a u ≤ℤ at (row_after Γ a p) u
      grows = round_grows Γ a p s t u b

      go : Stands Γ a p Γ.count (round Γ a p) u → Along k v → Along (suc k) v
      go (inl o) (inl r) = inl (same_next Γ p (preds_after Γ a p) k v r.0 o.same, let w = r.1 in omega (lin, plus (amount Γ e) rest, exact, grows))
      go (inr o) (inl r) = inr (let w = r.1 in let g = o.higher in omega (lin, plus (amount Γ e) rest, exact))
      go o (inr w) = inr (omega (lin, plus (amount Γ e) rest, exact, grows))

  along : (k v : ℕ) → v < Γ.registers → Arrowed Γ (preds_after Γ a p) k v → Along k v
  unfolding back trail
  along zero v b arrows = inl (λ j q. absurd (omega arith), omega lin)
  along (suc k) v b arrows =
      let before : Arrowed Γ (preds_after Γ a p) k v = λ j q. arrows j (omega arith) in
      along_next k v (back_below Γ (preds_after Γ a p) s k v b before) (arrows k (omega arith)) (along k v b before)

  -- Once around, the register is where it started. Were all preds old, it would have been on a circle before, and it was grounded.
  circle_above : (k v : ℕ) → v < Γ.registers → Returns Γ (preds_after Γ a p) k v → pos 0 <ℤ total (amount Γ) (trail Γ (preds_after Γ a p) k v)
  circle_above k v b r = go (along k v b r.arrows)
    where
      go : Along k v → pos 0 <ℤ total (amount Γ) (trail Γ (preds_after Γ a p) k v)
      go (inl o) = absurd (grounded_no_circle Γ p k v (t.forest.grounded v b) (same_returns Γ p (preds_after Γ a p) k v o.0 r))
      go (inr o) =
          let w : at a v <ℤ (at a v +ℤ total (amount Γ) (trail Γ (preds_after Γ a p) k v)) = rw r.again at o in
          omega lin

  circle_leads : (k v : ℕ) → v < Γ.registers → Arrowed Γ (preds_after Γ a p) k v → Leads Γ (preds_after Γ a p) k v
  circle_leads k v b arrows j q =
      let inside = back_below Γ (preds_after Γ a p) s j v b (λ i m. arrows i (omega arith)) in
      round_into Γ a p s t (back Γ (preds_after Γ a p) j v) inside (arrows j q)

  -- a circle after a round from a tight row is a contradicting loop
  pub circle_contradicts : (k v : ℕ) → v < Γ.registers → Circle Γ (preds_after Γ a p) k v → Contradicts Γ (trail Γ (preds_after Γ a p) k v)
  circle_contradicts k v b c = record {
    loop = circle_loop Γ (preds_after Γ a p) k v c (circle_leads k v b c.returns.arrows);
    exist = circle_exist Γ (preds_after Γ a p) k v c;
    above = circle_above k v b c.returns;
  }
