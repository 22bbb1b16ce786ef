-- A walk back along the preds: k steps from s it stands at v, and whatever the preds give v, they give s that and the sum on the way. Rests on
-- `Gives`, and on `Rooted` of `loops`.
use mathlib.Core.Path.{◌≡◌, refl, ap}
use mathlib.Core.List.{List}
use Prim.Native.Nat.{ℕ, ◌+◌, ◌*◌, ◌≤◌, ◌<◌}
use native.Mathlib.Omega.{arith}
use native.Mathlib.Numerals.{add-one}
use lib.IntN.{ℤ, pos, neg_ℤ, ◌+ℤ◌}
use lib.Signed.{◌≤ℤ◌}
use mir.Syntax.{w32}
use mir.Val.{SFits}
use Rattle.whole.proofs.Lin.{lin, plus, negs}
use Rattle.loops.specs.declared.Arrow.{Arrow}
use Rattle.loops.specs.Arrows.{Arrows, arrow_at, tail, amount}
use Rattle.loops.specs.Model.{pred, back}
use Rattle.loops.specs.Forest.{Grounded, Arrowed}
use Rattle.loops.proofs.Below.{below_next}
use Rattle.loops.proofs.Rooted.{long_not_grounded}
use Rattle.loops.specs.Shape.{Shape, InRow}
use Rattle.settling.specs.Settling.{Gives}
use Rattle.settling.proofs.Gives.{gives_is, gives_root, gives_next}

-- v is k steps back from s over arrows, and the sum on the way lies within k of the greatest amounts
pub record Walking (Γ : Arrows) (preds : List ℕ) (s v : ℕ) (sum : ℤ) (k : ℕ) : Type 0 where
  pub below : v < Γ.registers
  pub onward : (z : ℤ) → Gives Γ preds v z → Gives Γ preds s (z +ℤ sum)
  pub here : back Γ preds k s ≡ v
  pub arrows : Arrowed Γ preds k s
  pub sum_from : neg_ℤ (pos (k * 16777216)) ≤ℤ sum
  pub sum_to : sum ≤ℤ pos (k * 16777216)

module _ (Γ : Arrows) (preds : List ℕ) (shape : Shape Γ) where
  -- no step yet
  pub walking_none : (s : ℕ) → s < Γ.registers → Walking Γ preds s s (pos 0) 0
  unfolding back
  walking_none s b =
      record {
        below = b;
        onward = λ z g. gives_is Γ preds (omega lin) g;
        here = refl;
        arrows = λ j h. absurd (omega arith);
        sum_from = omega lin;
        sum_to = omega lin;
      }

  -- one step more, over the pred
  walking_more : (s v : ℕ) (sum : ℤ) (k : ℕ) → k ≤ Γ.registers → pred preds v < Γ.count → Walking Γ preds s v sum k
      → Walking Γ preds s (tail Γ (pred preds v)) (sum +ℤ amount Γ (pred preds v)) (k + 1)
  unfolding back
  walking_more s v sum k q h w =
      let m = shape.modest (pred preds v) h in
      let from = w.sum_from in
      let to = w.sum_to in
      record {
        below = shape.sound.leaves (pred preds v) h;
        onward = λ z g. gives_is Γ preds (omega (lin, plus z (amount Γ (pred preds v)), plus sum (amount Γ (pred preds v)))) (w.onward _ (gives_next Γ preds v z h g));
        here = rw (add-one k) (ap (λ u. tail Γ (pred preds u)) w.here);
        arrows = rw (add-one k) (below_next (λ j. pred preds (back Γ preds j s) < Γ.count) k w.arrows (rw w.here h));
        sum_from = omega (lin, negs (pos (k * 16777216)), negs (pos ((k + 1) * 16777216)));
        sum_to = omega lin;
      }

  -- where the register at which it stands has no pred, the sum is what the preds give s
  pub walking_root : (s v : ℕ) (sum : ℤ) (k : ℕ) → Γ.count ≤ pred preds v → Walking Γ preds s v sum k → Gives Γ preds s sum
  walking_root s v sum k root w = gives_is Γ preds (omega lin) (w.onward (pos 0) (gives_root Γ preds v root))

  -- the pred as the code reads it: its amount can be added, and the walk goes on from its tail
  module _ (s v : ℕ) (sum : ℤ) (k : ℕ) (arrow : Arrow) (some : pred preds v < Γ.count) (is : arrow ≡ arrow_at Γ.list (pred preds v)) (more : k ≤ Γ.registers)
      (w : Walking Γ preds s v sum k) where
    -- the walk is one step longer
    pub walking_on : (t : ℕ) (x : ℤ) → t ≡ arrow.tail → x ≡ sum +ℤ arrow.amount → Walking Γ preds s t x (k + 1)
    walking_on t x at_tail added = rw (at_tail, added, is) (walking_more s v sum k more some w)

    -- where it has taken as many steps as there are registers, s is not grounded
    pub walking_long : s < Γ.registers → Γ.registers ≤ k → Grounded Γ preds s → ⊥
    walking_long b q g =
        let on = walking_more s v sum k more some w in
        long_not_grounded Γ preds shape.sound s b (λ j h. on.arrows j (omega arith)) g

-- a time that a row can hold fits 32 bits
pub row_fits : (z : ℤ) → InRow z → SFits w32 z
row_fits z h = omega lin
