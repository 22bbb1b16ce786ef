-- The loop among the arrows that are noted. The walk back from a register that is not grounded ends on a circle; each pred leads into its
-- register, so the circle is a loop. It is handed out only where its amounts add up to more than 0. Rests on `Search` and `Trails` of `loops`.
use mathlib.Core.Path.{◌≡◌}
use mathlib.Core.Bool.{false}
use mathlib.Core.List.{List}
use Prim.Native.Nat.{ℕ, ◌-◌, ◌<◌}
use native.Mathlib.Omega.{arith}
use lib.IntN.{pos}
use lib.Signed.{◌<ℤ◌}
use Rattle.paper.specs.Chains.{All}
use Rattle.loops.specs.Arrows.{Arrows}
use Rattle.loops.specs.Model.{rooted, back, circle_from}
use Rattle.loops.specs.Shape.{Shape}
use Rattle.loops.proofs.Grounded.{back_below}
use Rattle.loops.proofs.Search.{circle_found}
use Rattle.loops.proofs.Trails.{Leads, circle_exist, circle_loop, circle_listed}
use Rattle.circles.specs.Circle.{ShowsCircle}
use Rattle.needs.specs.Raising.{Places, sum_at}
use Rattle.guess.specs.Guessing.{Chosen, Guessed}

-- there is a last register
pub last_below : (Γ : Arrows) → Shape Γ → Γ.registers - 1 < Γ.registers
last_below Γ shape = let some = shape.sound.some in omega arith

-- preds among which the walk back from s does not come to a register without one, and the circle on which it ends, as the ring
module _ (Γ : Arrows) (shape : Shape Γ) (preds : List ℕ) (s : ℕ) (below : s < Γ.registers) (stray : rooted Γ preds Γ.registers s ≡ false)
    (ring : List ℕ) (found : ShowsCircle Γ preds s ring) where
  exist : All (λ e. e < Γ.count) ring
  exist = let f = circle_found Γ preds shape.sound s below stray in rw found.shows (circle_exist Γ preds _ _ f.circle)

  -- its arrows are places whose amounts can be added up
  pub guess_places : Places Γ.count ring
  guess_places = let short = found.short in let few = shape.few in record { few = omega arith; within = exist }

  -- where they add up to more than 0, the circle is a loop that contradicts itself
  pub guess_shows : Chosen Γ preds → pos 0 <ℤ sum_at Γ.list ring → Guessed Γ ring
  guess_shows c over =
      let f = circle_found Γ preds shape.sound s below stray in
      let k = (circle_from Γ preds s).steps in
      let v = (circle_from Γ preds s).start in
      let arrows = f.circle.returns.arrows in
      let leads : Leads Γ preds k v =
      λ j q. c.into (back Γ preds j v) (back_below Γ preds shape.sound j v f.below (λ i r. arrows i (omega arith))) (arrows j q) in
      record {
        short = found.short;
        contradicts = λ h. record { loop = rw found.shows (circle_loop Γ preds k v f.circle leads); exist = exist; above = over };
        listed = λ h. rw found.shows (circle_listed Γ preds k v f.circle);
      }
