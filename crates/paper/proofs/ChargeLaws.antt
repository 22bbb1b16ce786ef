-- What the hold rule of a path is charged of its uncertainty: nothing on a self path, all of it on any other. Rests on the definition alone.
use mathlib.Core.Path.{◌≡◌, refl}
use mathlib.Core.Bool.{Bool, true, false, cond}
use Prim.Native.Nat.{ℕ, ◌<◌}
use lib.IntN.{ℤ, pos}
use lib.Signed.{◌≤ℤ◌}
use lib.Dec.{eqb}
use borrow.Author.Tests.{eq-eqb, ne_eqb}
use Rattle.whole.specs.Between.{Between}
use Rattle.whole.proofs.Lin.{lin}
use Rattle.paper.specs.Network.{Network}
use Rattle.paper.specs.Legal.{Legal}
use Rattle.paper.specs.Limits.{most_uncertainty}
use Rattle.paper.specs.Rules.{charge, charged}

-- by the two ends
pub self_uncharged : (from to : ℕ) (u : ℤ) → from ≡ to → charge from to u ≡ pos 0
self_uncharged from to u e = rw (eq-eqb from to e) refl

pub others_charged : (from to : ℕ) (u : ℤ) → (from ≡ to → ⊥) → charge from to u ≡ u
others_charged from to u e = rw (ne_eqb from to e) refl

module _ (N : Network) (p : ℕ) where
  -- RULES 16.2: "The hold rule of a self path is charged nothing of u."
  pub self_path_uncharged : N.from p ≡ N.to p → charged N p ≡ pos 0
  self_path_uncharged = self_uncharged (N.from p) (N.to p) (N.uncertainty p)

  -- RULES 16.2: "The hold rule of every other path is charged u, once."
  pub other_path_charged : (N.from p ≡ N.to p → ⊥) → charged N p ≡ N.uncertainty p
  other_path_charged = others_charged (N.from p) (N.to p) (N.uncertainty p)

-- where u is 0 it is all one
pub nothing_charged : (from to : ℕ) (u : ℤ) → u ≡ pos 0 → charge from to u ≡ u
nothing_charged from to u e = either (eqb from to)
  where
    either : (b : Bool) → cond b (pos 0) u ≡ u
    either true = rw e refl
    either false = refl

-- Either way it lies where 0 and u lie.
pub charge_between : {a b u : ℤ} (from to : ℕ) → a ≤ℤ pos 0 → pos 0 ≤ℤ b → Between a b u → Between a b (charge from to u)
charge_between {a} {b} {u} from to l m h = either (eqb from to)
  where
    either : (t : Bool) → Between a b (cond t (pos 0) u)
    either true = record { from = l; to = m }
    either false = h

-- so it is at most u
pub charge_most : {u : ℤ} (from to : ℕ) → pos 0 ≤ℤ u → charge from to u ≤ℤ u
charge_most {u} from to h = (charge_between {a = pos 0} {b = u} from to (omega lin) h (record { from = h; to = omega lin })).to

-- and within the bounds of u in a network whose fields lie in their ranges
pub charged_between : {N : Network} → Legal N → (p : ℕ) → p < N.paths → Between (pos 0) (pos most_uncertainty) (charged N p)
charged_between {N} l p h = charge_between (N.from p) (N.to p) (omega lin) (omega lin) (l.uncertainty p h)
