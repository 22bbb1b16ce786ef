-- A kind and a number name a rule, and a rule has one kind and one number: each gives back the other. Rests on the definitions alone.
use mathlib.Core.Path.{◌≡◌, refl}
use mathlib.Core.Bool.{Bool, true, false, cond}
use Prim.Native.Nat.{ℕ, zero, suc, ◌<◌}
use native.Mathlib.Omega.{arith}
use lib.Dec.{eqb}
use Rattle.paper.specs.declared.Rule.{Rule}
use Rattle.paper.specs.declared.Rule.TheVariants.{Setup, Hold, Low, High}
use Rattle.paper.specs.Rules.{kind, number}
use Rattle.loops.specs.Names.{rule_of}

pub kind_of : (k i : ℕ) → k < 4 → kind (rule_of k i) ≡ k
unfolding rule_of
kind_of zero i h = refl
kind_of (suc zero) i h = refl
kind_of (suc (suc zero)) i h = refl
kind_of (suc (suc (suc zero))) i h = refl
kind_of (suc (suc (suc (suc k)))) i h = absurd (omega arith)

-- whatever the tests on the kind say, the number is the same
same : (a b c : Bool) (i : ℕ) → number (cond a (Setup i) (cond b (Hold i) (cond c (Low i) (High i)))) ≡ i
same true b c i = refl
same false true c i = refl
same false false true i = refl
same false false false i = refl

pub number_of : (k i : ℕ) → number (rule_of k i) ≡ i
unfolding rule_of
number_of k i = same (eqb k 0) (eqb k 1) (eqb k 2) i

pub rule_of_lem : (r : Rule) → rule_of (kind r) (number r) ≡ r
unfolding rule_of
rule_of_lem (Setup p) = refl
rule_of_lem (Hold p) = refl
rule_of_lem (Low i) = refl
rule_of_lem (High i) = refl
