-- Counting the setup rules of a list, entry by entry. Rests on `LoopLaws` of `paper`.
use mathlib.Core.Path.{◌≡◌, refl}
use mathlib.Core.Bool.{Bool, cond}
use mathlib.Core.List.{List, [], ◌∷◌, ◌++◌, map}
use Prim.Native.Nat.{ℕ, ◌+◌, ◌<◌}
use native.Mathlib.Omega.{arith}
use lib.ListN.{length, get_or, take}
use Rattle.paper.specs.declared.Rule.{Rule}
use Rattle.paper.specs.declared.Rule.TheVariants.{Setup, Hold, Low, High}
use Rattle.paper.specs.Rules.{is_setup}
use Rattle.paper.specs.Schedule.{setups}
use Rattle.loops.proofs.Taken.{map_more}
use Rattle.loops.specs.Names.{named}
use Rattle.needs.specs.Raising.{setups_at}

-- the setup rules of two lists, one behind the other
setups-append : (l m : List Rule) → setups (l ++ m) ≡ setups l + setups m
setups-append [] m = omega arith
setups-append (Setup p ∷ l) m = omega (arith, setups-append l m)
setups-append (Hold p ∷ l) m = setups-append l m
setups-append (Low i ∷ l) m = setups-append l m
setups-append (High i ∷ l) m = setups-append l m

-- one rule alone
alone : (r : Rule) → setups (r ∷ []) ≡ cond (is_setup r) 1 0
alone (Setup p) = refl
alone (Hold p) = refl
alone (Low i) = refl
alone (High i) = refl

-- one entry more counts where its rule is a setup rule
pub counted_more : (rules : List Rule) (ring : List ℕ) (j : ℕ) → j < length ring
    → setups_at rules (take (j + 1) ring) ≡ setups_at rules (take j ring) + cond (is_setup (named rules (get_or ring j 0))) 1 0
counted_more rules ring j h =
    rw (map_more (named rules) ring j h, setups-append (map (named rules) (take j ring)) (named rules (get_or ring j 0) ∷ []), alone (named rules (get_or ring j 0))) refl

-- so it counts by what is told of the rule that was read
pub counted_next : (rules : List Rule) (ring : List ℕ) (j count next : ℕ) (r : Rule) (told : Bool) → j < length ring → count ≡ setups_at rules (take j ring)
    → r ≡ named rules (get_or ring j 0) → told ≡ is_setup r → next ≡ count + cond told 1 0 → next ≡ setups_at rules (take (j + 1) ring)
counted_next rules ring j count next r told h s is t n = rw (counted_more rules ring j h, n, t, is, s) refl
