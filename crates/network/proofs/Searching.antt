-- What a search for a faulty record finds, from what `find` says of a range.
use mathlib.Core.Path.{◌≡◌}
use mathlib.Core.Bool.{Bool, true, false}
use Prim.Native.Nat.{ℕ, ◌≤◌, ◌<◌}
use native.Mathlib.Omega.{arith}
use Rattle.std.specs.Prelude.{Option, Some, None}
use Rattle.std.specs.Option.{MatchOption}
use Rattle.network.specs.Search.{Sought}

-- the first number from 0 to n of which the test fails
pub sought : (ok : ℕ → Bool) (n : ℕ) (r : Option ℕ)
    → MatchOption r ((k : ℕ) → 0 ≤ k → k < n → ok k ≡ true) (λ i. (0 ≤ i) × (i < n) × (ok i ≡ false) × ((k : ℕ) → 0 ≤ k → k < i → ok k ≡ true))
    → Sought ok n r
sought ok n None h = λ p l. h p (omega arith) l
sought ok n (Some p) h = (h.1, h.2, λ q l. h.3 q (omega arith) l)
