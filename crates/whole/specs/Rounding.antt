-- The quotient of a whole number by a positive one, rounded up to a whole number, also where it is negative: 7 / 2 gives 4, -7 / 2
-- gives -3. `proofs/Rounding.antt` shows that it is the least q with z ≤ q · g, and the only such least one.
use Rattle.std.specs.Prelude.{◌≡◌, ℕ, suc, ◌+◌, ◌-◌, ◌/◌, ◌≤◌, ℤ, pos, negsuc, neg_ℤ}

unfoldable pub round_up : ℤ → ℕ → ℤ
round_up (pos n) g = pos ((n + (g - 1)) / g)
round_up (negsuc n) g = neg_ℤ (pos (suc n / g))

-- q is the quotient of natural numbers n and g, rounded up, and so at most n
pub record IsUp (n g q : ℕ) : Type 0 where
  pub is : q ≡ (n + (g - 1)) / g
  pub most : q ≤ n
