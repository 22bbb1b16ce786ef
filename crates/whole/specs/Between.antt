-- A whole number in its range, both ends included. Every range of the module is one of these.
use Rattle.std.specs.Prelude.{ℕ, ℤ, negsuc, ◌≤ℤ◌}

pub record Between (low high z : ℤ) : Type 0 where
  pub from : low ≤ℤ z
  pub to : z ≤ℤ high

-- 2 ^ 24: nothing that a rule or a schedule is made of lies further from 0, so sums of a few such numbers fit 32 bits
abbrev pub far : ℕ
far = 16777216

-- -2 ^ 24
abbrev pub far_below : ℤ
far_below = negsuc 16777215
