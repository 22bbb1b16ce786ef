-- By how much a whole number lies above 0, and by how much below: one of the two is 0, and the number is their difference.
use Rattle.std.specs.Prelude.{ℕ, suc, ℤ, pos, negsuc}

abbrev pub above : ℤ → ℕ
above (pos n) = n
above (negsuc n) = 0

abbrev pub below : ℤ → ℕ
below (pos n) = 0
below (negsuc n) = suc n
