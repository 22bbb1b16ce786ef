-- Numbers in decimal, as bytes: the digits 48 to 57, the highest first and no needless 0, and before a negative number a minus, 45.
-- `proofs/Decimal.antt` shows that reading the digits gives the number again, and that no number but 0 begins with a 0.
use Rattle.std.specs.Prelude.{List, [], ◌∷◌, ◌++◌, cond, ℕ, zero, suc, ◌+◌, ◌*◌, ◌-◌, ◌/◌, ◌%◌, ℤ, pos, negsuc, ltb}

-- at most that many digits of a number
unfoldable pub digits : ℕ → ℕ → List ℕ
digits zero n = []
digits (suc most) n =
    let further = digits most (n / 10) ++ ((48 + n % 10) ∷ []) in
    cond (ltb n 10) ((48 + n) ∷ []) further

-- a number n has at most n + 1 digits
unfoldable pub decimal : ℕ → List ℕ
decimal n = digits (suc n) n

-- a whole number: a minus before the digits of a negative one
unfoldable pub whole : ℤ → List ℕ
whole (pos n) = decimal n
whole (negsuc n) = 45 ∷ decimal (suc n)

-- the number that digits are read as, behind digits that were read as v
abbrev pub reading : ℕ → List ℕ → ℕ
reading v [] = v
reading v (d ∷ l) = reading (10 * v + (d - 48)) l
