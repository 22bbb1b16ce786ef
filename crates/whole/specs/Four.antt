-- RULES 5.1: "A number takes four bytes, in two's complement, with the low byte first."
use Rattle.std.specs.Prelude.{List, [], ◌∷◌, cond, ℕ, suc, ◌+◌, ◌-◌, ◌*◌, ◌/◌, ◌%◌, ℤ, pos, negsuc, ◌-ℤ◌, get_or, ltb}

-- the four bytes from place i on as a number without sign, low byte first
unfoldable pub word_at : List ℕ → ℕ → ℕ
word_at s i = get_or s i 0 + 256 * get_or s (i + 1) 0 + 65536 * get_or s (i + 2) 0 + 16777216 * get_or s (i + 3) 0

-- two's complement: from 2 ^ 31 on, a number without sign stands for itself less 2 ^ 32
unfoldable pub signed_of : ℕ → ℤ
signed_of u = cond (ltb u 2147483648) (pos u) (pos u -ℤ pos 4294967296)

-- the number that stands at place i
unfoldable pub number_at : List ℕ → ℕ → ℤ
number_at s i = signed_of (word_at s i)

-- and back: the number without sign that stands for z
unfoldable pub word_of : ℤ → ℕ
word_of (pos n) = n
word_of (negsuc n) = 4294967296 - suc n

-- its four bytes, low byte first
unfoldable pub bytes_of : ℕ → List ℕ
bytes_of u = u % 256 ∷ u / 256 % 256 ∷ u / 65536 % 256 ∷ u / 16777216 % 256 ∷ []

-- the four bytes of z
unfoldable pub four : ℤ → List ℕ
four z = bytes_of (word_of z)
