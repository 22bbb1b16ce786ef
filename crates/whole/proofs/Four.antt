-- Four-byte numbers: the library's bytes are the paper's; what is written is read back, every byte outside keeps its value, and each number
-- has one writing only. Rests on `Stores.antt`.
use mathlib.Core.Path.{◌≡◌, refl, sym, ap, ◌∙◌}
use mathlib.Core.Logic.{◌⊎◌, inl, inr}
use mathlib.Core.List.{List, [], ◌∷◌, ◌++◌}
use Prim.Native.Nat.{ℕ, ◌+◌, ◌*◌, ◌/◌, ◌%◌, ◌≤◌, ◌<◌}
use native.Mathlib.Omega.{arith}
use lib.IntN.{ℤ, pos, negsuc}
use lib.ListN.{length, get_or}
use lib.Seq.{sets, get_or-append-add}
use native.Mathlib.Nat.{add_assoc, add-zero}
use mir.Syntax.{w32}
use mir.Val.{SFits}
use mir.Facts.{to_z-of_z}
use Rattle.std.proofs.Common.{rules}
use Rattle.std.specs.Int.{cast_unsigned, cast_signed, to_le_bytes, from_le_bytes}
use Rattle.std.proofs.lemmas.Int.{ints, of_z-to_z}
use Rattle.std.proofs.lemmas.Nat.{from_le_bytes-to_le_bytes_4}
use Rattle.whole.specs.Four.{word_at, signed_of, number_at, word_of, bytes_of, four}
use Rattle.whole.proofs.Stores.{stores_before, stores_after, stores_at}

-- ---- the library's names for the definitions

-- a number of 32 bits as one without sign
pub unsigned_is : (z : ℤ) → cast_unsigned w32 z ≡ word_of z
unfolding word_of
unsigned_is (pos n) = refl
unsigned_is (negsuc n) = refl

-- a number without sign, read as a signed one
pub signed_is : (u : ℕ) → u < 4294967296 → cast_signed w32 u ≡ signed_of u
unfolding signed_of
signed_is u h = grind (arith, ints)

-- its four bytes, low byte first
pub bytes_are : (u : ℕ) → to_le_bytes w32 u ≡ bytes_of u
unfolding bytes_of
bytes_are u = refl

-- four bytes, added up
pub word_is : (s : List ℕ) (i : ℕ) → from_le_bytes w32 (get_or s i 0 ∷ get_or s (i + 1) 0 ∷ get_or s (i + 2) 0 ∷ get_or s (i + 3) 0 ∷ []) ≡ word_at s i
unfolding word_at
word_is s i = omega arith

-- ---- there and back

-- the number without sign that stands for a number of 32 bits is below 2 ^ 32
pub word_small : (z : ℤ) → SFits w32 z → word_of z < 4294967296
unfolding word_of
word_small (pos n) h = omega (arith, h.sfits)
word_small (negsuc n) h = omega (arith, h.sfits)

-- and the number comes back from it
pub signed_word : (z : ℤ) → SFits w32 z → signed_of (word_of z) ≡ z
signed_word z h = sym (signed_is (word_of z) (word_small z h)) ∙ rw (sym (unsigned_is z)) (to_z-of_z h)

-- a number without sign comes back from the number that it stands for
word_signed : (u : ℕ) → u < 4294967296 → word_of (signed_of u) ≡ u
word_signed u h = sym (unsigned_is (signed_of u)) ∙ rw (sym (signed_is u h)) (of_z-to_z w32 u h)

-- the four bytes of u, added up, are u again
word_back : (s : List ℕ) (i u : ℕ) → i + 4 ≤ length s → u < 4294967296 → word_at (sets s i (bytes_of u)) i ≡ u
unfolding word_at bytes_of
word_back s i u room h =
    let e0 : get_or (sets s i (bytes_of u)) i 0 ≡ u % 256 = rw add-zero at (stores_at 0 (bytes_of u) s i 0 room (omega arith)) in
    let e1 : get_or (sets s i (bytes_of u)) (i + 1) 0 ≡ u / 256 % 256 = stores_at 0 (bytes_of u) s i 1 room (omega arith) in
    let e2 : get_or (sets s i (bytes_of u)) (i + 2) 0 ≡ u / 65536 % 256 = stores_at 0 (bytes_of u) s i 2 room (omega arith) in
    let e3 : get_or (sets s i (bytes_of u)) (i + 3) 0 ≡ u / 16777216 % 256 = stores_at 0 (bytes_of u) s i 3 room (omega arith) in
    omega (arith, from_le_bytes-to_le_bytes_4 u h)

-- what is written is read back as the number that was written
pub number_back : (s : List ℕ) (i : ℕ) (z : ℤ) → i + 4 ≤ length s → SFits w32 z → number_at (sets s i (four z)) i ≡ z
unfolding number_at four
number_back s i z room h = rw (word_back s i (word_of z) room (word_small z h)) (signed_word z h)

-- a number is read past what stands before it
pub number_past : (a s : List ℕ) (k : ℕ) → number_at (a ++ s) (length a + k) ≡ number_at s k
unfolding number_at word_at
number_past a s k = simp (add_assoc, get_or-append-add)

-- and a number that was written is read at the front of what follows
pub number_first : (z : ℤ) (rest : List ℕ) → SFits w32 z → number_at (four z ++ rest) 0 ≡ z
unfolding four bytes_of
number_first z rest h = number_back (four z ++ rest) 0 z (omega arith) h

-- a number takes four bytes
pub four-length : (z : ℤ) → length (four z) ≡ 4
unfolding four bytes_of
four-length z = refl

-- every byte outside the four keeps its value
pub outside_kept : (s : List ℕ) (i j : ℕ) (z : ℤ) → (j < i) ⊎ (i + 4 ≤ j) → get_or (sets s i (four z)) j 0 ≡ get_or s j 0
unfolding four bytes_of
outside_kept s i j z (inl h) = stores_before 0 (four z) s i j h
outside_kept s i j z (inr h) = stores_after 0 (four z) s i j h

-- a number of 32 bits has one writing: four bytes that stand for z are the four bytes of z
pub one_writing : (a b c d : ℕ) (z : ℤ) → a < 256 → b < 256 → c < 256 → d < 256
    → signed_of (a + 256 * b + 65536 * c + 16777216 * d) ≡ z → a ∷ b ∷ c ∷ d ∷ [] ≡ four z
unfolding four bytes_of
one_writing a b c d z ha hb hc hd e =
    let u : word_of z ≡ a + 256 * b + 65536 * c + 16777216 * d = ap word_of (sym e) ∙ word_signed _ (omega arith) in
    search (rules, u)
