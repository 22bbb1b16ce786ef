-- A record written piece by piece, two marks and then its numbers, is one run of stores. Rests on `four-length` and `stores_then` of `whole`. The
-- numbers that are written are those of the contract, read back from machine words.
use mathlib.Core.Path.{◌≡◌, refl, ◌∙◌}
use mathlib.Core.List.{List, ◌++◌}
use Prim.Native.Nat.{ℕ, suc, ◌+◌}
use native.Mathlib.Omega.{arith}
use native.Mathlib.Numerals.{add-one, add-two}
use lib.IntN.{ℤ}
use lib.ListN.{length, set, length-append, length-set}
use lib.Seq.{sets}
use Rattle.whole.specs.Four.{four}
use Rattle.whole.proofs.Four.{four-length}
use Rattle.whole.proofs.Stores.{stores_then}
use Rattle.paper.specs.Output.{latency_record}
use Rattle.answer.specs.Records.{skew_bytes, entry_bytes}

-- two marks leave the output as long as it was
pub marks_long : (l : List ℕ) (i j a b : ℕ) → length (set (set l i a) j b) ≡ length l
marks_long l i j a b = simp length-set

-- the marks `LT` and a number are a latency's record
pub latency_written : (l after : List ℕ) (at : ℕ) (x x' : ℤ)
    → after ≡ sets (set (set l at 76) (at + 1) 84) (at + 2) (four x') → x' ≡ x
    → after ≡ sets l at (latency_record x)
latency_written l after at x x' h e = h ∙ rw (e, add-one, add-two) refl

-- the marks `ED` and two numbers are an entry's record
pub entry_written : (l mid after : List ℕ) (at : ℕ) (x x' y y' : ℤ)
    → mid ≡ sets (set (set l at 69) (at + 1) 68) (at + 2) (four x') → x' ≡ x
    → after ≡ sets mid (at + 6) (four y') → y' ≡ y
    → after ≡ sets l at (entry_bytes x y)
entry_written l mid after at x x' y y' g e h f =
    h
    ∙ rw (g, e, f, add-one, add-two)
    (stores_then (four x) (four y) (set (set l at 69) (suc at) 68) (suc (suc at)) (at + 6) (omega (arith, four-length x)))

-- the marks `SK` and three numbers are the first record
pub skew_written : (l mid far after : List ℕ) (x x' y y' z z' : ℤ)
    → mid ≡ sets (set (set l 0 83) 1 75) 2 (four x') → x' ≡ x
    → far ≡ sets mid 6 (four y') → y' ≡ y
    → after ≡ sets far 10 (four z') → z' ≡ z
    → after ≡ sets l 0 (skew_bytes x y z)
skew_written l mid far after x x' y y' z z' g e h f k d =
    let marked = set (set l 0 83) 1 75 in
    let two : far ≡ sets marked 2 (four x ++ four y) =
    h ∙ rw (g, e, f) (stores_then (four x) (four y) marked 2 6 (omega (arith, four-length x))) in
    k
    ∙ rw (two, d)
    (stores_then (four x ++ four y) (four z) marked 2 10 (omega (arith, length-append (four x) (four y), four-length x, four-length y)))
