-- The paper's sample, byte for byte: the listing of network A, from its answer and whatever stands behind it. And two refusals. Rests on no other file.
use Rattle.std.specs.Prelude.{Ok, Err}
use mathlib.Core.Path.{◌≡◌, refl}
use mathlib.Core.List.{List, [], ◌∷◌, ◌++◌}
use Prim.Native.Nat.{ℕ}
use lib.IntN.{ℤ, pos, negsuc}
use Rattle.whole.specs.Four.{number_at, word_at, signed_of, word_of, bytes_of, four}
use Rattle.paper.specs.declared.Fault.TheVariants as fault
use Rattle.paper.specs.declared.Refusal.TheVariants as refusal
use Rattle.paper.specs.declared.Unanswered.TheVariants as unanswered
use Rattle.paper.specs.declared.Rule.{Rule}
use Rattle.paper.specs.Output.{skew_record, latency_record, entry_record}
use Rattle.text.specs.Decimal.{digits, decimal, whole}
use Rattle.listing.specs.Text.{text_of, answered_text, latency_lines, entry_lines, kind_word}

-- period 9, latencies 0, 1 and -1, and the loop of setup 0 and hold 0: 52 bytes
unfoldable pub answer_of_a : List ℕ
answer_of_a =
    skew_record 9 3 2
    ++ latency_record (pos 0) ++ latency_record (pos 1) ++ latency_record (negsuc 0)
    ++ entry_record (Rule.Setup 0) ++ entry_record (Rule.Hold 0)

-- RULES 11.2: "For A `skewlist` prints:"
--
-- period 9
-- latency 0 0
-- latency 1 1
-- latency 2 -1
-- loop 8
-- setup 0
-- hold 0
unfoldable pub lines_of_a : List ℕ
lines_of_a =
    112 ∷ 101 ∷ 114 ∷ 105 ∷ 111 ∷ 100 ∷ 32 ∷ 57 ∷ 10
    ∷ 108 ∷ 97 ∷ 116 ∷ 101 ∷ 110 ∷ 99 ∷ 121 ∷ 32 ∷ 48 ∷ 32 ∷ 48 ∷ 10
    ∷ 108 ∷ 97 ∷ 116 ∷ 101 ∷ 110 ∷ 99 ∷ 121 ∷ 32 ∷ 49 ∷ 32 ∷ 49 ∷ 10
    ∷ 108 ∷ 97 ∷ 116 ∷ 101 ∷ 110 ∷ 99 ∷ 121 ∷ 32 ∷ 50 ∷ 32 ∷ 45 ∷ 49 ∷ 10
    ∷ 108 ∷ 111 ∷ 111 ∷ 112 ∷ 32 ∷ 56 ∷ 10
    ∷ 115 ∷ 101 ∷ 116 ∷ 117 ∷ 112 ∷ 32 ∷ 48 ∷ 10
    ∷ 104 ∷ 111 ∷ 108 ∷ 100 ∷ 32 ∷ 48 ∷ 10 ∷ []

-- the listing of these bytes
pub listing_of_a : (ceiling : ℤ) (rest : List ℕ) → text_of ceiling (Ok tt) (answer_of_a ++ rest) ≡ lines_of_a
unfolding answer_of_a lines_of_a answered_text latency_lines entry_lines kind_word digits decimal whole number_at word_at signed_of word_of bytes_of four
listing_of_a ceiling rest = refl

-- refused 6 1027
pub listing_of_a_path : (ceiling : ℤ) (answer : List ℕ) → text_of ceiling (Err (unanswered.Refused (refusal.File (fault.Path 1027)))) answer
    ≡ 114 ∷ 101 ∷ 102 ∷ 117 ∷ 115 ∷ 101 ∷ 100 ∷ 32 ∷ 54 ∷ 32 ∷ 49 ∷ 48 ∷ 50 ∷ 55 ∷ 10 ∷ []
unfolding digits decimal
listing_of_a_path ceiling answer = refl

-- refused 8 0
-- loop 10000000
-- hold 0
pub listing_of_no_period : (rest : List ℕ) → text_of (pos 10000000) (Err unanswered.NoPeriod) (skew_record 0 0 1 ++ entry_record (Rule.Hold 0) ++ rest)
    ≡ 114 ∷ 101 ∷ 102 ∷ 117 ∷ 115 ∷ 101 ∷ 100 ∷ 32 ∷ 56 ∷ 32 ∷ 48 ∷ 10
    ∷ 108 ∷ 111 ∷ 111 ∷ 112 ∷ 32 ∷ 49 ∷ 48 ∷ 48 ∷ 48 ∷ 48 ∷ 48 ∷ 48 ∷ 48 ∷ 10
    ∷ 104 ∷ 111 ∷ 108 ∷ 100 ∷ 32 ∷ 48 ∷ 10 ∷ []
unfolding entry_lines kind_word digits decimal whole number_at word_at signed_of word_of bytes_of four
listing_of_no_period rest = refl
