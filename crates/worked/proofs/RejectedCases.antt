-- What must be refused is refused: the table of `Rejected` meets the definitions. Each group of its rows is a statement of its own, shown by
-- computing its tests, so that a row that does not meet them is refused by its group's name. Rests on `RejectionTests` and, for the room of
-- an output and the number that is returned where there is enough, on the rows of `WorkedCases`.
use mathlib.Core.Path.{◌≡◌, refl}
use mathlib.Core.List.{List, [], ◌∷◌}
use lib.IntN.{pos, neg_ℤ}
use lib.ListN.{length}
use Rattle.whole.specs.Four.{word_at, signed_of, number_at, word_of, bytes_of, four}
use Rattle.paper.specs.declared.Rule.TheVariants.{Setup, Hold}
use Rattle.paper.specs.Chains.{All}
use Rattle.paper.specs.File.{marked, within, windowed, headed, counted, sized, ranged, register_ok, path_ok, network_of}
use Rattle.worked.specs.Cases.{file_of, network_a, case_a, case_a4, case_a7, case_d, case_f}
use Rattle.worked.specs.Rejected.{Rejection, Rejected, A, heads, counts, lengths, ranges, register_rows, path_rows, several, rooms, rules, loops, shows, schedules, answers, groups, joined, rejections}
use Rattle.worked.proofs.Tests.{every, all_both}
use Rattle.worked.proofs.RejectionTests.{rejected_test, short_test, by_that_loop, by_shorter, by_floor, by_ceiling, by_lower}
use Rattle.worked.proofs.WorkedCases.{row_a, row_a4, row_a7, row_d, row_f}

-- what holds of every row of each group holds of all groups in one list
all_joined : (l : List (List Rejection)) → All (All Rejected) l → All Rejected (joined l)
all_joined [] a = tt
all_joined (g ∷ l) a = all_both Rejected g (joined l) a.0 (all_joined l a.1)

-- ---- files

heads_refused : All Rejected heads
unfolding file_of network_of headed counted sized ranged register_ok path_ok marked within windowed number_at word_at signed_of four bytes_of word_of
heads_refused = (every Rejected rejected_test heads).shows refl

counts_refused : All Rejected counts
unfolding file_of network_of headed counted sized ranged register_ok path_ok marked within windowed number_at word_at signed_of four bytes_of word_of
counts_refused = (every Rejected rejected_test counts).shows refl

lengths_refused : All Rejected lengths
unfolding file_of network_of headed counted sized ranged register_ok path_ok marked within windowed number_at word_at signed_of four bytes_of word_of
lengths_refused = (every Rejected rejected_test lengths).shows refl

ranges_refused : All Rejected ranges
unfolding file_of network_of headed counted sized ranged register_ok path_ok marked within windowed number_at word_at signed_of four bytes_of word_of
ranges_refused = (every Rejected rejected_test ranges).shows refl

register_rows_refused : All Rejected register_rows
unfolding file_of network_of headed counted sized ranged register_ok path_ok marked within windowed number_at word_at signed_of four bytes_of word_of
register_rows_refused = (every Rejected rejected_test register_rows).shows refl

path_rows_refused : All Rejected path_rows
unfolding file_of network_of headed counted sized ranged register_ok path_ok marked within windowed number_at word_at signed_of four bytes_of word_of
path_rows_refused = (every Rejected rejected_test path_rows).shows refl

several_refused : All Rejected several
unfolding file_of network_of headed counted sized ranged register_ok path_ok marked within windowed number_at word_at signed_of four bytes_of word_of
several_refused = (every Rejected rejected_test several).shows refl

rooms_refused : All Rejected rooms
unfolding file_of network_of number_at word_at signed_of four bytes_of word_of
rooms_refused = (
  (short_test case_a row_a 61).shows refl,
  (
    (short_test case_a4 row_a4 61).shows refl,
    ((short_test case_a7 row_a7 61).shows refl, ((short_test case_d row_d 45).shows refl, ((short_test case_f row_f 29).shows refl, tt))),
  ),
)

-- ---- rules, loops and answers

rules_refused : All Rejected rules
unfolding file_of network_of number_at word_at signed_of four bytes_of word_of
rules_refused = (every Rejected rejected_test rules).shows refl

loops_refused : All Rejected loops
unfolding file_of network_of number_at word_at signed_of four bytes_of word_of
loops_refused = (every Rejected rejected_test loops).shows refl

shows_refused : All Rejected shows
unfolding file_of network_of number_at word_at signed_of four bytes_of word_of
shows_refused = (every Rejected rejected_test shows).shows refl

schedules_refused : All Rejected schedules
unfolding file_of network_of number_at word_at signed_of four bytes_of word_of
schedules_refused = (every Rejected rejected_test schedules).shows refl

-- A loop for 8, the answer for 10, and the ends of the range; then a lower latency of register 2, and of register 1.
answers_refused : All Rejected answers
unfolding file_of network_of number_at word_at signed_of four bytes_of word_of
answers_refused = (
  (by_that_loop (network_of (file_of A)) 8 (Setup 0 ∷ Hold 0 ∷ [])).shows refl,
  (
    (by_shorter (network_of (file_of A)) 10 9 (pos 0 ∷ pos 1 ∷ neg_ℤ (pos 1) ∷ [])).shows refl,
    (
      (by_floor (network_of (file_of (network_a 20 100 0))) 9).shows refl,
      (
        (by_ceiling (network_of (file_of (network_a 1 8 0))) 9).shows refl,
        (
          (by_lower (network_of (file_of A)) 9 (pos 0 ∷ pos 1 ∷ pos 0 ∷ []) (pos 0 ∷ pos 1 ∷ neg_ℤ (pos 1) ∷ []) 2).shows refl,
          ((by_lower (network_of (file_of (network_a 20 100 0))) 20 (pos 0 ∷ pos 0 ∷ pos 0 ∷ []) (pos 0 ∷ neg_ℤ (pos 2) ∷ neg_ℤ (pos 1) ∷ []) 1).shows refl, tt),
        ),
      ),
    ),
  ),
)

-- ---- the table

-- all that must be refused, under one statement
pub rejected : All Rejected rejections
unfolding rejections
rejected =
    all_joined groups (
      heads_refused,
      (
        counts_refused,
        (lengths_refused, (ranges_refused, (register_rows_refused, (path_rows_refused, (several_refused, (rooms_refused, (rules_refused, (loops_refused, (shows_refused, (schedules_refused, (answers_refused, tt))))))))))),
      ),
    )

-- and no row is left out
hundred_and_eleven : length rejections ≡ 111
unfolding rejections
hundred_and_eleven = refl
