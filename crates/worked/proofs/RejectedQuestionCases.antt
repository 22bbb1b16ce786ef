-- The questions that must be refused are refused, and those beside them are not: the table of `RejectedQuestions` meets the definitions. Each
-- group of rows is a statement of its own, shown by computing its tests. Rests on `QuestionTests`, and for network A's file on its row in
-- `WorkedCases`.
use mathlib.Core.Path.{◌≡◌, refl}
use mathlib.Core.List.{◌++◌}
use lib.ListN.{length}
use Rattle.whole.specs.Four.{word_at, signed_of, number_at, word_of, bytes_of, four}
use Rattle.paper.specs.Chains.{All}
use Rattle.paper.specs.File.{within, network_of}
use Rattle.worked.specs.Cases.{file_of}
use Rattle.worked.specs.Rejected.{file_a}
use Rattle.worked.specs.RejectedQuestions.{QuestionRejection, bound, taken, QuestionRejected, periods, latencies, kinds, numbers, unread, unbounded, question_rejections}
use Rattle.worked.proofs.Tests.{Test, via, pair, every, all_both}
use Rattle.worked.proofs.QuestionTests.{in_range, not_in_range, given_10, given_0}
use Rattle.worked.proofs.WorkedCases.{row_a}

-- ---- a row

-- a row, told nothing but its questions
abbrev row_test : (r : QuestionRejection) → Test (QuestionRejected r)
row_test (bound outside inside) =
    pair (via (given_10 file_a outside row_a.accepted) (not_in_range (network_of file_a) outside))
    (via (given_0 file_a inside row_a.accepted) (in_range (network_of file_a) inside))
row_test (taken question) = via (given_0 file_a question row_a.accepted) (in_range (network_of file_a) question)

periods_refused : All QuestionRejected periods
unfolding file_of network_of within number_at word_at signed_of four bytes_of word_of
periods_refused = (every QuestionRejected row_test periods).shows refl

latencies_refused : All QuestionRejected latencies
unfolding file_of network_of within number_at word_at signed_of four bytes_of word_of
latencies_refused = (every QuestionRejected row_test latencies).shows refl

kinds_refused : All QuestionRejected kinds
unfolding file_of network_of within number_at word_at signed_of four bytes_of word_of
kinds_refused = (every QuestionRejected row_test kinds).shows refl

numbers_refused : All QuestionRejected numbers
unfolding file_of network_of within number_at word_at signed_of four bytes_of word_of
numbers_refused = (every QuestionRejected row_test numbers).shows refl

unread_refused : All QuestionRejected unread
unfolding file_of network_of within number_at word_at signed_of four bytes_of word_of
unread_refused = (every QuestionRejected row_test unread).shows refl

unbounded_taken : All QuestionRejected unbounded
unfolding file_of network_of within number_at word_at signed_of four bytes_of word_of
unbounded_taken = (every QuestionRejected row_test unbounded).shows refl

-- ---- the table

-- all questions that must be refused, and those that must not, under one statement
pub questions_refused : All QuestionRejected question_rejections
unfolding question_rejections
questions_refused =
    all_both QuestionRejected periods (latencies ++ kinds ++ numbers ++ unread ++ unbounded) periods_refused
    (all_both QuestionRejected latencies (kinds ++ numbers ++ unread ++ unbounded) latencies_refused
    (all_both QuestionRejected kinds (numbers ++ unread ++ unbounded) kinds_refused
    (all_both QuestionRejected numbers (unread ++ unbounded) numbers_refused (all_both QuestionRejected unread unbounded unread_refused unbounded_taken))))

-- and no row is left out
thirty_two : length question_rejections ≡ 32
unfolding question_rejections
thirty_two = refl
