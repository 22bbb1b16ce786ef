-- What must not be answered to a rule question is not: the table of `RejectedSlacks` meets the definitions. Each group of rows is a statement
-- of its own, shown by computing its tests. Rests on `QuestionTests` and, for files that are refused, on `RejectionTests`.
use Rattle.std.specs.Prelude.{Ok, Err}
use mathlib.Core.Path.{◌≡◌, refl, ap}
use mathlib.Core.List.{List, ◌++◌}
use Prim.Native.Nat.{ℕ, ◌<◌}
use native.Mathlib.Omega.{arith}
use lib.IntN.{ℤ, pos}
use lib.ListN.{length}
use Rattle.whole.specs.Four.{word_at, signed_of, number_at, word_of, bytes_of, four}
use Rattle.paper.specs.Numbers.{Reply}
use Rattle.paper.specs.Chains.{All}
use Rattle.paper.specs.File.{marked, within, windowed, headed, counted, sized, ranged, register_ok, path_ok, network_of}
use Rattle.paper.specs.Table.{Given}
use Rattle.paper.specs.Refusals.{Accepted}
use Rattle.paper.specs.Question.{Question, InRange, question_refusals, FileAnswers, with_slack}
use Rattle.worked.specs.Cases.{file_of}
use Rattle.worked.specs.Rejected.{Refused}
use Rattle.worked.specs.RejectedSlacks.{SlackRejection, wrong, untold, unread, Untold, SlackRejected, errors, other_kinds, of_b, beside_ends, no_rules, out_of_range, files, slack_rejections}
use Rattle.worked.proofs.Tests.{Test, via, pair, less, every, all_both}
use Rattle.worked.proofs.Refusing.{not_same_ℤ}
use Rattle.worked.proofs.CaseTests.{accepted_test}
use Rattle.worked.proofs.RejectionTests.{refused_test}
use Rattle.worked.proofs.QuestionTests.{not_in_range, given_10, given_untold, one_reply, answers_test}

-- ---- a row

-- the slack in a reply
abbrev slack_in : Reply → ℤ
slack_in (Ok d) = d.0
slack_in (Err x) = pos 0

module _ (f : List ℕ) where
  -- no number but the right one answers
  pub wrong_by : (q : Question) (outside inside : ℤ) → (outside ≡ inside → ⊥) × FileAnswers f q (with_slack inside)
      → (FileAnswers f q (with_slack outside) → ⊥) × FileAnswers f q (with_slack inside)
  wrong_by q outside inside h =
      ((λ a. h.0 (ap slack_in (one_reply f q (with_slack outside) (with_slack inside) a h.1))), h.1)

  -- a question that is refused, and a file that is, get a number other than 0
  pub untold_by : (q : Question) → Accepted f × (InRange (network_of f) q → ⊥)
      → Given (question_refusals f q) 10 0 × Untold f q
  untold_by q h = let g = given_10 f q h.0 h.1 in (g, given_untold f q 10 0 (omega arith) g)

  pub unread_by : (n p : ℕ) → (0 < n) × Refused n p f → Refused n p f × ((q : Question) → Untold f q)
  unread_by n p h = (h.1, λ q. given_untold f q n p h.0 (h.1.asking q))

-- a row, told nothing but itself
abbrev pub row_test : (r : SlackRejection) → Test (SlackRejected r)
row_test (wrong w q outside inside) =
    via (wrong_by (file_of w) q outside inside) (pair (not_same_ℤ outside inside) (answers_test (file_of w) q inside))
row_test (untold w q) = via (untold_by (file_of w) q) (pair (accepted_test (file_of w)) (not_in_range (network_of (file_of w)) q))
row_test (unread n p f) = via (unread_by f n p) (pair (less 0 n) (refused_test f n p))

errors_refused : All SlackRejected errors
unfolding file_of network_of headed counted sized ranged register_ok path_ok marked within windowed number_at word_at signed_of four bytes_of word_of
errors_refused = (every SlackRejected row_test errors).shows refl

other_kinds_refused : All SlackRejected other_kinds
unfolding file_of network_of headed counted sized ranged register_ok path_ok marked within windowed number_at word_at signed_of four bytes_of word_of
other_kinds_refused = (every SlackRejected row_test other_kinds).shows refl

of_b_refused : All SlackRejected of_b
unfolding file_of network_of headed counted sized ranged register_ok path_ok marked within windowed number_at word_at signed_of four bytes_of word_of
of_b_refused = (every SlackRejected row_test of_b).shows refl

beside_ends_refused : All SlackRejected beside_ends
unfolding file_of network_of headed counted sized ranged register_ok path_ok marked within windowed number_at word_at signed_of four bytes_of word_of
beside_ends_refused = (every SlackRejected row_test beside_ends).shows refl

no_rules_refused : All SlackRejected no_rules
unfolding file_of network_of headed counted sized ranged register_ok path_ok marked within windowed number_at word_at signed_of four bytes_of word_of
no_rules_refused = (every SlackRejected row_test no_rules).shows refl

out_of_range_refused : All SlackRejected out_of_range
unfolding file_of network_of headed counted sized ranged register_ok path_ok marked within windowed number_at word_at signed_of four bytes_of word_of
out_of_range_refused = (every SlackRejected row_test out_of_range).shows refl

files_refused : All SlackRejected files
unfolding file_of network_of headed counted sized ranged register_ok path_ok marked within windowed number_at word_at signed_of four bytes_of word_of
files_refused = (every SlackRejected row_test files).shows refl

-- ---- the table

-- RULES 15.11: "what must not be answered: the slacks of 15.10, and a slack where the question is refused", under one statement
pub slacks_refused : All SlackRejected slack_rejections
unfolding slack_rejections
slacks_refused =
    all_both SlackRejected errors (other_kinds ++ of_b ++ beside_ends ++ no_rules ++ out_of_range ++ files) errors_refused
    (all_both SlackRejected other_kinds (of_b ++ beside_ends ++ no_rules ++ out_of_range ++ files) other_kinds_refused
    (all_both SlackRejected of_b (beside_ends ++ no_rules ++ out_of_range ++ files) of_b_refused
    (all_both SlackRejected beside_ends (no_rules ++ out_of_range ++ files) beside_ends_refused
    (all_both SlackRejected no_rules (out_of_range ++ files) no_rules_refused (all_both SlackRejected out_of_range files out_of_range_refused files_refused)))))

-- and no row is left out
sixty_one : length slack_rejections ≡ 61
unfolding slack_rejections
sixty_one = refl
