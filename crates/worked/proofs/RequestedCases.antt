-- The requests' tables meet the definitions: the networks and slacks of `RequestCases` are as worked, and what `RequestRejected` has is refused.
-- Each network is a statement of its own, and so is each group of the other rows, shown by computing its tests, so that what does not meet the
-- definitions is refused by name. Rests on the tests of the paper's own tables.
use mathlib.Core.Path.{◌≡◌, refl}
use mathlib.Core.List.{[], ◌∷◌, ◌++◌, map}
use lib.IntN.{pos}
use lib.ListN.{length}
use Rattle.whole.specs.Four.{word_at, signed_of, number_at, word_of, bytes_of, four}
use Rattle.paper.specs.declared.Rule.TheVariants.{Setup, Hold, Low}
use Rattle.paper.specs.Chains.{All}
use Rattle.paper.specs.File.{marked, within, windowed, headed, counted, sized, ranged, register_ok, path_ok, network_of}
use Rattle.worked.specs.Cases.{Worked, file_of}
use Rattle.worked.specs.Rejected.{Rejected, minus}
use Rattle.worked.specs.Slacks.{WorkedSlack}
use Rattle.worked.specs.RejectedSlacks.{SlackRejected}
use Rattle.worked.specs.RequestCases.{T, T2, T3, T5, T6, T7, case_t, case_t2, case_t3, case_t4, case_t5, case_t6, case_t7, case_t8, case_t9, request_cases, self_at_answers, self_elsewhere, self_differing, request_slacks}
use Rattle.worked.specs.RequestRejected.{self_no_loops, self_until, self_setups, other_holds, other_missed, self_holds, request_rejections, self_charged, setup_uncharged, others_uncharged, request_slack_rejections}
use Rattle.worked.proofs.Tests.{every, all_both}
use Rattle.worked.proofs.CaseTests.{worked_test, by_chains, by_loop, by_later}
use Rattle.worked.proofs.RejectionTests.{rejected_test, by_that_loop, by_shorter, by_lower}
use Rattle.worked.proofs.SlackCases.{tells_test, at_answer}
use Rattle.worked.proofs.RejectedSlackCases.{row_test}

-- ---- the networks

row_t : Worked case_t
unfolding file_of network_of headed counted sized ranged register_ok path_ok marked within windowed number_at word_at signed_of four bytes_of word_of
row_t = (worked_test case_t (by_chains ([] ∷ (Low 1 ∷ []) ∷ []))).shows refl

row_t2 : Worked case_t2
unfolding file_of network_of headed counted sized ranged register_ok path_ok marked within windowed number_at word_at signed_of four bytes_of word_of
row_t2 = (worked_test case_t2 by_loop).shows refl

row_t3 : Worked case_t3
unfolding file_of network_of headed counted sized ranged register_ok path_ok marked within windowed number_at word_at signed_of four bytes_of word_of
row_t3 = (worked_test case_t3 (by_chains ([] ∷ (Low 1 ∷ []) ∷ (Low 2 ∷ []) ∷ []))).shows refl

row_t4 : Worked case_t4
unfolding file_of network_of headed counted sized ranged register_ok path_ok marked within windowed number_at word_at signed_of four bytes_of word_of
row_t4 = (worked_test case_t4 (by_chains ([] ∷ []))).shows refl

row_t5 : Worked case_t5
unfolding file_of network_of headed counted sized ranged register_ok path_ok marked within windowed number_at word_at signed_of four bytes_of word_of
row_t5 = (worked_test case_t5 by_loop).shows refl

row_t6 : Worked case_t6
unfolding file_of network_of headed counted sized ranged register_ok path_ok marked within windowed number_at word_at signed_of four bytes_of word_of
row_t6 = (worked_test case_t6 (by_later 10007 (pos 0 ∷ minus 10 ∷ []))).shows refl

row_t7 : Worked case_t7
unfolding file_of network_of headed counted sized ranged register_ok path_ok marked within windowed number_at word_at signed_of four bytes_of word_of
row_t7 = (worked_test case_t7 (by_chains ([] ∷ (Low 2 ∷ Hold 1 ∷ []) ∷ (Low 2 ∷ []) ∷ []))).shows refl

row_t8 : Worked case_t8
unfolding file_of network_of headed counted sized ranged register_ok path_ok marked within windowed number_at word_at signed_of four bytes_of word_of
row_t8 = (worked_test case_t8 (by_chains ([] ∷ (Low 1 ∷ []) ∷ []))).shows refl

row_t9 : Worked case_t9
unfolding file_of network_of headed counted sized ranged register_ok path_ok marked within windowed number_at word_at signed_of four bytes_of word_of
row_t9 = (worked_test case_t9 (by_chains ([] ∷ (Low 1 ∷ []) ∷ []))).shows refl

-- RULES 16.14: "The cases of 16.10 stand in one table with those of the requests to come .. One statement is proved of the whole of each"
pub requested_cases : All Worked request_cases
unfolding request_cases
requested_cases = (row_t, (row_t2, (row_t3, (row_t4, (row_t5, (row_t6, (row_t7, (row_t8, (row_t9, tt)))))))))

-- and no row is left out
nine : length request_cases ≡ 9
unfolding request_cases
nine = refl

-- ---- the slacks

self_at_answers_told : All WorkedSlack self_at_answers
unfolding file_of network_of headed counted sized ranged register_ok path_ok marked within windowed number_at word_at signed_of four bytes_of word_of
self_at_answers_told = (every WorkedSlack tells_test self_at_answers).shows refl

self_elsewhere_told : All WorkedSlack self_elsewhere
unfolding file_of network_of headed counted sized ranged register_ok path_ok marked within windowed number_at word_at signed_of four bytes_of word_of
self_elsewhere_told = (every WorkedSlack tells_test self_elsewhere).shows refl

self_differing_told : All WorkedSlack self_differing
unfolding file_of network_of headed counted sized ranged register_ok path_ok marked within windowed number_at word_at signed_of four bytes_of word_of
self_differing_told = (every WorkedSlack tells_test self_differing).shows refl

pub requested_slacks : All WorkedSlack request_slacks
unfolding request_slacks
requested_slacks =
    all_both WorkedSlack self_at_answers (self_elsewhere ++ self_differing) self_at_answers_told
    (all_both WorkedSlack self_elsewhere self_differing self_elsewhere_told self_differing_told)

nineteen : length request_slacks ≡ 19
unfolding request_slacks
nineteen = refl

-- the questions of the first group are those at the answers
at_answers_lem : map (λ c. (c.network, c.question)) self_at_answers
    ≡ map (at_answer case_t) (Setup 0 ∷ Hold 0 ∷ [])
    ++ map (at_answer case_t3) (Hold 0 ∷ [])
    ++ map (at_answer case_t4) (Setup 0 ∷ Hold 0 ∷ [])
    ++ map (at_answer case_t7) (Hold 0 ∷ Hold 1 ∷ Hold 2 ∷ [])
    ++ map (at_answer case_t8) (Hold 0 ∷ [])
    ++ map (at_answer case_t9) (Hold 0 ∷ Hold 1 ∷ [])
unfolding file_of network_of number_at word_at signed_of four bytes_of word_of
at_answers_lem = refl

-- ---- what must be refused

self_no_loops_refused : All Rejected self_no_loops
unfolding file_of network_of number_at word_at signed_of four bytes_of word_of
self_no_loops_refused = (every Rejected rejected_test self_no_loops).shows refl

self_until_refused : All Rejected self_until
unfolding file_of network_of number_at word_at signed_of four bytes_of word_of
self_until_refused = (every Rejected rejected_test self_until).shows refl

-- T's loop for 7 and 9, its answer for 11, T6's loop for 7; then T's lower latency of register 1
self_setups_refused : All Rejected self_setups
unfolding file_of network_of number_at word_at signed_of four bytes_of word_of
self_setups_refused = (
  (by_that_loop (network_of (file_of T)) 7 (Setup 0 ∷ [])).shows refl,
  (
    (by_that_loop (network_of (file_of T)) 9 (Setup 0 ∷ [])).shows refl,
    (
      (by_shorter (network_of (file_of T)) 11 10 (pos 0 ∷ minus 10 ∷ [])).shows refl,
      (
        (by_that_loop (network_of (file_of T6)) 7 (Setup 0 ∷ [])).shows refl,
        ((by_lower (network_of (file_of T)) 10 (pos 0 ∷ minus 9 ∷ []) (pos 0 ∷ minus 10 ∷ []) 1).shows refl, tt),
      ),
    ),
  ),
)

-- each by the loop of its network in RULES 16.10
other_holds_refused : All Rejected other_holds
unfolding file_of network_of number_at word_at signed_of four bytes_of word_of
other_holds_refused = (
  (by_that_loop (network_of (file_of T2)) 10 (Hold 1 ∷ Hold 0 ∷ [])).shows refl,
  (
    (by_that_loop (network_of (file_of T3)) 12 (Setup 0 ∷ Hold 0 ∷ [])).shows refl,
    (
      (by_that_loop (network_of (file_of T3)) 13 (Setup 0 ∷ Hold 0 ∷ [])).shows refl,
      (
        (by_that_loop (network_of (file_of T7)) 12 (Setup 1 ∷ Hold 1 ∷ [])).shows refl,
        ((by_that_loop (network_of (file_of T7)) 14 (Setup 1 ∷ Hold 1 ∷ [])).shows refl, tt),
      ),
    ),
  ),
)

other_missed_refused : All Rejected other_missed
unfolding file_of network_of number_at word_at signed_of four bytes_of word_of
other_missed_refused = (every Rejected rejected_test other_missed).shows refl

self_holds_refused : All Rejected self_holds
unfolding file_of network_of number_at word_at signed_of four bytes_of word_of
self_holds_refused = ((by_that_loop (network_of (file_of T5)) 10 (Hold 0 ∷ [])).shows refl, tt)

pub requested_refused : All Rejected request_rejections
unfolding request_rejections
requested_refused =
    all_both Rejected self_no_loops (self_until ++ self_setups ++ other_holds ++ other_missed ++ self_holds) self_no_loops_refused
    (all_both Rejected self_until (self_setups ++ other_holds ++ other_missed ++ self_holds) self_until_refused
    (all_both Rejected self_setups (other_holds ++ other_missed ++ self_holds) self_setups_refused
    (all_both Rejected other_holds (other_missed ++ self_holds) other_holds_refused
    (all_both Rejected other_missed self_holds other_missed_refused self_holds_refused))))

twenty_five : length request_rejections ≡ 25
unfolding request_rejections
twenty_five = refl

-- ---- slacks that must not be told

self_charged_refused : All SlackRejected self_charged
unfolding file_of network_of headed counted sized ranged register_ok path_ok marked within windowed number_at word_at signed_of four bytes_of word_of
self_charged_refused = (every SlackRejected row_test self_charged).shows refl

setup_uncharged_refused : All SlackRejected setup_uncharged
unfolding file_of network_of headed counted sized ranged register_ok path_ok marked within windowed number_at word_at signed_of four bytes_of word_of
setup_uncharged_refused = (every SlackRejected row_test setup_uncharged).shows refl

others_uncharged_refused : All SlackRejected others_uncharged
unfolding file_of network_of headed counted sized ranged register_ok path_ok marked within windowed number_at word_at signed_of four bytes_of word_of
others_uncharged_refused = (every SlackRejected row_test others_uncharged).shows refl

pub requested_slacks_refused : All SlackRejected request_slack_rejections
unfolding request_slack_rejections
requested_slacks_refused =
    all_both SlackRejected self_charged (setup_uncharged ++ others_uncharged) self_charged_refused
    (all_both SlackRejected setup_uncharged others_uncharged setup_uncharged_refused others_uncharged_refused)

seventeen : length request_slack_rejections ≡ 17
unfolding request_slack_rejections
seventeen = refl
