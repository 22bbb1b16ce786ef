-- What must be refused of the requests' networks, beside what `Rejected` and `RejectedSlacks` have: two tables of the same kind. RULES 16.14:
-- "so do the errors of 16.13 as what must be refused": a later request adds its rows here. `Rejected` and `SlackRejected` say of a row what
-- the definitions must say, and `proofs/RequestedCases.antt` shows it for the whole of each table.
use Rattle.std.specs.Prelude.{List, [], ◌∷◌, ◌++◌, pos}
use Rattle.paper.specs.declared.Rule.TheVariants.{Setup, Hold}
use Rattle.worked.specs.Rejected.{Rejection, no_loop, until, unmet, unanswered, not_least, minus}
use Rattle.worked.specs.Slacks.{setup, hold, asks}
use Rattle.worked.specs.RejectedSlacks.{SlackRejection, wrong}
use Rattle.worked.specs.RequestCases.{T, T2, T3, T4, T5, T6, T7, T8, T9}

-- ---- loops

-- RULES 16.13:
-- | u is charged in a self path's hold rule | T would be refused with 8, and its hold 0 with 2 and 5 would get 0 |
-- | the host's self path alone is charged so | T4 would be refused with 8 |
--
-- The loop that 8 would show does not contradict itself: its amount is 0, and of T7's hold 2 and T9's hold 1 it is -1. T8's is -3, and would be 0
-- with u charged: T8 would be answered alike, and its slack alone would differ.
abbrev pub self_no_loops : List Rejection
self_no_loops =
    no_loop T (Hold 0 ∷ [])
    ∷ no_loop T4 (Hold 0 ∷ [])
    ∷ no_loop T7 (Hold 0 ∷ [])
    ∷ no_loop T7 (Hold 2 ∷ [])
    ∷ no_loop T8 (Hold 0 ∷ [])
    ∷ no_loop T9 (Hold 0 ∷ [])
    ∷ no_loop T9 (Hold 1 ∷ [])
    ∷ []

-- the sums of T, T3, T6, T7, T8 and T9 in RULES 16.11: above 0 at this period, and not at the next
abbrev pub self_until : List Rejection
self_until =
    until T 9 (Setup 0 ∷ [])
    ∷ until T3 13 (Setup 0 ∷ Hold 0 ∷ [])
    ∷ until T6 10006 (Setup 0 ∷ [])
    ∷ until T7 14 (Setup 1 ∷ Hold 1 ∷ [])
    ∷ until T8 9 (Setup 0 ∷ [])
    ∷ until T9 11 (Setup 1 ∷ [])
    ∷ []

-- ---- answers

-- RULES 16.13: | u is dropped from a self path's setup rule too | T would get 7 |
--
-- T6 would get 7 as well. T's period less 1 and its period and 1 more are no answer's, and at its period -9 is more than need be.
abbrev pub self_setups : List Rejection
self_setups =
    unanswered T 7 ∷ unanswered T 9 ∷ unanswered T 11 ∷ unanswered T6 7 ∷ not_least T 10 (pos 0 ∷ minus 9 ∷ []) ∷ []

-- RULES 16.13:
-- | u is dropped from every hold rule | T2 would be answered, with 10, and T3 would get 12 |
-- | a way back through a second register is taken for a self path | T2 would be answered, with 10 |
--
-- T7 would get 12 as well. 13 and 14 are the answers' periods less 1.
abbrev pub other_holds : List Rejection
other_holds = unanswered T2 10 ∷ unanswered T3 12 ∷ unanswered T3 13 ∷ unanswered T7 12 ∷ unanswered T7 14 ∷ []

-- and in T3 a latency of register 2 one above that of register 1 breaks hold 0, and no other rule
abbrev pub other_missed : List Rejection
other_missed = unmet T3 14 (pos 0 ∷ minus 10 ∷ minus 9 ∷ []) (pos 0 ∷ minus 10 ∷ minus 10 ∷ []) ∷ []

-- RULES 16.13: | a self path has no hold rule | T5 would be answered, with 10 |
abbrev pub self_holds : List Rejection
self_holds = unanswered T5 10 ∷ []

unfoldable pub request_rejections : List Rejection
request_rejections = self_no_loops ++ self_until ++ self_setups ++ other_holds ++ other_missed ++ self_holds

-- ---- slacks

-- u is charged in a self path's hold rule. The second row and T2's below are those of RULES 16.13:
-- | a self path is told by equal latencies, and not by its registers | T's hold 0 with 2 and 5 would get 0, and T2's hold 0 would get 0 |
abbrev pub self_charged : List SlackRejection
self_charged =
    wrong T (asks (hold 0) (pos 10) (minus 10) (minus 10)) (minus 3) (pos 0)
    ∷ wrong T (asks (hold 0) (pos 9) (pos 2) (pos 5)) (pos 0) (pos 3)
    ∷ wrong T (asks (hold 0) (pos 9) (pos 5) (pos 2)) (minus 6) (minus 3)
    ∷ wrong T4 (asks (hold 0) (pos 10) (pos 0) (pos 0)) (minus 3) (pos 0)
    ∷ wrong T5 (asks (hold 0) (pos 10) (minus 10) (minus 10)) (minus 4) (minus 1)
    ∷ wrong T6 (asks (hold 0) (pos 100) (minus 10) (minus 10)) (minus 10000) (pos 0)
    ∷ wrong T7 (asks (hold 0) (pos 15) (minus 9) (minus 9)) (minus 3) (pos 0)
    ∷ wrong T7 (asks (hold 2) (pos 15) (minus 10) (minus 10)) (minus 2) (pos 1)
    ∷ wrong T8 (asks (hold 0) (pos 10) (minus 10) (minus 10)) (pos 0) (pos 3)
    ∷ wrong T9 (asks (hold 0) (pos 12) (minus 10) (minus 10)) (minus 3) (pos 0)
    ∷ wrong T9 (asks (hold 1) (pos 12) (minus 10) (minus 10)) (minus 2) (pos 1)
    ∷ []

-- u is dropped from a self path's setup rule
abbrev pub setup_uncharged : List SlackRejection
setup_uncharged =
    wrong T (asks (setup 0) (pos 10) (minus 10) (minus 10)) (pos 3) (pos 0)
    ∷ wrong T4 (asks (setup 0) (pos 10) (pos 0) (pos 0)) (pos 3) (pos 0)
    ∷ wrong T6 (asks (setup 0) (pos 10007) (minus 10) (minus 10)) (pos 10000) (pos 0)
    ∷ []

-- u is dropped from another path's hold rule: from every one, or on a way back alone
abbrev pub others_uncharged : List SlackRejection
others_uncharged =
    wrong T2 (asks (hold 0) (pos 10) (pos 0) (pos 0)) (pos 0) (minus 3)
    ∷ wrong T3 (asks (hold 0) (pos 14) (minus 10) (minus 10)) (pos 3) (pos 0)
    ∷ wrong T7 (asks (hold 1) (pos 15) (minus 10) (minus 9)) (pos 3) (pos 0)
    ∷ []

unfoldable pub request_slack_rejections : List SlackRejection
request_slack_rejections = self_charged ++ setup_uncharged ++ others_uncharged
