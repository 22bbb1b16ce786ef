-- Networks and slacks worked by hand for the requests, beside those of `Cases` and `Slacks`: two tables of the same kind. RULES 16.14: "The
-- cases of 16.10 stand in one table with those of the requests to come, and the slacks of 16.12 in another": a later request adds its rows
-- here. `Worked` and `WorkedSlack` say of a row what the definitions must say, and `proofs/RequestedCases.antt` shows it for the whole of each
-- table.
use Rattle.std.specs.Prelude.{List, [], ◌∷◌, ◌++◌, ℕ, pos}
use Rattle.paper.specs.declared.Rule.TheVariants.{Setup, Hold}
use Rattle.worked.specs.Cases.{Fields, Described, answered, refused_8, refused_9, Case}
use Rattle.worked.specs.Rejected.{minus}
use Rattle.worked.specs.Slacks.{setup, hold, SlackCase, told}

-- ---- the networks of request 2026-02

-- RULES 16.10: "Register 1 has setup 2, hold 2 and the window -10 to 10.", with the hold time as it is given
abbrev pub toggling : ℕ → Fields
toggling holdTime = (pos 2, pos holdTime, minus 10, pos 10)

-- RULES 16.10: "T to T9 have floor 1 and ceiling 100, and u 3 where the table does not say otherwise."
abbrev pub network_t : (u : ℕ) (registers paths : List Fields) → Described
network_t u registers paths =
    record {
      floor = pos 1;
      ceiling = pos 100;
      u = pos u;
      registers = registers;
      paths = paths;
    }

-- RULES 16.10: "Register 0 of T has setup, hold, low and high 0."
abbrev pub one_beside : (u holdTime : ℕ) → List Fields → Described
one_beside u holdTime paths = network_t u ((pos 0, pos 0, pos 0, pos 0) ∷ toggling holdTime ∷ []) paths

-- RULES 16.10: "Path 0 is (1, 1, 2, 5): a toggle flip-flop, with n = 2 and m = 1."
abbrev pub toggle : (u holdTime : ℕ) → Described
toggle u holdTime = one_beside u holdTime ((pos 1, pos 1, pos 2, pos 5) ∷ [])

-- RULES 16.10: "Where there is a register 2, it is as register 1."
abbrev pub two_beside : List Fields → Described
two_beside paths = network_t 3 ((pos 0, pos 0, pos 0, pos 0) ∷ toggling 2 ∷ toggling 2 ∷ []) paths

-- one name each, for the rows of slacks and of what must be refused
abbrev pub T : Described
T = toggle 3 2

abbrev pub T2 : Described
T2 = two_beside ((pos 1, pos 2, pos 2, pos 5) ∷ (pos 2, pos 1, pos 2, pos 5) ∷ [])

abbrev pub T3 : Described
T3 = two_beside ((pos 1, pos 2, pos 5, pos 9) ∷ (pos 2, pos 1, pos 5, pos 5) ∷ [])

abbrev pub T4 : Described
T4 = network_t 3 ((pos 2, pos 2, pos 0, pos 0) ∷ []) ((pos 0, pos 0, pos 2, pos 5) ∷ [])

abbrev pub T5 : Described
T5 = toggle 3 3

abbrev pub T6 : Described
T6 = toggle 10000 2

abbrev pub T7 : Described
T7 = two_beside ((pos 1, pos 1, pos 2, pos 5) ∷ (pos 1, pos 2, pos 4, pos 9) ∷ (pos 2, pos 2, pos 3, pos 6) ∷ [])

abbrev pub T8 : Described
T8 = one_beside 3 2 ((pos 1, pos 1, pos 5, pos 5) ∷ [])

abbrev pub T9 : Described
T9 = one_beside 3 2 ((pos 1, pos 1, pos 2, pos 5) ∷ (pos 1, pos 1, pos 3, pos 7) ∷ [])

-- ---- the rows: one name each, by which the check names a row that does not meet the definitions

-- RULES 16.10: | T | 16.10 | answered | 10 | 0, -10 | setup 0 |
abbrev pub case_t : Case
case_t = record { network = T; result = answered 10 (pos 0 ∷ minus 10 ∷ []) (Setup 0 ∷ []) }

-- RULES 16.10: | T2 | T with register 2 in the way: paths (1, 2, 2, 5) and (2, 1, 2, 5) | refused 8 | | | hold 1, hold 0 |
abbrev pub case_t2 : Case
case_t2 = record { network = T2; result = refused_8 (Hold 1 ∷ Hold 0 ∷ []) }

-- RULES 16.10: | T3 | T2 with the paths (1, 2, 5, 9) and (2, 1, 5, 5) | answered | 14 | 0, -10, -10 | setup 0, hold 0 |
abbrev pub case_t3 : Case
case_t3 = record { network = T3; result = answered 14 (pos 0 ∷ minus 10 ∷ minus 10 ∷ []) (Setup 0 ∷ Hold 0 ∷ []) }

-- RULES 16.10: | T4 | n = 1, register 0 with setup 2 and hold 2, path (0, 0, 2, 5) | answered | 10 | 0 | setup 0 |
abbrev pub case_t4 : Case
case_t4 = record { network = T4; result = answered 10 (pos 0 ∷ []) (Setup 0 ∷ []) }

-- RULES 16.10: | T5 | T with hold 3 in register 1 | refused 8 | | | hold 0 |
abbrev pub case_t5 : Case
case_t5 = record { network = T5; result = refused_8 (Hold 0 ∷ []) }

-- RULES 16.10: | T6 | T with u 10,000 | refused 9 | | | setup 0 |
abbrev pub case_t6 : Case
case_t6 = record { network = T6; result = refused_9 (Setup 0 ∷ []) }

-- RULES 16.10: | T7 | T2 with the paths (1, 1, 2, 5), (1, 2, 4, 9) and (2, 2, 3, 6) | answered | 15 | 0, -9, -10 | setup 1, hold 1 |
abbrev pub case_t7 : Case
case_t7 = record { network = T7; result = answered 15 (pos 0 ∷ minus 9 ∷ minus 10 ∷ []) (Setup 1 ∷ Hold 1 ∷ []) }

-- RULES 16.10: | T8 | T with the path (1, 1, 5, 5) | answered | 10 | 0, -10 | setup 0 |
abbrev pub case_t8 : Case
case_t8 = record { network = T8; result = answered 10 (pos 0 ∷ minus 10 ∷ []) (Setup 0 ∷ []) }

-- RULES 16.10: | T9 | T with the paths (1, 1, 2, 5) and (1, 1, 3, 7) | answered | 12 | 0, -10 | setup 1 |
abbrev pub case_t9 : Case
case_t9 = record { network = T9; result = answered 12 (pos 0 ∷ minus 10 ∷ []) (Setup 1 ∷ []) }

unfoldable pub request_cases : List Case
request_cases = case_t ∷ case_t2 ∷ case_t3 ∷ case_t4 ∷ case_t5 ∷ case_t6 ∷ case_t7 ∷ case_t8 ∷ case_t9 ∷ []

-- ---- slacks

-- at the period and the latencies of the network's answer
--
-- RULES 16.12:
-- | T | setup 0 | 10 | -10 | -10 | 0 |
-- | T | hold 0 | 10 | -10 | -10 | 0 |
-- | T3 | hold 0 | 14 | -10 | -10 | 0 |
-- | T4 | setup 0 | 10 | 0 | 0 | 0 |
-- | T4 | hold 0 | 10 | 0 | 0 | 0 |
-- | T7 | hold 0 | 15 | -9 | -9 | 0 |
-- | T7 | hold 1 | 15 | -10 | -9 | 0 |
-- | T7 | hold 2 | 15 | -10 | -10 | 1 |
-- | T8 | hold 0 | 10 | -10 | -10 | 3 |
-- | T9 | hold 0 | 12 | -10 | -10 | 0 |
-- | T9 | hold 1 | 12 | -10 | -10 | 1 |
abbrev pub self_at_answers : List SlackCase
self_at_answers =
    told T (setup 0) (pos 10) (minus 10) (minus 10) (pos 0)
    ∷ told T (hold 0) (pos 10) (minus 10) (minus 10) (pos 0)
    ∷ told T3 (hold 0) (pos 14) (minus 10) (minus 10) (pos 0)
    ∷ told T4 (setup 0) (pos 10) (pos 0) (pos 0) (pos 0)
    ∷ told T4 (hold 0) (pos 10) (pos 0) (pos 0) (pos 0)
    ∷ told T7 (hold 0) (pos 15) (minus 9) (minus 9) (pos 0)
    ∷ told T7 (hold 1) (pos 15) (minus 10) (minus 9) (pos 0)
    ∷ told T7 (hold 2) (pos 15) (minus 10) (minus 10) (pos 1)
    ∷ told T8 (hold 0) (pos 10) (minus 10) (minus 10) (pos 3)
    ∷ told T9 (hold 0) (pos 12) (minus 10) (minus 10) (pos 0)
    ∷ told T9 (hold 1) (pos 12) (minus 10) (minus 10) (pos 1)
    ∷ []

-- T's period less 1, and networks that are refused
--
-- RULES 16.12:
-- | T | setup 0 | 9 | -10 | -10 | -1 |
-- | T2 | hold 0 | 10 | 0 | 0 | -3 |
-- | T5 | hold 0 | 10 | -10 | -10 | -1 |
-- | T6 | setup 0 | 10,007 | -10 | -10 | 0 |
-- | T6 | hold 0 | 100 | -10 | -10 | 0 |
abbrev pub self_elsewhere : List SlackCase
self_elsewhere =
    told T (setup 0) (pos 9) (minus 10) (minus 10) (minus 1)
    ∷ told T2 (hold 0) (pos 10) (pos 0) (pos 0) (minus 3)
    ∷ told T5 (hold 0) (pos 10) (minus 10) (minus 10) (minus 1)
    ∷ told T6 (setup 0) (pos 10007) (minus 10) (minus 10) (pos 0)
    ∷ told T6 (hold 0) (pos 100) (minus 10) (minus 10) (pos 0)
    ∷ []

-- RULES 16.5: "A self path's hold rule is charged nothing where they differ too (8.8), and that of any other path is charged u where they are
-- equal.": here they differ; T2's and T3's hold 0 above have equal ones
--
-- RULES 16.12:
-- | T | setup 0 | 9 | 2 | 5 | 2 |
-- | T | hold 0 | 9 | 2 | 5 | 3 |
-- | T | hold 0 | 9 | 5 | 2 | -3 |
abbrev pub self_differing : List SlackCase
self_differing =
    told T (setup 0) (pos 9) (pos 2) (pos 5) (pos 2)
    ∷ told T (hold 0) (pos 9) (pos 2) (pos 5) (pos 3)
    ∷ told T (hold 0) (pos 9) (pos 5) (pos 2) (minus 3)
    ∷ []

unfoldable pub request_slacks : List SlackCase
request_slacks = self_at_answers ++ self_elsewhere ++ self_differing
