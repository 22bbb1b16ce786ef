-- What must not be answered to a rule question (RULES 15.11), beside the slacks of `Slacks`: wrong numbers, each with the right one, and any
-- number at all where the question or the file is refused. Kinds and limits stand here as numbers, as they do there. `SlackRejected` says of
-- a row what the definitions must say, and `proofs/RejectedSlackCases.antt` shows it for the whole table.
use Rattle.std.specs.Prelude.{List, [], ◌∷◌, ◌++◌, ℕ, ℤ, pos, ◌+ℤ◌, ◌-ℤ◌, take}
use Rattle.paper.specs.Table.{Given}
use Rattle.paper.specs.Question.{Question, question_refusals, FileAnswers, with_slack}
use Rattle.worked.specs.Cases.{Described, file_of}
use Rattle.worked.specs.Rejected.{A, file_a, minus, put, put_number, of_register, of_path, Refused}
use Rattle.worked.specs.Slacks.{SlackCase, M, A6, B, G, H, setup, hold, low, high, asks, ends}

-- ---- a row, and what must be so

pub data SlackRejection : Type 0 where
  -- the question is not answered by the first number, and is by the second
  wrong : (network : Described) (question : Question) (outside inside : ℤ) → SlackRejection
  -- the question is refused with 10, and no number answers it
  untold : (network : Described) (question : Question) → SlackRejection
  -- the file is refused with this number and place, and no number answers any question about it
  unread : (number place : ℕ) (file : List ℕ) → SlackRejection

-- no number answers the question about the file
abbrev pub Untold : List ℕ → Question → Type 0
Untold f q = (z : ℤ) → FileAnswers f q (with_slack z) → ⊥

abbrev pub SlackRejected : SlackRejection → Type 0
SlackRejected (wrong w q outside inside) =
    (FileAnswers (file_of w) q (with_slack outside) → ⊥) × FileAnswers (file_of w) q (with_slack inside)
SlackRejected (untold w q) = Given (question_refusals (file_of w) q) 10 0 × Untold (file_of w) q
SlackRejected (unread n p f) = Refused n p f × ((q : Question) → Untold f q)

-- ---- wrong numbers

-- RULES 15.10:
-- | the sides of hold are exchanged | a race of 1 looks like room of 1: A's hold 0 with 2 at its tail would get 1 |
-- | the slack is cut off at 0 | nobody learns by how much a rule is broken: A's setup 0 at period 8 would get 0 |
-- | the slack is one off | a rule met exactly looks broken: A's setup 0 would get -1 |
-- | low's slack is taken from the tail | the host's latency is read: A's low 2 would get 10 |
-- | u is charged with the wrong sign | A6's hold 1 would get 2 |
-- | the period stands in hold | A's hold 0 would get 9 |
-- | dmin and dmax are exchanged | A's setup 0 would get 7 |
-- | the sender's setup or hold is charged | G's setup 0 would be 100,000 less |
-- | the setup time and the hold time are exchanged | B's setup 0 would get 6, and its hold 0 would get 3 |
abbrev pub errors : List SlackRejection
errors =
    wrong A (asks (hold 0) (pos 8) (pos 2) (pos 0)) (pos 1) (minus 1)
    ∷ wrong A (asks (setup 0) (pos 8) (pos 0) (pos 1)) (pos 0) (minus 1)
    ∷ wrong A (asks (setup 0) (pos 9) (pos 0) (pos 1)) (minus 1) (pos 0)
    ∷ wrong A (asks (low 2) (pos 9) (pos 0) (minus 1)) (pos 10) (pos 9)
    ∷ wrong A6 (asks (hold 1) (pos 11) (pos 0) (pos 0)) (pos 2) (pos 0)
    ∷ wrong A (asks (hold 0) (pos 9) (pos 1) (pos 0)) (pos 9) (pos 0)
    ∷ wrong A (asks (setup 0) (pos 9) (pos 0) (pos 1)) (pos 7) (pos 0)
    ∷ wrong G (asks (setup 0) (pos 10000000) (minus M) (pos M)) (pos 12000000) (pos 12100000)
    ∷ wrong B (asks (setup 0) (pos 9) (pos 2) (pos 5)) (pos 6) (pos 7)
    ∷ wrong B (asks (hold 0) (pos 9) (pos 2) (pos 5)) (pos 3) (pos 2)
    ∷ []

-- The same errors in the other kinds: the sides of setup, low and high are exchanged; hold, low and high are cut off at 0; setup is one off
-- upward; high's slack is taken from the head; u has the wrong sign in setup; dmax stands in hold; the sender's hold is charged.
abbrev pub other_kinds : List SlackRejection
other_kinds =
    wrong A (asks (setup 0) (pos 8) (pos 0) (pos 1)) (pos 1) (minus 1)
    ∷ wrong A (asks (low 1) (pos 9) (pos 5) (minus 11)) (pos 1) (minus 1)
    ∷ wrong A (asks (high 1) (pos 9) (pos 11) (pos 5)) (pos 1) (minus 1)
    ∷ wrong A (asks (hold 0) (pos 8) (pos 2) (pos 0)) (pos 0) (minus 1)
    ∷ wrong A (asks (low 1) (pos 9) (pos 5) (minus 11)) (pos 0) (minus 1)
    ∷ wrong A (asks (high 1) (pos 9) (pos 11) (pos 5)) (pos 0) (minus 1)
    ∷ wrong A (asks (setup 0) (pos 9) (pos 0) (pos 1)) (pos 1) (pos 0)
    ∷ wrong A (asks (high 1) (pos 9) (pos 1) (pos 0)) (pos 10) (pos 9)
    ∷ wrong A6 (asks (setup 0) (pos 11) (pos 0) (pos 0)) (pos 2) (pos 0)
    ∷ wrong A (asks (hold 0) (pos 9) (pos 1) (pos 0)) (pos 7) (pos 0)
    ∷ wrong G (asks (hold 1) (pos 1) (minus M) (pos M)) (pos 3000000) (pos 3100000)
    ∷ []

-- RULES 8.8: "On a path from a register to itself both latencies are taken as they are given, even when they differ.": B's path leads from the
-- host to itself; both kinds with the latencies left out
abbrev pub of_b : List SlackRejection
of_b =
    wrong B (asks (setup 0) (pos 9) (pos 2) (pos 5)) (pos 4) (pos 7)
    ∷ wrong B (asks (hold 0) (pos 9) (pos 2) (pos 5)) (minus 1) (pos 2)
    ∷ []

-- one more and one less than each end of RULES 15.6, where it is reached
abbrev pub besides : List SlackCase → List SlackRejection
besides [] = []
besides (c ∷ l) =
    wrong c.network c.question (c.slack +ℤ pos 1) c.slack
    ∷ wrong c.network c.question (c.slack -ℤ pos 1) c.slack
    ∷ besides l

abbrev pub beside_ends : List SlackRejection
beside_ends = besides ends

-- ---- no number

-- RULES 15.5: "A refusal carries no slack." RULES 8.3: "the kind is not 0 to 3", "the number names no path of the network (setup, hold) or no
-- register from 1 up (low, high)": two rows of a kind, then a row for each kind, the last two of the host
abbrev pub no_rules : List SlackRejection
no_rules =
    untold A (asks (minus 1, pos 1) (pos 9) (pos 0) (pos 0))
    ∷ untold A (asks (pos 4, pos 1) (pos 9) (pos 0) (pos 0))
    ∷ untold A (asks (setup 3) (pos 9) (pos 0) (pos 1))
    ∷ untold A (asks (pos 1, minus 1) (pos 9) (pos 1) (pos 0))
    ∷ untold A (asks (low 0) (pos 9) (pos 0) (pos 0))
    ∷ untold A (asks (high 0) (pos 9) (pos 0) (pos 0))
    ∷ []

-- RULES 8.3: "the period is outside 1 to 10,000,000, or one of the latencies is outside -1,000,000 to 1,000,000": a slack would lie one beyond
-- an end of RULES 15.6, but in the last two rows, where the rule does not read the latency
abbrev pub out_of_range : List SlackRejection
out_of_range =
    untold G (asks (setup 0) (pos 10000001) (minus M) (pos M))
    ∷ untold H (asks (setup 0) (pos 0) (pos M) (minus M))
    ∷ untold G (asks (hold 1) (pos 1) (minus 1000001) (pos M))
    ∷ untold H (asks (hold 0) (pos 1) (pos M) (minus 1000001))
    ∷ untold G (asks (low 1) (pos 1) (pos 0) (pos 1000001))
    ∷ untold H (asks (low 1) (pos 1) (pos 0) (minus 1000001))
    ∷ untold G (asks (high 1) (pos 1) (minus 1000001) (pos 0))
    ∷ untold H (asks (high 2) (pos 1) (pos 1000001) (pos 0))
    ∷ untold A (asks (low 1) (pos 9) (pos 1000001) (pos 1))
    ∷ untold A (asks (high 1) (pos 9) (pos 1) (minus 1000001))
    ∷ []

-- RULES 8.2: "A file that is not accepted is refused first, with 1 to 6 and the places of 6.2.": A's file with one slip, a row for each number
abbrev pub files : List SlackRejection
files =
    unread 1 0 (put 0 (79 ∷ []) file_a)
    ∷ unread 2 0 (put_number 2 (pos 257) file_a)
    ∷ unread 3 0 (take 129 file_a)
    ∷ unread 4 0 (put_number 18 (minus 1) file_a)
    ∷ unread 5 2 (put (of_register 2 1) (72 ∷ []) file_a)
    ∷ unread 6 1 (put (of_path 1 0) (82 ∷ 71 ∷ []) file_a)
    ∷ []

-- ---- the table

unfoldable pub slack_rejections : List SlackRejection
slack_rejections = errors ++ other_kinds ++ of_b ++ beside_ends ++ no_rules ++ out_of_range ++ files
