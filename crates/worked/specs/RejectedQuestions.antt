-- Questions that must be refused, beside the files and rules of `Rejected`: number 10, about the file of network A. Most rows are two
-- questions that differ in one number: just outside its range, where the question is refused, and just inside, where it is not, though the
-- rule may be unmet. Limits stand here as numbers and not by their names in `Limits`, which the table holds to these numbers.
-- `QuestionRejected` says of a row what the definitions must say, and `proofs/RejectedQuestionCases.antt` shows it for the whole table.
use Rattle.std.specs.Prelude.{List, [], ◌∷◌, ◌++◌, pos}
use Rattle.paper.specs.Table.{Given}
use Rattle.paper.specs.Question.{Question, asked, question_refusals}
use Rattle.worked.specs.Rejected.{file_a, minus}

-- ---- a row, and what must be so

pub data QuestionRejection : Type 0 where
  -- the first question is refused with 10, and the second is not refused
  bound : (outside inside : Question) → QuestionRejection
  -- the question is not refused
  taken : (question : Question) → QuestionRejection

abbrev pub QuestionRejected : QuestionRejection → Type 0
QuestionRejected (bound outside inside) = Given (question_refusals file_a outside) 10 0 × Given (question_refusals file_a inside) 0 0
QuestionRejected (taken question) = Given (question_refusals file_a question) 0 0

-- ---- the rows

-- RULES 8.3: "the period is outside 1 to 10,000,000": of setup 0
abbrev pub periods : List QuestionRejection
periods =
    bound (asked (pos 0) (pos 0) (pos 0) (pos 0) (pos 1)) (asked (pos 1) (pos 0) (pos 0) (pos 0) (pos 1))
    ∷ bound (asked (pos 10000001) (pos 0) (pos 0) (pos 0) (pos 1)) (asked (pos 10000000) (pos 0) (pos 0) (pos 0) (pos 1))
    ∷ []

-- RULES 8.3: "one of the latencies is outside -1,000,000 to 1,000,000": that at the tail, and that at the head, of setup 1
abbrev pub latencies : List QuestionRejection
latencies =
    bound (asked (pos 9) (pos 0) (pos 1) (minus 1000001) (pos 0)) (asked (pos 9) (pos 0) (pos 1) (minus 1000000) (pos 0))
    ∷ bound (asked (pos 9) (pos 0) (pos 1) (pos 1000001) (pos 0)) (asked (pos 9) (pos 0) (pos 1) (pos 1000000) (pos 0))
    ∷ bound (asked (pos 9) (pos 0) (pos 1) (pos 0) (minus 1000001)) (asked (pos 9) (pos 0) (pos 1) (pos 0) (minus 1000000))
    ∷ bound (asked (pos 9) (pos 0) (pos 1) (pos 0) (pos 1000001)) (asked (pos 9) (pos 0) (pos 1) (pos 0) (pos 1000000))
    ∷ []

-- RULES 8.3: "the kind is not 0 to 3": number 1 is that of a path and of a register
abbrev pub kinds : List QuestionRejection
kinds =
    bound (asked (pos 9) (minus 1) (pos 1) (pos 0) (pos 0)) (asked (pos 9) (pos 0) (pos 1) (pos 0) (pos 0))
    ∷ bound (asked (pos 9) (pos 4) (pos 1) (pos 0) (pos 0)) (asked (pos 9) (pos 3) (pos 1) (pos 0) (pos 0))
    ∷ []

-- RULES 8.3: "the number names no path of the network (setup, hold) or no register from 1 up (low, high)": A has three paths and three
-- registers. Two rows each of setup and of hold, three each of low and of high
abbrev pub numbers : List QuestionRejection
numbers =
    bound (asked (pos 9) (pos 0) (minus 1) (pos 0) (pos 0)) (asked (pos 9) (pos 0) (pos 0) (pos 0) (pos 0))
    ∷ bound (asked (pos 9) (pos 0) (pos 3) (pos 0) (pos 0)) (asked (pos 9) (pos 0) (pos 2) (pos 0) (pos 0))
    ∷ bound (asked (pos 9) (pos 1) (minus 1) (pos 0) (pos 0)) (asked (pos 9) (pos 1) (pos 0) (pos 0) (pos 0))
    ∷ bound (asked (pos 9) (pos 1) (pos 3) (pos 0) (pos 0)) (asked (pos 9) (pos 1) (pos 2) (pos 0) (pos 0))
    ∷ bound (asked (pos 9) (pos 2) (minus 1) (pos 0) (pos 0)) (asked (pos 9) (pos 2) (pos 1) (pos 0) (pos 0))
    ∷ bound (asked (pos 9) (pos 2) (pos 0) (pos 0) (pos 0)) (asked (pos 9) (pos 2) (pos 1) (pos 0) (pos 0))
    ∷ bound (asked (pos 9) (pos 2) (pos 3) (pos 0) (pos 0)) (asked (pos 9) (pos 2) (pos 2) (pos 0) (pos 0))
    ∷ bound (asked (pos 9) (pos 3) (minus 1) (pos 0) (pos 0)) (asked (pos 9) (pos 3) (pos 1) (pos 0) (pos 0))
    ∷ bound (asked (pos 9) (pos 3) (pos 0) (pos 0) (pos 0)) (asked (pos 9) (pos 3) (pos 1) (pos 0) (pos 0))
    ∷ bound (asked (pos 9) (pos 3) (pos 3) (pos 0) (pos 0)) (asked (pos 9) (pos 3) (pos 2) (pos 0) (pos 0))
    ∷ []

-- RULES 8.4: "these ranges hold for every kind, also where the rule does not read the number": an end of the period of hold, of low and of
-- high, the latency at the tail of low, that at the head of high
abbrev pub unread : List QuestionRejection
unread =
    bound (asked (pos 0) (pos 1) (pos 0) (pos 0) (pos 0)) (asked (pos 1) (pos 1) (pos 0) (pos 0) (pos 0))
    ∷ bound (asked (pos 0) (pos 2) (pos 1) (pos 0) (pos 0)) (asked (pos 1) (pos 2) (pos 1) (pos 0) (pos 0))
    ∷ bound (asked (pos 10000001) (pos 3) (pos 1) (pos 0) (pos 0)) (asked (pos 10000000) (pos 3) (pos 1) (pos 0) (pos 0))
    ∷ bound (asked (pos 9) (pos 2) (pos 1) (minus 1000001) (pos 0)) (asked (pos 9) (pos 2) (pos 1) (minus 1000000) (pos 0))
    ∷ bound (asked (pos 9) (pos 2) (pos 1) (pos 1000001) (pos 0)) (asked (pos 9) (pos 2) (pos 1) (pos 1000000) (pos 0))
    ∷ bound (asked (pos 9) (pos 3) (pos 1) (pos 0) (minus 1000001)) (asked (pos 9) (pos 3) (pos 1) (pos 0) (minus 1000000))
    ∷ bound (asked (pos 9) (pos 3) (pos 1) (pos 0) (pos 1000001)) (asked (pos 9) (pos 3) (pos 1) (pos 0) (pos 1000000))
    ∷ []

-- RULES 8.4: "The period need not lie between floor and ceiling.": it is above A's ceiling, 100. RULES 8.7: "A latency of the host other than 0 is no
-- ground to refuse.": the host is the tail of setup 0, of hold 2 and of low 1, and the head of setup 2, of hold 0 and of high 1
abbrev pub unbounded : List QuestionRejection
unbounded =
    taken (asked (pos 101) (pos 0) (pos 0) (pos 0) (pos 1))
    ∷ taken (asked (pos 9) (pos 0) (pos 0) (minus 5) (pos 1))
    ∷ taken (asked (pos 9) (pos 1) (pos 2) (pos 5) (pos 1))
    ∷ taken (asked (pos 9) (pos 2) (pos 1) (pos 5) (pos 1))
    ∷ taken (asked (pos 9) (pos 0) (pos 2) (pos 1) (pos 5))
    ∷ taken (asked (pos 9) (pos 1) (pos 0) (pos 1) (minus 5))
    ∷ taken (asked (pos 9) (pos 3) (pos 1) (pos 1) (pos 5))
    ∷ []

-- ---- the table

unfoldable pub question_rejections : List QuestionRejection
question_rejections = periods ++ latencies ++ kinds ++ numbers ++ unread ++ unbounded
