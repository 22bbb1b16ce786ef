-- The slacks worked by hand meet the definitions: each row's number answers its question, and nothing else does. Each group of rows is a
-- statement of its own, shown by computing its tests, so that a row that does not meet them is refused by its group's name. Rests on
-- `QuestionTests`.
use mathlib.Core.Path.{◌≡◌, refl}
use mathlib.Core.List.{List, [], ◌∷◌, ◌++◌, map}
use Prim.Native.Nat.{ℕ}
use lib.IntN.{ℤ, pos}
use lib.ListN.{length}
use Rattle.whole.specs.Four.{word_at, signed_of, number_at, word_of, bytes_of, four}
use Rattle.paper.specs.declared.Rule.{Rule}
use Rattle.paper.specs.declared.Rule.TheVariants.{Setup, Hold, Low, High}
use Rattle.paper.specs.Rules.{kind, number, tail, head}
use Rattle.paper.specs.Chains.{All}
use Rattle.paper.specs.File.{marked, within, windowed, headed, counted, sized, ranged, register_ok, path_ok, network_of}
use Rattle.paper.specs.Question.{Question, asked, FileAnswers, with_slack}
use Rattle.worked.specs.Cases.{Described, Expected, answered, refused_8, refused_9, Case, file_of, case_a, case_a6, case_d}
use Rattle.worked.specs.Slacks.{SlackCase, WorkedSlack, at_answers, broken, ends, to_itself, slacks}
use Rattle.worked.proofs.Tests.{Test, via, every, all_both}
use Rattle.worked.proofs.CaseTests.{row_of}
use Rattle.worked.proofs.QuestionTests.{one_reply, answers_test}

-- a slack that answers is the only reply
pub tells : (c : SlackCase) → FileAnswers (file_of c.network) c.question (with_slack c.slack) → WorkedSlack c
tells c a = record { allowed = a; only = λ o b. one_reply (file_of c.network) c.question o (with_slack c.slack) b a }

-- a row, told nothing but itself
abbrev pub tells_test : (c : SlackCase) → Test (WorkedSlack c)
tells_test c = via (tells c) (answers_test (file_of c.network) c.question c.slack)

at_answers_told : All WorkedSlack at_answers
unfolding file_of network_of headed counted sized ranged register_ok path_ok marked within windowed number_at word_at signed_of four bytes_of word_of
at_answers_told = (every WorkedSlack tells_test at_answers).shows refl

broken_told : All WorkedSlack broken
unfolding file_of network_of headed counted sized ranged register_ok path_ok marked within windowed number_at word_at signed_of four bytes_of word_of
broken_told = (every WorkedSlack tells_test broken).shows refl

ends_told : All WorkedSlack ends
unfolding file_of network_of headed counted sized ranged register_ok path_ok marked within windowed number_at word_at signed_of four bytes_of word_of
ends_told = (every WorkedSlack tells_test ends).shows refl

to_itself_told : All WorkedSlack to_itself
unfolding file_of network_of headed counted sized ranged register_ok path_ok marked within windowed number_at word_at signed_of four bytes_of word_of
to_itself_told = (every WorkedSlack tells_test to_itself).shows refl

-- ---- the table

-- RULES 15.11: "The rows of 15.9 stand in a table, and so does what must not be answered .. One statement is proved of the whole of each."
pub slacks_told : All WorkedSlack slacks
unfolding slacks
slacks_told =
    all_both WorkedSlack at_answers (broken ++ ends ++ to_itself) at_answers_told
    (all_both WorkedSlack broken (ends ++ to_itself) broken_told (all_both WorkedSlack ends to_itself ends_told to_itself_told))

-- and no row is left out
twenty_seven : length slacks ≡ 27
unfolding slacks
twenty_seven = refl

-- ---- the questions of the first thirteen rows

abbrev period_of : Expected → ℕ
period_of (answered P latencies loop) = P
period_of (refused_8 loop) = 0
period_of (refused_9 loop) = 0

abbrev latencies_of : Expected → List ℤ
latencies_of (answered P latencies loop) = latencies
latencies_of (refused_8 loop) = []
latencies_of (refused_9 loop) = []

-- of a worked network and a rule: the question at the answer's period and latencies
abbrev pub at_answer : Case → Rule → Described × Question
at_answer c r =
    let N = network_of (file_of c.network) in
    let x = row_of (latencies_of c.result) in
    (c.network, asked (pos (period_of c.result)) (pos (kind r)) (pos (number r)) (x (tail N r)) (x (head N r)))

-- RULES 15.9: "In the first thirteen rows the period and the latencies at the two ends of the rule's arrow are those of the network's answer"
thirteen : map (λ c. (c.network, c.question)) at_answers
    ≡ map (at_answer case_a) (Setup 0 ∷ Setup 1 ∷ Setup 2 ∷ Hold 0 ∷ Hold 1 ∷ Hold 2 ∷ Low 1 ∷ Low 2 ∷ High 1 ∷ High 2 ∷ [])
    ++ map (at_answer case_a6) (Hold 1 ∷ [])
    ++ map (at_answer case_d) (Setup 0 ∷ Setup 1 ∷ [])
unfolding file_of network_of number_at word_at signed_of four bytes_of word_of
thirteen = refl
