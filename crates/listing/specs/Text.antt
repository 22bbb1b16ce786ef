-- The text of a listing.
--
-- RULES 9.1: "prints lines, with numbers in decimal. Each line ends with one newline."
-- RULES 9.2:
-- | `period` and the period | once |
-- | `latency`, the register's number and its latency | for each register, register 0 first |
-- | `loop` and the period at which the loop contradicts itself, which is the answer's less 1 | once, if there is a loop |
-- | the name of the kind (`setup`, `hold`, `low` or `high`) and the rule's number | for each entry of the loop, in its order |
-- RULES 9.3: "Of a refusal it prints `refused`, the number and the place. After 8 and 9 there follow the `loop` line, with the ceiling, and a
-- line for each entry as above."
use Rattle.std.specs.Prelude.{List, [], ◌∷◌, ◌++◌, cond, ℕ, zero, suc, ◌+◌, ◌*◌, ℤ, pos, negsuc, ◌-ℤ◌, eqb, Ok, Err}
use Rattle.whole.specs.Four.{number_at}
use Rattle.paper.specs.declared.Unanswered.TheVariants as unanswered
use Rattle.paper.specs.File.{natural}
use Rattle.paper.specs.Numbers.{Outcome, outcome_number, outcome_place}
use Rattle.text.specs.Decimal.{decimal, whole}

-- ---- the words, each with the space behind it, in ASCII

-- `period `
abbrev pub period_word : List ℕ
period_word = 112 ∷ 101 ∷ 114 ∷ 105 ∷ 111 ∷ 100 ∷ 32 ∷ []

-- `latency `
abbrev pub latency_word : List ℕ
latency_word = 108 ∷ 97 ∷ 116 ∷ 101 ∷ 110 ∷ 99 ∷ 121 ∷ 32 ∷ []

-- `loop `
abbrev pub loop_word : List ℕ
loop_word = 108 ∷ 111 ∷ 111 ∷ 112 ∷ 32 ∷ []

-- `refused `
abbrev pub refused_word : List ℕ
refused_word = 114 ∷ 101 ∷ 102 ∷ 117 ∷ 115 ∷ 101 ∷ 100 ∷ 32 ∷ []

-- `setup `
abbrev pub setup_word : List ℕ
setup_word = 115 ∷ 101 ∷ 116 ∷ 117 ∷ 112 ∷ 32 ∷ []

-- `hold `
abbrev pub hold_word : List ℕ
hold_word = 104 ∷ 111 ∷ 108 ∷ 100 ∷ 32 ∷ []

-- `low `
abbrev pub low_word : List ℕ
low_word = 108 ∷ 111 ∷ 119 ∷ 32 ∷ []

-- `high `
abbrev pub high_word : List ℕ
high_word = 104 ∷ 105 ∷ 103 ∷ 104 ∷ 32 ∷ []

-- the kinds' names: 0 setup, 1 hold, 2 low, 3 high; any other number, which never occurs, is taken for 3
unfoldable pub kind_word : ℤ → List ℕ
kind_word (pos k) = cond (eqb k 0) setup_word (cond (eqb k 1) hold_word (cond (eqb k 2) low_word high_word))
kind_word (negsuc k) = high_word

-- ---- the lines

abbrev pub newline : List ℕ
newline = 10 ∷ []

-- a word and a number
abbrev pub line : List ℕ → ℤ → List ℕ
line word z = word ++ whole z ++ newline

-- the latency of register i
abbrev pub latency_line : ℕ → ℤ → List ℕ
latency_line i z = latency_word ++ decimal i ++ (32 ∷ []) ++ whole z ++ newline

-- a refusal's number and place
abbrev pub refused_line : ℕ → ℕ → List ℕ
refused_line number place = refused_word ++ decimal number ++ (32 ∷ []) ++ decimal place ++ newline

-- the lines of the first registers: the latency of register i stands behind its mark
unfoldable pub latency_lines : List ℕ → ℕ → List ℕ
latency_lines answer zero = []
latency_lines answer (suc i) = latency_lines answer i ++ latency_line i (number_at answer (14 + 6 * i + 2))

-- the lines of the first entries of the loop whose records begin at a place: kind and number stand behind an entry's mark
unfoldable pub entry_lines : List ℕ → ℕ → ℕ → List ℕ
entry_lines answer start zero = []
entry_lines answer start (suc j) =
    entry_lines answer start j
    ++ line (kind_word (number_at answer (start + 10 * j + 2))) (number_at answer (start + 10 * j + 6))

-- a loop of k entries, with the period at which it contradicts itself
abbrev pub loop_lines : ℤ → List ℕ → ℕ → ℕ → List ℕ
loop_lines period answer start k = line loop_word period ++ entry_lines answer start k

-- ---- the listing of an outcome, over the network's ceiling and the bytes of the answer

-- how many latencies and entries the answer's first record counts
abbrev pub latencies : List ℕ → ℕ
latencies answer = natural (number_at answer 6)

abbrev pub entries : List ℕ → ℕ
entries answer = natural (number_at answer 10)

-- the line of an outcome that is no answer
abbrev pub refused : Outcome → List ℕ
refused o = refused_line (outcome_number o) (outcome_place o)

-- the period, the latencies, and a loop where one is shown
unfoldable pub answered_text : List ℕ → List ℕ
answered_text answer =
    line period_word (number_at answer 2)
    ++ latency_lines answer (latencies answer)
    ++ cond (eqb (entries answer) 0)
    []
    (loop_lines (number_at answer 2 -ℤ pos 1) answer (14 + 6 * latencies answer) (entries answer))

-- a refusal, and the loop that it shows, with the ceiling
abbrev pub looped_text : ℤ → Outcome → List ℕ → List ℕ
looped_text ceiling o answer = refused o ++ loop_lines ceiling answer 14 (entries answer)

-- Of 8 and 9 alone the ceiling is part of the text.
abbrev pub text_of : ℤ → Outcome → List ℕ → List ℕ
text_of ceiling (Ok tt) answer = answered_text answer
text_of ceiling (Err (unanswered.Refused x)) answer = refused (Err (unanswered.Refused x))
text_of ceiling (Err unanswered.Room) answer = refused (Err unanswered.Room)
text_of ceiling (Err unanswered.NoPeriod) answer = looped_text ceiling (Err unanswered.NoPeriod) answer
text_of ceiling (Err unanswered.NoneToCeiling) answer = looped_text ceiling (Err unanswered.NoneToCeiling) answer
