-- The text of a listing in the rules' own terms: of a period, latencies and a loop of rules, not of the bytes that they stand in. `Text.antt`
-- says the text over an answer's bytes; `proofs/Texts.antt` of `skewlist` shows that of every result of the scheduler's the two are one.
use Rattle.std.specs.Prelude.{List, [], ◌∷◌, ◌++◌, ℕ, zero, suc, ℤ, pos, ◌-ℤ◌, Ok, Err}
use Rattle.paper.specs.Numbers.{Outcome}
use Rattle.paper.specs.declared.Unanswered.TheVariants as unanswered
use Rattle.paper.specs.Network.{Network}
use Rattle.paper.specs.declared.Rule.{Rule}
use Rattle.paper.specs.declared.Rule.TheVariants.{Setup, Hold, Low, High}
use Rattle.paper.specs.Outcome.{Left}
use Rattle.listing.specs.Text.{line, latency_line, refused, period_word, loop_word, setup_word, hold_word, low_word, high_word}

-- RULES 9.2: "the name of the kind (`setup`, `hold`, `low` or `high`) and the rule's number"
abbrev pub rule_line : Rule → List ℕ
rule_line (Setup p) = line setup_word (pos p)
rule_line (Hold p) = line hold_word (pos p)
rule_line (Low i) = line low_word (pos i)
rule_line (High i) = line high_word (pos i)

-- RULES 9.2: "`latency`, the register's number and its latency", "for each register, register 0 first": of the first n registers
unfoldable pub register_lines : (ℕ → ℤ) → ℕ → List ℕ
register_lines x zero = []
register_lines x (suc n) = register_lines x n ++ latency_line n (x n)

-- RULES 9.2: "for each entry of the loop, in its order"
unfoldable pub rule_lines : List Rule → List ℕ
rule_lines [] = []
rule_lines (r ∷ l) = rule_line r ++ rule_lines l

-- a loop, with the period at which it contradicts itself
abbrev pub loop_text : ℤ → List Rule → List ℕ
loop_text period loop = line loop_word period ++ rule_lines loop

-- RULES 9.2: "`loop` and the period at which the loop contradicts itself, which is the answer's less 1", "once, if there is a loop"
abbrev pub shown_text : ℕ → List Rule → List ℕ
shown_text P [] = []
shown_text P (r ∷ l) = loop_text (pos P -ℤ pos 1) (r ∷ l)

-- RULES 9.2, in its order: the period, the latencies of n registers, and the loop
abbrev pub answer_text : ℕ → ℕ → (ℕ → ℤ) → List Rule → List ℕ
answer_text P n x loop = line period_word (pos P) ++ register_lines x n ++ shown_text P loop

-- RULES 9.3: "After 8 and 9 there follow the `loop` line, with the ceiling, and a line for each entry as above."
abbrev pub refused_text : Network → Outcome → List Rule → List ℕ
refused_text N o loop = refused o ++ loop_text (pos N.ceiling) loop

-- the listing of what the scheduler returns and leaves, by cases of the outcome
abbrev pub result_text : (N : Network) (before : List ℕ) (o : Outcome) (after : List ℕ) → Left N o before after → List ℕ
result_text N before (Ok tt) after l = answer_text l.period N.registers l.latency l.loop
result_text N before (Err (unanswered.Refused x)) after l = refused (Err (unanswered.Refused x))
result_text N before (Err unanswered.Room) after l = refused (Err unanswered.Room)
result_text N before (Err unanswered.NoPeriod) after l = refused_text N (Err unanswered.NoPeriod) l.loop
result_text N before (Err unanswered.NoneToCeiling) after l = refused_text N (Err unanswered.NoneToCeiling) l.loop
