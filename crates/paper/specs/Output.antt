-- The answer's bytes.
--
-- RULES 7.2: "The first record has 14 bytes: `SK` (83, 75), then the period, the number of latencies and the number of loop entries."
-- RULES 7.3: "Then comes a record for each latency, register 0 first, 6 bytes each: `LT` (76, 84), then the latency."
-- RULES 7.4: "Then comes a record for each entry of the loop, 10 bytes each: `ED` (69, 68), then the kind's number (2.2) and the number of
-- the path or register that names the rule (2.4)."
use Rattle.std.specs.Prelude.{◌≡◌, List, [], ◌∷◌, ◌++◌, ℕ, zero, suc, ℤ, pos, length, drop}
use Rattle.whole.specs.Four.{four}
use Rattle.paper.specs.Network.{Network}
use Rattle.paper.specs.declared.Rule.{Rule}
use Rattle.paper.specs.Rules.{kind, number}
use Rattle.paper.specs.Schedule.{Answer, Refutes, Shown, setups}

abbrev pub skew_record : ℕ → ℕ → ℕ → List ℕ
skew_record period latencies entries = 83 ∷ 75 ∷ (four (pos period) ++ four (pos latencies) ++ four (pos entries))

abbrev pub latency_record : ℤ → List ℕ
latency_record x = 76 ∷ 84 ∷ four x

abbrev pub entry_record : Rule → List ℕ
entry_record r = 69 ∷ 68 ∷ (four (pos (kind r)) ++ four (pos (number r)))

-- the records of the first n registers
abbrev pub latency_records : (ℕ → ℤ) → ℕ → List ℕ
latency_records x zero = []
latency_records x (suc n) = latency_records x n ++ latency_record (x n)

abbrev pub entry_records : List Rule → List ℕ
entry_records [] = []
entry_records (r ∷ l) = entry_record r ++ entry_records l

-- The bytes stand at the front; what stood past them stands there still. RULES 7.8: "every byte behind the last one that was written is what
-- it was before"
abbrev pub Front : List ℕ → List ℕ → List ℕ → Type 0
Front bytes before after = after ≡ bytes ++ drop (length bytes) before

-- the output of an answer: its period, the latencies of n registers, and the entries of a loop, which are none where none is shown
abbrev pub AnswerOutput : ℕ → ℕ → (ℕ → ℤ) → List Rule → List ℕ → List ℕ → Type 0
AnswerOutput n period latency loop before after =
    Front (skew_record period n (length loop) ++ latency_records latency n ++ entry_records loop) before after

-- RULES 7.5: "After number 0: `SK` with the period, n and the number of entries; then n latencies; then the entries."
pub record Answered (N : Network) (before after : List ℕ) : Type 0 where
  pub period : ℕ
  pub latency : ℕ → ℤ
  pub loop : List Rule
  pub answer : Answer N period latency
  pub shown : Shown N period loop
  pub bytes : AnswerOutput N.registers period latency loop before after

-- RULES 7.6: "After 8 and 9: `SK` with 0, 0 and the number of entries; no latencies; then the entries."
abbrev pub LoopAlone : List Rule → List ℕ → List ℕ → Type 0
LoopAlone loop before after = Front (skew_record 0 0 (length loop) ++ entry_records loop) before after

-- RULES 7.11: "Number 8 shows a loop that has no setup rule and contradicts itself."
pub record NoPeriodShown (N : Network) (before after : List ℕ) : Type 0 where
  pub loop : List Rule
  pub no_setups : setups loop ≡ 0
  pub refutes : (P : ℕ) → Refutes N P loop
  pub bytes : LoopAlone loop before after

-- RULES 7.11: "Number 9 shows a loop that contradicts itself at the ceiling."
pub record NoneToCeilingShown (N : Network) (before after : List ℕ) : Type 0 where
  pub loop : List Rule
  pub refutes : Refutes N N.ceiling loop
  pub bytes : LoopAlone loop before after
