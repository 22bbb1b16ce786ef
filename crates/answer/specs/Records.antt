-- The records over whole numbers, as the code has them: at numbers that are not negative they are the paper's records. And what stands in
-- the output after an answer.
use Rattle.std.specs.Prelude.{List, ◌∷◌, ◌++◌, ℕ, ◌+◌, ◌*◌, ◌≤◌, ◌<◌, ℤ, pos, length}
use Rattle.whole.specs.Four.{four}
use Rattle.paper.specs.Chains.{All}
use Rattle.paper.specs.declared.Rule.{Rule}
use Rattle.paper.specs.Output.{Front, latency_records, entry_records}
use Rattle.loops.specs.Model.{at}
use Rattle.paper.specs.Limits.{most_registers}

-- `SK` and three numbers
abbrev pub skew_bytes : ℤ → ℤ → ℤ → List ℕ
skew_bytes period latencies entries = 83 ∷ 75 ∷ (four period ++ four latencies ++ four entries)

-- `ED` and two numbers
abbrev pub entry_bytes : ℤ → ℤ → List ℕ
entry_bytes kind number = 69 ∷ 68 ∷ (four kind ++ four number)

-- at most 256 places at which rules stand: each can be named as its rule
pub record Nameable (rules : List Rule) (ring : List ℕ) : Type 0 where
  pub few : length ring ≤ most_registers
  pub places : All (λ e. e < length rules) ring

-- a row of at most 256 latencies, and room for them behind the first record
pub record Timeable (row : List ℤ) (out : List ℕ) : Type 0 where
  pub room : 14 + 6 * length row ≤ length out
  pub few : length row ≤ 256

-- a loop that can be named, and a row of at most 256 latencies, with room for both behind the first record
pub record Answerable (rules : List Rule) (ring : List ℕ) (row : List ℤ) (out : List ℕ) : Type 0 where
  pub nameable : Nameable rules ring
  pub few : length row ≤ 256
  pub room : 14 + 6 * length row + 10 * length ring ≤ length out

-- the period, the latencies of all registers and the loop: where the period is that of an answer, the bytes of the paper's `Answered`
pub record AnswerBytes (period : ℤ) (row : List ℤ) (loop : List Rule) (before after : List ℕ) : Type 0 where
  pub front : Front (skew_bytes period (pos (length row)) (pos (length loop)) ++ latency_records (at row) (length row) ++ entry_records loop) before after
