-- What a listing asks of its outcome, answer and text: room for the text, and that the records that the answer's first record counts
-- stand in the answer. Every answer that the scheduler leaves is so. And what the writers of single lines ask for.
use Rattle.std.specs.Prelude.{◌≡◌, List, ℕ, ◌+◌, ◌*◌, ◌≤◌, ◌<◌, pos, length, ◌≤ℤ◌, Ok, Err}
use Rattle.whole.specs.Four.{number_at}
use Rattle.paper.specs.Numbers.{Outcome}
use Rattle.paper.specs.declared.Unanswered.TheVariants as unanswered
use Rattle.paper.specs.Limits.{most_registers}

-- the room that any text fits in
abbrev pub text_room : ℕ
text_room = 16384

-- a period, n latencies and k entries
pub record FullAnswer (answer : List ℕ) : Type 0 where
  pub period : ℕ
  pub n : ℕ
  pub k : ℕ
  pub period_is : number_at answer 2 ≡ pos period
  pub latencies_are : number_at answer 6 ≡ pos n
  pub entries_are : number_at answer 10 ≡ pos k
  pub few_latencies : n ≤ most_registers
  pub few_entries : k ≤ most_registers
  pub within : 14 + 6 * n + 10 * k ≤ length answer

-- k entries alone
pub record LoopAnswer (answer : List ℕ) : Type 0 where
  pub k : ℕ
  pub entries_are : number_at answer 10 ≡ pos k
  pub few_entries : k ≤ most_registers
  pub within : 14 + 10 * k ≤ length answer

-- what an outcome says of the answer: of a refusal before 8 nothing is read
abbrev pub Counted : Outcome → List ℕ → Type 0
Counted (Ok tt) answer = FullAnswer answer
Counted (Err (unanswered.Refused x)) answer = Unit {0}
Counted (Err unanswered.Room) answer = Unit {0}
Counted (Err unanswered.NoPeriod) answer = LoopAnswer answer
Counted (Err unanswered.NoneToCeiling) answer = LoopAnswer answer

-- what is known of the answer, and room for any text
pub record InRoom (Known : Type 0) (text : List ℕ) : Type 0 where
  pub counted : Known
  pub room : text_room ≤ length text

-- what a listing asks for
abbrev pub Listable : Outcome → List ℕ → List ℕ → Type 0
Listable o answer text = InRoom (Counted o answer) text

-- ---- what the writers of single lines ask for

-- a register, of at most three digits, and room for its line
pub record LatencyRoom (text : List ℕ) (at i : ℕ) : Type 0 where
  pub few : i < most_registers
  pub room : at + 24 ≤ length text

-- n latencies in the answer, and room for their lines
pub record LatenciesRoom (answer text : List ℕ) (at n : ℕ) : Type 0 where
  pub few : n ≤ most_registers
  pub stand : 14 + 6 * n ≤ length answer
  pub room : at + 24 * n ≤ length text

-- k entries in the answer, from a place on, and room for their lines
pub record EntriesRoom (answer : List ℕ) (start : ℕ) (text : List ℕ) (at k : ℕ) : Type 0 where
  pub stand : start + 10 * k ≤ length answer
  pub room : at + 24 * k ≤ length text

-- a number in the answer that counts
pub record Countable (answer : List ℕ) (at : ℕ) : Type 0 where
  pub stands : at + 4 ≤ length answer
  pub from_zero : pos 0 ≤ℤ number_at answer at
