-- What a search for a faulty record answers, and what a look at the records alone finds.
use Rattle.std.specs.Prelude.{◌≡◌, List, Bool, true, ℕ, ◌+◌, ◌*◌, ◌≤◌, ◌<◌, length, Option, Some, None}
use Rattle.paper.specs.File.{registers}
use Rattle.paper.specs.Table.{Lowest, Given}
use Rattle.paper.specs.Refusals.{record_faults}
use Rattle.paper.specs.Numbers.{Verdict, verdict_number, verdict_place}
use Rattle.paper.specs.Limits.{most_registers}

-- the lowest record of which the test fails, or nothing where every record passes
abbrev pub Sought : (ℕ → Bool) → ℕ → Option ℕ → Type 0
Sought ok n (Some p) = Lowest ok n p
Sought ok n None = (p : ℕ) → p < n → ok p ≡ true

-- n is the file's count of registers, and the file is long enough for m paths after them
pub record PathsThere (f : List ℕ) (n m : ℕ) : Type 0 where
  pub counted : n ≡ registers f
  pub few : n ≤ most_registers
  pub long : 22 + 18 * (n + m) ≤ length f

-- the first of the numbers 5 and 6 that applies, with its place
abbrev pub RecordsJudged : List ℕ → Verdict → Type 0
RecordsJudged f v = Given (record_faults f) (verdict_number v) (verdict_place v)
