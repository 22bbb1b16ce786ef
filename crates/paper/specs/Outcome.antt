-- What the scheduler may return and leave.
use Rattle.std.specs.Prelude.{◌≡◌, List, ℕ, length, Ok, Err}
use Rattle.paper.specs.declared.Unanswered.TheVariants as unanswered
use Rattle.paper.specs.Network.{Network}
use Rattle.paper.specs.File.{network_of}
use Rattle.paper.specs.Table.{Row, Given}
use Rattle.paper.specs.Refusals.{faults, refusals}
use Rattle.paper.specs.Numbers.{Verdict, Outcome, verdict_number, verdict_place, outcome_number, outcome_place}
use Rattle.paper.specs.Output.{Answered, NoPeriodShown, NoneToCeilingShown}

-- what a look at the file finds: the first of the numbers 1 to 6 that applies, with its place
abbrev pub Judged : List ℕ → Verdict → Type 0
Judged f v = Given (faults f) (verdict_number v) (verdict_place v)

-- what stands in the output: number 7 and what comes before it leave it untouched (RULES 7.7)
abbrev pub Left : Network → Outcome → List ℕ → List ℕ → Type 0
Left N (Ok tt) before after = Answered N before after
Left N (Err (unanswered.Refused x)) before after = after ≡ before
Left N (Err unanswered.Room) before after = after ≡ before
Left N (Err unanswered.NoPeriod) before after = NoPeriodShown N before after
Left N (Err unanswered.NoneToCeiling) before after = NoneToCeilingShown N before after

-- The scheduler, given the network N, with these rows for its table of numbers, and lent an output that holds `before`, may return o and
-- leave `after`.
pub record Result (N : Network) (rows : List Row) (before : List ℕ) (o : Outcome) (after : List ℕ) : Type 0 where
  pub given : Given rows (outcome_number o) (outcome_place o)
  pub output : Left N o before after

-- a file's: its network, and its refusals with the room there is
abbrev pub FileResult : (f before : List ℕ) → Outcome → List ℕ → Type 0
FileResult f before o after = Result (network_of f) (refusals f (length before)) before o after
