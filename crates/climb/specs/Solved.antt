-- What the search for the smallest period comes to, for a network and an output with room enough.
use Rattle.std.specs.Prelude.{List, ℕ, Ok, Err}
use Rattle.paper.specs.Numbers.{Outcome}
use Rattle.paper.specs.Network.{Network}
use Rattle.paper.specs.Refusals.{NoPeriod, NoneToCeiling}
use Rattle.paper.specs.Output.{Answered, NoPeriodShown, NoneToCeilingShown}
use Rattle.paper.specs.declared.Unanswered.TheVariants as unanswered

-- answered; or no period however large; or none up to the ceiling; each with its output
abbrev pub Solved : Network → List ℕ → Outcome → List ℕ → Type 0
Solved N before (Ok tt) after = Answered N before after
Solved N before (Err unanswered.NoPeriod) after = NoPeriod N × NoPeriodShown N before after
Solved N before (Err unanswered.NoneToCeiling) after = NoneToCeiling N × NoneToCeilingShown N before after
Solved N before (Err (unanswered.Refused x)) after = ⊥
Solved N before (Err unanswered.Room) after = ⊥
