-- `needs::total_of` meets its contract: after so many entries the sum is that of the first so many.
use Rattle.needs.proofs.Sums.{Summed}
use Rattle.needs.proofs.total_of.Given as goal

abbrev pub invariant-loop-e : goal.invariant-loop-e
invariant-loop-e l = Summed l.arrows l.ring l.e-index l.sum
