-- `needs::total_of` meets its contract: after so many entries the sum is that of the first so many.
use borrow.Author.Rules.{rules}
use Rattle.needs.proofs.Sums.{summed_more}
use Rattle.needs.proofs.total_of.Goals as goal

pub loop-e-preserved : goal.loop-e-preserved
loop-e-preserved c =
    summed_more _ _ c.requires.few _ c.loop-e-test.true _ c.loop-e.invariant _ _ (search rules) c.from.ensures c.from-sum.ensures
