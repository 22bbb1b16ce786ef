-- Each turn writes one amount.
use borrow.Author.Rules.{rules}
use Rattle.arrows.proofs.Weighing.{weighed_more}
use Rattle.arrows.proofs.at_period.Goals as goal

pub loop-p-preserved : goal.loop-p-preserved
loop-p-preserved c = search (rules, weighed_more)
