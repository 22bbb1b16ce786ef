-- `needs::next` meets its contract: what is over is the loop's sum, it is shared among the setup rules, and no sum leaves its width.
use borrow.Author.Rules.{rules}
use Rattle.needs.proofs.Nexts.{narrow_fits, next_fits, next_is}
use Rattle.needs.proofs.next.Goals as goal

pub overflow_cast-result : goal.overflow_cast-result
overflow_cast-result c =
    narrow_fits c.requires _ _ _ (search rules) c.ranges.period c.total_of-over.ensures c.setups_of-k.ensures c.round_up.ensures

pub overflow_add-result : goal.overflow_add-result
overflow_add-result c =
    next_fits c.requires _ _ _ (search rules) c.ranges.period c.total_of-over.ensures c.setups_of-k.ensures c.round_up.ensures

pub returns : goal.returns
returns c =
    next_is c.requires _ _ _ (search rules) c.ranges.period c.total_of-over.ensures c.setups_of-k.ensures c.round_up.ensures
