-- `answer::loop_alone` meets its contract: the entries follow the first record.
use Rattle.answer.proofs.Fronts.{alone_front}
use Rattle.answer.proofs.loop_alone.Goals as goal

pub returns : goal.returns
returns c = alone_front _ _ c.requires.nameable.few _ _ _ c.requires.in_bounds c.put_skew.ensures c.put_entries.ensures
