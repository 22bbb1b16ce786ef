-- `answer::answered` meets its contract: the first record, the latencies and the entries follow one another from the start on.
use Rattle.answer.proofs.Fronts.{answered_front}
use Rattle.answer.proofs.answered.Goals as goal

pub returns : goal.returns
returns c =
    answered_front _ _ c.requires.nameable.few _ _ _ _ _ _ c.ranges.period c.requires.few c.requires.room
    c.put_skew.ensures c.put_latencies.ensures c.put_entries.ensures
