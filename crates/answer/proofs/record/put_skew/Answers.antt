-- `answer::record::put_skew` meets its contract: the two marks and the bytes of the three numbers are one record.
use mir.Facts.{to_z-of_z}
use Rattle.answer.proofs.Written.{skew_written}
use Rattle.answer.proofs.record.put_skew.Goals as goal

pub returns : goal.returns
returns c =
    skew_written c.args.out.now _ _ _ _ _ _ _ _ _
    c.put_number.ensures (to_z-of_z c.ranges.period)
    c.put_number-2.ensures (to_z-of_z c.ranges.latencies)
    c.put_number-3.ensures (to_z-of_z c.ranges.entries)
