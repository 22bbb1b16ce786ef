-- `answer::record::put_entry` meets its contract: the two marks and the bytes of the two numbers are one record.
use mir.Facts.{to_z-of_z}
use Rattle.answer.proofs.Written.{entry_written}
use Rattle.answer.proofs.record.put_entry.Goals as goal

pub returns : goal.returns
returns c =
    entry_written c.args.out.now _ _ c.args.at _ _ _ _
    c.put_number.ensures (to_z-of_z c.ranges.kind)
    c.put_number-2.ensures (to_z-of_z c.ranges.number)
