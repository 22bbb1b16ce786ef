-- `whole::put_number` meets its contract: the library's four bytes are the paper's, and the part that is copied over is a run of stores.
use Rattle.std.proofs.Common.{rules}
use Rattle.whole.specs.Four.{four}
use Rattle.whole.proofs.Four.{unsigned_is, bytes_are}
use Rattle.whole.proofs.Stores.{part_is}
use Rattle.whole.proofs.put_number.Goals as goal

pub returns : goal.returns
unfolding four
returns c = search (rules, part_is, unsigned_is, bytes_are)
