-- `whole::unsigned` meets its contract: the library's number without sign is the paper's.
use Rattle.std.proofs.Common.{rules}
use Rattle.whole.proofs.Four.{unsigned_is}
use Rattle.whole.proofs.unsigned.Goals as goal

pub returns : goal.returns
returns c = search (rules, unsigned_is)
