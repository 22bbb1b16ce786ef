-- `whole::number` meets its contract: the library's reading of four bytes is the paper's.
use Rattle.std.proofs.Common.{rules}
use Rattle.whole.specs.Four.{number_at}
use Rattle.whole.proofs.Four.{signed_is, word_is}
use Rattle.whole.proofs.number.Goals as goal

pub returns : goal.returns
unfolding number_at
returns c = search (rules, signed_is, word_is)
