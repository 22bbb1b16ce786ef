-- `text::put_whole` meets its contract: the library's text of a number is the paper's, and no longer than 11 bytes.
use Rattle.std.proofs.Common.{rules}
use Rattle.text.proofs.Decimal.{whole_is}
use Rattle.text.proofs.put_whole.Goals as goal

pub returns : goal.returns
returns c = search (rules, whole_is)
