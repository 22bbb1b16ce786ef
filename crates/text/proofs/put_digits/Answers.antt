-- `text::put_digits` meets its contract: the library's decimal is the paper's.
use Rattle.std.proofs.Common.{rules}
use Rattle.text.proofs.Decimal.{decimal_is}
use Rattle.text.proofs.put_digits.Goals as goal

pub put_text-requires : goal.put_text-requires
put_text-requires c = search (rules, decimal_is)

pub returns : goal.returns
returns c = search (rules, decimal_is)
