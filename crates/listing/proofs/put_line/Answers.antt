-- `listing::put_line` meets its contract: the word, the number and the newline follow one another.
use Rattle.std.proofs.Common.{rules}
use Rattle.listing.proofs.Lines.{line_written}
use Rattle.listing.proofs.put_line.Goals as goal

pub returns : goal.returns
returns c = search (rules, line_written)
