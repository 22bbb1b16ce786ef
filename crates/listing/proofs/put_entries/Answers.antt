-- `listing::put_entries` meets its contract.
use Rattle.std.proofs.Common.{rules}
use Rattle.listing.proofs.Lines.{lines_none, lines_more, entry_none, entry_more}
use Rattle.listing.proofs.put_entries.Goals as goal

pub loop-j-init : goal.loop-j-init
loop-j-init c = search (rules, lines_none, entry_none)

pub loop-j-preserved : goal.loop-j-preserved
loop-j-preserved c = search (rules, lines_more, entry_more)
