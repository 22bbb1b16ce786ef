-- `listing::put_entry` meets its contract: each arm writes the word of its kind.
use Rattle.std.proofs.Common.{rules}
use Rattle.listing.proofs.Lines.{setup_kind, hold_kind, low_kind, high_kind}
use Rattle.listing.proofs.put_entry.Goals as goal

pub returns-in-0 : goal.returns-in-0
returns-in-0 c = search (rules, setup_kind)

pub returns-in-1 : goal.returns-in-1
returns-in-1 c = search (rules, hold_kind)

pub returns-in-2 : goal.returns-in-2
returns-in-2 c = search (rules, low_kind)

pub returns-in_default : goal.returns-in_default
returns-in_default c = search (rules, high_kind)
