-- `skewlist::listed` meets its contract: what the scheduler left can be listed, and the listing fits its room.
use Rattle.std.proofs.Common.{rules}
use Rattle.skewlist.proofs.Left.{counted, listed_as}
use Rattle.skewlist.proofs.listed.Goals as goal

pub list-requires : goal.list-requires
list-requires c = search (rules, counted)

pub returns : goal.returns
returns c =
    let both = listed_as _ c.schedule-o.result c.schedule-o.ensures c.ceiling-at.ensures (search rules) c.list.ensures in
    record { listing = both.0; prefix_len = both.1 }
