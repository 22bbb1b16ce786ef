-- `text::put_text` meets its contract: the part that is copied over is a run of stores.
use Rattle.std.proofs.Common.{rules}
use Rattle.whole.proofs.Stores.{part_is}
use Rattle.text.proofs.put_text.Goals as goal

pub returns : goal.returns
returns c = search (rules, part_is)
