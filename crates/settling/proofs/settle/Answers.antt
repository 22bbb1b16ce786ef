-- `settling::settle` meets its contract: no register is marked at first.
use Rattle.settling.proofs.Settles.{no_marks}
use Rattle.settling.proofs.settle.Goals as goal

pub settle_all-requires : goal.settle_all-requires
settle_all-requires c = record { settleable = c.requires; marks_long = c.args.preds.graph.shape.few; none = no_marks 256 }
