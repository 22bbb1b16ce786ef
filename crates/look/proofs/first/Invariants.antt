-- `look::first` meets its contract: register by register it writes the first row and its preds.
use Rattle.look.specs.Firsts.{FirstsBelow}
use Rattle.look.proofs.first.Given as goal

abbrev pub invariant-loop-v : goal.invariant-loop-v
invariant-loop-v l = FirstsBelow l.graph.registers l.graph.arrows.now l.a l.preds l.v
