-- `settling::put` meets its contract: the walk's invariant says that the preds give the register it stands at the time in hand, so each
-- register that it writes stands where its preds put it.
use Rattle.loops.specs.Graphs.{of}
use Rattle.settling.proofs.Puts.{Putting}
use Rattle.settling.proofs.put.Given as goal

abbrev pub invariant-loop-k : goal.invariant-loop-k
invariant-loop-k l = Putting (of l.preds.graph) l.preds.list.now l.s l.initial.marks l.row l.marks l.v l.z l.k
