-- `settling::settle_all` meets its contract: the registers before s are marked, and each marked register stands where its preds put it.
use Rattle.loops.specs.Graphs.{of}
use Rattle.settling.proofs.Settles.{Settling}
use Rattle.settling.proofs.settle_all.Given as goal

abbrev pub invariant-loop-s : goal.invariant-loop-s
invariant-loop-s l = Settling (of l.preds.graph) l.preds.list.now l.row l.marks l.s
