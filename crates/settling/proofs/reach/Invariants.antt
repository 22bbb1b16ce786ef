-- `settling::reach` meets its contract: the walk's invariant says that whatever the preds give the register it stands at, they give s
-- that and the sum on the way. At a marked register, and at one without a pred, that settles s; a walk of more than n steps shows that s is
-- not grounded.
use Rattle.loops.specs.Graphs.{of}
use Rattle.settling.proofs.Walks.{Walking}
use Rattle.settling.proofs.reach.Given as goal

abbrev pub invariant-loop-k : goal.invariant-loop-k
invariant-loop-k l = Walking (of l.preds.graph) l.preds.list.now l.s l.v l.sum l.k
