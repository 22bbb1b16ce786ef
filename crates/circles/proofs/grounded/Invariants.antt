-- `circles::grounded` meets its contract: after k steps the walk is rooted where it is from the register at which it stands.
use Rattle.loops.specs.Graphs.{of}
use Rattle.circles.proofs.Rings.{Followed}
use Rattle.circles.proofs.grounded.Given as goal

abbrev pub invariant-loop-k : goal.invariant-loop-k
invariant-loop-k l = Followed (of l.preds.graph) l.preds.list.now l.s l.k l.v
