-- `circles::list` meets its contract: after k steps the ring has the arrows of those steps, the first one first.
use Rattle.loops.specs.Graphs.{of}
use Rattle.circles.proofs.Rings.{RingListing}
use Rattle.circles.proofs.list.Given as goal

abbrev pub invariant-loop-k : goal.invariant-loop-k
invariant-loop-k l = RingListing (of l.preds.graph) l.preds.list.now l.fn.cycle.start l.k l.v l.ring.items
