-- `circles::onto` meets its contract: after k steps the walk stands k steps back.
use Rattle.std.proofs.Common.{◌≡◌}
use Rattle.loops.specs.Graphs.{of}
use Rattle.loops.specs.Model.{back}
use Rattle.circles.proofs.onto.Given as goal

abbrev pub invariant-loop-k : goal.invariant-loop-k
invariant-loop-k l = l.v ≡ back (of l.preds.graph) l.preds.list.now l.k l.s
