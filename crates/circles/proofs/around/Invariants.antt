-- `circles::around` meets its contract: after k steps the walk stands where the model's search stands with k steps taken, and each
-- way out of the loop is an arm of the model's step.
use Rattle.loops.specs.Graphs.{of}
use Rattle.circles.proofs.Rings.{Circling}
use Rattle.circles.proofs.around.Given as goal

abbrev pub invariant-loop-k : goal.invariant-loop-k
invariant-loop-k l = Circling (of l.preds.graph) l.preds.list.now l.s l.k l.v
