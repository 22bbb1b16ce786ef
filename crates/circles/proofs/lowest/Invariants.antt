-- `circles::lowest` meets its contract: after k steps the walk stands k steps back, and `low` is the lowest register that it met.
use Rattle.std.proofs.Common.{◌≡◌}
use Rattle.loops.specs.Graphs.{of}
use Rattle.loops.specs.Model.{back, lowest}
use Rattle.circles.proofs.lowest.Given as goal

abbrev pub invariant-loop-k : goal.invariant-loop-k
invariant-loop-k l = record {
  stands : l.v ≡ back (of l.preds.graph) l.preds.list.now l.k l.s;
  is_lowest : l.low ≡ lowest (of l.preds.graph) l.preds.list.now l.k l.s;
}
