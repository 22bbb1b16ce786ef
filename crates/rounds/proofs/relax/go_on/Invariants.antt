-- `rounds::relax::go_on` meets its contract: every turn is given a row that it may begin from, past the arrows below `start`, and ends the
-- relaxation or leaves such a row, nearer to its bound, in the other slice. The ring is as it was at first.
use Rattle.std.proofs.Common.{◌≡◌}
use Rattle.loops.specs.Graphs.{of}
use Rattle.loops.specs.Forest.{gap}
use Rattle.whole.specs.Between.{far}
use Rattle.rounds.specs.Relaxation.{Relaxable}
use Rattle.rounds.proofs.relax.go_on.Given as goal

abbrev pub invariant-loop-b : goal.invariant-loop-b
invariant-loop-b l = record { starts : Relaxable (of l.graph) l.a l.b l.preds l.start; kept : l.ring.items ≡ l.initial.ring.items }

abbrev pub decreases-loop-b : goal.decreases-loop-b
decreases-loop-b l = gap (of l.graph) far l.a
