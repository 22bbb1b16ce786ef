-- `rounds::round::turn_round` meets its contract: after e arrows the row, the preds and the flag are those of the model's pass over e arrows.
-- At `from` that holds since b is a copy of the row that entered, which meets the arrows before.
use Rattle.std.proofs.Common.{◌≡◌}
use Rattle.loops.specs.Graphs.{of}
use Rattle.loops.specs.Model.{pass, entered}
use Rattle.rounds.specs.Turning.{turn}
use Rattle.rounds.proofs.round.turn_round.Given as goal

abbrev pub invariant-loop-e : goal.invariant-loop-e
invariant-loop-e l = turn l.b l.preds l.raised ≡ pass (of l.graph) l.a l.e (entered l.a l.initial.preds)
