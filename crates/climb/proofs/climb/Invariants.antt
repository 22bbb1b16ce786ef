-- `climb::climb` meets its contract: each period that is tried lies from floor to ceiling, with a loop that shows why no smaller one has a
-- schedule. It ends because the period rises.
use Prim.Native.Nat.{suc, ◌-◌}
use Rattle.paper.specs.File.{natural}
use Rattle.climb.proofs.Goings.{Going}
use Rattle.climb.proofs.climb.Given as goal

abbrev pub invariant-loop-row : goal.invariant-loop-row
invariant-loop-row l = Going l.h l.rules l.fn.arrows l.arrows l.base l.kept.row.now l.kept.preds.now l.kept.passed l.a l.b l.preds l.ring.items l.fn.out l.out l.period

abbrev pub decreases-loop-row : goal.decreases-loop-row
decreases-loop-row l = suc (natural l.h.ceiling) - natural l.period
