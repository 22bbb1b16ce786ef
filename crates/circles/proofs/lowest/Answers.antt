-- `circles::lowest` meets its contract: after k steps the walk stands k steps back, and `low` is the lowest register that it met.
use Rattle.std.proofs.Common.{◌≡◌, ◌+◌, refl}
use Rattle.loops.specs.Graphs.{of}
use Rattle.loops.specs.Model.{back, lowest}
use Rattle.circles.proofs.Rings.{back_more, lowest_more, unending_below}
use Rattle.circles.proofs.lowest.Goals as goal

pub loop-k-init : goal.loop-k-init
unfolding back lowest
loop-k-init c = record { stands = refl; is_lowest = refl }

pub step-v-requires-clause-register : goal.step-v-requires-clause-register
step-v-requires-clause-register c = unending_below _ _ c.args.preds.graph.shape.sound _ _ _ c.requires c.loop-k.invariant.stands c.loop-k-test.true

pub loop-k-preserved : goal.loop-k-preserved
loop-k-preserved c =
    let stands : c.step-v.result ≡ back (of c.args.preds.graph) c.args.preds.list.now (c.loop-k.k + 1) c.args.s =
    rw (c.step-v.ensures, c.loop-k.invariant.stands) (back_more _ _ _ _) in
    record { stands = stands; is_lowest = rw (c.min-low.ensures, stands, c.loop-k.invariant.is_lowest) (lowest_more _ _ _ _) }
