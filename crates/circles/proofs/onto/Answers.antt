-- `circles::onto` meets its contract: after k steps the walk stands k steps back.
use Rattle.std.proofs.Common.{refl}
use Rattle.loops.specs.Model.{back}
use Rattle.circles.proofs.Rings.{back_more, unending_below}
use Rattle.circles.proofs.onto.Goals as goal

pub loop-k-init : goal.loop-k-init
unfolding back
loop-k-init c = refl

pub step-v-requires-clause-register : goal.step-v-requires-clause-register
step-v-requires-clause-register c = unending_below _ _ c.args.preds.graph.shape.sound _ _ _ c.requires c.loop-k.invariant c.loop-k-test.true

pub loop-k-preserved : goal.loop-k-preserved
loop-k-preserved c = rw (c.step-v.ensures, c.loop-k.invariant) (back_more _ _ _ _)
