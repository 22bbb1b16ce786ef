-- `circles::list` meets its contract: after k steps the ring has the arrows of those steps, the first one first. Each register that the walk
-- reads has an arrow as its pred, since the caller says so of every step on the way.
use Rattle.std.proofs.Common.{◌≡◌, ◌<◌, length, reverse, refl, arith, ◌∙◌}
use Rattle.std.specs.List.{refill}
use Rattle.loops.specs.Graphs.{of}
use Rattle.loops.specs.Model.{back, trail}
use Rattle.circles.proofs.Rings.{refill_whole, listing_none, listing_more, listing_length, listing_turned}
use Rattle.circles.proofs.list.Goals as goal

pub loop-k-init : goal.loop-k-init
loop-k-init c = rw c.clear.ensures (listing_none _ _ _ c.requires.below)

pub push-requires : goal.push-requires
push-requires c =
    let long : length c.loop-k.ring.items ≡ c.loop-k.k = listing_length _ _ _ _ _ _ c.loop-k.invariant in
    let room : length c.loop-k.ring.items < 256 = let k = c.loop-k-test.true in let few = c.requires.few in let most = c.args.preds.graph.shape.few in omega arith in
    (omega arith, room)

pub loop-k-preserved : goal.loop-k-preserved
unfolding back
loop-k-preserved c =
    let step : c.from-v.result ≡ back (of c.args.preds.graph) c.args.preds.list.now 1 c.loop-k.v = rw (c.from-v.ensures, c.from.ensures) refl in
    rw (step, c.push.ensures.items) (listing_more _ _ _ c.args.preds.graph.shape.sound _ _ _ _ c.requires c.loop-k-test.true c.loop-k.invariant)

pub returns : goal.returns
returns c =
    let whole : c.loop-k.k ≡ c.args.cycle.steps = omega arith in
    let back : reverse c.loop-k.ring.items ≡ trail (of c.args.preds.graph) c.args.preds.list.now c.loop-k.k c.args.cycle.start = listing_turned _ _ _ _ _ _ c.loop-k.invariant in
    let filled : refill (length c.loop-k.ring.items) c.loop-k.ring.items c.reverse.new.self ≡ c.reverse.new.self =
    let now = c.as_mut_slice.ensures.value in let len = c.reverse.ensures.len in refill_whole _ _ _ (rw now at len) in
    filled ∙ c.reverse.ensures.after ∙ rw (c.as_mut_slice.ensures.value, ← whole) back
