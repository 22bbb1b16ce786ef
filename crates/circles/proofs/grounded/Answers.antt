-- `circles::grounded` meets its contract: after k steps the walk is rooted where it is from the register at which it stands.
use Rattle.std.proofs.Common.{refl, ap, ◌∙◌}
use Rattle.loops.specs.declared.Arrow.{Arrow}
use Rattle.circles.proofs.Rings.{none_root, followed_root, followed_more, followed_end}
use Rattle.circles.proofs.grounded.Goals as goal

pub returns-in-None : goal.returns-in-None
returns-in-None c = followed_root _ _ _ _ _ (none_root _ _ c.in-None.ensures.some) c.loop-k.invariant

pub loop-k-preserved : goal.loop-k-preserved
loop-k-preserved c =
    let here = c.from-v.ensures ∙ ap (λ (a : Arrow). a.tail) c.in-Some.ensures.is in
    rw here (followed_more _ _ _ _ _ c.args.preds.graph.shape.sound c.loop-k-test.true (c.in-Some.ensures.some.0 refl) c.loop-k.invariant)

pub returns : goal.returns
returns c = followed_end _ _ _ _ _ c.loop-k-test.false c.loop-k.invariant _ _ c.is_none.ensures c.of-2.ensures.some
