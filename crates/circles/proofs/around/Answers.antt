-- `circles::around` meets its contract: after k steps the walk stands where the model's search stands with k steps taken, and each
-- way out of the loop is an arm of the model's step.
use Rattle.std.proofs.Common.{refl, sym, ap, ◌∙◌}
use Rattle.loops.specs.declared.Arrow.{Arrow}
use Rattle.circles.proofs.Rings.{none_root, circling_root, circling_home, circling_more, circling_all}
use Rattle.circles.proofs.around.Goals as goal

pub returns-in_default : goal.returns-in_default
returns-in_default c = circling_root _ _ _ _ _ c.loop-k-test.true (none_root _ _ c.in_default.ensures.some) c.loop-k.invariant

pub returns-then-v-s : goal.returns-then-v-s
returns-then-v-s c =
    circling_home _ _ _ _ _ c.loop-k-test.true (c.in-Some.ensures.some.0 refl)
    (sym (ap (λ (a : Arrow). a.tail) c.in-Some.ensures.is) ∙ sym c.from-v.ensures ∙ c.if-v-s.true) c.loop-k.invariant

pub loop-k-preserved : goal.loop-k-preserved
loop-k-preserved c =
    let here = c.from-v.ensures ∙ ap (λ (a : Arrow). a.tail) c.in-Some.ensures.is in
    rw here (circling_more _ _ _ _ _ c.args.preds.graph.shape.sound c.loop-k-test.true (c.in-Some.ensures.some.0 refl) (λ e. c.if-v-s.false (here ∙ e)) c.loop-k.invariant)

pub returns : goal.returns
returns c = circling_all _ _ _ _ _ c.loop-k-test.false c.loop-k.invariant
