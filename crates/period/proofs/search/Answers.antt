-- `period::search` meets its contract: a loop of the rules that do not know the period is shown as it is; where there is none, some period has
-- a schedule, and the climb finds the smallest. Its rows are large enough for every network.
use mathlib.Core.Path.{◌∙◌}
use lib.Seq.{length-take-le}
use Rattle.period.proofs.Searches.{held_few, held_shape, held_lookable, seen_known, seen_solved, seen_nameable, seen_climbable}
use Rattle.period.proofs.search.Goals as goal

pub invariant_of-graph : goal.invariant_of-graph
invariant_of-graph c = record { shape = held_shape c.requires.held c.fixed.ensures }

pub look-requires : goal.look-requires
look-requires c =
    let few = held_few c.requires.held in
    held_lookable c.requires.held c.fixed.ensures (length-take-le _ _ few) (length-take-le _ _ few) (length-take-le _ _ few) (length-take-le _ _ few)
    (length-take-le _ _ few)

pub loop_alone-requires-clause-nameable : goal.loop_alone-requires-clause-nameable
loop_alone-requires-clause-nameable c = let found = c.in_default.ensures in rw c.deref.ensures.0 (seen_nameable c.requires.held c.fixed.ensures found.shows found.short)

pub returns-in_default : goal.returns-in_default
returns-in_default c = λ N held. seen_solved held c.fixed.ensures c.in_default.ensures.shows c.deref.ensures.0 c.loop_alone.ensures

pub climb-requires : goal.climb-requires
climb-requires c =
    let few = held_few c.requires.held in
    seen_climbable c.requires.held c.fixed.ensures c.in-Some.ensures (c.look.auto.a ∙ length-take-le _ _ few) (c.look.auto.b ∙ length-take-le _ _ few)
    (c.look.auto.preds ∙ length-take-le _ _ few) c.requires.output

pub returns : goal.returns
returns c = λ N held. c.climb.ensures N (seen_known held c.fixed.ensures c.in-Some.ensures.0)
