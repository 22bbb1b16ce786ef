-- `circles::circle` meets its contract: from a register that is not grounded each of the three walks goes over arrows, and each goes
-- on from where the one before ended.
use Rattle.circles.proofs.Rings.{astray_onto, astray_on, astray_low}
use Rattle.circles.proofs.circle.Goals as goal

pub onto-requires : goal.onto-requires
onto-requires c = astray_onto _ _ _ c.args.preds.graph.shape.sound c.requires

pub lowest-start-requires : goal.lowest-start-requires
lowest-start-requires c = astray_on _ _ _ c.args.preds.graph.shape.sound c.requires _ c.onto.ensures

pub around-requires : goal.around-requires
around-requires c = astray_low _ _ _ c.args.preds.graph.shape.sound c.requires _ _ c.onto.ensures c.lowest-start.ensures
