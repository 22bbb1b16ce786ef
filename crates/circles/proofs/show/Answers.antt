-- `circles::show` meets its contract: what is listed is the trail of the circle that the search found.
use Rattle.circles.proofs.Rings.{circle_listable, circle_shown}
use Rattle.circles.proofs.show.Goals as goal

pub list-requires : goal.list-requires
list-requires c = circle_listable _ _ _ c.args.preds.graph.shape.sound c.requires _ _ c.circle.ensures

pub returns : goal.returns
returns c = circle_shown _ _ _ c.args.preds.graph.shape.sound c.requires _ _ _ c.circle.ensures c.list.ensures
