-- `look::keep` meets its contract: what stands in the kept row is the first row, or a copy of the row that rests.
use Rattle.look.specs.Firsts.{anew, onward}
use Rattle.look.proofs.keep.Goals as goal

pub returns-then-rest-gt-MANY : goal.returns-then-rest-gt-MANY
returns-then-rest-gt-MANY c = anew c.first.ensures

pub returns : goal.returns
returns c = onward c.copy_from_slice.ensures.after c.copy_from_slice-2.ensures.after
