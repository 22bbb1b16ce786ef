-- `look::look` meets its contract: the first row is one that a relaxation may start from, and where it rests, so is the row that is kept.
use Rattle.look.proofs.Looks.{first_starts, looked_kept}
use Rattle.look.proofs.look.Goals as goal

pub go_on-requires : goal.go_on-requires
go_on-requires c = first_starts c.args.graph.shape c.requires c.first.ensures

pub returns : goal.returns
returns c = looked_kept c.args.graph.shape c.in_ok-rest.ensures.rests c.requires.lows c.keep-passed.ensures
