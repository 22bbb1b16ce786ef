-- `whole::round_up` meets its contract: from 0 up the quotient of the size is rounded up, below 0 it is rounded down and taken from 0.
use Rattle.std.proofs.Common.{rules}
use Rattle.std.proofs.lemmas.Int.{ints}
use Rattle.whole.proofs.Rounding.{up_from_zero, up_by_size}
use Rattle.whole.proofs.round_up.Goals as goal

pub returns-then-z-lt0 : goal.returns-then-z-lt0
returns-then-z-lt0 c = search (rules, ints, up_by_size)

pub returns-else-z-lt0 : goal.returns-else-z-lt0
returns-else-z-lt0 c = search (rules, ints, up_from_zero)
