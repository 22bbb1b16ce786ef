-- `whole::within` meets its contract: the library's order of two numbers is the paper's, at both ends.
use Rattle.std.proofs.Common.{◌≡◌, arith, ℤ}
use Rattle.std.proofs.lemmas.Int.{ints}
use Rattle.std.specs.Ordering.{int_cmp, as_partial_cmp, partial_le}
use Rattle.std.specs.Int.Signed.{le_z}
use mir.Facts.{to_z-of_z}
use Rattle.whole.specs.Within.{within}
use Rattle.whole.proofs.within.Goals as goal

-- at most, by the library's order of numbers
le_is : (a b : ℤ) → partial_le (as_partial_cmp int_cmp) a b ≡ le_z a b
le_is a b = grind (arith, ints)

pub returns : goal.returns
unfolding within
returns c = let k = c.new.ensures in grind (arith, to_z-of_z, le_is, k.start, k.end, k.exhausted)
