-- `rounds::round::copy` meets its contract: before each turn the first i elements of b are those of a.
use lib.IntN.{pos}
use Rattle.rounds.proofs.Copies.{Copied}
use Rattle.rounds.proofs.round.copy.Given as goal

abbrev pub invariant-loop-i : goal.invariant-loop-i
invariant-loop-i l = Copied (pos 0) l.a l.b l.i
