use native.Mathlib.Omega.{arith}
use lib.IntN.{pos}
use Rattle.rounds.proofs.Copies.{copied_all}
use Rattle.rounds.proofs.round.copy.Goals as goal

pub returns : goal.returns
returns c = let t = c.loop-i-test.false in let l = c.loop-i.auto.i-end in copied_all (pos 0) _ _ _ (omega arith) c.loop-i.invariant
