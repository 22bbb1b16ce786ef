-- `guess::choose` meets its contract: what is noted at a register is an arrow into it.
use Rattle.loops.specs.Graphs.{of}
use Rattle.guess.specs.Guessing.{Chosen}
use Rattle.guess.proofs.choose.Given as goal

abbrev pub invariant-loop-e : goal.invariant-loop-e
invariant-loop-e l = Chosen (of l.graph) l.preds
