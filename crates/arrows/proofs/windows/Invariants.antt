-- `arrows::windows` meets its contract, register by register: both places lie within the lists, both amounts fit, and what is written are
-- the register's two rules.
use Rattle.paper.specs.File.{network_of}
use Rattle.arrows.specs.Filling.{Windows}
use Rattle.arrows.proofs.windows.Given as goal

abbrev pub invariant-loop-i : goal.invariant-loop-i
invariant-loop-i l = Windows (network_of l.file) l.rules l.arrows l.i
