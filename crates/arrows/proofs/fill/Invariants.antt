-- `arrows::fill` meets its contract: the windows stand, and path by path both places lie within the lists, both amounts fit, and what is
-- written are the path's two rules.
use Rattle.paper.specs.File.{network_of}
use Rattle.arrows.specs.Filling.{Paths}
use Rattle.arrows.proofs.fill.Given as goal

abbrev pub invariant-loop-p : goal.invariant-loop-p
invariant-loop-p l = Paths (network_of l.file) l.rules l.arrows l.base l.p
