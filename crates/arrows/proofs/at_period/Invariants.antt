-- `arrows::at_period` meets its contract: path by path the setup rule's amount is written, and nothing else.
use Rattle.loops.specs.Layout.{fixed_places}
use Rattle.arrows.specs.Filled.{WeighedBelow}
use Rattle.arrows.proofs.at_period.Given as goal

abbrev pub invariant-loop-p : goal.invariant-loop-p
invariant-loop-p l = WeighedBelow (fixed_places l.fn.places.registers l.fn.places.paths) l.fn.places.paths l.fn.period l.base l.initial.arrows l.arrows l.p
