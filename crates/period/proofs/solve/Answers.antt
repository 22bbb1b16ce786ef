-- `period::solve` meets its contract: the module's own memory is large enough for every accepted network.
use native.Mathlib.Omega.{arith}
use Rattle.paper.proofs.Legal.{accepted_legal}
use Rattle.arrows.proofs.Laid.{rules_few}
use Rattle.period.proofs.Searches.{accepted_held}
use Rattle.period.proofs.solve.Goals as goal

pub fill-requires : goal.fill-requires
fill-requires c =
    let l = accepted_legal _ c.requires.0 in
    let r = rules_few _ l in
    let q = l.paths_to in
    record { source = record { accepted = c.requires.0; header = c.header-h.ensures }; room = record { in_rules = omega arith; in_arrows = omega arith; in_bases = omega arith } }

pub search-requires : goal.search-requires
search-requires c =
    let e = c.header-h.ensures.registers in
    let room = c.requires.1 in
    record { network = _; held = accepted_held _ c.requires.0 c.header-h.ensures c.fill.ensures; output = omega arith }

pub returns : goal.returns
returns c = c.search.ensures _ (accepted_held _ c.requires.0 c.header-h.ensures c.fill.ensures)
