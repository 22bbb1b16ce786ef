-- `skew::schedule::schedule` meets its contract: the faults and too little room are found by search, and the end of the search is
-- `result_solved`.
use native.Mathlib.Omega.{arith}
use mathlib.Core.Path.{refl}
use Rattle.std.specs.Prelude.{Ok}
use borrow.Author.Rules.{rules}
use Rattle.paper.specs.Refusals.{Accepted, faults}
use Rattle.paper.proofs.Legal.{accepted_legal}
use Rattle.network.proofs.Verdicts.{judged_accepted}
use Rattle.skew.proofs.Limits.{counts_few}
use Rattle.skew.proofs.Results.{result_solved}
use Rattle.skew.proofs.schedule.schedule.Goals as goal

pub overflow_mul-h : goal.overflow_mul-h
overflow_mul-h c =
    let a : Accepted c.args.file.now = judged_accepted _ (Ok tt) c.in_ok-judge.ensures refl in
    omega (arith, counts_few _ a c.header-h.ensures)

pub overflow_add-h : goal.overflow_add-h
overflow_add-h c =
    let a : Accepted c.args.file.now = judged_accepted _ (Ok tt) c.in_ok-judge.ensures refl in
    omega (arith, counts_few _ a c.header-h.ensures)

pub returns : goal.returns
returns c =
    let a : Accepted c.args.file.now = judged_accepted _ (Ok tt) c.in_ok-judge.ensures refl in
    result_solved _ (faults c.args.file.now) a _ (search rules) (accepted_legal _ a).floor_from _ _ c.solve.ensures
