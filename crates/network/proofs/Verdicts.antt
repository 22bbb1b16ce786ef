-- What a verdict tells a caller: an accepted file is accepted in the paper's sense, and a fault keeps its number and place in every longer
-- table that begins with the rows of the faults. Rests on `TableLaws` and `NumberLaws` of `paper`.
use Rattle.std.specs.Prelude.{Ok, Err}
use mathlib.Core.Path.{◌≡◌}
use mathlib.Core.List.{List, ◌++◌}
use Prim.Native.Nat.{ℕ}
use Rattle.paper.specs.declared.Fault.{Fault}
use Rattle.paper.specs.Table.{Row, Given}
use Rattle.paper.specs.Refusals.{faults, Accepted}
use Rattle.paper.specs.Numbers.{Verdict, fault_number, fault_place}
use Rattle.paper.specs.Outcome.{Judged}
use Rattle.paper.proofs.TableLaws.{given_clear, given_before, given_row, faults_numbered}
use Rattle.paper.proofs.NumberLaws.{fault_numbers}

-- no row applies to an accepted file
pub judged_accepted : (f : List ℕ) (v : Verdict) → Judged f v → v ≡ Ok tt → Accepted f
judged_accepted f v g e = given_clear (faults f) (faults_numbered f) 0 (rw e at g)

-- a fault is given by its row
pub judged_faulty : (f : List ℕ) (v : Verdict) (x : Fault) (more : List Row) → Judged f v → v ≡ Err x
    → Given (faults f ++ more) (fault_number x) (fault_place x)
judged_faulty f v x more g e = given_before (faults f) more _ _ (given_row (faults f) _ _ (fault_numbers x).0 (rw e at g))
