-- Which number is returned when, as a sentence about a file's result for each row of RULES 6.2: the lowest that applies; 1 to 6 exactly when
-- a look at the file finds that fault; 7 exactly when an accepted file finds too little room. What an accepted file with room enough gets,
-- `Demands` says. Each is what `Calls` says of the file's network and of the rows of its faults. Rests on `Calls`.
use Rattle.std.specs.Prelude.{Err}
use mathlib.Core.Path.{◌≡◌, ap, ◌∙◌}
use mathlib.Core.Logic.{◌↔◌}
use mathlib.Core.List.{List}
use Prim.Native.Nat.{ℕ, ◌+◌, ◌*◌, ◌<◌}
use lib.ListN.{length}
use Rattle.paper.specs.declared.Fault.{Fault}
use Rattle.paper.specs.declared.Refusal.{Refusal}
use Rattle.paper.specs.declared.Refusal.TheVariants as refusal
use Rattle.paper.specs.declared.Unanswered.TheVariants as unanswered
use Rattle.paper.specs.Network.{Network}
use Rattle.paper.specs.File.{network_of}
use Rattle.paper.specs.Table.{Row}
use Rattle.paper.specs.Refusals.{Accepted, faults, refusals}
use Rattle.paper.specs.Numbers.{Outcome, refusal_number, refusal_place, outcome_number, outcome_place}
use Rattle.paper.specs.Outcome.{Judged, Result, FileResult}
use Rattle.paper.proofs.TableLaws.{NoneBelow, Rising, given_row, given_lowest, refusals_rising, faults_one_place}
use Rattle.paper.proofs.NumberLaws.{none, refusal_in, refusal_above, refusal_known, faults_refuse, fault_of_row}
use Rattle.skew.proofs.Calls as calls

-- RULES 6.3: "Of the numbers from 1 on that apply, the lowest is returned": where a table stands in the order of its numbers, no row with a
-- lower number applies
pub lowest_given : {N : Network} {rows : List Row} {before after : List ℕ} {o : Outcome} → Rising 0 rows → Result N rows before o after
    → 0 < outcome_number o → NoneBelow (outcome_number o) rows
lowest_given {rows = rows} {o = o} rising r h =
    given_lowest 0 rows rising (outcome_number o) (outcome_place o) (given_row rows (outcome_number o) (outcome_place o) h r.given)

-- of a file's: no row of its refusals with a lower number applies, at any place
pub lowest_returned : (f : List ℕ) {before after : List ℕ} {o : Outcome} → FileResult f before o after → 0 < outcome_number o
    → NoneBelow (outcome_number o) (refusals f (length before))
lowest_returned f {before} r h = lowest_given (refusals_rising f (length before)) r h

module _ (f : List ℕ) {before after : List ℕ} {o : Outcome} (r : FileResult f before o after) where
  -- 1 to 6 (RULES 6.2): the outcome is a fault of the file exactly when a look at the file finds that fault
  pub fault_iff : (x : Fault) → (o ≡ Err (unanswered.Refused (refusal.File x))) ↔ Judged f (Err x)
  fault_iff x = calls.refused_iff (faults f) r (faults_one_place f) (refusal.File x)

  -- RULES 6.4: "accepted when none of the refusals that stand before 7 applies": when the outcome is none
  pub accepted_unless : Accepted f ↔ ((x : Refusal) → o ≡ Err (unanswered.Refused x) → ⊥)
  accepted_unless = calls.clear_iff (faults f) r (faults_refuse f)

  -- that is, when it is none of the file's faults
  pub accepted_iff : Accepted f ↔ ((x : Fault) → o ≡ Err (unanswered.Refused (refusal.File x)) → ⊥)
  accepted_iff = ((λ a x e. accepted_unless.0 a (refusal.File x) e), λ h. accepted_unless.1 (λ x e. other h x e))
    where
      other : ((x : Fault) → o ≡ Err (unanswered.Refused (refusal.File x)) → ⊥) → (x : Refusal) → o ≡ Err (unanswered.Refused x) → ⊥
      other h x e =
          let g = (calls.refused_iff (faults f) r (faults_one_place f) x).0 e in
          let y = fault_of_row f _ _ (given_row (faults f) (refusal_number x) (refusal_place x) (refusal_above x) g) in
          h y.0 (e ∙ ap (λ x. Err (unanswered.Refused x)) (refusal_known x (refusal.File y.0) y.1 y.2))

  -- in particular where the outcome is no refusal that comes before 7
  pub accepted_beyond : refusal_in o ≡ none → Accepted f
  accepted_beyond e = calls.clear_beyond (faults f) r (faults_refuse f) e

  -- 7 (RULES 6.2) is given exactly when an accepted file finds room below 14 + 16n
  pub refused_7_iff : Accepted f → (o ≡ Err unanswered.Room) ↔ (length before < 14 + 16 * (network_of f).registers)
  refused_7_iff a = calls.room_iff (faults f) r a
