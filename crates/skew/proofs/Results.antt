-- Each way out of the scheduler satisfies the contract: a refusal that comes before 7, too little room, and the three ends of the search.
-- Of any network N and any rows t that come before 7. Rests on the laws of tables.
use Rattle.std.specs.Prelude.{Ok, Err}
use mathlib.Core.Path.{◌≡◌, refl}
use mathlib.Core.Logic.{inl, inr}
use mathlib.Core.List.{List, [], ◌∷◌, ◌++◌}
use Prim.Native.Nat.{ℕ, ◌+◌, ◌*◌, ◌≤◌, ◌<◌}
use native.Mathlib.Omega.{arith}
use lib.ListN.{length}
use borrow.Author.Tests.{le-leb, lt-leb}
use Rattle.paper.specs.Numbers.{Outcome, Verdict}
use Rattle.paper.specs.Network.{Network}
use Rattle.paper.specs.File.{network_of}
use Rattle.paper.specs.Table.{Row, When, Given, Clear}
use Rattle.paper.specs.Refusals.{schedule_rows, NoPeriod, NoneToCeiling}
use Rattle.paper.specs.Outcome.{Judged, Result, FileResult}
use Rattle.paper.specs.declared.Fault.{Fault}
use Rattle.paper.specs.declared.Refusal.TheVariants as refusal
use Rattle.paper.specs.declared.Unanswered.TheVariants as unanswered
use Rattle.paper.proofs.TableLaws.{given_after, passed}
use Rattle.network.proofs.Verdicts.{judged_faulty}
use Rattle.climb.specs.Solved.{Solved}

-- the table's last two rows
abbrev last_rows : Network → List Row
last_rows N =
    record { number = 8; applies = When (NoPeriod N) }
    ∷ record { number = 9; applies = When (NoneToCeiling N) }
    ∷ []

-- a fault that a look at the file found
pub result_fault : (f before : List ℕ) (v : Verdict) (x : Fault) → Judged f v → v ≡ Err x
    → FileResult f before (Err (unanswered.Refused (refusal.File x))) before
result_fault f before v x j e = record { given = judged_faulty f v x (schedule_rows (network_of f) (length before)) j e; output = refl }

module _ (N : Network) (t : List Row) (clear : Clear t) (before : List ℕ) where
  abbrev rows : List Row
  rows = schedule_rows N (length before)

  abbrev Allowed : Outcome → List ℕ → Type 0
  Allowed o after = Result N (t ++ rows) before o after

  -- too little room: number 7
  pub result_room : length before < 14 + 16 * N.registers → Allowed (Err unanswered.Room) before
  result_room h = record { given = given_after t rows 7 0 clear (inl (refl, (lt-leb _ _ h, refl))); output = refl }

  module _ (room : 14 + 16 * N.registers ≤ length before) (floor : 1 ≤ N.floor) where
    -- the rows 8 and 9 are looked at once there is room
    roomy : {n p : ℕ} → Given (last_rows N) n p → Given rows n p
    roomy g = inr (passed (le-leb _ _ room), g)

    -- what the search comes to: an answer, number 8 or number 9
    pub result_solved : (o : Outcome) (after : List ℕ) → Solved N before o after → Allowed o after
    result_solved (Ok tt) after s =
        let a = s.answer in
        let low = a.from_floor in
        record {
          given =
              given_after t rows 0 0 clear
              (roomy
              (inr (
                (λ q r. r.0 s.period (omega arith) (s.latency, a.schedule)),
                inr ((λ q r. r.0.none s.period (omega arith) a.to_ceiling (s.latency, a.schedule)), (refl, refl)),
              )));
          output = s;
        }
    result_solved (Err unanswered.NoPeriod) after s =
        record { given = given_after t rows 8 0 clear (roomy (inl (refl, (s.0, refl)))); output = s.1 }
    result_solved (Err unanswered.NoneToCeiling) after s =
        record {
          given =
              given_after t rows 9 0 clear
              (roomy (inr ((λ q r. let p = s.0.some in r.0 p.0 p.1 p.2), inl (refl, (s.0, refl)))));
          output = s.1;
        }
    result_solved (Err (unanswered.Refused x)) after s = absurd s
    result_solved (Err unanswered.Room) after s = absurd s
