-- The eleven networks worked by hand, as results: whatever the contract allows for a row's file is the row's result, but for the loop. One
-- law, by which a row that meets the definitions fixes its results, is taken over the table. Rests on `Unique` and on `worked_cases`.
use mathlib.Core.Path.{◌≡◌, refl}
use mathlib.Core.List.{List, [], ◌++◌}
use Prim.Native.Nat.{ℕ, ◌+◌, ◌*◌, ◌≤◌}
use lib.IntN.{pos}
use lib.ListN.{length, get_or, drop}
use Rattle.paper.specs.Network.{Network}
use Rattle.paper.specs.declared.Rule.{Rule}
use Rattle.paper.specs.Chains.{All}
use Rattle.paper.specs.File.{network_of}
use Rattle.paper.specs.Table.{Given}
use Rattle.paper.specs.Refusals.{refusals}
use Rattle.paper.specs.Numbers.{Outcome, outcome_number, outcome_place}
use Rattle.paper.specs.Outcome.{Left, FileResult}
use Rattle.worked.specs.Cases.{Expected, answered, refused_8, refused_9, Case, Comes, number_of, Worked, file_of, cases}
use Rattle.worked.specs.RequestCases.{request_cases}
use Rattle.paper.proofs.TableLaws.{refusals_one_place}
use Rattle.paper.proofs.NumberLaws.{outcome_one}
use Rattle.worked.proofs.WorkedCases.{worked_cases}
use Rattle.worked.proofs.RequestedCases.{requested_cases}
use Rattle.skew.specs.Rows.{outcome_of, loop_of, row_bytes, showing, AsRow, Promised}
use Rattle.paper.proofs.OutputLaws.{latencies_same}
use Rattle.paper.proofs.LoopLaws.{all_map}
use Rattle.skew.proofs.Unique.{answer_unique, floor_no_loop}

row_number : (e : Expected) → outcome_number (outcome_of e) ≡ number_of e
row_number (answered P latencies loop) = refl
row_number (refused_8 loop) = refl
row_number (refused_9 loop) = refl

row_place : (e : Expected) → outcome_place (outcome_of e) ≡ 0
row_place (answered P latencies loop) = refl
row_place (refused_8 loop) = refl
row_place (refused_9 loop) = refl

-- what comes of a network is left in the output
module _ (N : Network) (before : List ℕ) where
  row_left : (e : Expected) → Comes N e → Left N (outcome_of e) before (row_bytes e ++ drop (length (row_bytes e)) before)
  row_left (answered P latencies loop) c =
      record {
        period = P;
        latency = λ i. get_or latencies i (pos 0);
        loop = loop;
        answer = c.1;
        shown = c.2;
        bytes = cc c.0;
      }
  row_left (refused_8 loop) c = record { loop = loop; no_setups = c.1; refutes = c.2; bytes = refl }
  row_left (refused_9 loop) c = record { loop = loop; refutes = c.1; bytes = refl }

-- and whatever is left with the row's outcome is the row's, but for the loop
module _ (N : Network) (before after : List ℕ) where
  -- some loop that the paper allows stands where the row's does
  abbrev LeftAs : Expected → Type 0
  LeftAs e = (loop : List Rule) × Comes N (showing loop e) × (after ≡ row_bytes (showing loop e) ++ drop (length (row_bytes (showing loop e))) before)

  left_row : (e : Expected) → Comes N e → Left N (outcome_of e) before after → LeftAs e
  left_row (answered P latencies loop) c l =
      let one = answer_unique c.1 l.answer in
      let same = latencies_same (λ i. get_or latencies i (pos 0)) l.latency N.registers one.1 in
      let period = one.0 in
      (l.loop, (c.0, c.1, rw period l.shown), cc (c.0, l.bytes))
  left_row (refused_8 loop) c l = (l.loop, (c.0, l.no_setups, l.refutes), l.bytes)
  left_row (refused_9 loop) c l = (l.loop, (c.0, l.refutes), l.bytes)

  -- A row without a loop is answered at the floor, where any result has none.
  row_no_loop : (e : Expected) → Comes N e → LeftAs e → loop_of e ≡ [] → after ≡ row_bytes e ++ drop (length (row_bytes e)) before
  row_no_loop (answered P latencies loop) c l e =
      let floor : P ≡ N.floor = rw e at c.2 in
      let none = floor_no_loop N P l.0 l.1.2 floor in
      cc l.2
  row_no_loop (refused_8 loop) c l e = absurd (rw e at (c.2 0).is_loop.loop)
  row_no_loop (refused_9 loop) c l e = absurd (rw e at c.1.is_loop.loop)

-- A row that meets the definitions fixes its results: its number by the table of numbers, its period and latencies by `answer_unique`.
pub worked_promised : (c : Case) → Worked c → Promised c
worked_promised c w = record { allowed = allowed; only = only }
  where
    f : List ℕ
    f = file_of c.network

    given : (before : List ℕ) → 14 + 16 * (network_of f).registers ≤ length before
        → Given (refusals f (length before)) (outcome_number (outcome_of c.result)) (outcome_place (outcome_of c.result))
    given before enough = rw (row_number c.result, row_place c.result) (w.given (length before) enough)

    allowed : (before : List ℕ) → 14 + 16 * (network_of f).registers ≤ length before
        → FileResult f before (outcome_of c.result) (row_bytes c.result ++ drop (length (row_bytes c.result)) before)
    allowed before enough = record { given = given before enough; output = row_left (network_of f) before c.result w.comes }

    only : (before after : List ℕ) (o : Outcome) → 14 + 16 * (network_of f).registers ≤ length before → FileResult f before o after → AsRow c before o after
    only before after o enough r =
        let one = outcome_one (refusals_one_place f (length before)) r (allowed before enough) in
        let l = left_row (network_of f) before after c.result w.comes (rw one at r.output) in
        record {
          number_is = rw one (row_number c.result);
          place_is = rw one (row_place c.result);
          loop = l.0;
          comes = l.1;
          bytes = l.2;
          no_loop = row_no_loop (network_of f) before after c.result w.comes l;
        }

-- RULES 11.7: "The eleven are one table, and one statement is proved of the whole of it": the paper's results are the scheduler's
pub worked_results : All Promised cases
worked_results = all_map worked_promised cases worked_cases

-- RULES 16.14: "One statement is proved of the whole of each, of the same kind as for sections 11, 13 and 15.": so are those of the requests
pub requested_results : All Promised request_cases
requested_results = all_map worked_promised request_cases requested_cases
