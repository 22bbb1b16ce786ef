-- What the returned values promise an accepted file: the answer is the paper's, a file goes unanswered exactly when there is none, the
-- period is the greatest need, and the loop that is shown proves it. Each theorem speaks of a result, that is of what the scheduler returns
-- and leaves. Rests on `Calls` and on the theorems on schedules and loops, of which the two named last are handed on.
use Rattle.std.specs.Prelude.{Ok, Err}
use mathlib.Core.Path.{◌≡◌, refl}
use mathlib.Core.Logic.{◌↔◌, ◌⊎◌}
use mathlib.Core.List.{List, [], ◌∷◌, ◌++◌}
use Prim.Native.Nat.{ℕ, ◌+◌, ◌-◌, ◌*◌, ◌≤◌, ◌<◌}
use native.Mathlib.Omega.{arith}
use native.Mathlib.Decide.{dec_lt}
use lib.IntN.{ℤ}
use lib.ListN.{length}
use Rattle.whole.proofs.Lin.{lin}
use Rattle.whole.proofs.Sums.{total_mono}
use Rattle.paper.specs.Numbers.{Outcome}
use Rattle.paper.specs.declared.Unanswered.TheVariants as unanswered
use Rattle.paper.specs.Network.{Network}
use Rattle.paper.specs.declared.Rule.{Rule}
use Rattle.paper.specs.Rules.{amount}
use Rattle.paper.specs.Schedule.{Answer, Refutes, Shown, setups}
use Rattle.paper.specs.File.{network_of}
use Rattle.paper.specs.Table.{Row}
use Rattle.paper.specs.Refusals.{Accepted, Scheduled, NoPeriod, NoneToCeiling, faults, schedule_rows}
use Rattle.paper.specs.Outcome.{Result, FileResult}
use Rattle.paper.proofs.Legal.{accepted_legal}
use Rattle.paper.proofs.NumberLaws.{Refuses, faults_refuse}
use Rattle.paper.proofs.RuleLaws.{amount_falls}
use Rattle.paper.proofs.LoopLaws.{contradicts_below_need, contradicts_always, no_schedule}
use Rattle.loops.specs.Needs.{GreatestNeed}
use Rattle.loops.proofs.NeedLaws.{need_is}
use Rattle.loops.proofs.Rules.{schedule_bars_loop}
use Rattle.skew.specs.Proves.{ProvesLeast, ProvesNone, ProvesNoneToCeiling, LoopProves}
use Rattle.skew.proofs.Numbers.{accepted_beyond}
use Rattle.skew.proofs.Calls as calls
-- RULES 10.8: "For every accepted network and every whole period from 1 up, a schedule exists exactly when no loop contradicts itself."
pub use Rattle.loops.proofs.Theorems.{schedule_iff_no_loop}
-- of an answer, RULES 10.9: "The returned period is the larger of the floor and the greatest need."
pub use Rattle.loops.proofs.Theorems.{period_is_greatest_need}

-- ---- the answer

-- RULES 10.4: "An answered network gets the smallest whole period from its floor to its ceiling at which some whole latencies meet every
-- setup, hold and window rule."
-- RULES 10.5: "At that period each register gets the smallest latency that it has in any such schedule." Of any network and any table of
-- numbers.
pub returned_answer : {N : Network} {rows : List Row} {before after : List ℕ} (r : Result N rows before (Ok tt) after)
    → Answer N r.output.period r.output.latency
returned_answer r = r.output.answer

module _ (f : List ℕ) {before after : List ℕ} {o : Outcome} (a : Accepted f) (enough : 14 + 16 * (network_of f).registers ≤ length before) (r : FileResult f before o after) where
  -- 0 (RULES 6.8): an accepted file with room enough is answered exactly when there is an answer.
  pub answered_iff : (o ≡ Ok tt) ↔ ((P : ℕ) × (x : ℕ → ℤ) × Answer (network_of f) P x)
  answered_iff = calls.answered_iff (faults f) r a enough (accepted_legal f a).floor_from

  -- RULES 10.6: "An accepted file with room enough goes without an answer exactly when no such period exists."
  pub unanswered_iff : (o ≡ Ok tt → ⊥) ↔ ((P : ℕ) → (network_of f).floor ≤ P → P ≤ (network_of f).ceiling → Scheduled (network_of f) P → ⊥)
  unanswered_iff = calls.unanswered_iff (faults f) r a enough (accepted_legal f a).floor_from

  -- 8 (RULES 6.2) is given exactly when there is no schedule at any whole period, however large
  pub refused_8_iff : (o ≡ Err unanswered.NoPeriod) ↔ NoPeriod (network_of f)
  refused_8_iff = calls.no_period_iff (faults f) r a enough (accepted_legal f a).floor_from

  -- 9 (RULES 6.2) is given exactly when there is a schedule at some period, but at none up to the ceiling
  pub refused_9_iff : (o ≡ Err unanswered.NoneToCeiling) ↔ NoneToCeiling (network_of f)
  refused_9_iff = calls.none_to_ceiling_iff (faults f) r a enough (accepted_legal f a).floor_from

  -- and nothing else is returned
  pub answered_or_refused : (o ≡ Ok tt) ⊎ (o ≡ Err unanswered.NoPeriod) ⊎ (o ≡ Err unanswered.NoneToCeiling)
  answered_or_refused = calls.answered_or_refused (faults f) r a enough (accepted_legal f a).floor_from

-- ---- its period, and the loop that is shown

-- So RULES 10.9: "The returned period is the larger of the floor and the greatest need."
pub returned_period : (f : List ℕ) {before after : List ℕ} (r : FileResult f before (Ok tt) after)
    → GreatestNeed (network_of f) r.output.period
returned_period f r =
    let a = accepted_beyond f r refl in
    period_is_greatest_need f a r.output.period r.output.latency (returned_answer r)

module _ (N : Network) where
  -- a loop that contradicts itself at P does so at every shorter period: there no amount is less
  refutes_before : (P Q : ℕ) (l : List Rule) → Refutes N P l → Q ≤ P → Refutes N Q l
  refutes_before P Q l r h =
      let over = r.contradicts in
      record {
        is_loop = r.is_loop;
        listed = r.listed;
        contradicts = omega (lin, total_mono (amount N P) (amount N Q) l (λ e. amount_falls N Q P e h));
      }

  -- The loop at period - 1 has a setup rule, for without one it would contradict itself at the period too, and it needs the period.
  shown_least : (P : ℕ) (x : ℕ → ℤ) (l : List Rule) → Answer N P x → Shown N P l → N.floor < P → ProvesLeast N P l
  shown_least P x [] a s h = absurd (omega arith)
  shown_least P x (r ∷ l) a s h =
      let k = need_is N P (omega arith) (x, a.schedule) (r ∷ l) s.1 in
      record {
        refutes = λ Q b. refutes_before (P - 1) Q (r ∷ l) s.1 (omega arith);
        none = λ Q b t. no_schedule N (P - 1) Q (r ∷ l) s.1 (omega arith) t.0 t.1;
        has_setup = k.0;
        needs = k.1;
      }

  shown_none : (l : List Rule) → setups l ≡ 0 → ((P : ℕ) → Refutes N P l) → ProvesNone N l
  shown_none l e r = record { no_setups = e; refutes = r; none = λ P b s. no_schedule N P P l (r P) (omega arith) s.0 s.1 }

  -- The loop at the ceiling has a setup rule, for without one it would contradict itself at the period that has a schedule.
  shown_none_to_ceiling : (l : List Rule) → NoneToCeiling N → Refutes N N.ceiling l → ProvesNoneToCeiling N l
  shown_none_to_ceiling l n r =
      record {
        refutes = λ Q b. refutes_before N.ceiling Q l r b;
        none = λ Q b t. no_schedule N N.ceiling Q l r b t.0 t.1;
        has_setup = some;
        needs = (contradicts_below_need N N.ceiling l some).0 r.contradicts;
      }
    where
      go : Dec (0 < setups l) → 0 < setups l
      go (yes k) = k
      go (no k) =
          let s = n.some in
          absurd (schedule_bars_loop N s.0 s.2 l r.is_loop ((contradicts_always N N.ceiling s.0 l (omega arith)).0 r.contradicts))

      some : 0 < setups l
      some = go (dec_lt 0 (setups l))

-- Whatever the network, and whatever refusals its table has before 7: the loop that is shown proves it.
pub loop_shown : (t : List Row) → Refuses t → (N : Network) {before after : List ℕ} (o : Outcome)
    (r : Result N (t ++ schedule_rows N (length before)) before o after) → LoopProves N before o after r.output
loop_shown t k N (Ok tt) r =
    shown_least N r.output.period r.output.latency r.output.loop r.output.answer r.output.shown
loop_shown t k N (Err (unanswered.Refused x)) r = tt
loop_shown t k N (Err unanswered.Room) r = tt
loop_shown t k N (Err unanswered.NoPeriod) r = shown_none N r.output.loop r.output.no_setups r.output.refutes
loop_shown t k N {before} (Err unanswered.NoneToCeiling) r =
    let clear = calls.clear_beyond t r k refl in
    shown_none_to_ceiling N r.output.loop (calls.given_9 N (length before) 0 (calls.rest_given t r clear)) r.output.refutes

-- RULES 10.10: "Where that period is above the floor, or where there is no answer, a loop that proves it is shown, given room enough."
pub shown_loop : (f : List ℕ) {before after : List ℕ} (o : Outcome) (r : FileResult f before o after)
    → LoopProves (network_of f) before o after r.output
shown_loop f o r = loop_shown (faults f) (faults_refuse f) (network_of f) o r
