-- Schedules, loops and needs of an accepted network, in the paper's words on both sides. Each theorem is a law of `Rules` or `NeedLaws`,
-- which hold of every network with a host whose paths join registers; an accepted network is one. Rests on `Rules` and `NeedLaws`.
use mathlib.Core.Path.{◌≡◌}
use mathlib.Core.Logic.{◌⊎◌, ◌↔◌}
use mathlib.Core.List.{List}
use Prim.Native.Nat.{ℕ, ◌≤◌}
use lib.IntN.{ℤ}
use Rattle.paper.specs.declared.Rule.{Rule}
use Rattle.paper.specs.File.{network_of}
use Rattle.paper.specs.Schedule.{IsLoop, Contradicts, Answer, setups}
use Rattle.paper.specs.Refusals.{Accepted, Scheduled, NoPeriod, NoneToCeiling}
use Rattle.paper.proofs.Legal.{accepted_legal}
use Rattle.loops.specs.Layout.{Joined}
use Rattle.loops.specs.Needs.{GreatestNeed}
use Rattle.loops.proofs.Places.{legal_joined}
use Rattle.loops.proofs.Rules.{scheduled_iff, no_period_is, answered_or_none}
use Rattle.loops.proofs.NeedLaws.{answer_greatest_need, greatest_need_answer}
-- of every network: a schedule at P is one at every longer period
pub use Rattle.loops.proofs.Rules.{scheduled_stays}

accepted_joined : (f : List ℕ) → Accepted f → Joined (network_of f)
accepted_joined f a = legal_joined (network_of f) (accepted_legal f a)

-- For every period from 1 up, a schedule exists exactly when no loop contradicts itself. Adding a schedule's inequalities around a loop
-- gives: its amounts add up to at most 0. And where the model ends without a schedule, it ends with a loop.
pub schedule_iff_no_loop : (f : List ℕ) → Accepted f → (P : ℕ) → 1 ≤ P
    → Scheduled (network_of f) P ↔ ((l : List Rule) → IsLoop (network_of f) l → Contradicts (network_of f) P l → ⊥)
schedule_iff_no_loop f a P b = scheduled_iff (network_of f) (accepted_joined f a) P

-- No period, however large, has a schedule exactly when a loop without setup rules contradicts itself: relaxing the rules that do not know
-- the period ends with such a loop, or with a schedule of them, which is one of the network at every large enough period.
pub no_period_iff : (f : List ℕ) → Accepted f
    → NoPeriod (network_of f) ↔ ((l : List Rule) × IsLoop (network_of f) l × (setups l ≡ 0) × ((P : ℕ) → Contradicts (network_of f) P l))
no_period_iff f a = no_period_is (network_of f) (accepted_joined f a)

-- The answered period is the larger of the floor and the greatest need of any loop.
pub period_is_greatest_need : (f : List ℕ) → Accepted f → (P : ℕ) (x : ℕ → ℤ) → Answer (network_of f) P x → GreatestNeed (network_of f) P
period_is_greatest_need f a = answer_greatest_need (network_of f) (accepted_joined f a)

-- And where some period has a schedule, that number is answered if it is at most the ceiling.
pub answer_from_need : (f : List ℕ) → Accepted f → (P : ℕ) → (NoPeriod (network_of f) → ⊥) → GreatestNeed (network_of f) P → P ≤ (network_of f).ceiling
    → (x : ℕ → ℤ) × Answer (network_of f) P x
answer_from_need f a = greatest_need_answer (network_of f) (accepted_joined f a)

-- The answer and refusals 8 and 9 leave nothing out: no period has a schedule, or some have and none up to the ceiling, or there is an answer.
pub answer_or_none : (f : List ℕ) → Accepted f
    → NoPeriod (network_of f) ⊎ NoneToCeiling (network_of f) ⊎ ((P : ℕ) × (x : ℕ → ℤ) × Answer (network_of f) P x)
answer_or_none f a = answered_or_none (network_of f) (accepted_joined f a) (accepted_legal f a).ceiling_from
