-- The paper's rules as a family: its laws, and that schedules, loops, answers and refusals of the family are those of the network, in the
-- paper's words. Rests on `Places` and `Outcomes`.
use mathlib.Core.Path.{◌≡◌, refl}
use mathlib.Core.Logic.{◌⊎◌, inl, inr, ◌↔◌}
use mathlib.Core.List.{List, [], ◌∷◌}
use Prim.Native.Nat.{ℕ, suc, ◌≤◌}
use native.Mathlib.Omega.{arith}
use lib.IntN.{ℤ, pos, ◌-ℤ◌}
use lib.Signed.{◌≤ℤ◌}
use Rattle.whole.proofs.Lin.{lin, above, minus, negs}
use Rattle.paper.specs.Network.{Network}
use Rattle.paper.specs.Chains.{All}
use Rattle.paper.specs.declared.Rule.{Rule}
use Rattle.paper.specs.declared.Rule.TheVariants.{Setup, Hold, Low, High}
use Rattle.paper.specs.Rules.{base, amount}
use Rattle.paper.specs.Schedule.{Schedule, IsLoop, Contradicts, Refutes, Answer, Shown, setups}
use Rattle.paper.specs.Refusals.{Scheduled, NoPeriod, NoneToCeiling}
use Rattle.paper.proofs.RuleLaws.{arrow_is_rule, amount_falls}
use Rattle.loops.specs.Webs as webs
use Rattle.loops.specs.Family.{Lawful, web_at, Never, NoneTo, Best, ShownFrom, Always}
use Rattle.loops.specs.Family as family
use Rattle.loops.specs.RuleFamily.{IsFixed, rules}
use Rattle.loops.specs.Layout.{Joined}
use Rattle.loops.specs.Needs.{LeastSchedule, RefutesAlways}
use Rattle.loops.proofs.Webs.{schedule_no_loop}
use Rattle.loops.proofs.Families.{scheduled_later}
use Rattle.loops.proofs.Places.{rules_layout}
use Rattle.loops.proofs.Outcomes as outcomes

-- ---- rules that do not know the period

pub fixed_setups : (l : List Rule) → All IsFixed l ↔ (setups l ≡ 0)
fixed_setups l = (none l, fixed l)
  where
    none : (l : List Rule) → All IsFixed l → setups l ≡ 0
    none [] h = refl
    none (Setup p ∷ l) h = absurd h.0
    none (Hold p ∷ l) h = none l h.1
    none (Low i ∷ l) h = none l h.1
    none (High i ∷ l) h = none l h.1

    fixed : (l : List Rule) → setups l ≡ 0 → All IsFixed l
    fixed [] e = tt
    fixed (Setup p ∷ l) e = absurd (omega arith)
    fixed (Hold p ∷ l) e = (tt, fixed l e)
    fixed (Low i ∷ l) e = (tt, fixed l e)
    fixed (High i ∷ l) e = (tt, fixed l e)

module _ (N : Network) where
  amount_fixed : (P Q : ℕ) (r : Rule) → IsFixed r → amount N P r ≡ amount N Q r
  amount_fixed P Q (Setup p) z = absurd z
  amount_fixed P Q (Hold p) z = refl
  amount_fixed P Q (Low i) z = refl
  amount_fixed P Q (High i) z = refl

  -- the period that takes a setup rule's amount to b or below
  sunk : (r : Rule) → IsFixed r ⊎ ((b : ℤ) → (P : ℕ) × (amount N P r ≤ℤ b))
  sunk (Setup p) = inr (λ b. (above (base N (Setup p) -ℤ b), omega (lin, minus (base N (Setup p)) b, negs (pos (above (base N (Setup p) -ℤ b))))))
  sunk (Hold p) = inl tt
  sunk (Low i) = inl tt
  sunk (High i) = inl tt

  pub rules_lawful : Lawful (rules N)
  rules_lawful = record { falls = λ P Q h r. amount_falls N P Q r h; stays = amount_fixed; sinks = λ r h. sunk r }

  -- ---- schedules

  pub schedule_rules : (P : ℕ) (x : ℕ → ℤ) → webs.Schedule (web_at (rules N) P) x ↔ Schedule N P x
  schedule_rules P x = (
    λ s. record { host = s.host; meets = λ r h. (arrow_is_rule N P x r s.host).1 (s.meets r h) },
    λ s. record { host = s.host; meets = λ r h. (arrow_is_rule N P x r s.host).0 (s.meets r h) },
  )

  scheduled_rules : (P : ℕ) → webs.Scheduled (web_at (rules N) P) ↔ Scheduled N P
  scheduled_rules P = (λ s. (s.0, (schedule_rules P s.0).0 s.1), λ s. (s.0, (schedule_rules P s.0).1 s.1))

  least_rules : (P : ℕ) (x : ℕ → ℤ) → webs.Least (web_at (rules N) P) x → LeastSchedule N P x
  least_rules P x s = record { schedule = (schedule_rules P x).0 s.schedule; least = λ y t. s.least y ((schedule_rules P y).1 t) }

  -- a schedule at P is one at every longer period
  pub scheduled_stays : (P Q : ℕ) → P ≤ Q → Scheduled N P → Scheduled N Q
  scheduled_stays P Q h s = (scheduled_rules Q).0 (scheduled_later (rules N) rules_lawful P Q h ((scheduled_rules P).1 s))

  -- ---- loops

  pub contradicts_rules : (P : ℕ) (l : List Rule) → webs.Contradicts (web_at (rules N) P) l ↔ (IsLoop N l × Contradicts N P l)
  contradicts_rules P l = (
    λ c. (record { exist = c.exist; loop = c.loop }, c.above),
    λ c. record { loop = c.0.loop; exist = c.0.exist; above = c.1 },
  )

  pub refutes_rules : (P : ℕ) (l : List Rule) → family.Refutes (rules N) P l ↔ Refutes N P l
  refutes_rules P l = (
    λ r. let c = (contradicts_rules P l).0 r.contradicts in record { is_loop = c.0; listed = r.listed; contradicts = c.1 },
    λ r. record { contradicts = (contradicts_rules P l).1 (r.is_loop, r.contradicts); listed = r.listed },
  )

  pub shown_rules : (P : ℕ) (l : List Rule) → ShownFrom (rules N) N.floor P l → Shown N P l
  shown_rules P [] w = w
  shown_rules P (r ∷ l) w = (w.0, (refutes_rules _ (r ∷ l)).0 w.1)

  pub always_rules : (l : List Rule) → Always (rules N) l ↔ RefutesAlways N l
  always_rules l = (
    λ a. record { no_setups = (fixed_setups l).0 a.fixed; refutes = λ P. (refutes_rules P l).0 (a.refutes P) },
    λ a. record { fixed = (fixed_setups l).1 a.no_setups; refutes = λ P. (refutes_rules P l).1 (a.refutes P) },
  )

  -- Adding a schedule's inequalities around a loop: its amounts add up to at most 0.
  pub schedule_bars_loop : (P : ℕ) → Scheduled N P → (l : List Rule) → IsLoop N l → Contradicts N P l → ⊥
  schedule_bars_loop P s l i c =
      let t = (scheduled_rules P).1 s in
      schedule_no_loop (web_at (rules N) P) t.0 l t.1 ((contradicts_rules P l).1 (i, c))

  -- ---- answers and refusals

  pub best_answer : (P : ℕ) (x : ℕ → ℤ) → Best (rules N) N.floor N.ceiling P x → Answer N P x
  best_answer P x b = record {
    from_floor = b.from_floor;
    to_ceiling = b.to_ceiling;
    schedule = (schedule_rules P x).0 b.schedule;
    smallest = λ Q f h y t. b.smallest Q f h y ((schedule_rules Q y).1 t);
    least = λ y t. b.least y ((schedule_rules P y).1 t);
  }

  pub never_rules : Never (rules N) ↔ NoPeriod N
  never_rules = (
    λ none P h s. none P ((scheduled_rules P).1 s),
    λ none P s. none (suc P) (omega arith) (scheduled_stays P (suc P) (omega arith) ((scheduled_rules P).0 s)),
  )

  -- a period that has a schedule, counted from 1
  pub some_rules : (P : ℕ) × webs.Scheduled (web_at (rules N) P) → (P : ℕ) × (1 ≤ P) × Scheduled N P
  some_rules s = (suc s.0, omega arith, scheduled_stays s.0 (suc s.0) (omega arith) ((scheduled_rules s.0).0 s.1))

  pub none_rules : (P : ℕ) × (1 ≤ P) × Scheduled N P → NoneTo (rules N) N.ceiling → NoneToCeiling N
  none_rules s none = record { some = s; none = λ P h b t. none P b ((scheduled_rules P).1 t) }

-- ---- every network whose paths join registers

module _ (N : Network) (j : Joined N) where
  -- At a period there is a least schedule, or a loop that contradicts itself.
  pub least_or_refutes : (P : ℕ) → ((x : ℕ → ℤ) × LeastSchedule N P x) ⊎ ((l : List Rule) × Refutes N P l)
  least_or_refutes P = go (outcomes.least_or_refutes (rules N) (rules_lawful N) (rules_layout N j) P)
    where
      go : ((x : ℕ → ℤ) × webs.Least (web_at (rules N) P) x) ⊎ ((l : List Rule) × family.Refutes (rules N) P l)
          → ((x : ℕ → ℤ) × LeastSchedule N P x) ⊎ ((l : List Rule) × Refutes N P l)
      go (inl s) = inl (s.0, least_rules N P s.0 s.1)
      go (inr r) = inr (r.0, (refutes_rules N P r.0).0 r.1)

  -- A schedule exists exactly when no loop contradicts itself.
  pub scheduled_iff : (P : ℕ) → Scheduled N P ↔ ((l : List Rule) → IsLoop N l → Contradicts N P l → ⊥)
  scheduled_iff P = (
    schedule_bars_loop N P,
    λ none. (scheduled_rules N P).0 ((outcomes.scheduled_iff (rules N) (rules_lawful N) (rules_layout N j) P).1 (λ l c. let d = (contradicts_rules N P l).0 c in none l d.0 d.1)),
  )

  -- No period, however large, has a schedule exactly when a loop without setup rules contradicts itself.
  pub no_period_is : NoPeriod N ↔ ((l : List Rule) × IsLoop N l × (setups l ≡ 0) × ((P : ℕ) → Contradicts N P l))
  no_period_is = (λ none. shows ((outcomes.never_iff (rules N) (rules_lawful N) (rules_layout N j)).0 ((never_rules N).1 none)), λ h P b s. schedule_bars_loop N P s h.0 h.1 (h.3 P))
    where
      shows : (l : List Rule) × Always (rules N) l → (l : List Rule) × IsLoop N l × (setups l ≡ 0) × ((P : ℕ) → Contradicts N P l)
      shows (l, a) = let r = (always_rules N l).0 a in (l, (r.refutes 0).is_loop, r.no_setups, λ P. (r.refutes P).contradicts)

  -- No period has a schedule, or some have and none up to the ceiling, or the network is answered.
  pub answered_or_none : N.floor ≤ N.ceiling → NoPeriod N ⊎ NoneToCeiling N ⊎ ((P : ℕ) × (x : ℕ → ℤ) × Answer N P x)
  answered_or_none f = go (outcomes.outcome (rules N) (rules_lawful N) (rules_layout N j) N.floor N.ceiling f)
    where
      go : Never (rules N) ⊎ (((Q : ℕ) × webs.Scheduled (web_at (rules N) Q)) × NoneTo (rules N) N.ceiling) ⊎ ((P : ℕ) × (x : ℕ → ℤ) × Best (rules N) N.floor N.ceiling P x)
          → NoPeriod N ⊎ NoneToCeiling N ⊎ ((P : ℕ) × (x : ℕ → ℤ) × Answer N P x)
      go (inl n) = inl ((never_rules N).0 n)
      go (inr (inl n)) = inr (inl (none_rules N (some_rules N n.0) n.1))
      go (inr (inr b)) = inr (inr (b.0, b.1, best_answer N b.0 b.1 b.2))
