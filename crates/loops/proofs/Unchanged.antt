-- Where the mended hold rule changed nothing, against u charged everywhere: where no path is a self path or u is 0, and of every network that 8 did not
-- apply to. There schedules, loops, the answer and refusals 8 and 9 are what they were. Rests on `Charged`, and on `LoopLaws` of `paper`.
use mathlib.Core.Path.{◌≡◌, refl, sym, ap₂}
use mathlib.Core.Logic.{◌⊎◌, inl, inr, ◌↔◌}
use mathlib.Core.List.{List, [], ◌∷◌}
use Prim.Native.Nat.{ℕ, ◌+◌, ◌≤◌, ◌<◌}
use native.Mathlib.Decide.{ℕ_discrete, dec_le}
use lib.IntN.{ℤ, pos, ◌+ℤ◌, ◌-ℤ◌}
use lib.Signed.{◌≤ℤ◌, ◌<ℤ◌}
use Rattle.whole.specs.Sums.{total}
use Rattle.whole.proofs.Lin.{lin, above, below, minus, negs}
use Rattle.paper.specs.Network.{Network}
use Rattle.paper.specs.Legal.{Legal}
use Rattle.paper.specs.Chains.{All, Loop}
use Rattle.paper.specs.declared.Rule.{Rule}
use Rattle.paper.specs.declared.Rule.TheVariants.{Setup, Hold, Low, High}
use Rattle.paper.specs.Rules.{Exists, charged, tail, head, amount}
use Rattle.paper.specs.Schedule.{Schedule, IsLoop, Contradicts, Refutes, Answer, Shown}
use Rattle.paper.specs.Refusals.{Scheduled, NoPeriod, NoneToCeiling}
use Rattle.paper.proofs.LoopLaws.{Apart, alone_or_apart}
use Rattle.paper.proofs.ChargeLaws.{other_path_charged}
use Rattle.loops.specs.Family.{ShownFrom}
use Rattle.loops.specs.Family as family
use Rattle.loops.proofs.Rules.{schedule_rules}
use Rattle.loops.proofs.Charged.{charged_everywhere, amount_everywhere, everywhere, ScheduleEverywhere, AnswerEverywhere, ScheduledEverywhere, NoPeriodEverywhere, NoneToCeilingEverywhere, SelfUncharged, same_charge, still_schedule, total_less}

-- a number that is on both sides tells nothing
both_sides : (y s d : ℤ) → (y +ℤ (s -ℤ d)) ≤ℤ y → s ≤ℤ d
both_sides y s d h = omega (lin, minus s d)

-- one of two numbers is at most the other, or is above it
either_way : (a b : ℤ) → (a ≤ℤ b) ⊎ (b <ℤ a)
either_way a b = go (dec_le (above a + below b) (above b + below a))
  where
    go : Dec (above a + below b ≤ above b + below a) → (a ≤ℤ b) ⊎ (b <ℤ a)
    go (yes h) = inl (omega lin)
    go (no h) = inr (omega lin)

-- a difference is at most 0 where no more is taken from
at_most : (s d : ℤ) → s ≤ℤ d → (s -ℤ d) ≤ℤ pos 0
at_most s d h = omega (lin, negs d)

-- a rule that asks what it asked, or that leads back to the register it leaves and asked nothing of its latency
abbrev Alike : Network → ℕ → Rule → Type 0
Alike N P r = (amount N P r ≡ amount_everywhere N P r) ⊎ ((tail N r ≡ head N r) × (amount_everywhere N P r ≤ℤ pos 0))

-- what the hold rule of path p asked of dmin, beside the latencies
abbrev pub asked : Network → ℕ → ℤ
asked N p = N.hold (N.to p) +ℤ charged_everywhere N p

-- Of a path: its hold rule is charged what it was, or it is a self path that met its hold rule with u charged. So of every path of a network.
abbrev pub PathUnchanged : Network → ℕ → Type 0
PathUnchanged N p = (charged N p ≡ charged_everywhere N p) ⊎ ((N.from p ≡ N.to p) × (asked N p ≤ℤ N.dmin p))

abbrev pub Unchanged : Network → Type 0
Unchanged N = (p : ℕ) → p < N.paths → PathUnchanged N p

module _ (N : Network) where
  -- RULES 16.8: "Where a network has no self path, or u is 0"
  pub unchanged_if_none : ((p : ℕ) → p < N.paths → SelfUncharged N p) → Unchanged N
  unchanged_if_none none p h = inl (same_charge N p (none p h))

  -- RULES 16.9: "where some period has a schedule with u charged everywhere, all self paths meet their hold rules even so": the register's latency
  -- stands on both sides
  pub self_met : (P : ℕ) → ScheduledEverywhere N P → (p : ℕ) → p < N.paths → N.from p ≡ N.to p → asked N p ≤ℤ N.dmin p
  self_met P s p h self = both_sides (s.0 (N.to p)) (asked N p) (N.dmin p) (rw self at (s.1.meets (Hold p) h))

  -- RULES 16.9: "Only a network that is refused with 8 when u is charged everywhere can have another result.": a self path met its hold rule, or did not
  -- and barred every period.
  pub unchanged_unless_8 : (NoPeriodEverywhere N → ⊥) → Unchanged N
  unchanged_unless_8 not-8 p h = go (ℕ_discrete (N.from p) (N.to p)) (either_way (asked N p) (N.dmin p))
    where
      barred : N.from p ≡ N.to p → N.dmin p <ℤ asked N p → NoPeriodEverywhere N
      barred self less P from s = let met = self_met P s p h self in omega lin

      go : Dec (N.from p ≡ N.to p) → (asked N p ≤ℤ N.dmin p) ⊎ (N.dmin p <ℤ asked N p) → PathUnchanged N p
      go (no apart) m = inl (other_path_charged N p apart)
      go (yes self) (inl met) = inr (self, met)
      go (yes self) (inr less) = absurd (not-8 (barred self less))

  -- in particular where some period had a schedule
  pub unchanged_if_scheduled : (P : ℕ) → 1 ≤ P → ScheduledEverywhere N P → Unchanged N
  unchanged_if_scheduled P from s = unchanged_unless_8 (λ none. none P from s)

module _ (N : Network) (l : Legal N) (same : Unchanged N) where
  alike : (P : ℕ) (r : Rule) → Exists N r → Alike N P r
  alike P (Setup p) h = inl refl
  alike P (Hold p) h = go (same p h)
    where
      go : PathUnchanged N p → Alike N P (Hold p)
      go (inl same) = inl (rw same refl)
      go (inr met) = inr (sym met.0, at_most (asked N p) (N.dmin p) met.1)
  alike P (Low i) h = inl refl
  alike P (High i) h = inl refl

  -- A row that meets a rule met it with u charged everywhere: it is the same rule, or one that every row meets.
  met_before : (P : ℕ) (x : ℕ → ℤ) (r : Rule) → Alike N P r → (x (tail N r) +ℤ amount N P r) ≤ℤ x (head N r)
      → (x (tail N r) +ℤ amount_everywhere N P r) ≤ℤ x (head N r)
  met_before P x r (inl same) m = rw (← same) m
  met_before P x r (inr met) m = let none = met.1 in rw met.0 (omega lin)

  -- so the schedules are the same
  pub same_schedule : (P : ℕ) (x : ℕ → ℤ) → ScheduleEverywhere N P x ↔ Schedule N P x
  same_schedule P x = (
    still_schedule N l P x,
    λ s. let t = (schedule_rules N P x).1 s in
        record { host = t.host; meets = λ r h. met_before P x r (alike P r h) (t.meets r h) },
  )

  same_totals : (P : ℕ) (m : List Rule) → All (Exists N) m → All (Apart (tail N) (head N)) m
      → total (amount_everywhere N P) m ≡ total (amount N P) m
  same_totals P [] h a = refl
  same_totals P (r ∷ m) h a = ap₂ ◌+ℤ◌ (go (alike P r h.0)) (same_totals P m h.1 a.1)
    where
      go : Alike N P r → amount_everywhere N P r ≡ amount N P r
      go (inl same) = sym same
      go (inr met) = absurd (a.0 met.0)

  -- A loop that contradicted itself does: a rule that asks less is a loop by itself, and did not.
  still_above : (P : ℕ) (m : List Rule) → Loop (tail N) (head N) m → All (Exists N) m → pos 0 <ℤ total (amount_everywhere N P) m → pos 0 <ℤ total (amount N P) m
  still_above P m c h over = go (alone_or_apart (tail N) (head N) m c)
    where
      single : (r : Rule) → Alike N P r → pos 0 <ℤ (amount_everywhere N P r +ℤ pos 0) → pos 0 <ℤ (amount N P r +ℤ pos 0)
      single r (inl same) o = rw same o
      single r (inr met) o = let none = met.1 in absurd (omega lin)

      go : ((r : Rule) × (m ≡ r ∷ [])) ⊎ All (Apart (tail N) (head N)) m → pos 0 <ℤ total (amount N P) m
      go (inl (r, is)) = rw is (single r (alike P r (rw is at h).0) (rw is at over))
      go (inr apart) = rw (← (same_totals P m h apart)) over

  -- so the loops that contradict themselves are the same
  pub same_contradicts : (P : ℕ) (m : List Rule) → IsLoop N m → (pos 0 <ℤ total (amount_everywhere N P) m) ↔ Contradicts N P m
  same_contradicts P m i = (
    still_above P m i.loop i.exist,
    λ over. let more = total_less N l P m i.exist in omega lin,
  )

  -- and those that may be shown
  pub same_refutes : (P : ℕ) (m : List Rule) → family.Refutes (everywhere N) P m ↔ Refutes N P m
  same_refutes P m = (
    λ r. let c = r.contradicts in
        let i : IsLoop N m = record { exist = c.exist; loop = c.loop } in
        record { is_loop = i; listed = r.listed; contradicts = (same_contradicts P m i).0 c.above },
    λ r. let i = r.is_loop in
        record {
          contradicts = record { loop = i.loop; exist = i.exist; above = (same_contradicts P m i).1 r.contradicts };
          listed = r.listed;
        },
  )

  pub same_shown : (P : ℕ) (m : List Rule) → ShownFrom (everywhere N) N.floor P m ↔ Shown N P m
  same_shown P [] = ((λ e. e), (λ e. e))
  same_shown P (r ∷ m) = ((λ s. (s.0, (same_refutes _ (r ∷ m)).0 s.1)), (λ s. (s.0, (same_refutes _ (r ∷ m)).1 s.1)))

  -- and the answer
  pub same_answer : (P : ℕ) (x : ℕ → ℤ) → AnswerEverywhere N P x ↔ Answer N P x
  same_answer P x = (
    λ b. record {
      from_floor = b.from_floor;
      to_ceiling = b.to_ceiling;
      schedule = (same_schedule P x).0 b.schedule;
      smallest = λ Q f h y t. b.smallest Q f h y ((same_schedule Q y).1 t);
      least = λ y t. b.least y ((same_schedule P y).1 t);
    },
    λ b. record {
      from_floor = b.from_floor;
      to_ceiling = b.to_ceiling;
      schedule = (same_schedule P x).1 b.schedule;
      smallest = λ Q f h y t. b.smallest Q f h y ((same_schedule Q y).0 t);
      least = λ y t. b.least y ((same_schedule P y).0 t);
    },
  )

  -- and which periods have a schedule
  pub same_scheduled : (P : ℕ) → ScheduledEverywhere N P ↔ Scheduled N P
  same_scheduled P = ((λ s. (s.0, (same_schedule P s.0).0 s.1)), (λ s. (s.0, (same_schedule P s.0).1 s.1)))

  -- and so refusals 8 and 9
  pub same_no_period : NoPeriodEverywhere N ↔ NoPeriod N
  same_no_period = ((λ none P h s. none P h ((same_scheduled P).1 s)), (λ none P h s. none P h ((same_scheduled P).0 s)))

  pub same_none_to_ceiling : NoneToCeilingEverywhere N ↔ NoneToCeiling N
  same_none_to_ceiling = (
    λ n. let s = n.0 in
        record { some = (s.0, s.1, (same_scheduled s.0).0 s.2); none = λ P h b t. n.1 P h b ((same_scheduled P).1 t) },
    λ n. let s = n.some in
        ((s.0, s.1, (same_scheduled s.0).1 s.2), (λ P h b t. n.none P h b ((same_scheduled P).0 t))),
  )
