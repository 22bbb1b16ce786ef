-- The hold rule before section 16 of the rules, with u charged everywhere, in the hold rule of a self path too. It is kept here, for the laws that
-- hold the two against each other: no rule asks more than it asked, and a self path's hold rule has more slack by u. `Unchanged` has those on what did
-- not change. Rests on `Webs`, `Rules`, and on `ChargeLaws` of `paper`.
use mathlib.Core.Path.{◌≡◌, refl}
use mathlib.Core.Logic.{◌⊎◌, inl, inr, ◌↔◌}
use mathlib.Core.List.{List, [], ◌∷◌}
use Prim.Native.Nat.{ℕ, ◌≤◌}
use lib.IntN.{ℤ, pos, ◌+ℤ◌, ◌-ℤ◌}
use lib.Signed.{◌≤ℤ◌}
use Rattle.whole.specs.Sums.{total}
use Rattle.whole.proofs.Lin.{lin, plus, minus, negs}
use Rattle.paper.specs.Network.{Network}
use Rattle.paper.specs.Legal.{Legal}
use Rattle.paper.specs.Chains.{All}
use Rattle.paper.specs.declared.Rule.{Rule}
use Rattle.paper.specs.declared.Rule.TheVariants.{Setup, Hold, Low, High}
use Rattle.paper.specs.Rules.{Exists, Holds, ◌≥ℤ◌, charged, tail, head, amount, slack}
use Rattle.paper.specs.Schedule.{Schedule}
use Rattle.paper.proofs.RuleLaws.{arrow_is_rule}
use Rattle.paper.proofs.ChargeLaws.{self_path_uncharged, other_path_charged, nothing_charged, charge_most}
use Rattle.loops.specs.Webs.{Within}
use Rattle.loops.specs.Webs as webs
use Rattle.loops.specs.Family.{Family, web_at, Best}
use Rattle.loops.specs.RuleFamily.{IsFixed, graph_of, rules}
use Rattle.loops.proofs.Webs.{within_schedule}
use Rattle.loops.proofs.Rules.{schedule_rules}

-- ---- the rule as it was

-- what the hold rule of path p was charged
abbrev pub charged_everywhere : Network → ℕ → ℤ
charged_everywhere N p = N.uncertainty p

module _ (N : Network) where
  -- the rules, as the third column of their table then wrote them
  abbrev pub HoldsEverywhere : ℕ → (ℕ → ℤ) → Rule → Type 0
  HoldsEverywhere P x (Setup p) = Holds N P x (Setup p)
  HoldsEverywhere P x (Hold p) = (x (N.from p) +ℤ N.dmin p) ≥ℤ (x (N.to p) +ℤ N.hold (N.to p) +ℤ charged_everywhere N p)
  HoldsEverywhere P x (Low i) = Holds N P x (Low i)
  HoldsEverywhere P x (High i) = Holds N P x (High i)

  -- and their amounts
  abbrev pub amount_everywhere : ℕ → Rule → ℤ
  amount_everywhere P (Setup p) = amount N P (Setup p)
  amount_everywhere P (Hold p) = N.hold (N.to p) +ℤ charged_everywhere N p -ℤ N.dmin p
  amount_everywhere P (Low i) = amount N P (Low i)
  amount_everywhere P (High i) = amount N P (High i)

  -- and their slacks
  abbrev pub slack_everywhere : ℕ → Rule → ℤ → ℤ → ℤ
  slack_everywhere P (Setup p) t v = slack N P (Setup p) t v
  slack_everywhere P (Hold p) t v = (v +ℤ N.dmin p) -ℤ (t +ℤ N.hold (N.to p) +ℤ charged_everywhere N p)
  slack_everywhere P (Low i) t v = slack N P (Low i) t v
  slack_everywhere P (High i) t v = slack N P (High i) t v

  -- as a family of arrows, of which schedules, loops and answers are said already
  abbrev pub everywhere : Family Rule
  everywhere = record { graph = graph_of N; Fixed = IsFixed; weigh = amount_everywhere }

  abbrev pub ScheduleEverywhere : ℕ → (ℕ → ℤ) → Type 0
  ScheduleEverywhere P x = webs.Schedule (web_at everywhere P) x

  abbrev pub AnswerEverywhere : ℕ → (ℕ → ℤ) → Type 0
  AnswerEverywhere = Best everywhere N.floor N.ceiling

  -- when 8 and 9 were returned (RULES 6.2, 6.6)
  abbrev pub ScheduledEverywhere : ℕ → Type 0
  ScheduledEverywhere P = (x : ℕ → ℤ) × ScheduleEverywhere P x

  abbrev pub NoPeriodEverywhere : Type 0
  NoPeriodEverywhere = (P : ℕ) → 1 ≤ P → ScheduledEverywhere P → ⊥

  abbrev pub NoneToCeilingEverywhere : Type 0
  NoneToCeilingEverywhere =
      ((P : ℕ) × (1 ≤ P) × ScheduledEverywhere P) × ((P : ℕ) → 1 ≤ P → P ≤ N.ceiling → ScheduledEverywhere P → ⊥)

  -- the two columns said the same, with the host at 0
  pub everywhere_is : (P : ℕ) (x : ℕ → ℤ) (r : Rule) → x 0 ≡ pos 0
      → HoldsEverywhere P x r ↔ ((x (tail N r) +ℤ amount_everywhere P r) ≤ℤ x (head N r))
  everywhere_is P x (Setup p) host = arrow_is_rule N P x (Setup p) host
  everywhere_is P x (Hold p) host =
      let t = x (N.to p) in
      let h = N.hold (N.to p) in
      let u = N.uncertainty p in
      let apart = plus (t +ℤ h) u in
      let within = plus h u in
      let less = minus (h +ℤ u) (N.dmin p) in
      ((λ m. omega (lin, plus t h, apart, within, less)), (λ m. omega (lin, plus t h, apart, within, less)))
  everywhere_is P x (Low i) host = arrow_is_rule N P x (Low i) host
  everywhere_is P x (High i) host = arrow_is_rule N P x (High i) host

  -- so a schedule of the family is what RULES 3.1 calls one, of the rules as they were written
  pub everywhere_schedule : (P : ℕ) (x : ℕ → ℤ)
      → ScheduleEverywhere P x ↔ ((x 0 ≡ pos 0) × ((r : Rule) → Exists N r → HoldsEverywhere P x r))
  everywhere_schedule P x = (
    λ s. (s.host, λ r h. (everywhere_is P x r s.host).1 (s.meets r h)),
    λ s. record { host = s.0; meets = λ r h. (everywhere_is P x r s.0).0 (s.1 r h) },
  )

-- ---- no rule asks more than it asked

module _ (N : Network) (l : Legal N) where
  asks_less : (P : ℕ) (r : Rule) → Exists N r → amount N P r ≤ℤ amount_everywhere N P r
  asks_less P (Setup p) h = omega lin
  asks_less P (Hold p) h =
      let c = charge_most (N.from p) (N.to p) (l.uncertainty p h).from in
      let held = N.hold (N.to p) in
      omega (lin, plus held (charged N p), plus held (N.uncertainty p))
  asks_less P (Low i) h = omega lin
  asks_less P (High i) h = omega lin

  -- so every schedule is a schedule still
  pub still_schedule : (P : ℕ) (x : ℕ → ℤ) → ScheduleEverywhere N P x → Schedule N P x
  still_schedule P x s = (schedule_rules N P x).0 (within_schedule (web_at (rules N) P) (web_at (everywhere N) P) (λ r. r) within x s)
    where
      within : Within (web_at (rules N) P) (web_at (everywhere N) P) (λ r. r)
      within = record { here = λ r h. h; tails = λ r h. refl; heads = λ r h. refl; asked = asks_less P }

  pub total_less : (P : ℕ) (m : List Rule) → All (Exists N) m → total (amount N P) m ≤ℤ total (amount_everywhere N P) m
  total_less P [] h = omega lin
  total_less P (r ∷ m) h = let first = asks_less P r h.0 in let rest = total_less P m h.1 in omega lin

-- ---- slacks

-- what is not taken off is left
larger : (a b u : ℤ) → a -ℤ (b +ℤ pos 0) ≡ (a -ℤ (b +ℤ u)) +ℤ u
larger a b u = omega (lin, plus b (pos 0), plus b u, negs (b +ℤ pos 0), negs (b +ℤ u), minus a (b +ℤ u))

-- path p is no self path, or its u is 0
abbrev pub SelfUncharged : Network → ℕ → Type 0
SelfUncharged N p = (N.from p ≡ N.to p → ⊥) ⊎ (N.uncertainty p ≡ pos 0)

-- then its hold rule is charged what it was
pub same_charge : (N : Network) (p : ℕ) → SelfUncharged N p → charged N p ≡ charged_everywhere N p
same_charge N p (inl apart) = other_path_charged N p apart
same_charge N p (inr zero) = nothing_charged (N.from p) (N.to p) (N.uncertainty p) zero

module _ (N : Network) (P : ℕ) (t v : ℤ) where
  -- so the slack of every rule but a self path's hold rule under a u other than 0 is what it was, in whatever network
  pub same_slack : (r : Rule) → ((p : ℕ) → r ≡ Hold p → SelfUncharged N p) → slack N P r t v ≡ slack_everywhere N P r t v
  same_slack (Setup p) h = refl
  same_slack (Hold p) h = rw (same_charge N p (h p refl)) refl
  same_slack (Low i) h = refl
  same_slack (High i) h = refl

  -- RULES 16.9: "The slack of a self path's hold rule is larger by u on every network."
  pub slack_larger : (p : ℕ) → N.from p ≡ N.to p → slack N P (Hold p) t v ≡ slack_everywhere N P (Hold p) t v +ℤ N.uncertainty p
  slack_larger p self =
      rw (self_path_uncharged N p self)
      (larger (v +ℤ N.dmin p) (t +ℤ N.hold (N.to p)) (N.uncertainty p))
