-- The columns of the table of four rules agree: a slack of at least 0, the inequality of the third column, and arrow with amount say the
-- same, and the slack is the arrow's. And a longer period takes no schedule away. Rests on whole numbers alone.
use mathlib.Core.Path.{◌≡◌, refl}
use mathlib.Core.Logic.{◌↔◌}
use Prim.Native.Nat.{ℕ, ◌≤◌}
use lib.IntN.{ℤ, pos, neg_ℤ, ◌+ℤ◌, ◌-ℤ◌}
use lib.Signed.{◌≤ℤ◌}
use Rattle.whole.proofs.Lin.{lin, plus, minus, negs}
use Rattle.paper.specs.Network.{Network}
use Rattle.paper.specs.declared.Rule.{Rule}
use Rattle.paper.specs.declared.Rule.TheVariants.{Setup, Hold, Low, High}
use Rattle.paper.specs.Rules.{Holds, HoldsAs, ◌≥ℤ◌, charged, tail, head, base, amount, slack}
use Rattle.paper.specs.Schedule.{Schedule}
use Rattle.paper.proofs.ChargeLaws.{self_path_uncharged}

-- a difference is at least 0 exactly when what is taken away is at most what it is taken from
difference : (a b : ℤ) → (pos 0 ≤ℤ (b -ℤ a)) ↔ (a ≤ℤ b)
difference a b = ((λ h. omega (lin, negs a)), (λ h. omega (lin, negs a)))

-- what is taken from one side may as well be added to the other
moved : (a b c d : ℤ) → ((a +ℤ b) ≤ℤ (c +ℤ d)) ↔ ((a +ℤ (b -ℤ d)) ≤ℤ c)
moved a b c d = ((λ h. omega (lin, minus b d)), (λ h. omega (lin, minus b d)))

-- and a sum may be grouped from its other end
grouped2 : (a b c : ℤ) → a +ℤ b +ℤ c ≡ a +ℤ (b +ℤ c)
grouped2 a b c = omega (lin, plus a b, plus b c)

grouped3 : (a b c d : ℤ) → a +ℤ b +ℤ c +ℤ d ≡ a +ℤ (b +ℤ c +ℤ d)
grouped3 a b c d = simp grouped2

-- so may what is added to the number that is taken from
taken : (a b c d : ℤ) → (b +ℤ d) -ℤ (a +ℤ c) ≡ b -ℤ (a +ℤ (c -ℤ d))
taken a b c d = omega (lin, plus b d, plus a c, minus c d, plus a (c -ℤ d), negs (a +ℤ c), negs (a +ℤ (c -ℤ d)))

taken_zero : (b c : ℤ) → b -ℤ c ≡ b -ℤ (pos 0 +ℤ c)
taken_zero b c = omega (lin, plus (pos 0) c, negs c, negs (pos 0 +ℤ c))

from_zero : (a c : ℤ) → c -ℤ a ≡ pos 0 -ℤ (a +ℤ neg_ℤ c)
from_zero a c = omega (lin, negs a, negs c, plus a (neg_ℤ c), negs (a +ℤ neg_ℤ c))

-- what is added on both sides tells nothing, and 0 adds nothing
on_both_sides : (t a b : ℤ) → ((t +ℤ a) ≤ℤ (t +ℤ b)) ↔ (a ≤ℤ b)
on_both_sides t a b = ((λ h. omega lin), (λ h. omega lin))

pub nothing_more : (a : ℤ) → a +ℤ pos 0 ≡ a
nothing_more a = omega lin

-- the latencies at a rule's two ends as the rule reads them: where it does not read the host's, that is 0
abbrev pub tail_read : Rule → ℤ → ℤ
tail_read (Setup p) a = a
tail_read (Hold p) a = a
tail_read (Low i) a = pos 0
tail_read (High i) a = a

abbrev pub head_read : Rule → ℤ → ℤ
head_read (Setup p) b = b
head_read (Hold p) b = b
head_read (Low i) b = b
head_read (High i) b = pos 0

module _ (N : Network) where
  -- a rule is met by as much as the latency at its head lies above the latency at its tail plus the amount
  pub slack_is : (P : ℕ) (r : Rule) (a b : ℤ) → slack N P r a b ≡ head_read r b -ℤ (tail_read r a +ℤ amount N P r)
  slack_is P (Setup p) a b = rw (grouped3 a) (taken a b (base N (Setup p)) (pos P))
  slack_is P (Hold p) a b = rw (grouped2 a) (taken a b (N.hold (N.to p) +ℤ charged N p) (N.dmin p))
  slack_is P (Low i) a b = taken_zero b (N.low i)
  slack_is P (High i) a b = from_zero a (N.high i)

  -- RULES 8.5: "the answer is yes exactly when the inequality of the rule holds, and else no": a rule's slack is at least 0 exactly when its
  -- inequality holds, with whatever latencies at its two ends
  pub met_is_written : (P : ℕ) (r : Rule) (a b : ℤ) → (slack N P r a b ≥ℤ pos 0) ↔ HoldsAs N P r a b
  met_is_written P (Setup p) a b = difference _ _
  met_is_written P (Hold p) a b = difference _ _
  met_is_written P (Low i) a b = difference _ _
  met_is_written P (High i) a b = difference _ _

  -- with the latencies that a row has at the rule's two ends, that inequality is the table's third column, also where the row does not have
  -- the host at 0
  pub written_is_rule : (P : ℕ) (x : ℕ → ℤ) (r : Rule) → HoldsAs N P r (x (tail N r)) (x (head N r)) ≡ Holds N P x r
  written_is_rule P x (Setup p) = refl
  written_is_rule P x (Hold p) = refl
  written_is_rule P x (Low i) = refl
  written_is_rule P x (High i) = refl

  -- so a rule is met by a row's latencies at its two ends exactly when the third column holds
  pub met_is_rule : (P : ℕ) (x : ℕ → ℤ) (r : Rule) → (slack N P r (x (tail N r)) (x (head N r)) ≥ℤ pos 0) ↔ Holds N P x r
  met_is_rule P x r = rw (← (written_is_rule P x r)) (met_is_written P r (x (tail N r)) (x (head N r)))

  -- RULES 2.3: "Every rule is an arrow with an amount: the latency at the arrow's head .. is at least the latency at its tail .. plus the amount."
  pub arrow_is_rule : (P : ℕ) (x : ℕ → ℤ) (r : Rule) → x 0 ≡ pos 0 → Holds N P x r ↔ ((x (tail N r) +ℤ amount N P r) ≤ℤ x (head N r))
  arrow_is_rule P x (Setup p) host =
      rw (grouped3 (x (N.from p))) (moved (x (N.from p)) (base N (Setup p)) (x (N.to p)) (pos P))
  arrow_is_rule P x (Hold p) host =
      rw (grouped2 (x (N.to p))) (moved (x (N.to p)) (N.hold (N.to p) +ℤ charged N p) (x (N.from p)) (N.dmin p))
  arrow_is_rule P x (Low i) host = ((λ h. omega lin), (λ h. omega lin))
  arrow_is_rule P x (High i) host = ((λ h. omega (lin, negs (N.high i))), (λ h. omega (lin, negs (N.high i))))

  -- By a row of latencies a self path's register has one, which stands on both sides. RULES 16.6: "there the rule is met exactly when dmin is at
  -- least the hold time."
  pub self_hold_iff : (P : ℕ) (x : ℕ → ℤ) (p : ℕ) → N.from p ≡ N.to p → Holds N P x (Hold p) ↔ (N.hold (N.to p) ≤ℤ N.dmin p)
  self_hold_iff P x p self =
      rw (self_path_uncharged N p self, self, nothing_more (x (N.to p) +ℤ N.hold (N.to p))) (on_both_sides (x (N.to p)) (N.hold (N.to p)) (N.dmin p))

  -- RULES 16.3: "on a self path too."
  pub self_setup_iff : (P : ℕ) (x : ℕ → ℤ) (p : ℕ) → N.from p ≡ N.to p
      → Holds N P x (Setup p) ↔ ((N.dmax p +ℤ N.setup (N.to p) +ℤ N.uncertainty p) ≤ℤ pos P)
  self_setup_iff P x p self =
      rw (self, grouped3 (x (N.to p))) (on_both_sides (x (N.to p)) (base N (Setup p)) (pos P))

  -- RULES 2.7: "The period stands in setup rules alone.": it is taken off their amounts, so a longer one raises no amount
  pub amount_falls : (P Q : ℕ) (r : Rule) → P ≤ Q → amount N Q r ≤ℤ amount N P r
  amount_falls P Q (Setup p) h = omega (lin, negs (pos P), negs (pos Q))
  amount_falls P Q (Hold p) h = omega lin
  amount_falls P Q (Low i) h = omega lin
  amount_falls P Q (High i) h = omega lin

  -- so RULES 3.4: "a schedule at P is a schedule at every larger period too"
  pub schedule_stays : (P Q : ℕ) (x : ℕ → ℤ) → P ≤ Q → Schedule N P x → Schedule N Q x
  schedule_stays P Q x h s = record { host = s.host; meets = λ r e. later r (s.meets r e) }
    where
      later : (r : Rule) → Holds N P x r → Holds N Q x r
      later r m =
          let a = (arrow_is_rule P x r s.host).0 m in
          (arrow_is_rule Q x r s.host).1 (omega (lin, amount_falls P Q r h))
