-- What the contract of the rule question says of a file: when each number is given, that the slack which is told is the named rule's, and that
-- it is yes exactly when the rule's inequality holds. Each is what `Asking` says of the file's network and of the rows of its faults. Rests on `Asking`.
use Rattle.std.specs.Prelude.{Err}
use mathlib.Core.Path.{◌≡◌, refl, sym, ◌∙◌}
use mathlib.Core.Logic.{◌↔◌, ◌⊎◌}
use mathlib.Core.List.{List}
use Prim.Native.Nat.{ℕ, ◌<◌}
use native.Mathlib.Omega.{arith}
use lib.IntN.{ℤ, pos, ◌+ℤ◌, ◌-ℤ◌}
use Rattle.whole.proofs.Lin.{lin}
use Rattle.paper.specs.Numbers.{Reply}
use Rattle.paper.specs.declared.Fault.{Fault}
use Rattle.paper.specs.declared.Refusal.TheVariants as refusal
use Rattle.paper.specs.Network.{Network}
use Rattle.paper.specs.declared.Rule.{Rule}
use Rattle.paper.specs.declared.Rule.TheVariants.{Setup, Hold, Low, High}
use Rattle.paper.specs.Rules.{kind, Holds, HoldsAs, tail, head}
use Rattle.paper.specs.File.{natural, network_of}
use Rattle.paper.specs.Refusals.{faults, Accepted}
use Rattle.paper.specs.Question.{Question, asked, Asked, InRange, slack_asked, FileAnswers, with_slack, Yes, No}
use Rattle.paper.specs.Outcome.{Judged}
use Rattle.paper.proofs.TableLaws.{faults_one_place, faults_numbered}
use Rattle.paper.proofs.NumberLaws.{fault_numbers}
use Rattle.paper.proofs.RuleLaws.{nothing_more}
use Rattle.paper.proofs.ChargeLaws.{self_path_uncharged, other_path_charged}
use Rattle.skew.proofs.Asking as asking

module _ (f : List ℕ) (q : Question) (r : Rule) (o : Reply) (accepted : Accepted f) (in_range : InRange (network_of f) q) (asked-for : Asked (network_of f) q r) (answers : FileAnswers f q o) where
  -- RULES 15.1: "A rule question that is not refused answers .. the slack of the rule that is asked for."
  pub question_slack : o ≡ with_slack (slack_asked (network_of f) q r)
  question_slack = asking.slack_is_told (faults f) (faults_one_place f) answers accepted in_range r asked-for

  -- RULES 8.5: "the answer is yes exactly when the inequality of the rule holds, and else no", with the two latencies as they are given
  pub question_yes_written : Yes o ↔ HoldsAs (network_of f) (natural q.period) r q.tail_latency q.head_latency
  question_yes_written = asking.yes_written (faults f) (faults_one_place f) answers accepted in_range r asked-for

  pub question_no_written : No o ↔ (HoldsAs (network_of f) (natural q.period) r q.tail_latency q.head_latency → ⊥)
  question_no_written = asking.no_written (faults f) (faults_one_place f) answers accepted in_range r asked-for

  -- and, where the two are latencies of a row x, exactly when the rule of RULES 2.2 holds of the row
  pub question_yes_holds : (x : ℕ → ℤ)
      → q.tail_latency ≡ x (tail (network_of f) r)
      → q.head_latency ≡ x (head (network_of f) r)
      → Yes o ↔ Holds (network_of f) (natural q.period) x r
  question_yes_holds = asking.yes_holds (faults f) (faults_one_place f) answers accepted in_range r asked-for

-- ---- the numbers

module _ (f : List ℕ) {q : Question} {o : Reply} (answers : FileAnswers f q o) where
  -- 1 to 6 (RULES 8.2): the reply is a fault of the file exactly when a look at the file finds that fault
  pub question_fault_iff : (x : Fault) → (o ≡ Err (refusal.File x)) ↔ Judged f (Err x)
  question_fault_iff x = asking.refused_iff (faults f) (faults_one_place f) answers (refusal.File x) (λ e. omega (arith, (fault_numbers x).1))

  -- 10 is given exactly when a number of an accepted file's question lies outside its range, or the rule does not exist (RULES 8.3)
  pub refused_10_iff : Accepted f → (o ≡ Err refusal.Question) ↔ (InRange (network_of f) q → ⊥)
  refused_10_iff = asking.out_iff (faults f) (faults_one_place f) answers

  -- a slack is told exactly when no refusal applies: of an accepted file's question in range, and of no other
  pub question_answered_iff : ((z : ℤ) × (o ≡ with_slack z)) ↔ (Accepted f × InRange (network_of f) q)
  question_answered_iff = asking.answered_iff (faults f) (faults_one_place f) answers (faults_numbered f)

  -- and yes or no is said of just these: RULES 8.6: "A refusal is neither."
  pub question_yes_or_no_iff : (Yes o ⊎ No o) ↔ (Accepted f × InRange (network_of f) q)
  question_yes_or_no_iff = asking.yes_or_no_iff (faults f) (faults_one_place f) answers (faults_numbered f)

-- ---- the latencies as they are given

-- RULES 8.8: "On a path from a register to itself both latencies are taken as they are given, even when they differ.": path p leads from
-- register i to itself, and a and b are any two latencies
module _ (f : List ℕ) (accepted : Accepted f) (p i : ℕ) (path : p < (network_of f).paths) (leaves : (network_of f).from p ≡ i) (reaches : (network_of f).to p ≡ i)
    (P : ℕ) (a b : ℤ) (o : Reply) where
  abbrev N : Network
  N = network_of f

  -- a at the tail of the setup rule, b at its head
  pub self_setup_as_given : InRange N (asked (pos P) (pos 0) (pos p) a b) → FileAnswers f (asked (pos P) (pos 0) (pos p) a b) o
      → o ≡ with_slack ((b +ℤ pos P) -ℤ (a +ℤ N.dmax p +ℤ N.setup i +ℤ N.uncertainty p))
  self_setup_as_given in_range answers =
      rw (← reaches) (question_slack f _ (Setup p) o accepted in_range (record { of_kind = refl; of_number = refl; exists = path }) answers)

  -- a at the tail of the hold rule, b at its head. RULES 16.5: "A self path's hold rule is charged nothing where they differ too"
  pub self_hold_as_given : InRange N (asked (pos P) (pos 1) (pos p) a b) → FileAnswers f (asked (pos P) (pos 1) (pos p) a b) o
      → o ≡ with_slack ((b +ℤ N.dmin p) -ℤ (a +ℤ N.hold i))
  self_hold_as_given in_range answers =
      let told = question_slack f _ (Hold p) o accepted in_range (record { of_kind = refl; of_number = refl; exists = path }) answers in
      rw (self_path_uncharged N p (leaves ∙ sym reaches), reaches, nothing_more (a +ℤ N.hold i)) at told

-- RULES 16.5: "that of any other path is charged u where they are equal": whatever the latencies are
pub other_hold_as_given : (f : List ℕ) → Accepted f → (p : ℕ) → p < (network_of f).paths → ((network_of f).from p ≡ (network_of f).to p → ⊥)
    → (P : ℕ) (a b : ℤ) (o : Reply)
    → InRange (network_of f) (asked (pos P) (pos 1) (pos p) a b)
    → FileAnswers f (asked (pos P) (pos 1) (pos p) a b) o
    → o ≡ with_slack ((b +ℤ (network_of f).dmin p) -ℤ (a +ℤ (network_of f).hold ((network_of f).to p) +ℤ (network_of f).uncertainty p))
other_hold_as_given f accepted p path apart P a b o in_range answers =
    let told = question_slack f _ (Hold p) o accepted in_range (record { of_kind = refl; of_number = refl; exists = path }) answers in
    rw (other_path_charged (network_of f) p apart) at told

-- RULES 8.7: "Low and high rules do not read it: it is the latency at the tail of low, and at the head of high.": two questions in range that differ
-- in the host's latency alone have one reply, whether or not the file is accepted
module _ (f : List ℕ) (period number : ℤ) where
  -- a low rule is asked for, with the host's latency at its tail; and a high rule, with it at its head
  abbrev low_asked : (host other : ℤ) → Question
  low_asked host other = asked period (pos 2) number host other

  abbrev high_asked : (host other : ℤ) → Question
  high_asked host other = asked period (pos 3) number other host

  pub host_unread_low : (h h' x : ℤ) {o o' : Reply} → InRange (network_of f) (low_asked h x) → InRange (network_of f) (low_asked h' x)
      → FileAnswers f (low_asked h x) o → FileAnswers f (low_asked h' x) o' → o ≡ o'
  host_unread_low h h' x i i' =
      asking.same_reply (faults f) (faults_one_place f) i i'
      (λ r k. (record { of_kind = k.of_kind; of_number = k.of_number; exists = k.exists }, same r k.of_kind))
    where
      same : (r : Rule) → pos 2 ≡ pos (kind r) → slack_asked (network_of f) (low_asked h x) r ≡ slack_asked (network_of f) (low_asked h' x) r
      same (Setup p) e = absurd (omega lin)
      same (Hold p) e = absurd (omega lin)
      same (Low i) e = refl
      same (High i) e = absurd (omega lin)

  pub host_unread_high : (h h' x : ℤ) {o o' : Reply} → InRange (network_of f) (high_asked h x) → InRange (network_of f) (high_asked h' x)
      → FileAnswers f (high_asked h x) o → FileAnswers f (high_asked h' x) o' → o ≡ o'
  host_unread_high h h' x i i' =
      asking.same_reply (faults f) (faults_one_place f) i i'
      (λ r k. (record { of_kind = k.of_kind; of_number = k.of_number; exists = k.exists }, same r k.of_kind))
    where
      same : (r : Rule) → pos 3 ≡ pos (kind r) → slack_asked (network_of f) (high_asked h x) r ≡ slack_asked (network_of f) (high_asked h' x) r
      same (Setup p) e = absurd (omega lin)
      same (Hold p) e = absurd (omega lin)
      same (Low i) e = absurd (omega lin)
      same (High i) e = refl
