-- A rule question about an accepted file is refused or answered where a test passes that computes. A question's kind and number name at most
-- one rule, so that whether there is a rule as asked is one test, as each range is; and the slack is that rule's. Rests on `Tests` and
-- `Refusing`, and on the laws of tables and replies.
use mathlib.Core.Path.{◌≡◌, refl}
use mathlib.Core.Logic.{inl, inr}
use mathlib.Core.List.{List}
use mathlib.Core.Bool.{Bool, true}
use Prim.Native.Nat.{ℕ, zero, suc, ◌<◌}
use native.Mathlib.Omega.{arith}
use lib.IntN.{ℤ, pos}
use Rattle.paper.specs.Numbers.{Reply}
use Rattle.paper.specs.Network.{Network}
use Rattle.paper.specs.declared.Rule.{Rule}
use Rattle.paper.specs.declared.Rule.TheVariants.{Setup, Hold, Low, High}
use Rattle.paper.specs.Rules.{kind, number, Exists}
use Rattle.paper.specs.File.{natural, within, network_of}
use Rattle.paper.specs.Limits.{most_period, least_latency, most_latency}
use Rattle.paper.specs.Table.{Given}
use Rattle.paper.specs.Refusals.{faults, Accepted}
use Rattle.paper.specs.Question.{Question, Asked, InRange, slack_asked, question_rows, question_refusals, FileAnswers, with_slack}
use Rattle.paper.proofs.TableLaws.{given_after, given_one, question_refusals_one_place}
use Rattle.paper.proofs.NumberLaws.{reply_one}
use Rattle.worked.proofs.Tests.{Test, via, pair, is_true, same_ℤ}
use Rattle.worked.proofs.Refusing.{refuting, not_both, not_true, not_same_ℤ}
use Rattle.worked.proofs.CaseTests.{accepted_test, exists_test}
use Rattle.worked.proofs.RejectionTests.{no_rule}

-- ---- the rule that a question names

-- of this kind and number; any other kind is taken for 3, and is then not that of the rule
abbrev pub rule_of : ℕ → ℕ → Rule
rule_of zero i = Setup i
rule_of (suc zero) i = Hold i
rule_of (suc (suc zero)) i = Low i
rule_of (suc (suc (suc k))) i = High i

-- a rule is that of its kind and number
rule_back : (r : Rule) → rule_of (kind r) (number r) ≡ r
rule_back (Setup p) = refl
rule_back (Hold p) = refl
rule_back (Low i) = refl
rule_back (High i) = refl

module _ (N : Network) (q : Question) where
  abbrev pub named : Rule
  named = rule_of (natural q.kind_asked) (natural q.number_asked)

  -- what `Asked` says of a rule, one statement beside the other
  abbrev Names : Rule → Type 0
  Names r = (q.kind_asked ≡ pos (kind r)) × ((q.number_asked ≡ pos (number r)) × Exists N r)

  -- a rule as asked is the one that is named, so that it is enough to ask this of that one
  pub asked_named : ((r : Rule) × Asked N q r) → Names named
  asked_named a =
      let k = a.1.of_kind in
      let n = a.1.of_number in
      let e : named ≡ a.0 = rw (k, n) (rule_back a.0) in
      rw e (k, (n, a.1.exists))

  pub named_asked : Names named → Asked N q named
  named_asked h = record { of_kind = h.0; of_number = h.1.0; exists = h.1.1 }

  -- ---- in range, or not

  -- the three tests of its numbers
  abbrev period_in : Bool
  period_in = within (pos 1) (pos most_period) q.period

  abbrev tail_in : Bool
  tail_in = within least_latency most_latency q.tail_latency

  abbrev head_in : Bool
  head_in = within least_latency most_latency q.head_latency

  -- `InRange` is that they pass, and that the rule which is named is as asked
  abbrev pub Ranges : Type 0
  Ranges = (period_in ≡ true) × ((tail_in ≡ true) × ((head_in ≡ true) × Names named))

  pub range_of : Ranges → InRange N q
  range_of h =
      record {
        period_within = h.0;
        tail_within = h.1.0;
        head_within = h.1.1.0;
        rule = (named, named_asked h.1.1.1);
      }

  pub of_range : InRange N q → Ranges
  of_range i = (i.period_within, (i.tail_within, (i.head_within, asked_named i.rule)))

  abbrev pub ranges : Test Ranges
  ranges =
      pair (is_true period_in)
      (pair (is_true tail_in)
      (pair (is_true head_in)
      (pair (same_ℤ q.kind_asked (pos (kind named)))
      (pair (same_ℤ q.number_asked (pos (number named))) (exists_test N named)))))

  abbrev pub in_range : Test (InRange N q)
  in_range = via range_of ranges

  abbrev pub not_in_range : Test (InRange N q → ⊥)
  not_in_range =
      refuting of_range
      (not_both (not_true period_in)
      (not_both (not_true tail_in)
      (not_both (not_true head_in)
      (not_both (not_same_ℤ q.kind_asked (pos (kind named)))
      (not_both (not_same_ℤ q.number_asked (pos (number named))) (no_rule N named))))))

-- ---- the reply, of a file

module _ (f : List ℕ) (q : Question) where
  -- of an accepted file the question's own row alone decides
  pub given_10 : Accepted f → (InRange (network_of f) q → ⊥) → Given (question_refusals f q) 10 0
  given_10 a n = given_after (faults f) (question_rows (network_of f) q) 10 0 a (inl (refl, (n, refl)))

  pub given_0 : Accepted f → InRange (network_of f) q → Given (question_refusals f q) 0 0
  given_0 a i = given_after (faults f) (question_rows (network_of f) q) 0 0 a (inr ((λ p n. n.0 i), (refl, refl)))

  -- where a number is given, no slack is told
  pub given_untold : (n p : ℕ) → 0 < n → Given (question_refusals f q) n p → (z : ℤ) → FileAnswers f q (with_slack z) → ⊥
  given_untold n p above g z a =
      let e = (given_one (question_refusals f q) (question_refusals_one_place f q) n 0 p 0 g a.given).0 in
      omega arith

  -- two replies are one
  pub one_reply : (o o' : Reply) → FileAnswers f q o → FileAnswers f q o' → o ≡ o'
  one_reply o o' a b = reply_one (question_refusals_one_place f q) a b

  module _ (z : ℤ) where
    -- the slack of the rule that is named answers a question in range
    pub answers : Accepted f × (Ranges (network_of f) q × (z ≡ slack_asked (network_of f) q (named (network_of f) q))) → FileAnswers f q (with_slack z)
    answers h =
        record {
          given = given_0 h.0 (range_of (network_of f) q h.1.0);
          says = (named (network_of f) q, named_asked (network_of f) q h.1.0.1.1.1, h.1.1);
        }

    abbrev pub answers_test : Test (FileAnswers f q (with_slack z))
    answers_test =
        via answers
        (pair (accepted_test f) (pair (ranges (network_of f) q) (same_ℤ z (slack_asked (network_of f) q (named (network_of f) q)))))
