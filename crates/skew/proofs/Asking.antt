-- Which reply a rule question has when, whatever its network N is and whatever rows t come before number 10 in its table. `QuestionLaws` says
-- it of a file. Rests on the laws of tables and on the one law of refusals, by which there is one reply.
use Rattle.std.specs.Prelude.{Ok, Err}
use mathlib.Core.Path.{◌≡◌, refl, sym, ◌∙◌}
use mathlib.Core.Logic.{◌↔◌, ◌⊎◌, inl, inr}
use mathlib.Core.List.{List, ◌++◌}
use Prim.Native.Nat.{ℕ}
use native.Mathlib.Omega.{arith}
use lib.IntN.{ℤ, pos, negsuc}
use Rattle.whole.proofs.Lin.{lin, true_not_false}
use Rattle.paper.specs.declared.Refusal.{Refusal}
use Rattle.paper.specs.declared.Refusal.TheVariants as refusal
use Rattle.paper.specs.Network.{Network}
use Rattle.paper.specs.declared.Rule.{Rule}
use Rattle.paper.specs.Rules.{Holds, HoldsAs, tail, head}
use Rattle.paper.specs.File.{natural}
use Rattle.paper.specs.Table.{Row, Given, Clear}
use Rattle.paper.specs.Numbers.{Reply, refusal_number, refusal_place, reply_number, reply_place}
use Rattle.paper.specs.Question.{Question, Asked, InRange, slack_asked, question_rows, Says, Answers, with_slack, Yes, No}
use Rattle.paper.proofs.Legal.{passes}
use Rattle.paper.proofs.RuleLaws.{written_is_rule}
use Rattle.paper.proofs.TableLaws.{ByRow, OnePlaces, Numbered, by_row_given, given_append, given_before, given_after, given_row, given_clear, one_places_append, question_one_place}
use Rattle.paper.proofs.NumberLaws.{refusal_apart, refusal_above, reply_one}
use Rattle.paper.proofs.SlackLaws.{slack_yes, slack_no}
use Rattle.skew.proofs.Calls.{given_rest}
use Rattle.skew.proofs.Replies.{question_reply, slack_reply}

-- a slack is at least 0, or below
yes_or_no : (z : ℤ) → Yes (with_slack z) ⊎ No (with_slack z)
yes_or_no (pos n) = inl (omega lin)
yes_or_no (negsuc n) = inr (omega lin)

module _ (t : List Row) (places : OnePlaces t) {N : Network} {q : Question} {o : Reply} (answers : Answers N (t ++ question_rows N q) q o) where
  abbrev rows : List Row
  rows = question_rows N q

  -- what the table allows is the reply
  pub replied : {p : Reply} → Answers N (t ++ rows) q p → o ≡ p
  replied a = reply_one (one_places_append t rows places (question_one_place N q)) answers a

  -- a refusal other than 10 is given exactly when the rows that come before 10 give its number and place (RULES 6.3)
  pub refused_iff : (x : Refusal) → (refusal_number x ≡ 10 → ⊥) → (o ≡ Err x) ↔ Given t (refusal_number x) (refusal_place x)
  refused_iff x other = ((λ e. found (rw e at parts)), from)
    where
      parts : ByRow t (reply_number o) (reply_place o) ⊎ (Clear t × Given rows (reply_number o) (reply_place o))
      parts = given_append t rows (reply_number o) (reply_place o) answers.given

      found : ByRow t (refusal_number x) (refusal_place x) ⊎ (Clear t × Given rows (refusal_number x) (refusal_place x)) → Given t (refusal_number x) (refusal_place x)
      found (inl b) = by_row_given t (refusal_number x) (refusal_place x) b
      found (inr (c, inl g)) = absurd (other g.0)
      found (inr (c, inr g)) = absurd (refusal_apart x 0 (λ p. refl) (sym g.1.0))

      from : Given t (refusal_number x) (refusal_place x) → o ≡ Err x
      from g =
          let b = given_row t (refusal_number x) (refusal_place x) (refusal_above x) g in
          replied (record { given = given_before t rows (refusal_number x) (refusal_place x) b; says = tt })

  module _ (clear : Clear t) where
    -- 10 is given exactly when a number of the question lies outside its range, or the rule does not exist (RULES 8.3)
    pub out_iff : (o ≡ Err refusal.Question) ↔ (InRange N q → ⊥)
    out_iff = ((λ e. out (rw e at rest)), λ h. replied (question_reply N t q clear h))
      where
        rest : Given rows (reply_number o) (reply_place o)
        rest = given_rest t rows (reply_number o) (reply_place o) clear answers.given

        out : Given rows 10 0 → InRange N q → ⊥
        out (inl g) i = g.1.0 i
        out (inr g) i = let e = g.1.0 in omega arith

    -- RULES 15.1: "A rule question that is not refused answers .. the slack of the rule that is asked for."
    pub slack_is_told : InRange N q → (r : Rule) → Asked N q r → o ≡ with_slack (slack_asked N q r)
    slack_is_told i r k = replied (slack_reply N t q clear i (record { 0 = slack_asked N q r }) r k refl)

    module _ (in_range : InRange N q) (r : Rule) (asked-for : Asked N q r) where
      -- the reply that tells this slack is allowed
      told : Says N q (with_slack (slack_asked N q r))
      told = (r, asked-for, refl)

      -- the rule's inequality, with the latencies that are given
      abbrev Written : Type 0
      Written = HoldsAs N (natural q.period) r q.tail_latency q.head_latency

      -- RULES 8.5: "the answer is yes exactly when the inequality of the rule holds, and else no"
      pub yes_written : Yes o ↔ Written
      yes_written = rw (slack_is_told in_range r asked-for) (slack_yes N q _ told r asked-for)

      pub no_written : No o ↔ (Written → ⊥)
      no_written = rw (slack_is_told in_range r asked-for) (slack_no N q _ told r asked-for)

      -- and, by latencies of a row, exactly when the table's third column holds of the row
      pub yes_holds : (x : ℕ → ℤ) → q.tail_latency ≡ x (tail N r) → q.head_latency ≡ x (head N r)
          → Yes o ↔ Holds N (natural q.period) x r
      yes_holds x t h = rw (← (written_is_rule N (natural q.period) x r), ← t, ← h) yes_written

  -- ---- a slack is told, where no row before 10 has the number 0

  module _ (numbered : Numbered t) where
    -- where 0 is given, no row applies that comes before 10
    none_before : Given (t ++ rows) 0 0 → Clear t
    none_before g = either (given_append t rows 0 0 g)
      where
        either : ByRow t 0 0 ⊎ (Clear t × Given rows 0 0) → Clear t
        either (inl b) = given_clear t numbered 0 (by_row_given t 0 0 b)
        either (inr c) = c.0

    -- nor does 10, so that each test of a number has passed; and the rule is the one that is asked for
    in_its_range : Given rows 0 0 → (r : Rule) × Asked N q r → InRange N q
    in_its_range (inl g) k = let e = g.0 in absurd (omega arith)
    in_its_range (inr g) k =
        record {
          period_within = passes _ (λ p x. g.0 0 ((λ i. true_not_false i.period_within x.0), refl));
          tail_within = passes _ (λ p x. g.0 0 ((λ i. true_not_false i.tail_within x.0), refl));
          head_within = passes _ (λ p x. g.0 0 ((λ i. true_not_false i.head_within x.0), refl));
          rule = k;
        }

    -- RULES 15.5: "A refusal carries no slack.": a slack is told exactly when no refusal applies, neither one that comes before 10 nor 10
    pub answered_iff : ((z : ℤ) × (o ≡ with_slack z)) ↔ (Clear t × InRange N q)
    answered_iff = (to, λ h. (_, slack_is_told h.0 h.1 h.1.rule.0 h.1.rule.1))
      where
        to : (z : ℤ) × (o ≡ with_slack z) → Clear t × InRange N q
        to (z, e) =
            let a : Answers N (t ++ rows) q (with_slack z) = rw e at answers in
            let c = none_before a.given in
            (c, in_its_range (given_rest t rows 0 0 c a.given) (a.says.0, a.says.1))

    -- RULES 8.6: "A refusal is neither.": a slack is yes or no, and only a slack is
    pub yes_or_no_iff : (Yes o ⊎ No o) ↔ (Clear t × InRange N q)
    yes_or_no_iff = ((λ h. answered_iff.0 (told_by o h)), (λ h. either (answered_iff.1 h)))
      where
        told_by : (p : Reply) → Yes p ⊎ No p → (z : ℤ) × (p ≡ with_slack z)
        told_by (Ok d) h = (d.0, refl)
        told_by (Err x) (inl y) = absurd y
        told_by (Err x) (inr n) = absurd n

        either : (z : ℤ) × (o ≡ with_slack z) → Yes o ⊎ No o
        either (z, e) = rw e (yes_or_no z)

-- Two questions in range, of which each rule that the second asks for is asked for by the first, with one slack: one reply, for what answers
-- the second answers the first.
module _ (t : List Row) (places : OnePlaces t) {N : Network} {q q' : Question} (i : InRange N q) (i' : InRange N q')
    (alike : (r : Rule) → Asked N q' r → Asked N q r × (slack_asked N q r ≡ slack_asked N q' r)) where
  -- number and place, for neither question is refused with 10
  given_too : (n p : ℕ) → Given (t ++ question_rows N q') n p → Given (t ++ question_rows N q) n p
  given_too n p g = either (given_append t (question_rows N q') n p g)
    where
      rest : Given (question_rows N q') n p → Given (question_rows N q) n p
      rest (inl g) = absurd (g.1.0 i')
      rest (inr g) = inr ((λ p x. x.0 i), g.1)

      either : ByRow t n p ⊎ (Clear t × Given (question_rows N q') n p) → Given (t ++ question_rows N q) n p
      either (inl b) = given_before t (question_rows N q) n p b
      either (inr c) = given_after t (question_rows N q) n p c.0 (rest c.1)

  -- and the slack, of the same rule
  says_too : (o : Reply) → Says N q' o → Says N q o
  says_too (Ok d) (r, k, e) = let a = alike r k in (r, a.0, e ∙ sym a.1)
  says_too (Err x) s = tt

  pub same_reply : {o o' : Reply} → Answers N (t ++ question_rows N q) q o → Answers N (t ++ question_rows N q') q' o' → o ≡ o'
  same_reply {o' = o'} a b = replied t places a (record { given = given_too _ _ b.given; says = says_too o' b.says })
