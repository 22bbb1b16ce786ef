-- What a caller reads out of a packed integer is what was packed, and so what the two functions return is what their contracts say. Rests on
-- `Places`.
use Rattle.std.specs.Prelude.{Ok, Err}
use mathlib.Core.Path.{◌≡◌, refl}
use mathlib.Core.Logic.{◌↔◌}
use mathlib.Core.List.{List}
use mathlib.Core.Bool.{true, false}
use Prim.Native.Nat.{ℕ, ◌/◌, ◌<◌}
use native.Mathlib.Omega.{arith}
use lib.IntN.{ℤ, pos}
use lib.Dec.{eqb}
use borrow.Author.Tests.{ne_eqb}
use mir.Syntax.{w32}
use mir.Val.{SFits}
use Rattle.whole.specs.Four.{word_of}
use Rattle.whole.proofs.Lin.{lin, true_not_false}
use Rattle.whole.proofs.Four.{signed_word}
use Rattle.paper.specs.declared.Unanswered.TheVariants as unanswered
use Rattle.paper.specs.Rules.{◌≥ℤ◌}
use Rattle.paper.specs.Numbers.{Outcome, Reply, refusal_number, refusal_place, outcome_number, outcome_place, reply_number}
use Rattle.paper.specs.Outcome.{FileResult}
use Rattle.paper.specs.Question.{Question, FileAnswers}
use Rattle.paper.proofs.NumberLaws.{refusal_above}
use Rattle.skew_c.specs.Packed.{packed, packed_outcome, packed_reply, no_slack, number_in, place_in, slack_in, yes_in}
use Rattle.skew_c.specs.Returned.{Scheduled, Replied}
use Rattle.skew_c.proofs.Places.{slack_fits}

-- ---- what is read

above_zero : (n : ℕ) → 0 < n → eqb n 0 ≡ false
above_zero n h = ne_eqb n 0 (λ e. omega arith)

-- of a number n of 32 bits, and a above it
module _ (n a r : ℕ) (below : n < 4294967296) (e : r ≡ packed n a) where
  reads_number : number_in r ≡ n
  reads_number = omega arith

  reads_above : r / 4294967296 ≡ a
  reads_above = omega arith

  -- above a refusal's number stands its place; it has no slack, and is not yes
  reads_place : 0 < n → place_in r ≡ a
  reads_place h = rw (reads_number, above_zero n h) reads_above

  reads_no_slack : 0 < n → slack_in r ≡ no_slack
  reads_no_slack h = rw (reads_number, above_zero n h)

  reads_no_yes : 0 < n → yes_in r ≡ false
  reads_no_yes h = rw (reads_number, above_zero n h)

-- above 0 stands the slack; the place is 0
module _ (a r : ℕ) (e : r ≡ packed 0 a) where
  reads_no_place : place_in r ≡ 0
  reads_no_place = rw (reads_number 0 a r (omega arith) e)

  reads_slack : (z : ℤ) → SFits w32 z → a ≡ word_of z → slack_in r ≡ z
  reads_slack z f w = rw (reads_number 0 a r (omega arith) e, reads_above 0 a r (omega arith) e, w) (signed_word z f)

  -- RULES 15.4: "Yes is a slack of at least 0"
  reads_yes : (z : ℤ) → slack_in r ≡ z → (yes_in r ≡ true) ↔ (z ≥ℤ pos 0)
  reads_yes z s = rw (s, reads_number 0 a r (omega arith) e) ((λ y. omega lin), (λ y. omega lin))

-- ---- the scheduler

outcome_place_read : (o : Outcome) {r : ℕ} → outcome_number o < 4294967296 → r ≡ packed_outcome o → place_in r ≡ outcome_place o
outcome_place_read (Ok tt) {r} n e = reads_no_place 0 r e
outcome_place_read (Err (unanswered.Refused x)) {r} n e = reads_place (refusal_number x) (refusal_place x) r n e (refusal_above x)
outcome_place_read (Err unanswered.Room) {r} n e = reads_place 7 0 r n e (omega arith)
outcome_place_read (Err unanswered.NoPeriod) {r} n e = reads_place 8 0 r n e (omega arith)
outcome_place_read (Err unanswered.NoneToCeiling) {r} n e = reads_place 9 0 r n e (omega arith)

-- an outcome that is packed is what the scheduler's contract asks for
pub scheduled : (f : List ℕ) {before after : List ℕ} {r : ℕ} (o : Outcome) → FileResult f before o after → outcome_number o < 4294967296
    → r ≡ packed_outcome o → Scheduled f before r after
scheduled f {r = r} o g n e =
    record {
      outcome = o;
      result = g;
      is_packed = e;
      number_read = reads_number (outcome_number o) (outcome_place o) r n e;
      place_read = outcome_place_read o n e;
    }

-- ---- the rule question

-- a reply that is packed is what the question's contract asks for
pub replied : (f : List ℕ) {q : Question} {r : ℕ} (o : Reply) → FileAnswers f q o → reply_number o < 4294967296
    → r ≡ packed_reply o → Replied f q r
replied f {r = r} (Ok d) g n e =
    let slack = reads_slack (word_of d.0) r e d.0 (slack_fits f d g) refl in
    record {
      reply = Ok d;
      answers = g;
      is_packed = e;
      number_read = reads_number 0 (word_of d.0) r n e;
      place_read = reads_no_place (word_of d.0) r e;
      slack_read = slack;
      yes_read = reads_yes (word_of d.0) r e d.0 slack;
    }
replied f {r = r} (Err x) g n e =
    let no = reads_no_yes (refusal_number x) (refusal_place x) r n e (refusal_above x) in
    record {
      reply = Err x;
      answers = g;
      is_packed = e;
      number_read = reads_number (refusal_number x) (refusal_place x) r n e;
      place_read = reads_place (refusal_number x) (refusal_place x) r n e (refusal_above x);
      slack_read = reads_no_slack (refusal_number x) (refusal_place x) r n e (refusal_above x);
      yes_read = ((λ y. true_not_false y no), (λ y. absurd y));
    }
