-- Each reply, from what leads to it, as a row of the paper's table. Rests on `Limits` and on the laws of tables.
use Rattle.std.specs.Prelude.{Ok, Err, Some, None}
use mathlib.Core.Path.{◌≡◌, refl}
use mathlib.Core.Logic.{inl, inr}
use mathlib.Core.List.{List, ◌++◌}
use mathlib.Core.Bool.{true, false}
use Prim.Native.Nat.{ℕ}
use lib.IntN.{ℤ}
use mir.Syntax.{w32}
use mir.Val.{SFits}
use Rattle.whole.proofs.Lin.{true_not_false}
use Rattle.paper.specs.Numbers.{Reply, Verdict}
use Rattle.paper.specs.declared.Fault.{Fault}
use Rattle.paper.specs.declared.Refusal.TheVariants as refusal
use Rattle.paper.specs.declared.Delay.{Delay}
use Rattle.paper.specs.Network.{Network}
use Rattle.paper.specs.declared.Rule.{Rule}
use Rattle.paper.specs.File.{network_of}
use Rattle.paper.specs.Table.{Row, Given, Clear}
use Rattle.paper.specs.Outcome.{Judged}
use Rattle.paper.specs.Question.{Question, asked, Asked, InRange, slack_asked, question_rows, Answers, FileAnswers}
use Rattle.paper.proofs.TableLaws.{given_after}
use Rattle.network.proofs.Verdicts.{judged_faulty}
use Rattle.skew.specs.Slack.{numbers_within, TellsRule}
use Rattle.skew.proofs.Limits.{read, asked_read, numbers_in, in_numbers}

-- ---- in range, or not

-- what the two tests answered: of the numbers, and of the rules of a network of n registers and m paths
module _ {N : Network} {n m : ℕ} {period kind number tail head : ℤ} (en : n ≡ N.registers) (em : m ≡ N.paths) where
  -- the rule that was found is asked for
  pub asks_for : {r : Rule} → TellsRule n m kind number (Some r) → Asked N (asked period kind number tail head) r
  asks_for tells = let t = tells N en em in record { of_kind = t.1; of_number = t.2; exists = t.0 }

  -- with the numbers in their ranges, the question is in range
  pub is_in_range : (r : Rule) → numbers_within period tail head ≡ true → TellsRule n m kind number (Some r) → InRange N (asked period kind number tail head)
  is_in_range r e tells =
      let p = numbers_in e in
      record { period_within = p.period_within; tail_within = p.tail_within; head_within = p.head_within; rule = (r, asks_for tells) }

  -- there is no such rule: it is not
  pub no_rule_lem : TellsRule n m kind number None → InRange N (asked period kind number tail head) → ⊥
  no_rule_lem tells i = let r = i.rule in tells N en em r.0 r.1.exists r.1.of_kind r.1.of_number

-- a number lies outside its range: it is not
pub no_numbers : {N : Network} {period kind number tail head : ℤ} → numbers_within period tail head ≡ false → InRange N (asked period kind number tail head) → ⊥
no_numbers e i =
    let p = in_numbers (record { period_within = i.period_within; tail_within = i.tail_within; head_within = i.head_within }) in
    true_not_false p e

-- ---- the replies

-- an answer to a question as the code reads it back answers the question
pub as_read : (f : List ℕ) {period kind number tail head : ℤ} {o : Reply} → SFits w32 period → SFits w32 kind → SFits w32 number → SFits w32 tail → SFits w32 head
    → FileAnswers f (asked (read period) (read kind) (read number) (read tail) (read head)) o → FileAnswers f (asked period kind number tail head) o
as_read f p k n t h a = rw (asked_read p k n t h) at a

-- numbers 1 to 6: the file's own
pub faulty_reply : (f : List ℕ) {q : Question} (v : Verdict) (x : Fault) → Judged f v → v ≡ Err x
    → FileAnswers f q (Err (refusal.File x))
faulty_reply f {q} v x g e = record { given = judged_faulty f v x (question_rows (network_of f) q) g e; says = tt }

-- of any network N, where none of the rows t applies that come before the question's own
module _ (N : Network) (t : List Row) (q : Question) (clear : Clear t) where
  abbrev rows : List Row
  rows = question_rows N q

  abbrev Allowed : Reply → Type 0
  Allowed o = Answers N (t ++ rows) q o

  -- number 10
  pub question_reply : (InRange N q → ⊥) → Allowed (Err refusal.Question)
  question_reply h = record { given = given_after t rows 10 0 clear (inl (refl, (h, refl))); says = tt }

  module _ (i : InRange N q) where
    -- number 0
    pub unrefused : Given (t ++ rows) 0 0
    unrefused = given_after t rows 0 0 clear (inr ((λ p x. x.0 i), (refl, refl)))

    -- with it, the slack of the rule that is asked for
    pub slack_reply : (d : Delay) (r : Rule) → Asked N q r → d.0 ≡ slack_asked N q r → Allowed (Ok d)
    slack_reply d r a e = record { given = unrefused; says = (r, a, e) }
