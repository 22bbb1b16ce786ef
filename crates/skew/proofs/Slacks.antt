-- How large a slack can be, and what the slacks of the loop that is shown add up to. Rests on the ranges of an accepted file's network, and on
-- `SlackLaws` of `paper`.
use Rattle.std.specs.Prelude.{Ok}
use mathlib.Core.Path.{◌≡◌, refl}
use mathlib.Core.Logic.{◌↔◌}
use mathlib.Core.List.{List, [], ◌∷◌, map}
use Prim.Native.Nat.{ℕ, ◌-◌, ◌<◌}
use native.Mathlib.Omega.{arith}
use lib.IntN.{ℤ, pos, ◌+ℤ◌, ◌-ℤ◌}
use Rattle.whole.specs.Between.{Between}
use Rattle.whole.proofs.Lin.{lin, negs}
use Rattle.paper.specs.declared.Delay.{Delay}
use Rattle.paper.specs.Network.{Network}
use Rattle.paper.specs.declared.Rule.{Rule}
use Rattle.paper.specs.declared.Rule.TheVariants.{Setup, Hold, Low, High}
use Rattle.paper.specs.Rules.{kind, number, Exists, slack}
use Rattle.paper.specs.Schedule.{Schedule, IsLoop, Contradicts, Answer, Shown}
use Rattle.paper.specs.Limits.{least_latency, most_latency, most_delay, Period}
use Rattle.paper.specs.File.{natural, network_of}
use Rattle.paper.specs.Refusals.{Accepted}
use Rattle.paper.specs.Question.{Question, Asked, InRange, slack_asked, FileAnswers}
use Rattle.paper.specs.Outcome.{FileResult}
use Rattle.paper.proofs.Legal.{Legal, accepted_legal, within_is, natural_is}
use Rattle.paper.proofs.ChargeLaws.{charged_between}
use Rattle.paper.proofs.SlackLaws.{slacks_below, slacks_from}
use Rattle.worked.specs.Slacks.{SlackCase, ends}
use Rattle.skew.specs.Asks.{least_slack, most_slack}
use Rattle.skew.specs.Proves.{LeavesNoRoom}
use Rattle.skew.proofs.QuestionLaws.{question_answered_iff}

-- ---- how large

-- the ends of a sum, and of a difference
module _ {a b c d x y : ℤ} (h : Between a b x) (k : Between c d y) where
  sum : Between (a +ℤ c) (b +ℤ d) (x +ℤ y)
  sum = record { from = omega lin; to = omega lin }

  difference : Between (a -ℤ d) (b -ℤ c) (x -ℤ y)
  difference = record { from = omega (lin, negs d, negs y); to = omega (lin, negs c, negs y) }

module _ (N : Network) (l : Legal N) (P : ℕ) (period : Period (pos P)) (t v : ℤ) (tail : Between least_latency most_latency t) (head : Between least_latency most_latency v) where
  module _ (p : ℕ) (e : p < N.paths) where
    dmin_between : Between (pos 0) most_delay (N.dmin p)
    dmin_between = let m = l.dmin p e in let d = l.dmax p e in record { from = omega lin; to = omega lin }

    dmax_between : Between (pos 0) most_delay (N.dmax p)
    dmax_between = let m = l.dmin p e in let d = l.dmax p e in record { from = omega lin; to = omega lin }

  high_between : (i : ℕ) → i < N.registers → Between least_latency most_latency (N.high i)
  high_between i h = let w = l.high i h in let b = l.low i h in record { from = omega lin; to = omega lin }

  -- RULES 15.6: "the slacks that a file and a question can reach lie between these ends": what each side is made of lies between its own
  slack_between : (r : Rule) → Exists N r → Between (least_slack r) (most_slack r) (slack N P r t v)
  slack_between (Setup p) e =
      difference (sum head period) (sum (sum (sum tail (dmax_between p e)) (l.setup (N.to p) (l.to p e))) (l.uncertainty p e))
  slack_between (Hold p) e =
      difference (sum head (dmin_between p e)) (sum (sum tail (l.hold (N.to p) (l.to p e))) (charged_between l p e))
  slack_between (Low i) e = difference head (l.low i e.1)
  slack_between (High i) e = difference (high_between i e.1) tail

-- so the slack of a question that is not refused is far from the ends of 32 bits
pub slack_within : (f : List ℕ) → Accepted f → {q : Question} → InRange (network_of f) q → (r : Rule) → Asked (network_of f) q r
    → Between (least_slack r) (most_slack r) (slack_asked (network_of f) q r)
slack_within f a {q} i r k =
    let p = within_is _ _ _ i.period_within in
    let n = natural_is q.period (omega lin) in
    slack_between (network_of f) (accepted_legal f a) (natural q.period) (record { from = omega lin; to = omega lin }) q.tail_latency q.head_latency
    (within_is _ _ _ i.tail_within) (within_is _ _ _ i.head_within) r k.exists

-- of what is told: there is one rule that it can be told of
pub told_within : (f : List ℕ) {q : Question} (d : Delay) → FileAnswers f q (Ok d)
    → (r : Rule) × Asked (network_of f) q r × Between (least_slack r) (most_slack r) d.0
told_within f d a =
    let h = (question_answered_iff f a).0 (d.0, refl) in
    let s = a.says in
    (s.0, s.1, rw s.2 (slack_within f h.0 h.1 s.0 s.1))

-- RULES 15.6: "each end is reached (15.9)": by the rows worked by hand, which `slacks_told` of `worked` proves. A row's kind, number and slack
abbrev row_of : SlackCase → ℤ × ℤ × ℤ
row_of c = (c.question.kind_asked, c.question.number_asked, c.slack)

-- those of a rule and a slack
abbrev as_row : Rule → ℤ → ℤ × ℤ × ℤ
as_row r z = (pos (kind r), pos (number r), z)

pub ends_are : map row_of ends
    ≡ as_row (Setup 0) (most_slack (Setup 0))
    ∷ as_row (Setup 0) (least_slack (Setup 0))
    ∷ as_row (Hold 1) (most_slack (Hold 1))
    ∷ as_row (Hold 0) (least_slack (Hold 0))
    ∷ as_row (Low 1) (most_slack (Low 1))
    ∷ as_row (Low 1) (least_slack (Low 1))
    ∷ as_row (High 1) (most_slack (High 1))
    ∷ as_row (High 2) (least_slack (High 2))
    ∷ []
ends_are = refl

-- ---- the loop that is shown

-- By the latencies of a schedule at P, a loop leaves no room exactly when it contradicts itself at the period less 1.
pub no_room_iff : (N : Network) (P : ℕ) (x : ℕ → ℤ) → 0 < P → Schedule N P x → (l : List Rule) → IsLoop N l → LeavesNoRoom N P x l ↔ Contradicts N (P - 1) l
no_room_iff N P x from s l i =
    let below = slacks_below N P x from s.host l i in
    ((λ h. below.0 h.below_setups), (λ c. record { from_zero = slacks_from N P x s l i; below_setups = below.1 c }))

-- the loop that is shown does
shown_leaves : (N : Network) (P : ℕ) (x : ℕ → ℤ) (l : List Rule) → Answer N P x → Shown N P l → N.floor < P → LeavesNoRoom N P x l
shown_leaves N P x [] a s h = absurd (omega arith)
shown_leaves N P x (r ∷ l) a s h = (no_room_iff N P x (omega arith) a.schedule (r ∷ l) s.1.is_loop).1 s.1.contradicts

-- RULES 15.7: "where an answer's period is above its floor, the slacks of the rules of the loop that is shown, at the returned period and latencies,
-- add up to less than the number of the loop's setup rules"
pub loop_leaves_no_room : (f : List ℕ) {before after : List ℕ} (s : FileResult f before (Ok tt) after)
    → (network_of f).floor < s.output.period
    → LeavesNoRoom (network_of f) s.output.period s.output.latency s.output.loop
loop_leaves_no_room f s = let a = s.output in shown_leaves (network_of f) a.period a.latency a.loop a.answer a.shown
