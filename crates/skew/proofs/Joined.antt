-- The two public functions agree: of the answer that the scheduler returns, the rule question says yes to every rule, and tells by how much.
-- And latencies are a schedule exactly when it says yes. Rests on the laws of rules, by which a rule is met exactly when its inequality holds.
use Rattle.std.specs.Prelude.{Ok, Err}
use mathlib.Core.Path.{◌≡◌, refl, ap}
use mathlib.Core.Logic.{◌↔◌}
use mathlib.Core.List.{List, ◌++◌}
use Prim.Native.Nat.{ℕ, zero, suc, ◌≤◌}
use native.Mathlib.Omega.{arith}
use lib.IntN.{ℤ, pos}
use Rattle.whole.proofs.Lin.{lin}
use Rattle.paper.specs.Numbers.{Reply}
use Rattle.paper.specs.Network.{Network}
use Rattle.paper.specs.declared.Rule.{Rule}
use Rattle.paper.specs.declared.Rule.TheVariants.{Low, High}
use Rattle.paper.specs.Rules.{Exists, ◌≥ℤ◌, tail, head, slack_by}
use Rattle.paper.specs.Schedule.{Schedule, Answer}
use Rattle.paper.specs.File.{network_of}
use Rattle.paper.specs.Table.{Row, Clear}
use Rattle.paper.specs.Refusals.{Accepted, faults}
use Rattle.paper.specs.Question.{Question, Asked, InRange, slack_asked, question_rows}
use Rattle.paper.specs.Outcome.{FileResult}
use Rattle.paper.proofs.Legal.{Legal, is_within, accepted_legal}
use Rattle.paper.proofs.RuleLaws.{met_is_rule}
use Rattle.paper.proofs.TableLaws.{OnePlaces, one_places_append, question_one_place, faults_one_place}
use Rattle.paper.proofs.NumberLaws.{reply_one}
use Rattle.loops.proofs.Places.{tail_below, head_below, legal_joined}
use Rattle.skew.specs.Asks.{question_of, LatenciesInRange, TellsSlack, SaysYes, FileTellsSlack, FileSaysYes}
use Rattle.skew.proofs.Numbers.{accepted_beyond}
use Rattle.skew.proofs.Demands.{returned_answer}
use Rattle.skew.proofs.Replies.{slack_reply}
use Rattle.paper.specs.Limits.{most_period, least_latency, most_latency}

-- a schedule's latencies lie in their windows, these in -1,000,000 to 1,000,000 (RULES 5.6), and the host's is 0
pub schedule_within : (N : Network) → Legal N → (P : ℕ) (x : ℕ → ℤ) → Schedule N P x → LatenciesInRange N x
schedule_within N l P x s zero h = let z = s.host in record { from = omega lin; to = omega lin }
schedule_within N l P x s (suc i) h =
    let up = s.meets (Low (suc i)) (omega arith, h) in
    let down = s.meets (High (suc i)) (omega arith, h) in
    let low = (l.low (suc i) h).from in
    let high = (l.high (suc i) h).to in
    record { from = omega lin; to = omega lin }

-- a question about rule r, at a period and with latencies, in range where these are
module _ (N : Network) (l : Legal N) (P : ℕ) (from : 1 ≤ P) (to : P ≤ most_period) (x : ℕ → ℤ) (w : LatenciesInRange N x) (r : Rule) (e : Exists N r) where
  asked : Asked N (question_of N P x r) r
  asked = record { of_kind = refl; of_number = refl; exists = e }

  in_range : InRange N (question_of N P x r)
  in_range =
      record {
        period_within = is_within (pos 1) (pos most_period) (pos P) (record { from = omega lin; to = omega lin });
        tail_within = is_within least_latency most_latency _ (w (tail N r) (tail_below N (legal_joined N l) r e));
        head_within = is_within least_latency most_latency _ (w (head N r) (head_below N (legal_joined N l) r e));
        rule = (r, asked);
      }

-- One such question: the one reply to it tells the rule's slack. Of any network, and of any rows t before number 10 of which none applies.
module _ (N : Network) (t : List Row) (clear : Clear t) (places : OnePlaces t) (q : Question) (i : InRange N q) (r : Rule) (a : Asked N q r) where
  abbrev rows : List Row
  rows = t ++ question_rows N q

  one_places : OnePlaces rows
  one_places = one_places_append t (question_rows N q) places (question_one_place N q)

  tells_slack : TellsSlack N rows q (slack_asked N q r)
  tells_slack =
      let told = slack_reply N t q clear i (record { 0 = slack_asked N q r }) r a refl in
      record { in_range = i; allowed = told; only = λ o h. reply_one one_places h told }

  -- so it says yes exactly when that is at least 0
  met_yes : slack_asked N q r ≥ℤ pos 0 → SaysYes N rows q
  met_yes m = record { slack = slack_asked N q r; told = tells_slack; met = m }

  yes_met : SaysYes N rows q → slack_asked N q r ≥ℤ pos 0
  yes_met y =
      let one = y.told.only _ tells_slack.allowed in
      let same : slack_asked N q r ≡ y.slack = ap told_in one in
      rw same y.met
    where
      told_in : Reply → ℤ
      told_in (Ok d) = d.0
      told_in (Err x) = pos 0

-- RULES 8.5: "the answer is yes exactly when the inequality of the rule holds": latencies in range, with 0 for the host, are a schedule
-- exactly when the rule question says yes to every rule.
pub schedule_iff_says : (N : Network) → Legal N → (t : List Row) → Clear t → OnePlaces t
    → (P : ℕ) → 1 ≤ P → P ≤ most_period → (x : ℕ → ℤ) → x 0 ≡ pos 0 → LatenciesInRange N x
    → Schedule N P x ↔ ((r : Rule) → Exists N r → SaysYes N (t ++ question_rows N (question_of N P x r)) (question_of N P x r))
schedule_iff_says N l t clear places P from to x host w = (
  (λ s r e. met_yes N t clear places (question_of N P x r) (in_range N l P from to x w r e) r (asked N l P from to x w r e) ((met_is_rule N P x r).1 (s.meets r e))),
  (λ y.
      record {
        host = host;
        meets = λ r e. (met_is_rule N P x r).0
            (yes_met N t clear places (question_of N P x r) (in_range N l P from to x w r e) r (asked N l P from to x w r e) (y r e));
      }),
)

-- the same of an accepted file's question
pub schedule_iff_yes : (f : List ℕ) → Accepted f → (P : ℕ) → 1 ≤ P → P ≤ most_period → (x : ℕ → ℤ) → x 0 ≡ pos 0 → LatenciesInRange (network_of f) x
    → Schedule (network_of f) P x ↔ ((r : Rule) → Exists (network_of f) r → FileSaysYes f (question_of (network_of f) P x r))
schedule_iff_yes f a = schedule_iff_says (network_of f) (accepted_legal f a) (faults f) a (faults_one_place f)

-- ---- at an answer's period and latencies

module _ (f : List ℕ) (a : Accepted f) (P : ℕ) (x : ℕ → ℤ) (h : Answer (network_of f) P x) where
  abbrev N : Network
  N = network_of f

  from : 1 ≤ P
  from = let l = accepted_legal f a in let on = h.from_floor in omega (arith, l.floor_from)

  to : P ≤ most_period
  to = let l = accepted_legal f a in let up = h.to_ceiling in omega (arith, l.ceiling_to)

  within : LatenciesInRange N x
  within = schedule_within N (accepted_legal f a) P x h.schedule

  -- to every rule of an accepted network, the question at the answered period with the answered latencies is in range and says yes
  pub answered_question : (r : Rule) → Exists N r → FileSaysYes f (question_of N P x r)
  answered_question = (schedule_iff_yes f a P from to x h.schedule.host within).0 h.schedule

  -- and it tells the rule's slack by these latencies
  pub answered_slack : (r : Rule) → Exists N r → FileTellsSlack f (question_of N P x r) (slack_by N P x r)
  answered_slack r e =
      let l = accepted_legal f a in
      tells_slack N (faults f) a (faults_one_place f) (question_of N P x r) (in_range N l P from to x within r e) r (asked N l P from to x within r e)

-- RULES 10.7: "The two calls agree: for an answered file the rule question says yes to every rule of the network, at the period and the
-- latencies that were returned."
module _ (f : List ℕ) {before after : List ℕ} (s : FileResult f before (Ok tt) after) where
  pub returned_question : (r : Rule) → Exists (network_of f) r → FileSaysYes f (question_of (network_of f) s.output.period s.output.latency r)
  returned_question = answered_question f (accepted_beyond f s refl) s.output.period s.output.latency (returned_answer s)

  -- and it tells by how much
  pub returned_slack : (r : Rule) → Exists (network_of f) r
      → FileTellsSlack f (question_of (network_of f) s.output.period s.output.latency r) (slack_by (network_of f) s.output.period s.output.latency r)
  returned_slack = answered_slack f (accepted_beyond f s refl) s.output.period s.output.latency (returned_answer s)
