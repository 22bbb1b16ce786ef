-- What the mended hold rule changed in what the scheduler may return and leave, against u charged everywhere. The contract as it was is kept here, and
-- for every accepted file with no self path, or with u 0, it is the contract; so it is for every accepted file that 8 did not apply to. Rests on `Demands`,
-- and on `Charged` and `Unchanged` of `loops`, which have the rule as it was.
use Rattle.std.specs.Prelude.{Ok, Err}
use mathlib.Core.Path.{◌≡◌, ap, ◌∙◌}
use mathlib.Core.Logic.{◌⊎◌, inl, inr, ◌↔◌}
use mathlib.Core.List.{List, [], ◌∷◌, ◌++◌}
use Prim.Native.Nat.{ℕ, ◌+◌, ◌*◌, ◌≤◌, ◌<◌}
use native.Mathlib.Omega.{arith}
use lib.IntN.{ℤ, pos, ◌+ℤ◌}
use lib.Signed.{◌≤ℤ◌, ◌<ℤ◌}
use lib.Dec.{leb}
use lib.ListN.{length}
use Rattle.whole.specs.Four.{word_at, signed_of, number_at, word_of, bytes_of, four}
use Rattle.whole.proofs.Lin.{lin}
use Rattle.paper.specs.declared.Unanswered.TheVariants as unanswered
use Rattle.paper.specs.Network.{Network}
use Rattle.paper.specs.Limits.{room_for}
use Rattle.paper.specs.declared.Rule.{Rule}
use Rattle.paper.specs.declared.Rule.TheVariants.{Hold}
use Rattle.paper.specs.Schedule.{setups}
use Rattle.paper.specs.File.{natural, network_of}
use Rattle.paper.specs.Table.{Row, Fails, When, Given}
use Rattle.paper.specs.Refusals.{Accepted, NoPeriod, NoneToCeiling, faults, schedule_rows}
use Rattle.paper.specs.Numbers.{Outcome, Reply, outcome_number, outcome_place}
use Rattle.paper.specs.Output.{AnswerOutput, LoopAlone}
use Rattle.paper.specs.Outcome.{Left, FileResult}
use Rattle.paper.specs.Question.{Question, Asked, InRange, FileAnswers, with_slack}
use Rattle.paper.proofs.Legal.{Legal, accepted_legal}
use Rattle.paper.proofs.RuleLaws.{self_hold_iff}
use Rattle.paper.proofs.TableLaws.{given_after, refusals_one_place}
use Rattle.paper.proofs.NumberLaws.{outcome_one}
use Rattle.worked.specs.Cases.{file_of}
use Rattle.worked.specs.RequestCases.{T}
use Rattle.loops.specs.Family.{ShownFrom}
use Rattle.loops.specs.Family as family
use Rattle.loops.proofs.Charged.{slack_everywhere, everywhere, AnswerEverywhere, NoPeriodEverywhere, NoneToCeilingEverywhere, SelfUncharged, same_slack}
use Rattle.loops.proofs.Unchanged.{Unchanged, unchanged_if_none, unchanged_if_scheduled, unchanged_unless_8, same_refutes, same_shown, same_answer, same_no_period, same_none_to_ceiling}
use Rattle.skew.proofs.Unique.{answer_unique}
use Rattle.skew.proofs.Calls.{given_rest}
use Rattle.skew.proofs.Demands.{refused_8_iff}
use Rattle.skew.proofs.QuestionLaws.{question_slack}

-- ---- a self path's hold rule

-- RULES 16.6: "a network in which dmin is less is still refused with 8"
pub self_hold_refused : (f : List ℕ) {before after : List ℕ} {o : Outcome} → Accepted f → 14 + 16 * (network_of f).registers ≤ length before
    → FileResult f before o after
    → (p : ℕ) → p < (network_of f).paths → (network_of f).from p ≡ (network_of f).to p
    → (network_of f).dmin p <ℤ (network_of f).hold ((network_of f).to p)
    → o ≡ Err unanswered.NoPeriod
self_hold_refused f a enough r p h self short =
    (refused_8_iff f a enough r).1 (λ P from s. let met = (self_hold_iff (network_of f) P s.0 p self).0 (s.1.meets (Hold p) h) in omega lin)

-- ---- the contract as it was

-- after number 0 (RULES 7.5, 7.10)
pub record AnsweredEverywhere (N : Network) (before after : List ℕ) : Type 0 where
  pub period : ℕ
  pub latency : ℕ → ℤ
  pub loop : List Rule
  pub answer : AnswerEverywhere N period latency
  pub shown : ShownFrom (everywhere N) N.floor period loop
  pub bytes : AnswerOutput N.registers period latency loop before after

-- what stood in the output, as `Left` has it
abbrev pub LeftEverywhere : Network → Outcome → List ℕ → List ℕ → Type 0
LeftEverywhere N (Ok tt) before after = AnsweredEverywhere N before after
LeftEverywhere N (Err (unanswered.Refused x)) before after = after ≡ before
LeftEverywhere N (Err unanswered.Room) before after = after ≡ before
LeftEverywhere N (Err unanswered.NoPeriod) before after =
    (l : List Rule) × (setups l ≡ 0) × ((P : ℕ) → family.Refutes (everywhere N) P l) × LoopAlone l before after
LeftEverywhere N (Err unanswered.NoneToCeiling) before after =
    (l : List Rule) × family.Refutes (everywhere N) N.ceiling l × LoopAlone l before after

-- the rows of 7, 8 and 9, the latter two when A and B hold; `schedule_rows` has the paper's own
abbrev rows_when : Network → ℕ → Type 0 → Type 0 → List Row
rows_when N room A B =
    record { number = 7; applies = Fails (leb (room_for N.registers) room) }
    ∷ record { number = 8; applies = When A }
    ∷ record { number = 9; applies = When B }
    ∷ []

abbrev rows_everywhere : Network → ℕ → List Row
rows_everywhere N room = rows_when N room (NoPeriodEverywhere N) (NoneToCeilingEverywhere N)

-- what the scheduler might return and leave, as `FileResult` has it
pub record FileResultEverywhere (f before : List ℕ) (o : Outcome) (after : List ℕ) : Type 0 where
  pub given : Given (faults f ++ rows_everywhere (network_of f) (length before)) (outcome_number o) (outcome_place o)
  pub output : LeftEverywhere (network_of f) o before after

-- ---- where it is the contract

-- rows that apply alike give alike
rows_alike : (N : Network) (room : ℕ) {A B A' B' : Type 0} → A ↔ A' → B ↔ B' → (n p : ℕ) → Given (rows_when N room A B) n p → Given (rows_when N room A' B') n p
rows_alike N room a b n p (inl seven) = inl seven
rows_alike N room a b n p (inr (s, inl eight)) = inr (s, inl (eight.0, (a.0 eight.1.0, eight.1.1)))
rows_alike N room a b n p (inr (s, inr (t, inl nine))) =
    inr (s, inr ((λ q h. t q (a.1 h.0, h.1)), inl (nine.0, (b.0 nine.1.0, nine.1.1))))
rows_alike N room a b n p (inr (s, inr (t, inr (u, none)))) =
    inr (s, inr ((λ q h. t q (a.1 h.0, h.1)), inr ((λ q h. u q (b.1 h.0, h.1)), none)))

module _ (N : Network) (legal : Legal N) (same : Unchanged N) (before after : List ℕ) where
  left_as_it_was : (o : Outcome) → Left N o before after → LeftEverywhere N o before after
  left_as_it_was (Ok tt) l =
      record {
        period = l.period;
        latency = l.latency;
        loop = l.loop;
        answer = (same_answer N legal same l.period l.latency).1 l.answer;
        shown = (same_shown N legal same l.period l.loop).1 l.shown;
        bytes = l.bytes;
      }
  left_as_it_was (Err (unanswered.Refused x)) l = l
  left_as_it_was (Err unanswered.Room) l = l
  left_as_it_was (Err unanswered.NoPeriod) l = (l.loop, l.no_setups, (λ P. (same_refutes N legal same P l.loop).1 (l.refutes P)), l.bytes)
  left_as_it_was (Err unanswered.NoneToCeiling) l = (l.loop, (same_refutes N legal same N.ceiling l.loop).1 l.refutes, l.bytes)

  left_as_it_is : (o : Outcome) → LeftEverywhere N o before after → Left N o before after
  left_as_it_is (Ok tt) l =
      record {
        period = l.period;
        latency = l.latency;
        loop = l.loop;
        answer = (same_answer N legal same l.period l.latency).0 l.answer;
        shown = (same_shown N legal same l.period l.loop).0 l.shown;
        bytes = l.bytes;
      }
  left_as_it_is (Err (unanswered.Refused x)) l = l
  left_as_it_is (Err unanswered.Room) l = l
  left_as_it_is (Err unanswered.NoPeriod) l = record { loop = l.0; no_setups = l.1; refutes = λ P. (same_refutes N legal same P l.0).0 (l.2 P); bytes = l.3 }
  left_as_it_is (Err unanswered.NoneToCeiling) l = record { loop = l.0; refutes = (same_refutes N legal same N.ceiling l.0).0 l.1; bytes = l.2 }

-- RULES 16.8: "Where a network has no self path, or u is 0". u is the header's number at byte 18 (RULES 5.6).
abbrev pub NoSelfPathOrNoU : List ℕ → Type 0
NoSelfPathOrNoU f = ((p : ℕ) → p < (network_of f).paths → (network_of f).from p ≡ (network_of f).to p → ⊥) ⊎ (number_at f 18 ≡ pos 0)

uncharged : (f : List ℕ) → NoSelfPathOrNoU f → (p : ℕ) → p < (network_of f).paths → SelfUncharged (network_of f) p
unfolding network_of
uncharged f (inl apart) p h = inl (apart p h)
uncharged f (inr zero) p h = inr zero

module _ (f : List ℕ) (a : Accepted f) {before after : List ℕ} {o : Outcome} where
  result_as_it_was : Unchanged (network_of f) → FileResult f before o after ↔ FileResultEverywhere f before o after
  result_as_it_was same = (
    λ r. record {
      given = given_after (faults f) (rows_everywhere N room) n p a (rows_alike N room (eight.1, eight.0) (nine.1, nine.0) n p (given_rest (faults f) (schedule_rows N room) n p a r.given));
      output = left_as_it_was N legal same before after o r.output;
    },
    λ r. record {
      given = given_after (faults f) (schedule_rows N room) n p a (rows_alike N room eight nine n p (given_rest (faults f) (rows_everywhere N room) n p a r.given));
      output = left_as_it_is N legal same before after o r.output;
    },
  )
    where
      N : Network
      N = network_of f

      room : ℕ
      room = length before

      n : ℕ
      n = outcome_number o

      p : ℕ
      p = outcome_place o

      legal : Legal N
      legal = accepted_legal f a

      eight : NoPeriodEverywhere N ↔ NoPeriod N
      eight = same_no_period N legal same

      nine : NoneToCeilingEverywhere N ↔ NoneToCeiling N
      nine = same_none_to_ceiling N legal same

  -- RULES 16.8: "Where a network has no self path, or u is 0, none of these depends on which of the two is read": one contract
  pub result_without_self_paths : NoSelfPathOrNoU f → FileResult f before o after ↔ FileResultEverywhere f before o after
  result_without_self_paths none = result_as_it_was (unchanged_if_none (network_of f) (uncharged f none))

  -- RULES 16.9: "Only a network that is refused with 8 when u is charged everywhere can have another result."
  pub result_unless_8 : (NoPeriodEverywhere (network_of f) → ⊥) → FileResult f before o after ↔ FileResultEverywhere f before o after
  result_unless_8 not-8 = result_as_it_was (unchanged_unless_8 (network_of f) not-8)

-- RULES 16.9: "What is answered then is answered now, with the same period and latencies; so no period becomes longer."
module _ (f : List ℕ) (a : Accepted f) {before after' : List ℕ} (was : FileResultEverywhere f before (Ok tt) after') where
  unchanged : Unchanged (network_of f)
  unchanged =
      let l = was.output in
      let floor = (accepted_legal f a).floor_from in
      let from = l.answer.from_floor in
      unchanged_if_scheduled (network_of f) l.period (omega arith) (l.latency, l.answer.schedule)

  pub answered_still : {after : List ℕ} {o : Outcome} → FileResult f before o after → o ≡ Ok tt
  answered_still r = outcome_one (refusals_one_place f (length before)) r ((result_as_it_was f a unchanged).1 was)

  pub answer_still : {after : List ℕ} (r : FileResult f before (Ok tt) after)
      → (r.output.period ≡ was.output.period)
      × ((i : ℕ) → i < (network_of f).registers → r.output.latency i ≡ was.output.latency i)
  answer_still r =
      let l = was.output in
      answer_unique r.output.answer ((same_answer (network_of f) (accepted_legal f a) unchanged l.period l.latency).0 l.answer)

  pub period_never_rises : {after : List ℕ} (r : FileResult f before (Ok tt) after) → r.output.period ≤ was.output.period
  period_never_rises r = let same = (answer_still r).0 in omega arith

-- ---- the rule question

-- RULES 16.8: "and the slack of every rule": what the question tells of an accepted file is the slack with u charged everywhere
pub slack_without_self_paths : (f : List ℕ) → Accepted f → NoSelfPathOrNoU f → (q : Question) (r : Rule) (o : Reply)
    → InRange (network_of f) q → Asked (network_of f) q r → FileAnswers f q o
    → o ≡ with_slack (slack_everywhere (network_of f) (natural q.period) r q.tail_latency q.head_latency)
slack_without_self_paths f a none q r o in_range asked-for answers =
    question_slack f q r o a in_range asked-for answers
    ∙ ap with_slack (same_slack (network_of f) (natural q.period) q.tail_latency q.head_latency r (λ p e. uncharged f none p (rw e at asked-for.exists)))

-- ---- the toggle flip-flop

-- RULES 16.13: "T would be refused with 8": its hold rule asked for 3 more than the latency that it has, at every period. Now T is answered
-- (`requested_results`).
pub toggle_was_refused : NoPeriodEverywhere (network_of (file_of T))
unfolding file_of network_of number_at word_at signed_of four bytes_of word_of
toggle_was_refused P h s =
    let asked : (s.0 1 +ℤ pos 3) ≤ℤ s.0 1 = s.1.meets (Hold 0) (omega arith) in
    omega lin
