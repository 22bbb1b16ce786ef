-- The rule question.
--
-- RULES 8.1: "The question names a file, a period, a rule by its kind and number, and two latencies: that at the tail of the rule's arrow and
-- that at its head. It answers by how much the rule is met (15.1), and so whether it is."
-- RULES 8.2: "A file that is not accepted is refused first, with 1 to 6 and the places of 6.2."
-- RULES 8.7: "A latency of the host other than 0 is no ground to refuse. Setup and hold rules take it as it is given. Low and high rules do
-- not read it"
-- RULES 8.8: "On a path from a register to itself both latencies are taken as they are given, even when they differ."
use Rattle.std.specs.Prelude.{◌≡◌, List, [], ◌∷◌, ◌++◌, true, ℕ, ℤ, pos, ◌<ℤ◌, Ok, Err}
use Rattle.paper.specs.Network.{Network}
use Rattle.paper.specs.declared.Rule.{Rule}
use Rattle.paper.specs.Rules.{kind, number, Exists, ◌≥ℤ◌, slack}
use Rattle.paper.specs.File.{natural, within, network_of}
use Rattle.paper.specs.Table.{Row, When, Given}
use Rattle.paper.specs.Refusals.{faults}
use Rattle.paper.specs.Numbers.{Reply, reply_number, reply_place}
use Rattle.paper.specs.Limits.{most_period, least_latency, most_latency}

-- a question: the period, the rule's kind and number, the latencies at the arrow's tail and head
pub record Question : Type 0 where
  pub period : ℤ
  pub kind_asked : ℤ
  pub number_asked : ℤ
  pub tail_latency : ℤ
  pub head_latency : ℤ

-- the five numbers of a call, as a question
abbrev pub asked : (period kind number tail head : ℤ) → Question
asked period kind number tail head =
    record { period = period; kind_asked = kind; number_asked = number; tail_latency = tail; head_latency = head }

module _ (N : Network) (q : Question) where
  -- the rule that is asked for
  pub record Asked (r : Rule) : Type 0 where
    pub of_kind : q.kind_asked ≡ pos (kind r)
    pub of_number : q.number_asked ≡ pos (number r)
    pub exists : Exists N r

  pub record InRange : Type 0 where
    pub period_within : within (pos 1) (pos most_period) q.period ≡ true
    pub tail_within : within least_latency most_latency q.tail_latency ≡ true
    pub head_within : within least_latency most_latency q.head_latency ≡ true
    pub rule : (r : Rule) × Asked r

  -- the slack of a rule, by the period and the latencies that are given
  abbrev pub slack_asked : Rule → ℤ
  slack_asked r = slack N (natural q.period) r q.tail_latency q.head_latency

-- RULES 8.3: "Then the question is refused with 10 when the period is outside 1 to 10,000,000, or one of the latencies is outside -1,000,000
-- to 1,000,000, or the network has no such rule"
abbrev pub question_rows : Network → Question → List Row
question_rows N q = record { number = 10; applies = When (InRange N q → ⊥) } ∷ []

-- the question's table, of a file
abbrev pub question_refusals : List ℕ → Question → List Row
question_refusals f q = faults f ++ question_rows (network_of f) q

-- RULES 15.1: "A rule question that is not refused answers one whole number of picoseconds, the slack of the rule that is asked for."
-- RULES 15.5: "A refusal carries no slack."
abbrev pub Says : Network → Question → Reply → Type 0
Says N q (Ok d) = (r : Rule) × Asked N q r × (d.0 ≡ slack_asked N q r)
Says N q (Err x) = Unit {0}

-- The rule question, given the network N, with these rows for its table of numbers, may return o.
pub record Answers (N : Network) (rows : List Row) (q : Question) (o : Reply) : Type 0 where
  pub given : Given rows (reply_number o) (reply_place o)
  pub says : Says N q o

-- a file's: its network, and its refusals
abbrev pub FileAnswers : List ℕ → Question → Reply → Type 0
FileAnswers f q o = Answers (network_of f) (question_refusals f q) q o

-- the reply that tells the slack z
abbrev pub with_slack : ℤ → Reply
with_slack z = Ok (record { 0 = z })

-- RULES 15.4: "Yes is a slack of at least 0, and no is a slack below 0." RULES 8.6: "A refusal is neither."
abbrev pub Yes : Reply → Type 0
Yes (Ok d) = d.0 ≥ℤ pos 0
Yes (Err x) = ⊥

abbrev pub No : Reply → Type 0
No (Ok d) = d.0 <ℤ pos 0
No (Err x) = ⊥
