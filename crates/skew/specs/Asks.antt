-- The rule question that a schedule is held against, what is said of its reply, and between which ends a slack lies.
use Rattle.std.specs.Prelude.{◌≡◌, List, ℕ, ◌<◌, ℤ, pos, neg_ℤ}
use Rattle.paper.specs.Numbers.{Reply}
use Rattle.paper.specs.Network.{Network}
use Rattle.paper.specs.declared.Rule.{Rule}
use Rattle.paper.specs.declared.Rule.TheVariants.{Setup, Hold, Low, High}
use Rattle.paper.specs.Rules.{kind, number, tail, head}
use Rattle.paper.specs.File.{network_of}
use Rattle.paper.specs.Table.{Row}
use Rattle.paper.specs.Question.{Question, InRange, Answers, question_refusals, with_slack, Yes}
use Rattle.whole.specs.Between.{Between}
use Rattle.paper.specs.Limits.{least_latency, most_latency}

-- by how much rule r is met at period P by the latencies x. RULES 8.1: "The question names .. a period, a rule by its kind and number, and two
-- latencies: that at the tail of the rule's arrow and that at its head."
abbrev pub question_of : Network → ℕ → (ℕ → ℤ) → Rule → Question
question_of N P x r =
    record {
      period = pos P;
      kind_asked = pos (kind r);
      number_asked = pos (number r);
      tail_latency = x (tail N r);
      head_latency = x (head N r);
    }

-- RULES 8.3: "one of the latencies is outside -1,000,000 to 1,000,000": none is
abbrev pub LatenciesInRange : Network → (ℕ → ℤ) → Type 0
LatenciesInRange N x = (i : ℕ) → i < N.registers → Between least_latency most_latency (x i)

-- The question is not refused, and the one reply to it tells the slack z.
pub record TellsSlack (N : Network) (rows : List Row) (q : Question) (z : ℤ) : Type 0 where
  pub in_range : InRange N q
  pub allowed : Answers N rows q (with_slack z)
  pub only : (o : Reply) → Answers N rows q o → o ≡ with_slack z

-- RULES 15.4: "Yes is a slack of at least 0"
pub record SaysYes (N : Network) (rows : List Row) (q : Question) : Type 0 where
  pub slack : ℤ
  pub told : TellsSlack N rows q slack
  pub met : Yes (with_slack slack)

-- a file's question
abbrev pub FileTellsSlack : List ℕ → Question → ℤ → Type 0
FileTellsSlack f q z = TellsSlack (network_of f) (question_refusals f q) q z

abbrev pub FileSaysYes : List ℕ → Question → Type 0
FileSaysYes f q = SaysYes (network_of f) (question_refusals f q) q

-- The ends between which the slacks of accepted files' questions lie.
--
-- RULES 15.6:
-- | kind | smallest slack | greatest slack |
-- | setup | -3,109,999 | 12,100,000 |
-- | hold | -2,110,000 | 3,100,000 |
-- | low | -2,000,000 | 2,000,000 |
-- | high | -2,000,000 | 2,000,000 |
abbrev pub least_slack : Rule → ℤ
least_slack (Setup p) = neg_ℤ (pos 3109999)
least_slack (Hold p) = neg_ℤ (pos 2110000)
least_slack (Low i) = neg_ℤ (pos 2000000)
least_slack (High i) = neg_ℤ (pos 2000000)

abbrev pub most_slack : Rule → ℤ
most_slack (Setup p) = pos 12100000
most_slack (Hold p) = pos 3100000
most_slack (Low i) = pos 2000000
most_slack (High i) = pos 2000000
