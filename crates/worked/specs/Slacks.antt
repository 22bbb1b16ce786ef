-- Slacks worked by hand (RULES 15.9): a table of rule questions, each with the one number that answers it. A row reads as the paper's: the
-- network, the rule, the period, the latencies at the tail and at the head of the rule's arrow, the slack. Kinds and limits stand here as
-- numbers and not by their names in `Rules` and `Limits`, which the table holds to these numbers. `WorkedSlack` says of a row what the definitions
-- must say, and `proofs/SlackCases.antt` shows it for the whole table.
use Rattle.std.specs.Prelude.{◌≡◌, List, [], ◌∷◌, ◌++◌, ℕ, ℤ, pos}
use Rattle.paper.specs.Numbers.{Reply}
use Rattle.paper.specs.Question.{Question, asked, FileAnswers, with_slack}
use Rattle.worked.specs.Cases.{Described, file_of, network_a, network_d, host_alone}
use Rattle.worked.specs.Rejected.{A, minus}

-- ---- the networks

-- RULES 15.9: "M is 1,000,000."
abbrev pub M : ℕ
M = 1000000

-- A with u 1, and D (RULES 11.5)
abbrev pub A6 : Described
A6 = network_a 1 100 1

abbrev pub D : Described
D = network_d (minus 10) (pos 10)

-- RULES 11.5: | B | n = 1, hold 1, setup 0, u 0, one path (0, 0, 0, 5) | refused 8 | | | hold 0 |
abbrev pub B : Described
B = host_alone (pos 1) ((pos 0, pos 0, pos 0, pos 5) ∷ [])

-- RULES 15.8: "Networks G and H have floor 1 and ceiling 10,000,000. Their register 0 has setup, hold, low and high 0. G has n = 2, m = 2 and u 0;
-- register 1 has setup and hold -100,000 and the window -1,000,000 to 1,000,000; path 0 is (0, 1, 0, 0), path 1 is (0, 1, 1,000,000,
-- 1,000,000)."
abbrev pub G : Described
G =
    record {
      floor = pos 1;
      ceiling = pos 10000000;
      u = pos 0;
      registers = (pos 0, pos 0, pos 0, pos 0) ∷ (minus 100000, minus 100000, minus 1000000, pos 1000000) ∷ [];
      paths = (pos 0, pos 1, pos 0, pos 0) ∷ (pos 0, pos 1, pos 1000000, pos 1000000) ∷ [];
    }

-- RULES 15.8: "H has n = 3, m = 1 and u 10,000; registers 1 and 2 have setup and hold 100,000; the window of register 1 is 1,000,000 to
-- 1,000,000, that of register 2 is -1,000,000 to -1,000,000; path 0 is (0, 1, 0, 1,000,000)."
abbrev pub H : Described
H =
    record {
      floor = pos 1;
      ceiling = pos 10000000;
      u = pos 10000;
      registers =
          (pos 0, pos 0, pos 0, pos 0)
          ∷ (pos 100000, pos 100000, pos 1000000, pos 1000000)
          ∷ (pos 100000, pos 100000, minus 1000000, minus 1000000)
          ∷ [];
      paths = (pos 0, pos 1, pos 0, pos 1000000) ∷ [];
    }

-- ---- a row, and what must be so

-- a rule as a question names it: the kind's number (RULES 2.2), and the number of the path or register
abbrev pub Named : Type 0
Named = ℤ × ℤ

abbrev pub setup : ℕ → Named
setup p = (pos 0, pos p)

abbrev pub hold : ℕ → Named
hold p = (pos 1, pos p)

abbrev pub low : ℕ → Named
low i = (pos 2, pos i)

abbrev pub high : ℕ → Named
high i = (pos 3, pos i)

-- the question for a rule, in the order of the paper's columns
abbrev pub asks : Named → (period tail head : ℤ) → Question
asks rule period tail head = asked period rule.0 rule.1 tail head

pub record SlackCase : Type 0 where
  pub network : Described
  pub question : Question
  pub slack : ℤ

abbrev pub told : Described → Named → (period tail head slack : ℤ) → SlackCase
told network rule period tail head slack =
    record { network = network; question = asks rule period tail head; slack = slack }

-- The question about the row's file is answered by the row's slack, and by nothing else: by no other slack and by no refusal.
pub record WorkedSlack (c : SlackCase) : Type 0 where
  pub allowed : FileAnswers (file_of c.network) c.question (with_slack c.slack)
  pub only : (o : Reply) → FileAnswers (file_of c.network) c.question o → o ≡ with_slack c.slack

-- ---- the rows

-- RULES 15.9: "In the first thirteen rows the period and the latencies at the two ends of the rule's arrow are those of the network's answer"
--
-- RULES 15.9:
-- | A | setup 0 | 9 | 0 | 1 | 0 |
-- | A | setup 1 | 9 | 1 | -1 | 3 |
-- | A | setup 2 | 9 | -1 | 0 | 3 |
-- | A | hold 0 | 9 | 1 | 0 | 0 |
-- | A | hold 1 | 9 | -1 | 1 | 3 |
-- | A | hold 2 | 9 | 0 | -1 | 0 |
-- | A | low 1 | 9 | 0 | 1 | 11 |
-- | A | low 2 | 9 | 0 | -1 | 9 |
-- | A | high 1 | 9 | 1 | 0 | 9 |
-- | A | high 2 | 9 | -1 | 0 | 11 |
-- | A6 | hold 1 | 11 | 0 | 0 | 0 |
-- | D | setup 0 | 8 | 0 | 2 | 0 |
-- | D | setup 1 | 8 | 2 | 0 | 1 |
abbrev pub at_answers : List SlackCase
at_answers =
    told A (setup 0) (pos 9) (pos 0) (pos 1) (pos 0)
    ∷ told A (setup 1) (pos 9) (pos 1) (minus 1) (pos 3)
    ∷ told A (setup 2) (pos 9) (minus 1) (pos 0) (pos 3)
    ∷ told A (hold 0) (pos 9) (pos 1) (pos 0) (pos 0)
    ∷ told A (hold 1) (pos 9) (minus 1) (pos 1) (pos 3)
    ∷ told A (hold 2) (pos 9) (pos 0) (minus 1) (pos 0)
    ∷ told A (low 1) (pos 9) (pos 0) (pos 1) (pos 11)
    ∷ told A (low 2) (pos 9) (pos 0) (minus 1) (pos 9)
    ∷ told A (high 1) (pos 9) (pos 1) (pos 0) (pos 9)
    ∷ told A (high 2) (pos 9) (minus 1) (pos 0) (pos 11)
    ∷ told A6 (hold 1) (pos 11) (pos 0) (pos 0) (pos 0)
    ∷ told D (setup 0) (pos 8) (pos 0) (pos 2) (pos 0)
    ∷ told D (setup 1) (pos 8) (pos 2) (pos 0) (pos 1)
    ∷ []

-- RULES 15.3: "where the rule is broken it is negative, and tells by how much"
--
-- RULES 15.9:
-- | A | setup 0 | 8 | 0 | 1 | -1 |
-- | A | hold 0 | 8 | 2 | 0 | -1 |
-- | A | low 1 | 9 | 5 | -11 | -1 |
-- | A | high 1 | 9 | 11 | 5 | -1 |
abbrev pub broken : List SlackCase
broken =
    told A (setup 0) (pos 8) (pos 0) (pos 1) (minus 1)
    ∷ told A (hold 0) (pos 8) (pos 2) (pos 0) (minus 1)
    ∷ told A (low 1) (pos 9) (pos 5) (minus 11) (minus 1)
    ∷ told A (high 1) (pos 9) (pos 11) (pos 5) (minus 1)
    ∷ []

-- RULES 15.6: "the slacks that a file and a question can reach lie between these ends, and each end is reached"
--
-- RULES 15.9:
-- | G | setup 0 | 10M | -M | M | 12,100,000 |
-- | H | setup 0 | 1 | M | -M | -3,109,999 |
-- | G | hold 1 | 1 | -M | M | 3,100,000 |
-- | H | hold 0 | 10M | M | -M | -2,110,000 |
-- | G | low 1 | 1 | 0 | M | 2,000,000 |
-- | H | low 1 | 1 | 0 | -M | -2,000,000 |
-- | G | high 1 | 1 | -M | 0 | 2,000,000 |
-- | H | high 2 | 1 | M | 0 | -2,000,000 |
abbrev pub ends : List SlackCase
ends =
    told G (setup 0) (pos 10000000) (minus M) (pos M) (pos 12100000)
    ∷ told H (setup 0) (pos 1) (pos M) (minus M) (minus 3109999)
    ∷ told G (hold 1) (pos 1) (minus M) (pos M) (pos 3100000)
    ∷ told H (hold 0) (pos 10000000) (pos M) (minus M) (minus 2110000)
    ∷ told G (low 1) (pos 1) (pos 0) (pos M) (pos 2000000)
    ∷ told H (low 1) (pos 1) (pos 0) (minus M) (minus 2000000)
    ∷ told G (high 1) (pos 1) (minus M) (pos 0) (pos 2000000)
    ∷ told H (high 2) (pos 1) (pos M) (pos 0) (minus 2000000)
    ∷ []

-- B's setup and hold times differ. RULES 8.8: "On a path from a register to itself both latencies are taken as they are given, even when they
-- differ."
--
-- RULES 15.9:
-- | B | setup 0 | 9 | 2 | 5 | 7 |
-- | B | hold 0 | 9 | 2 | 5 | 2 |
abbrev pub to_itself : List SlackCase
to_itself = told B (setup 0) (pos 9) (pos 2) (pos 5) (pos 7) ∷ told B (hold 0) (pos 9) (pos 2) (pos 5) (pos 2) ∷ []

-- ---- the table

unfoldable pub slacks : List SlackCase
slacks = at_answers ++ broken ++ ends ++ to_itself
