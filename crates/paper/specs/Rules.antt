-- The four rules.
--
-- RULES 2.2:
-- | kind | kind's number | rule | arrow from, to | amount |
-- | setup, of a path from i to j | 0 | x_i + dmax + s_j + u <= x_j + P | i, j | dmax + s_j + u - P |
-- | hold, of a path from i to j | 1 | x_i + dmin >= x_j + h_j + c | j, i | h_j + c - dmin |
-- | low, of a register i from 1 up | 2 | x_i >= low_i | 0, i | low_i |
-- | high, of a register i from 1 up | 3 | x_i <= high_i | i, 0 | -high_i |
use Rattle.std.specs.Prelude.{Bool, true, false, ℕ, ◌<◌, cond, eqb, ℤ, pos, neg_ℤ, ◌+ℤ◌, ◌-ℤ◌, ◌≤ℤ◌}
use Rattle.paper.specs.Network.{Network}
use Rattle.paper.specs.declared.Rule.{Rule}
use Rattle.paper.specs.declared.Rule.TheVariants.{Setup, Hold, Low, High}

-- RULES 2.4: "A setup or hold rule is named by its kind and the number of its path, a low or high rule by its kind and the number of its
-- register."
--
-- Rule is the code's own type, so that a rule in memory is a rule of the paper: Setup p, Hold p, Low i, High i.

abbrev pub kind : Rule → ℕ
kind (Setup p) = 0
kind (Hold p) = 1
kind (Low i) = 2
kind (High i) = 3

abbrev pub number : Rule → ℕ
number (Setup p) = p
number (Hold p) = p
number (Low i) = i
number (High i) = i

-- a setup rule: the period is in the amounts of these alone
abbrev pub is_setup : Rule → Bool
is_setup (Setup p) = true
is_setup (Hold p) = false
is_setup (Low i) = false
is_setup (High i) = false

-- What the hold rule of a path is charged of its uncertainty u, by the path's two ends. RULES 16.2: "The hold rule of a self path is charged
-- nothing of u. The hold rule of every other path is charged u, once."
abbrev pub charge : (from to : ℕ) (u : ℤ) → ℤ
charge from to u = cond (eqb from to) (pos 0) u

infix 50 ◌≥ℤ◌
abbrev pub ◌≥ℤ◌ : ℤ → ℤ → Type 0
a ≥ℤ b = b ≤ℤ a

module _ (N : Network) where
  -- RULES 2.5: "every path has one setup rule and one hold rule, and every register from 1 up has one low rule and one high rule"
  abbrev pub Exists : Rule → Type 0
  Exists (Setup p) = p < N.paths
  Exists (Hold p) = p < N.paths
  Exists (Low i) = (0 < i) × (i < N.registers)
  Exists (High i) = (0 < i) × (i < N.registers)

  -- the same of path p: the table's c
  abbrev pub charged : ℕ → ℤ
  charged p = charge (N.from p) (N.to p) (N.uncertainty p)

  -- the rule, as the table's third column writes it
  abbrev pub Holds : ℕ → (ℕ → ℤ) → Rule → Type 0
  Holds P x (Setup p) =
      (x (N.from p) +ℤ N.dmax p +ℤ N.setup (N.to p) +ℤ N.uncertainty p) ≤ℤ (x (N.to p) +ℤ pos P)
  Holds P x (Hold p) =
      (x (N.from p) +ℤ N.dmin p) ≥ℤ (x (N.to p) +ℤ N.hold (N.to p) +ℤ charged p)
  Holds P x (Low i) = x i ≥ℤ N.low i
  Holds P x (High i) = x i ≤ℤ N.high i

  -- The same of two latencies as they are given, t at the tail of the rule's arrow and v at its head.
  --
  -- RULES 8.5:
  -- | setup | t + dmax + s_j + u <= v + P |
  -- | hold  | v + dmin >= t + h_j + c     |
  -- | low   | v >= low_i                  |
  -- | high  | t <= high_i                 |
  abbrev pub HoldsAs : ℕ → Rule → ℤ → ℤ → Type 0
  HoldsAs P (Setup p) t v = (t +ℤ N.dmax p +ℤ N.setup (N.to p) +ℤ N.uncertainty p) ≤ℤ (v +ℤ pos P)
  HoldsAs P (Hold p) t v = (v +ℤ N.dmin p) ≥ℤ (t +ℤ N.hold (N.to p) +ℤ charged p)
  HoldsAs P (Low i) t v = v ≥ℤ N.low i
  HoldsAs P (High i) t v = t ≤ℤ N.high i

  -- its arrow
  abbrev pub tail : Rule → ℕ
  tail (Setup p) = N.from p
  tail (Hold p) = N.to p
  tail (Low i) = 0
  tail (High i) = i

  abbrev pub head : Rule → ℕ
  head (Setup p) = N.to p
  head (Hold p) = N.from p
  head (Low i) = i
  head (High i) = 0

  -- its amount without the P term, and its amount
  abbrev pub base : Rule → ℤ
  base (Setup p) = N.dmax p +ℤ N.setup (N.to p) +ℤ N.uncertainty p
  base (Hold p) = N.hold (N.to p) +ℤ charged p -ℤ N.dmin p
  base (Low i) = N.low i
  base (High i) = neg_ℤ (N.high i)

  abbrev pub amount : ℕ → Rule → ℤ
  amount P (Setup p) = base (Setup p) -ℤ pos P
  amount P (Hold p) = base (Hold p)
  amount P (Low i) = base (Low i)
  amount P (High i) = base (High i)

  -- By how much the rule is met, with t at the arrow's tail and v at its head.
  --
  -- RULES 15.2:
  -- | setup | (v + P) - (t + dmax + s_j + u) |
  -- | hold  | (v + dmin) - (t + h_j + c)     |
  -- | low   | v - low_i                      |
  -- | high  | high_i - t                     |
  abbrev pub slack : ℕ → Rule → ℤ → ℤ → ℤ
  slack P (Setup p) t v = (v +ℤ pos P) -ℤ (t +ℤ N.dmax p +ℤ N.setup (N.to p) +ℤ N.uncertainty p)
  slack P (Hold p) t v = (v +ℤ N.dmin p) -ℤ (t +ℤ N.hold (N.to p) +ℤ charged p)
  slack P (Low i) t v = v -ℤ N.low i
  slack P (High i) t v = N.high i -ℤ t

  -- the same by the latencies that a row has at the arrow's ends
  abbrev pub slack_by : ℕ → (ℕ → ℤ) → Rule → ℤ
  slack_by P x r = slack P r (x (tail r)) (x (head r))
