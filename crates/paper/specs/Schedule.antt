-- Schedules, loops, needs, and the answer.
use Rattle.std.specs.Prelude.{◌≡◌, List, [], ◌∷◌, ℕ, suc, ◌-◌, ◌≤◌, ◌<◌, ℤ, pos, ◌≤ℤ◌, ◌<ℤ◌}
use Rattle.whole.specs.Sums.{total}
use Rattle.whole.specs.Rounding.{round_up}
use Rattle.paper.specs.Network.{Network}
use Rattle.paper.specs.declared.Rule.{Rule}
use Rattle.paper.specs.declared.Rule.TheVariants.{Setup, Hold, Low, High}
use Rattle.paper.specs.Rules.{Exists, Holds, tail, head, base, amount}
use Rattle.paper.specs.Chains.{All, Loop, Listed}

-- RULES 3.1: "A schedule at P gives every register one whole latency, and the host 0, so that all rules are met."
pub record Schedule (N : Network) (P : ℕ) (x : ℕ → ℤ) : Type 0 where
  pub host : x 0 ≡ pos 0
  pub meets : (r : Rule) → Exists N r → Holds N P x r

-- a loop of the network's rules
pub record IsLoop (N : Network) (l : List Rule) : Type 0 where
  pub exist : All (Exists N) l
  pub loop : Loop (tail N) (head N) l

-- RULES 4.2: "A loop contradicts itself at P when its amounts at P add up to more than 0. A sum of exactly 0 is no contradiction."
abbrev pub Contradicts : Network → ℕ → List Rule → Type 0
Contradicts N P l = pos 0 <ℤ total (amount N P) l

abbrev pub setups : List Rule → ℕ
setups [] = 0
setups (Setup p ∷ l) = suc (setups l)
setups (Hold p ∷ l) = setups l
setups (Low i ∷ l) = setups l
setups (High i ∷ l) = setups l

-- RULES 4.3: "A loop that has k setup rules, k at least 1, needs a period: the sum of its amounts without their P terms, divided by k and
-- rounded up to a whole number. It is rounded up where the sum is negative as well"
abbrev pub need : Network → List Rule → ℤ
need N l = round_up (total (base N) l) (setups l)

-- RULES 3.2: "The answer is a period and a latency for each register. The period is the smallest whole P from the floor to the ceiling, both
-- included, at which there is a schedule. The latency of a register is the smallest that it has in any schedule at this P."
pub record Answer (N : Network) (P : ℕ) (x : ℕ → ℤ) : Type 0 where
  pub from_floor : N.floor ≤ P
  pub to_ceiling : P ≤ N.ceiling
  pub schedule : Schedule N P x
  pub smallest : (Q : ℕ) → N.floor ≤ Q → Q < P → (y : ℕ → ℤ) → Schedule N Q y → ⊥
  pub least : (y : ℕ → ℤ) → Schedule N P y → (i : ℕ) → i < N.registers → x i ≤ℤ y i

-- A loop that shows that P has no schedule. RULES 7.9: "A loop is listed arrow after arrow. The first entry is the arrow that leaves the
-- lowest-numbered register of the loop."
pub record Refutes (N : Network) (P : ℕ) (l : List Rule) : Type 0 where
  pub is_loop : IsLoop N l
  pub listed : Listed (tail N) (head N) l
  pub contradicts : Contradicts N P l

-- RULES 7.10: "An answer with a period above the floor shows a loop that contradicts itself at the period less 1. An answer at the floor
-- shows none"
abbrev pub Shown : Network → ℕ → List Rule → Type 0
Shown N P [] = P ≡ N.floor
Shown N P (r ∷ l) = (N.floor < P) × Refutes N (P - 1) (r ∷ l)
