-- The least schedule at a period, a loop that leaves no period, and the greatest need: what the theorems on schedules and loops speak of,
-- in the paper's words.
use Rattle.std.specs.Prelude.{◌≡◌, ◌⊎◌, List, ℕ, ◌≤◌, ◌<◌, ℤ, pos, ◌≤ℤ◌}
use Rattle.paper.specs.Network.{Network}
use Rattle.paper.specs.declared.Rule.{Rule}
use Rattle.paper.specs.Schedule.{Schedule, IsLoop, Refutes, setups, need}

-- RULES 3.2: "The latency of a register is the smallest that it has in any schedule at this P."
-- RULES 3.3: "These smallest latencies, taken together, are a schedule at P."
pub record LeastSchedule (N : Network) (P : ℕ) (x : ℕ → ℤ) : Type 0 where
  pub schedule : Schedule N P x
  pub least : (y : ℕ → ℤ) → Schedule N P y → (i : ℕ) → i < N.registers → x i ≤ℤ y i

-- RULES 7.11: "a loop that has no setup rule and contradicts itself": at every period
pub record RefutesAlways (N : Network) (l : List Rule) : Type 0 where
  pub no_setups : setups l ≡ 0
  pub refutes : (P : ℕ) → Refutes N P l

-- P is the floor, or a loop needs P
abbrev pub FloorOrNeed : Network → ℕ → Type 0
FloorOrNeed N P = (P ≡ N.floor) ⊎ ((l : List Rule) × IsLoop N l × (0 < setups l) × (need N l ≡ pos P))

-- P is the larger of the floor and the greatest need of any loop: at least the floor, at least every loop's need, and one of these.
-- RULES 4.4: "Where no loop has a setup rule, it is taken to be the floor."
pub record GreatestNeed (N : Network) (P : ℕ) : Type 0 where
  pub from_floor : N.floor ≤ P
  pub enough : (l : List Rule) → IsLoop N l → 0 < setups l → need N l ≤ℤ pos P
  pub reached : FloorOrNeed N P
