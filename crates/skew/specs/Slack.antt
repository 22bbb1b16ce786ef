-- What the parts of the rule question answer: whether its numbers lie in their ranges, which rule it names, and by how much that is met.
use Rattle.std.specs.Prelude.{◌≡◌, List, Bool, ◌&&◌, Option, Some, None, ℕ, ℤ, pos}
use Rattle.paper.specs.Network.{Network}
use Rattle.paper.specs.declared.Rule.{Rule}
use Rattle.paper.specs.Rules.{kind, number, Exists, slack}
use Rattle.paper.specs.File.{natural, within, network_of}
use Rattle.paper.specs.Refusals.{Accepted}
use Rattle.paper.specs.Limits.{most_period, least_latency, most_latency}

-- the ranges of the period and of the latencies at the arrow's tail and head
unfoldable pub numbers_within : ℤ → ℤ → ℤ → Bool
numbers_within period tail head =
    within (pos 1) (pos most_period) period
    && within least_latency most_latency tail
    && within least_latency most_latency head

-- which rule of a network of n registers and m paths has this kind and number, if one has
abbrev pub TellsRule : (n m : ℕ) (k i : ℤ) → Option Rule → Type 0
TellsRule n m k i (Some r) =
    (N : Network) → n ≡ N.registers → m ≡ N.paths → Exists N r × (k ≡ pos (kind r)) × (i ≡ pos (number r))
TellsRule n m k i None =
    (N : Network) → n ≡ N.registers → m ≡ N.paths → (r : Rule) → Exists N r → k ≡ pos (kind r) → i ≡ pos (number r) → ⊥

-- a rule that may be asked for: the file is accepted, with n registers, and its network has the rule
pub record Askable (f : List ℕ) (n : ℕ) (r : Rule) : Type 0 where
  pub accepted : Accepted f
  pub registers : n ≡ (network_of f).registers
  pub exists : Exists (network_of f) r

-- z is the slack of the rule at the period, with these latencies at its arrow's tail and head
abbrev pub IsSlack : Network → ℤ → Rule → (tail head z : ℤ) → Type 0
IsSlack N period r tail head z = z ≡ slack N (natural period) r tail head
