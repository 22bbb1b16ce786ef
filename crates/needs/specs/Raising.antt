-- What a loop that contradicts itself at a period asks of the next one. Its arrows are given as a list of their places.
use Rattle.std.specs.Prelude.{◌≡◌, List, map, ℕ, ◌≤◌, ◌<◌, length, ℤ, pos, ◌+ℤ◌, ◌<ℤ◌}
use Rattle.whole.specs.Sums.{total}
use Rattle.whole.specs.Rounding.{round_up}
use Rattle.paper.specs.Chains.{All}
use Rattle.paper.specs.Schedule.{setups}
use Rattle.paper.specs.declared.Rule.{Rule}
use Rattle.loops.specs.declared.Arrow.{Arrow}
use Rattle.loops.specs.Arrows.{arrow_at}
use Rattle.loops.specs.Shape.{Modest}
use Rattle.loops.specs.Names.{named}
use Rattle.paper.specs.Limits.{most_registers, Period}

-- at most 256 places below `count`
pub record Places (count : ℕ) (ring : List ℕ) : Type 0 where
  pub few : length ring ≤ most_registers
  pub within : All (λ e. e < count) ring

-- what the amounts at the places add up to
abbrev pub sum_at : List Arrow → List ℕ → ℤ
sum_at arrows ring = total (λ e. (arrow_at arrows e).amount) ring

-- how many of the places are those of setup rules
abbrev pub setups_at : List Rule → List ℕ → ℕ
setups_at rules ring = setups (map (named rules) ring)

-- a rule and an arrow with a modest amount stand at place e
pub record Summable (arrows : List Arrow) (rules : List Rule) (e : ℕ) : Type 0 where
  pub has_arrow : e < length arrows
  pub has_rule : e < length rules
  pub modest : Modest (arrow_at arrows e).amount

-- a period up to the greatest ceiling, and at most 256 places whose amounts add up to more than 0, one of them a setup rule's at least
pub record Raisable (arrows : List Arrow) (rules : List Rule) (period : ℤ) (ring : List ℕ) : Type 0 where
  pub allowed : Period period
  pub few : length ring ≤ most_registers
  pub places : All (Summable arrows rules) ring
  pub over : pos 0 <ℤ sum_at arrows ring
  pub some : 0 < setups_at rules ring

-- the period, and what the loop is over, shared among its setup rules and rounded up
abbrev pub Raised : List Arrow → List Rule → ℤ → List ℕ → ℤ → Type 0
Raised arrows rules period ring next = next ≡ period +ℤ round_up (sum_at arrows ring) (setups_at rules ring)
