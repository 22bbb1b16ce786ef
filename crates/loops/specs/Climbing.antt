-- The climb to the smallest period, over any family whose arrows stand in memory by their names. What is asked of the next period is only
-- that the loop found contradicts itself just below it.
use Rattle.std.specs.Prelude.{List, map, ℕ, ◌-◌, ◌≤◌, ◌<◌, length, pos, ◌<ℤ◌}
use Rattle.whole.specs.Sums.{total}
use Rattle.paper.specs.Chains.{All}
use Rattle.loops.specs.Family.{Family, ShownFrom}

module _ {E : Type 0} (F : Family E) where
  -- from P on to Q: the loop's amounts still add up to more than 0 at the period before Q
  pub record Raises (P : ℕ) (l : List E) (Q : ℕ) : Type 0 where
    pub up : P < Q
    pub over : pos 0 <ℤ total (F.weigh (Q - 1)) l

  -- A period that is tried, P: from floor to ceiling, with a loop of the places of `ring` that shows why no smaller one has a schedule.
  pub record Climbing (name : ℕ → E) (count floor ceiling P : ℕ) (ring : List ℕ) : Type 0 where
    pub from_floor : floor ≤ P
    pub to_ceiling : P ≤ ceiling
    pub shown : ShownFrom F floor P (map name ring)
    pub short : length ring ≤ F.graph.registers
    pub exist : All (λ e. e < count) ring
