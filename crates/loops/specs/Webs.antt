-- Arrows of any kind E between registers. For the paper an arrow is a rule, in memory it is a place; what a schedule is, which one is the
-- least, and which loop leaves none is said of both at once.
use Rattle.std.specs.Prelude.{◌≡◌, List, ℕ, ◌<◌, ℤ, pos, ◌+ℤ◌, ◌≤ℤ◌, ◌<ℤ◌}
use Rattle.paper.specs.Chains.{All, Loop}
use Rattle.whole.specs.Sums.{total}

-- the registers are the numbers below `registers`, and register 0 is the host; of all arrows of the kind, those that are Here count
pub record Web (E : Type 0) : Type 1 where
  pub registers : ℕ
  pub Here : E → Type 0
  pub leaves : E → ℕ
  pub reaches : E → ℕ
  -- by how much the time at the arrow's head is to lie above the time at its tail
  pub asks : E → ℤ

module _ {E : Type 0} (W : Web E) where
  -- the host is at 0, and every arrow is met
  pub record Schedule (x : ℕ → ℤ) : Type 0 where
    pub host : x 0 ≡ pos 0
    pub meets : (e : E) → W.Here e → (x (W.leaves e) +ℤ W.asks e) ≤ℤ x (W.reaches e)

  abbrev pub Scheduled : Type 0
  Scheduled = (x : ℕ → ℤ) × Schedule x

  -- a schedule, register by register at or below every other
  pub record Least (x : ℕ → ℤ) : Type 0 where
    pub schedule : Schedule x
    pub least : (y : ℕ → ℤ) → Schedule y → (v : ℕ) → v < W.registers → x v ≤ℤ y v

  -- a loop of arrows whose amounts add up to more than 0
  pub record Contradicts (l : List E) : Type 0 where
    pub loop : Loop W.leaves W.reaches l
    pub exist : All W.Here l
    pub above : pos 0 <ℤ total W.asks l

-- Every arrow of W has a name among the arrows of U, with the same ends, and asks no more than the arrow of that name.
pub record Within {D E : Type 0} (W : Web D) (U : Web E) (name : D → E) : Type 0 where
  pub here : (e : D) → W.Here e → U.Here (name e)
  pub tails : (e : D) → W.Here e → W.leaves e ≡ U.leaves (name e)
  pub heads : (e : D) → W.Here e → W.reaches e ≡ U.reaches (name e)
  pub asked : (e : D) → W.Here e → W.asks e ≤ℤ U.asks (name e)
