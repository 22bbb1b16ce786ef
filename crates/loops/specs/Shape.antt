-- What code over arrows asks of the arrays that it is lent, so that no sum leaves its width. Every accepted network meets it.
use Rattle.std.specs.Prelude.{◌≡◌, List, ℕ, ◌≤◌, ◌<◌, length, ℤ, pos}
use Rattle.whole.specs.Between.{Between, far_below}
use Rattle.paper.specs.Limits.{most_registers}
use Rattle.loops.specs.Arrows.{Arrows, Sound, amount}
use Rattle.loops.specs.Model.{at}

-- the number that names no arrow: the greatest of two bytes
abbrev pub no_arrow : ℕ
no_arrow = 65535

-- an amount: from -2 ^ 24 to 2 ^ 22, so that 256 of them add up to at most 2 ^ 30
abbrev pub Modest : ℤ → Type 0
Modest = Between far_below (pos 4194304)

-- a time in a row: from -2 ^ 24 to 2 ^ 30, which a walk over 256 amounts does not leave
abbrev pub InRow : ℤ → Type 0
InRow = Between far_below (pos 1073741824)

-- Sound arrows of modest amounts, at most 256 registers, fewer arrows than two bytes count, so that a number is left over which names none, and
-- a list that is long enough.
pub record Shape (Γ : Arrows) : Type 0 where
  pub sound : Sound Γ
  pub few : Γ.registers ≤ most_registers
  pub named : Γ.count < no_arrow
  pub long : Γ.count ≤ length Γ.list
  pub modest : (e : ℕ) → e < Γ.count → Modest (amount Γ e)

-- a row of n times, each in its range
pub record Times (n : ℕ) (a : List ℤ) : Type 0 where
  pub long : length a ≡ n
  pub in_row : (v : ℕ) → v < n → InRow (at a v)
