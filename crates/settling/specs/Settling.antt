-- Settling: what the preds give each register, and which registers already stand there.
use Rattle.std.specs.Prelude.{◌≡◌, List, Bool, true, false, Option, None, Some, ℕ, ◌≤◌, ◌<◌, length, get_or, ℤ, ◌+ℤ◌}
use Rattle.std.specs.Int.{w32}
use Rattle.std.proofs.Common.{SFits}
use Rattle.loops.specs.declared.Arrow.{Arrow}
use Rattle.loops.specs.Arrows.{Arrows}
use Rattle.loops.specs.Model.{at, worth, stray, settled}
use Rattle.loops.specs.Forest.{Deep, Grounded}
use Rattle.loops.specs.Shape.{InRow}

-- what an arrow's offer asks for: its tail stands in the row, and the sum of the time there and the amount fits 32 bits
pub record Offers (row : List ℤ) (arrow : Arrow) : Type 0 where
  pub stands : arrow.tail < length row
  pub fits : SFits w32 (at row arrow.tail +ℤ arrow.amount)

-- whether a register is marked
abbrev pub marked : List Bool → ℕ → Bool
marked marks v = get_or marks v false

module _ (Γ : Arrows) (preds : List ℕ) where
  -- followed from v to a register without one, the preds give v the time z
  pub record Gives (v : ℕ) (z : ℤ) : Type 0 where
    pub depth : ℕ
    pub deep : Deep Γ preds depth v
    pub time : worth Γ preds depth v ≡ z

  -- a row can hold whatever time the preds give a register
  abbrev pub Fair : Type 0
  Fair = (v : ℕ) (z : ℤ) → v < Γ.registers → Gives v z → InRow z

  -- every marked register stands where its preds put it
  pub record Marked (row : List ℤ) (marks : List Bool) : Type 0 where
    pub row_long : length row ≡ Γ.registers
    pub marks_long : Γ.registers ≤ length marks
    pub stands : (v : ℕ) → v < Γ.registers → marked marks v ≡ true → Gives v (at row v)

  -- all that a walk back from s is given
  pub record Walks (row : List ℤ) (marks : List Bool) (s : ℕ) : Type 0 where
    pub below : s < Γ.registers
    pub marked : Marked row marks
    pub fair : Fair

  -- and all that a walk is given that writes: the time that the preds give s
  pub record Puttable (row : List ℤ) (marks : List Bool) (s : ℕ) (time : ℤ) : Type 0 where
    pub walks : Walks row marks s
    pub gives : Gives s time

  -- all that settling is given
  pub record Settleable (row : List ℤ) : Type 0 where
    pub row_long : length row ≡ Γ.registers
    pub fair : Fair

  -- and no register is marked yet
  pub record Unmarked (row : List ℤ) (marks : List Bool) : Type 0 where
    pub settleable : Settleable row
    pub marks_long : Γ.registers ≤ length marks
    pub none : (v : ℕ) → marked marks v ≡ false

  -- what a walk back from s finds: the time that the preds give s, or that s is not grounded
  abbrev pub Walked : ℕ → Option ℤ → Type 0
  Walked s (Some z) = Gives s z
  Walked s None = Grounded Γ preds s → ⊥

  -- what a walk that writes leaves: each marked register stands where its preds put it, none lost its mark, and s is marked
  pub record Marks (s : ℕ) (row : List ℤ) (old marks : List Bool) : Type 0 where
    pub still : Marked row marks
    pub kept : (v : ℕ) → marked old v ≡ true → marked marks v ≡ true
    pub done : marked marks s ≡ true

  -- what one step back from s leaves: s is settled, or nothing is written
  abbrev pub Hopped : ℕ → List ℤ → List ℤ → List Bool → List Bool → Bool → Type 0
  Hopped s before row old marks true = Marks s row old marks
  Hopped s before row old marks false = (row ≡ before) × (marks ≡ old)

  -- one register settled, or not grounded
  abbrev pub SettledOne : ℕ → List ℤ → List Bool → List Bool → Bool → Type 0
  SettledOne s row old marks true = Marks s row old marks
  SettledOne s row old marks false = Grounded Γ preds s → ⊥

  -- what settling leaves: the model's settled row, where all registers are grounded; or the first register that is not
  abbrev pub Settles : List ℤ → Option ℕ → Type 0
  Settles row None = (stray Γ preds ≡ Γ.registers) × (row ≡ settled Γ preds)
  Settles row (Some s) = (stray Γ preds ≡ s) × (s < Γ.registers)
