-- One round: what an arrow and a sweep over the arrows are given, and what the code of a round holds, as the model has it.
use Rattle.std.specs.Prelude.{◌≡◌, List, Bool, ℕ, ◌≤◌, ◌<◌, length, ℤ}
use Rattle.loops.specs.Arrows.{Arrows}
use Rattle.loops.specs.Begun.{MetBelow}
use Rattle.loops.specs.Model.{Turn, at}
use Rattle.loops.specs.Shape.{Times}

abbrev pub turn : List ℤ → List ℕ → Bool → Turn
turn row preds raised = record { row = row; preds = preds; raised = raised }

-- arrow e may raise its head in row b by what row a offers
pub record Liftable (Γ : Arrows) (a b : List ℤ) (preds : List ℕ) (e : ℕ) : Type 0 where
  pub exists : e < Γ.count
  pub times : Times Γ.registers a
  pub row_long : length b ≡ Γ.registers
  pub preds_long : length preds ≡ Γ.registers

-- a round may begin at arrow `from`: row a meets the arrows before, and row b and the preds have its length
pub record Roundable (Γ : Arrows) (a b : List ℤ) (preds : List ℕ) (from : ℕ) : Type 0 where
  pub times : Times Γ.registers a
  pub row_long : length b ≡ Γ.registers
  pub preds_long : length preds ≡ Γ.registers
  pub within : from ≤ Γ.count
  pub met : MetBelow Γ (at a) from
