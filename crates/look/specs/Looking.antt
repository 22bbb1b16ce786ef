-- The look at the arrows that do not know the period: whether they have a schedule at all, and the row that every trial of a period may go
-- on from.
use Rattle.std.specs.Prelude.{◌≡◌, List, Option, None, Some, ℕ, length, ℤ}
use Rattle.loops.specs.Arrows.{Arrows, Schedule, Lows}
use Rattle.loops.specs.Shape.{Shape}
use Rattle.loops.specs.Begun.{Extends}
use Rattle.loops.specs.Layout.{low_place}
use Rattle.rounds.specs.Relaxation.{Bounded, Resumes, Circled}

-- the arrows Δ, with their low arrows at their places, and rows and preds of the right lengths
pub record Lookable (Δ : Arrows) (a b : List ℤ) (preds : List ℕ) (kept_row : List ℤ) (kept_preds : List ℕ) : Type 0 where
  pub bounded : Bounded Δ
  pub lows : Lows Δ low_place
  pub here : length a ≡ Δ.registers
  pub there : length b ≡ Δ.registers
  pub noted : length preds ≡ Δ.registers
  pub row_kept : length kept_row ≡ Δ.registers
  pub preds_kept : length kept_preds ≡ Δ.registers

-- Whatever arrows begin with Δ, a relaxation of them may go on from the row and its preds, past the arrows below `passed`.
abbrev pub Resumable : Arrows → List ℤ → List ℕ → ℕ → Type 0
Resumable Δ row preds passed = (Γ : Arrows) → Extends Γ Δ → Shape Γ → Resumes Γ row preds passed

-- a schedule of Δ, and a row to go on from, which meets so many of the first arrows; or a loop of Δ that contradicts itself
abbrev pub Looked : Arrows → List ℕ → List ℤ → List ℕ → Option ℕ → Type 0
Looked Δ ring row preds (Some passed) = ((x : ℕ → ℤ) × Schedule Δ x) × Resumable Δ row preds passed
Looked Δ ring row preds None = Circled Δ ring
