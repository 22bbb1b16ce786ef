-- A first loop of heavy arrows: what is asked of the arrow that is noted at a register, and what the loop among the noted arrows shows.
use Rattle.std.specs.Prelude.{◌≡◌, List, ℕ, ◌≤◌, ◌<◌, length}
use Rattle.paper.specs.Chains.{Listed}
use Rattle.loops.specs.Arrows.{Arrows, Contradicts, tail, head}
use Rattle.loops.specs.Model.{pred}

-- each pred that is an arrow leads into its register
pub record Chosen (Γ : Arrows) (preds : List ℕ) : Type 0 where
  pub long : length preds ≡ Γ.registers
  pub into : (v : ℕ) → v < Γ.registers → pred preds v < Γ.count → head Γ (pred preds v) ≡ v

-- an empty list, or a loop that contradicts itself, listed from its lowest register
pub record Guessed (Γ : Arrows) (ring : List ℕ) : Type 0 where
  pub short : length ring ≤ Γ.registers
  pub contradicts : 0 < length ring → Contradicts Γ ring
  pub listed : 0 < length ring → Listed (tail Γ) (head Γ) ring
