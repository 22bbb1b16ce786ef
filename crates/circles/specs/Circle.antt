-- The search for a circle among the preds: what its walks are given, and what they answer in the model's words.
use Rattle.std.specs.Prelude.{◌≡◌, false, List, ℕ, ◌≤◌, ◌<◌, length}
use Rattle.loops.specs.Arrows.{Arrows}
use Rattle.loops.specs.Model.{rooted, circle_from, circle_arrows}
use Rattle.loops.specs.Forest.{Arrowed}

module _ (Γ : Arrows) (preds : List ℕ) where
  -- s is a register, and as many steps back from it as there are registers all go over arrows
  pub record Unending (s : ℕ) : Type 0 where
    pub below : s < Γ.registers
    pub arrows : Arrowed Γ preds Γ.registers s

  -- s is a register, and the walk back from it comes to no register without a pred
  pub record Astray (s : ℕ) : Type 0 where
    pub below : s < Γ.registers
    pub stray : rooted Γ preds Γ.registers s ≡ false

  -- the two numbers are those of the circle on which the walk back from s ends
  pub record IsCircle (s start steps : ℕ) : Type 0 where
    pub from : start ≡ (circle_from Γ preds s).start
    pub long : steps ≡ (circle_from Γ preds s).steps

  -- `start` is a register, and so many steps back from it, no more than there are registers, go over arrows
  pub record Listable (start steps : ℕ) : Type 0 where
    pub below : start < Γ.registers
    pub arrows : Arrowed Γ preds steps start
    pub few : steps ≤ Γ.registers

  -- the ring has the arrows of the circle on which the walk back from s ends
  pub record ShowsCircle (s : ℕ) (ring : List ℕ) : Type 0 where
    pub some : 0 < length ring
    pub short : length ring ≤ Γ.registers
    pub shows : ring ≡ circle_arrows Γ preds s
