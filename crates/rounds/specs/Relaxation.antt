-- One relaxation, in the words of its contracts: what a turn is given and leaves, and what the whole leaves.
use Rattle.std.specs.Prelude.{◌≡◌, List, ℕ, ◌≤◌, ◌<◌, length, ℤ, ◌≤ℤ◌}
use Rattle.paper.specs.Chains.{Listed}
use Rattle.loops.specs.Arrows.{Arrows, Least, Contradicts, Highs, tail, head}
use Rattle.loops.specs.Model.{at, pred}
use Rattle.loops.specs.Forest.{Tight, gap}
use Rattle.loops.specs.Shape.{no_arrow}
use Rattle.rounds.specs.declared.relax.Progress.{Progress}
use Rattle.rounds.specs.declared.relax.Progress.TheVariants as progress
use Rattle.loops.specs.Begun.{MetBelow}
use Rattle.whole.specs.Between.{far, far_below}

-- ---- what is given

-- every register but the host is kept at or below 2 ^ 24
abbrev pub Bounded : Arrows → Type 0
Bounded Γ = Highs Γ far

-- what enters a round: a tight row that nowhere lies below -2 ^ 24, and a host whose pred is the number that names no arrow
pub record Ready (Γ : Arrows) (a : List ℤ) (preds : List ℕ) : Type 0 where
  pub tight : Tight Γ a preds
  pub from : (v : ℕ) → v < Γ.registers → far_below ≤ℤ at a v
  pub root : pred preds 0 ≡ no_arrow

-- a ready row that meets the arrows below `from` already, so that the next round may begin there
pub record Resumes (Γ : Arrows) (a : List ℤ) (preds : List ℕ) (from : ℕ) : Type 0 where
  pub ready : Ready Γ a preds
  pub within : from ≤ Γ.count
  pub met : MetBelow Γ (at a) from

-- all that a relaxation asks of its arrows, its row, the other row and its preds
pub record Relaxable (Γ : Arrows) (a b : List ℤ) (preds : List ℕ) (from : ℕ) : Type 0 where
  pub bounded : Bounded Γ
  pub resumes : Resumes Γ a preds from
  pub spare : length b ≡ Γ.registers

-- all that going on from a kept row and its preds asks: a relaxation may start from them, and a row and preds have room for copies
pub record Continues (Γ : Arrows) (kept_row b : List ℤ) (kept_preds : List ℕ) (from : ℕ) (a : List ℤ) (preds : List ℕ) : Type 0 where
  pub starts : Relaxable Γ kept_row b kept_preds from
  pub row_long : length a ≡ Γ.registers
  pub preds_long : length preds ≡ Γ.registers

-- ---- what is left

-- a loop of arrows that contradicts itself, listed from its lowest register
pub record ShowsLoop (Γ : Arrows) (l : List ℕ) : Type 0 where
  pub contradicts : Contradicts Γ l
  pub listed : Listed (tail Γ) (head Γ) l

-- the row of the least schedule
pub record Rests (Γ : Arrows) (row : List ℤ) : Type 0 where
  pub long : length row ≡ Γ.registers
  pub least : Least Γ (at row)

-- the relaxation rests: the row is the least schedule of the arrows, ready with its preds to go on from, and the loop's list is as it was
pub record Rested (Γ : Arrows) (row : List ℤ) (preds before ring : List ℕ) : Type 0 where
  pub rests : Rests Γ row
  pub ready : Ready Γ row preds
  pub kept : ring ≡ before

-- or a loop of the arrows that contradicts itself is listed
pub record Circled (Γ : Arrows) (ring : List ℕ) : Type 0 where
  pub shows : ShowsLoop Γ ring
  pub short : length ring ≤ Γ.registers

-- the row is ready for the next round, and nearer to its bound than the row that entered
pub record Nears (Γ : Arrows) (a row : List ℤ) (preds before ring : List ℕ) : Type 0 where
  pub ready : Ready Γ row preds
  pub nearer : gap Γ far row < gap Γ far a
  pub kept : ring ≡ before

-- what a round and its settling come to: the relaxation goes on, or it is over
abbrev pub Turned : Arrows → List ℤ → List ℤ → List ℕ → List ℕ → List ℕ → Progress → Type 0
Turned Γ a row preds before ring progress.GoesOn = Nears Γ a row preds before ring
Turned Γ a row preds before ring progress.Rests = Rested Γ row preds before ring
Turned Γ a row preds before ring progress.Circles = Circled Γ ring
