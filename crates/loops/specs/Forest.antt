-- The words in which the invariants of a relaxation are said: how deep a register lies in the forest of preds, a row that is exactly what
-- its preds give, a circle among the preds, and how far a row still is from its bound.
use Rattle.std.specs.Prelude.{◌≡◌, List, ℕ, zero, suc, ◌+◌, ◌≤◌, ◌<◌, length, ℤ, pos, ◌+ℤ◌, ◌-ℤ◌}
use Rattle.whole.specs.Parts.{above}
use Rattle.loops.specs.Arrows.{Arrows, tail, head, amount}
use Rattle.loops.specs.Model.{at, pred, back}

-- following preds from v reaches, after d steps and no sooner, a register without one
abbrev pub Deep : Arrows → List ℕ → ℕ → ℕ → Type 0
Deep Γ p zero v = Γ.count ≤ pred p v
Deep Γ p (suc d) v = (pred p v < Γ.count) × Deep Γ p d (tail Γ (pred p v))

-- following preds from v reaches a register without one
abbrev pub Grounded : Arrows → List ℕ → ℕ → Type 0
Grounded Γ p v = (d : ℕ) × Deep Γ p d v

-- every register is grounded, each pred leads into its register, and every register but the host has one
pub record Forest (Γ : Arrows) (p : List ℕ) : Type 0 where
  pub preds_length : length p ≡ Γ.registers
  pub grounded : (v : ℕ) → v < Γ.registers → Grounded Γ p v
  pub into : (v : ℕ) → v < Γ.registers → pred p v < Γ.count → head Γ (pred p v) ≡ v
  pub fed : (v : ℕ) → 0 < v → v < Γ.registers → pred p v < Γ.count

-- the row is exactly what a forest of preds gives: the host is at 0, and every register with a pred stands at what the pred asks
pub record Tight (Γ : Arrows) (x : List ℤ) (p : List ℕ) : Type 0 where
  pub row-length : length x ≡ Γ.registers
  pub forest : Forest Γ p
  pub host : at x 0 ≡ pos 0
  pub exact : (v : ℕ) → v < Γ.registers → pred p v < Γ.count → at x v ≡ (at x (tail Γ (pred p v)) +ℤ amount Γ (pred p v))

-- the k steps back from v go over arrows
abbrev pub Arrowed : Arrows → List ℕ → ℕ → ℕ → Type 0
Arrowed Γ p k v = (j : ℕ) → j < k → pred p (back Γ p j v) < Γ.count

-- k steps back from s, over arrows, s comes again
pub record Returns (Γ : Arrows) (p : List ℕ) (k s : ℕ) : Type 0 where
  pub some : 0 < k
  pub again : back Γ p k s ≡ s
  pub arrows : Arrowed Γ p k s

-- and on the way stand only registers above s
pub record Circle (Γ : Arrows) (p : List ℕ) (k s : ℕ) : Type 0 where
  pub returns : Returns Γ p k s
  pub lowest : (j : ℕ) → 0 < j → j < k → s < back Γ p j s

-- by how much the registers below n lie below H + 1, those above it not counted
unfoldable pub gap_below : ℕ → List ℤ → ℕ → ℕ
gap_below H a zero = 0
gap_below H a (suc v) = gap_below H a v + above (pos (suc H) -ℤ at a v)

abbrev pub gap : Arrows → ℕ → List ℤ → ℕ
gap Γ H a = gap_below H a Γ.registers
