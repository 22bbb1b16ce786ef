-- The first row of n registers and its preds: the host at 0 without a pred, since 65,535 names no arrow, and every other register at the
-- amount of its low rule, by that rule.
use Rattle.std.specs.Prelude.{◌≡◌, List, ℕ, ◌-◌, ◌≤◌, ◌<◌, length, ℤ, pos}
use Rattle.loops.specs.declared.Arrow.{Arrow}
use Rattle.loops.specs.Arrows.{arrow_at}
use Rattle.loops.specs.Model.{at, pred}
use Rattle.loops.specs.Layout.{low_place}
use Rattle.paper.specs.Limits.{most_registers}
use Rattle.loops.specs.Shape.{no_arrow}

-- room for the registers, each of which has its low rule among the arrows
pub record FirstRoom (n : ℕ) (arrows : List Arrow) (a : List ℤ) (preds : List ℕ) : Type 0 where
  pub some : 0 < n
  pub few : n ≤ most_registers
  pub lows : n - 1 ≤ length arrows
  pub row_long : length a ≡ n
  pub preds_long : length preds ≡ n

-- so for the registers below v
pub record FirstsBelow (n : ℕ) (arrows : List Arrow) (a : List ℤ) (preds : List ℕ) (v : ℕ) : Type 0 where
  pub row_long : length a ≡ n
  pub preds_long : length preds ≡ n
  pub host_time : at a 0 ≡ pos 0
  pub host_pred : pred preds 0 ≡ no_arrow
  pub time : (u : ℕ) → 0 < u → u < v → at a u ≡ (arrow_at arrows (low_place u)).amount
  pub note : (u : ℕ) → 0 < u → u < v → pred preds u ≡ low_place u

abbrev pub Firsts : ℕ → List Arrow → List ℤ → List ℕ → Type 0
Firsts n arrows a preds = FirstsBelow n arrows a preds n

-- ---- what is kept

-- room to keep either, and the row that rests with its preds
pub record Keepable (n : ℕ) (arrows : List Arrow) (last : List ℤ) (preds : List ℕ) (kept_row : List ℤ) (kept_preds : List ℕ) : Type 0 where
  pub room : FirstRoom n arrows kept_row kept_preds
  pub row_long : length last ≡ n
  pub preds_long : length preds ≡ n

-- the first row, of which nothing need be met; or a copy of the row that rests, with its preds, which meets all arrows
pub data Kept (n count : ℕ) (arrows : List Arrow) (last : List ℤ) (preds : List ℕ) (kept_row : List ℤ) (kept_preds : List ℕ) : ℕ → Type 0 where
  anew : Firsts n arrows kept_row kept_preds → Kept n count arrows last preds kept_row kept_preds 0
  onward : kept_row ≡ last → kept_preds ≡ preds → Kept n count arrows last preds kept_row kept_preds count
