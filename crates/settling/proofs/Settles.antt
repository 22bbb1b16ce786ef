-- Registers settled one after another: once all are marked, the row is the model's settled row; a register that is not grounded shows that
-- the preds are no forest. Rests on `Gives`, and on `Rooted` and `Worth` of `loops`.
use mathlib.Core.Path.{◌≡◌, refl, sym, ◌∙◌}
use mathlib.Core.Bool.{Bool, true, false}
use mathlib.Core.List.{List}
use Rattle.std.specs.Prelude.{None, Some}
use Prim.Native.Nat.{ℕ, zero, suc, ◌≤◌, ◌<◌}
use native.Mathlib.Omega.{arith}
use lib.ListN.{replicate}
use lib.Seq.{ext_get_or}
use lib.IntN.{ℤ, pos}
use Rattle.loops.specs.Arrows.{Arrows}
use Rattle.loops.specs.Model.{at, settled}
use Rattle.loops.specs.Forest.{Grounded}
use Rattle.loops.proofs.Grounded.{deep_short}
use Rattle.loops.proofs.Rooted.{grounded_all, stray_none, stray_first}
use Rattle.loops.proofs.Worth.{worth_deep, settled-length, settled_at}
use Rattle.loops.specs.Shape.{Shape}
use Rattle.settling.specs.Settling.{marked, Gives, Marked, Settles}
use Rattle.settling.proofs.Gives.{gives_grounded}

-- the registers before s are marked, and each marked register stands where its preds put it
pub record Settling (Γ : Arrows) (preds : List ℕ) (row : List ℤ) (marks : List Bool) (s : ℕ) : Type 0 where
  pub still : Marked Γ preds row marks
  pub done : (v : ℕ) → v < s → marked marks v ≡ true

module _ (Γ : Arrows) (preds : List ℕ) (shape : Shape Γ) where
  -- the registers before s are grounded, and s is not
  pub settles_no : (row row' : List ℤ) (marks : List Bool) (s : ℕ) → s < Γ.registers → Settling Γ preds row marks s
      → (Grounded Γ preds s → ⊥) → Settles Γ preds row' (Some s)
  settles_no row row' marks s b w h =
      (stray_first Γ preds shape.sound s b (λ v q. gives_grounded Γ preds v _ (w.still.stands v (omega arith) (w.done v q))) h, b)

  module _ (row : List ℤ) (marks : List Bool) (s : ℕ) (q : Γ.registers ≤ s) (w : Settling Γ preds row marks s) where
    gives : (v : ℕ) → v < Γ.registers → Gives Γ preds v (at row v)
    gives v b = w.still.stands v b (w.done v (omega arith))

    given : (v : ℕ) → v < Γ.registers → at row v ≡ at (settled Γ preds) v
    given v b =
        let g = gives v b in
        let d = deep_short Γ preds shape.sound g.depth v b g.deep in
        sym g.time ∙ sym (worth_deep Γ preds g.depth Γ.registers v g.deep (omega arith)) ∙ sym (settled_at Γ preds v b)

    -- all registers are marked: the row is the model's
    pub settles_yes : Settles Γ preds row None
    settles_yes = (
      stray_none Γ preds Γ.registers (grounded_all Γ preds shape.sound (λ v b. gives_grounded Γ preds v _ (gives v b))),
      ext_get_or (pos 0) row (settled Γ preds) (w.still.row_long ∙ sym (settled-length Γ preds)) (λ v b. given v (let l = w.still.row_long in omega arith)),
    )

-- no place of a list of marks that are not set is marked
pub no_marks : (n v : ℕ) → marked (replicate n false) v ≡ false
no_marks zero v = refl
no_marks (suc n) zero = refl
no_marks (suc n) (suc v) = no_marks n v
