-- For callers: where a relaxation may begin. The first row, the row that a relaxation of the first arrows left, and any ready row. Rests on
-- `First` and `Begun` of `loops`.
use mathlib.Core.List.{List}
use Prim.Native.Nat.{ℕ, zero, suc, ◌<◌}
use native.Mathlib.Omega.{arith}
use lib.IntN.{ℤ, negsuc}
use lib.Signed.{◌≤ℤ◌}
use Rattle.whole.proofs.Lin.{lin}
use Rattle.loops.specs.Arrows.{Arrows, Lows}
use Rattle.loops.specs.Begun.{Extends}
use Rattle.loops.specs.Model.{at, first_row, first_preds}
use Rattle.loops.specs.Shape.{Shape}
use Rattle.loops.proofs.Begun.{tight_begun, met_begun}
use Rattle.loops.proofs.First.{first_tight, first_row_host, first_row_low, first_preds_host}
use Rattle.rounds.specs.Relaxation.{Ready, Resumes, Rests}

-- of a ready row nothing need be met
pub resumes_first : (Γ : Arrows) (a : List ℤ) (preds : List ℕ) → Ready Γ a preds → Resumes Γ a preds 0
resumes_first Γ a preds r = record { ready = r; within = omega arith; met = λ e h. absurd (omega arith) }

-- the first row, with the low arrows for preds
pub first_ready : (Γ : Arrows) (low : ℕ → ℕ) → Shape Γ → Lows Γ low → Ready Γ (first_row Γ low) (first_preds Γ low 65535)
first_ready Γ low shape lows =
    record {
      tight = first_tight Γ low 65535 shape.sound lows (let n = shape.named in omega arith);
      from = from;
      root = first_preds_host Γ low 65535 shape.sound;
    }
  where
    from : (v : ℕ) → v < Γ.registers → negsuc 16777215 ≤ℤ at (first_row Γ low) v
    from zero b = let h = first_row_host Γ low shape.sound in omega lin
    from (suc v) b =
        let e = first_row_low Γ low (suc v) (omega arith) b in
        let m = (shape.modest (low (suc v)) (lows.exists (suc v) (omega arith) b)).from in
        omega lin

module _ (Γ Δ : Arrows) (begins : Extends Γ Δ) (shape : Shape Γ) (row : List ℤ) (preds : List ℕ) where
  -- a row that is ready for the first arrows is ready for all: the host's pred names none of them
  pub ready_begun : Ready Δ row preds → Ready Γ row preds
  ready_begun r =
      record {
        tight = tight_begun Γ Δ begins row preds shape.sound r.tight (let n = shape.named in let e = r.root in omega arith);
        from = λ v b. r.from v (let n = begins.registers in omega arith);
        root = r.root;
      }

  -- and the least schedule of the first arrows meets them
  pub resumes_begun : Rests Δ row → Ready Δ row preds → Resumes Γ row preds Δ.count
  resumes_begun rests r =
      record { ready = ready_begun r; within = begins.fewer; met = met_begun Γ Δ begins (at row) rests.least.schedule }
