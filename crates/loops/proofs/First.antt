-- The first row: the host at 0, and every other register at its low arrow's amount, with that arrow for its pred. It is tight.
-- Rests on `Table`.
use mathlib.Core.Path.{◌≡◌}
use Prim.Native.Nat.{ℕ, zero, suc, ◌≤◌, ◌<◌}
use native.Mathlib.Omega.{arith}
use lib.ListN.{length}
use lib.IntN.{pos, ◌+ℤ◌}
use Rattle.whole.proofs.Lin.{lin}
use Rattle.loops.specs.Arrows.{Arrows, Sound, Lows, tail, head, amount}
use Rattle.loops.specs.Model.{at, pred, first_time, first_row, first_pred, first_preds}
use Rattle.loops.specs.Forest.{Grounded, Tight}
use Rattle.loops.proofs.Table.{table-length, table_at}

module _ (Γ : Arrows) (low : ℕ → ℕ) where
  pub first_row_length : length (first_row Γ low) ≡ Γ.registers
  unfolding first_row
  first_row_length = table-length (first_time Γ low) 0 Γ.registers

  pub first_preds_length : (none : ℕ) → length (first_preds Γ low none) ≡ Γ.registers
  unfolding first_preds
  first_preds_length none = table-length (first_pred low none) 0 Γ.registers

  -- the host at 0
  pub first_row_host : Sound Γ → at (first_row Γ low) 0 ≡ pos 0
  unfolding first_row first_time
  first_row_host s = table_at (first_time Γ low) Γ.registers 0 (pos 0) s.some

  -- every other register at the amount of its low arrow
  pub first_row_low : (v : ℕ) → 0 < v → v < Γ.registers → at (first_row Γ low) v ≡ amount Γ (low v)
  unfolding first_row first_time
  first_row_low zero z b = absurd (omega arith)
  first_row_low (suc v) z b = table_at (first_time Γ low) Γ.registers (suc v) (pos 0) b

  pub first_preds_host : (none : ℕ) → Sound Γ → pred (first_preds Γ low none) 0 ≡ none
  unfolding first_preds first_pred
  first_preds_host none s = table_at (first_pred low none) Γ.registers 0 0 s.some

  pub first_preds_low : (none v : ℕ) → 0 < v → v < Γ.registers → pred (first_preds Γ low none) v ≡ low v
  unfolding first_preds first_pred
  first_preds_low none zero z b = absurd (omega arith)
  first_preds_low none (suc v) z b = table_at (first_pred low none) Γ.registers (suc v) 0 b

module _ (Γ : Arrows) (low : ℕ → ℕ) (none : ℕ) (s : Sound Γ) (w : Lows Γ low) (q : Γ.count ≤ none) where
  -- register v hangs on the host by its first pred
  record Hangs (v : ℕ) : Type 0 where
    arrow : pred (first_preds Γ low none) v < Γ.count
    leaves : tail Γ (pred (first_preds Γ low none) v) ≡ 0
    reaches : head Γ (pred (first_preds Γ low none) v) ≡ v
    time : at (first_row Γ low) v ≡ amount Γ (pred (first_preds Γ low none) v)

  hangs : (v : ℕ) → 0 < v → v < Γ.registers → Hangs v
  hangs v z b =
      let e = first_preds_low Γ low none v z b in
      record {
        arrow = rw e (w.exists v z b);
        leaves = rw e (w.leaves v z b);
        reaches = rw e (w.reaches v z b);
        time = rw e (first_row_low Γ low v z b);
      }

  root : Γ.count ≤ pred (first_preds Γ low none) 0
  root = rw (first_preds_host Γ low none s) q

  first_grounded : (v : ℕ) → v < Γ.registers → Grounded Γ (first_preds Γ low none) v
  first_grounded zero b = (0, root)
  first_grounded (suc v) b = let h = hangs (suc v) (omega arith) b in (1, (h.arrow, rw h.leaves root))

  first_into : (v : ℕ) → v < Γ.registers → pred (first_preds Γ low none) v < Γ.count → head Γ (pred (first_preds Γ low none) v) ≡ v
  first_into zero b a = absurd (omega (arith, root))
  first_into (suc v) b a = (hangs (suc v) (omega arith) b).reaches

  first_exact : (v : ℕ) → v < Γ.registers → pred (first_preds Γ low none) v < Γ.count
      → at (first_row Γ low) v ≡ (at (first_row Γ low) (tail Γ (pred (first_preds Γ low none) v)) +ℤ amount Γ (pred (first_preds Γ low none) v))
  first_exact zero b a = absurd (omega (arith, root))
  first_exact (suc v) b a =
      let h = hangs (suc v) (omega arith) b in
      let e = h.time in
      let f = first_row_host Γ low s in
      rw h.leaves (omega lin)

  -- Each register hangs on the host by its low arrow.
  pub first_tight : Tight Γ (first_row Γ low) (first_preds Γ low none)
  first_tight = record {
    row-length = first_row_length Γ low;
    forest = record { preds_length = first_preds_length Γ low none; grounded = first_grounded; into = first_into; fed = λ v z b. (hangs v z b).arrow };
    host = first_row_host Γ low s;
    exact = first_exact;
  }
