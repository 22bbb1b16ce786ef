-- Where a look may begin, and where it ends without a loop: a row with its preds was kept, the first row where the look took long, else the row
-- that rests. Rests on `First` of `loops` and `Resuming` of `rounds`.
use mathlib.Core.Path.{◌≡◌, sym, ◌∙◌}
use mathlib.Core.List.{List}
use Prim.Native.Nat.{ℕ, ◌<◌}
use native.Mathlib.Omega.{arith}
use lib.ListN.{length}
use Rattle.std.specs.Prelude.{Some}
use lib.Seq.{ext_get_or}
use lib.IntN.{ℤ, pos}
use Rattle.loops.specs.Arrows.{Arrows, Lows}
use Rattle.loops.specs.Model.{at, pred, first_row, first_preds}
use Rattle.loops.specs.Shape.{Shape}
use Rattle.loops.specs.Layout.{low_place}
use Rattle.loops.proofs.First.{first_row_length, first_preds_length, first_row_host, first_row_low, first_preds_host, first_preds_low}
use Rattle.loops.specs.Begun.{Extends}
use Rattle.rounds.specs.Relaxation.{Ready, Resumes, Relaxable, Rested}
use Rattle.rounds.proofs.Resuming.{resumes_first, first_ready, ready_begun, resumes_begun}
use Rattle.look.specs.Firsts.{Firsts, Kept, anew, onward}
use Rattle.look.specs.Looking.{Lookable, Looked}

module _ {Δ : Arrows} (shape : Shape Δ) where
  -- what is written is the model's first row with its preds, which is ready
  firsts_ready : (a : List ℤ) (preds : List ℕ) → Lows Δ low_place → Firsts Δ.registers Δ.list a preds → Ready Δ a preds
  firsts_ready a preds lows w =
      let e = ext_get_or (pos 0) a (first_row Δ low_place) (w.row_long ∙ sym (first_row_length Δ low_place)) row_is in
      let f = ext_get_or 0 preds (first_preds Δ low_place 65535) (w.preds_long ∙ sym (first_preds_length Δ low_place 65535)) preds_is in
      rw (e, f) (first_ready Δ low_place shape lows)
    where
      row_is : (u : ℕ) → u < length a → at a u ≡ at (first_row Δ low_place) u
      row_is u l = grind (arith, first_row_host Δ low_place shape.sound, first_row_low Δ low_place, w.time)

      preds_is : (u : ℕ) → u < length preds → pred preds u ≡ pred (first_preds Δ low_place 65535) u
      preds_is u l = grind (arith, first_preds_host Δ low_place 65535 shape.sound, first_preds_low Δ low_place 65535, w.note)

  -- a relaxation may start from the first row
  pub first_starts : {a b : List ℤ} {preds : List ℕ} {kept_row : List ℤ} {kept_preds : List ℕ} → Lookable Δ a b preds kept_row kept_preds
      → {row : List ℤ} {list : List ℕ} → Firsts Δ.registers Δ.list row list → Relaxable Δ row b list 0
  first_starts k w = record { bounded = k.bounded; resumes = resumes_first Δ _ _ (firsts_ready _ _ k.lows w); spare = k.there }

  -- the arrows rest: they have a schedule, and the row that was kept is ready for whatever arrows begin with these
  pub looked_kept : {last : List ℤ} {q before ring : List ℕ} → Rested Δ last q before ring → Lows Δ low_place → {kept_row : List ℤ} {kept_preds : List ℕ} {passed : ℕ}
      → Kept Δ.registers Δ.count Δ.list last q kept_row kept_preds passed → Looked Δ ring kept_row kept_preds (Some passed)
  looked_kept {last} {q} r lows {kept_row} {kept_preds} k = ((at last, r.rests.least.schedule), λ Γ b s. resumes Γ b s k)
    where
      -- the first row, with nothing met, and the row that rests, past all of these
      resumes : (Γ : Arrows) → Extends Γ Δ → Shape Γ → {passed : ℕ} → Kept Δ.registers Δ.count Δ.list last q kept_row kept_preds passed
          → Resumes Γ kept_row kept_preds passed
      resumes Γ b s (anew w) = resumes_first Γ kept_row kept_preds (ready_begun Γ Δ b s kept_row kept_preds (firsts_ready kept_row kept_preds lows w))
      resumes Γ b s (onward e f) = resumes_begun Γ Δ b s kept_row kept_preds (rw e r.rests) (rw (e, f) r.ready)
