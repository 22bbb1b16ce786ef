-- What a round does to a tight row: every register with a pred, kept or raised, stands at exactly what the pred asks of the row that
-- entered; preds still lead into their registers; every register but the host still has one; a pred is new only where the row rose.
-- A tight row that no arrow raises is the least schedule. Rests on `Round` and `Tight`.
use mathlib.Core.Path.{◌≡◌, sym, ap, ◌∙◌, subst}
use mathlib.Core.Logic.{◌≢◌, inl, inr}
use mathlib.Core.Bool.{true, false}
use mathlib.Core.List.{List}
use Prim.Native.Nat.{ℕ, ◌≤◌, ◌<◌}
use native.Mathlib.Omega.{arith}
use lib.IntN.{ℤ}
use lib.Signed.{◌≤ℤ◌, ◌<ℤ◌}
use Rattle.loops.specs.Arrows.{Arrows, Sound, Least, head}
use Rattle.loops.specs.Model.{at, pred, offered, round, row_after, preds_after}
use Rattle.loops.specs.Forest.{Tight}
use Rattle.loops.proofs.Round.{Stands, Rise, Quiet, Books, books_grow, round_books}
use Rattle.loops.proofs.Tight.{tight_below}

module _ (Γ : Arrows) (a : List ℤ) (p : List ℕ) (s : Sound Γ) (t : Tight Γ a p) where
  -- the books of a round from a tight row
  pub tight_books : Books Γ a p Γ.count (round Γ a p)
  tight_books = round_books Γ a p s t.row-length t.forest.preds_length

  -- a register is as it was, or raised to exactly what its new pred asks
  pub round_each : (v : ℕ) → v < Γ.registers → Stands Γ a p Γ.count (round Γ a p) v
  round_each v b = tight_books.each v b

  -- no register falls
  pub round_grows : (v : ℕ) → v < Γ.registers → at a v ≤ℤ at (row_after Γ a p) v
  round_grows = books_grow Γ a p Γ.count (round Γ a p) tight_books

  -- every arrow is met, by the row that entered at its tail and the row that left at its head
  pub round_asks : (e : ℕ) → e < Γ.count → offered Γ a e ≤ℤ at (row_after Γ a p) (head Γ e)
  round_asks = tight_books.asked

  -- Kept: the row that entered was tight. Raised: to exactly that.
  pub round_exact : (v : ℕ) → v < Γ.registers → pred (preds_after Γ a p) v < Γ.count → at (row_after Γ a p) v ≡ offered Γ a (pred (preds_after Γ a p) v)
  round_exact v b = go (round_each v b)
    where
      go : Stands Γ a p Γ.count (round Γ a p) v → pred (preds_after Γ a p) v < Γ.count → at (row_after Γ a p) v ≡ offered Γ a (pred (preds_after Γ a p) v)
      go (inl k) h = k.time ∙ t.exact v b (rw k.same at h) ∙ ap (λ e. offered Γ a e) (sym k.same)
      go (inr l) h = l.exact

  -- each pred still leads into its register
  pub round_into : (v : ℕ) → v < Γ.registers → pred (preds_after Γ a p) v < Γ.count → head Γ (pred (preds_after Γ a p) v) ≡ v
  round_into v b = go (round_each v b)
    where
      go : Stands Γ a p Γ.count (round Γ a p) v → pred (preds_after Γ a p) v < Γ.count → head Γ (pred (preds_after Γ a p) v) ≡ v
      go (inl k) h = rw k.same (t.forest.into v b (rw k.same at h))
      go (inr l) h = l.into

  -- every register but the host still has a pred
  pub round_fed : (v : ℕ) → 0 < v → v < Γ.registers → pred (preds_after Γ a p) v < Γ.count
  round_fed v z b = go (round_each v b)
    where
      go : Stands Γ a p Γ.count (round Γ a p) v → pred (preds_after Γ a p) v < Γ.count
      go (inl k) = rw k.same (t.forest.fed v z b)
      go (inr l) = l.noted

  -- a pred is new only where the row rose
  pub round_new : (v : ℕ) → v < Γ.registers → pred (preds_after Γ a p) v ≢ pred p v → at a v <ℤ at (row_after Γ a p) v
  round_new v b = go (round_each v b)
    where
      go : Stands Γ a p Γ.count (round Γ a p) v → pred (preds_after Γ a p) v ≢ pred p v → at a v <ℤ at (row_after Γ a p) v
      go (inl k) n = absurd (n k.same)
      go (inr l) n = l.higher

  -- without a pred after the round, a register is as it was
  pub round_still : (v : ℕ) → v < Γ.registers → Γ.count ≤ pred (preds_after Γ a p) v → at (row_after Γ a p) v ≡ at a v
  round_still v b h = go (round_each v b)
    where
      go : Stands Γ a p Γ.count (round Γ a p) v → at (row_after Γ a p) v ≡ at a v
      go (inl k) = k.time
      go (inr l) = absurd (let n = l.noted in omega arith)

  -- where nothing was raised, the row and the preds are as they were
  pub round_quiet : (round Γ a p).raised ≡ false → Quiet a p (round Γ a p)
  round_quiet = tight_books.quiet

  -- where something was raised, some register is higher
  pub round_loud : (round Γ a p).raised ≡ true → Rise Γ a (row_after Γ a p)
  round_loud = tight_books.loud

  -- A tight row lies below every schedule. One that no arrow raises meets every arrow, so it is itself a schedule, and the least one.
  pub rested_least : (round Γ a p).raised ≡ false → Least Γ (at a)
  rested_least q =
      let same = (round_quiet q).row_same in
      record {
        schedule = record { host = t.host; meets = λ e h. subst (λ r. offered Γ a e ≤ℤ at r (head Γ e)) same (round_asks e h) };
        least = tight_below Γ a p s t;
      }
