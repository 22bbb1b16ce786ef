-- A run of stores, `sets l i vs`: what stands in the run's places, that every other place keeps its value, and that runs which follow one
-- another are one run. Rests on no other file.
use mathlib.Core.Path.{◌≡◌, refl, sym, ◌∙◌}
use mathlib.Core.List.{List, [], ◌∷◌, ◌++◌}
use Prim.Native.Nat.{ℕ, zero, suc, ◌+◌, ◌≤◌, ◌<◌}
use native.Mathlib.Omega.{arith}
use native.Mathlib.Nat.{add-zero}
use lib.ListN.{length, get_or, set, length-set}
use lib.Seq.{sets, get_or-set_same, get_or-set_other}
use borrow.Rule.Slice.PartMut.{put_mid}
use Rattle.std.proofs.Common.{append_assoc, drop-drop}
use Rattle.std.proofs.lemmas.List.Edits.{sets-eq}

module _ {A : Type 0} (d : A) where
  -- a place before the run
  pub stores_before : (vs l : List A) (i j : ℕ) → j < i → get_or (sets l i vs) j d ≡ get_or l j d
  stores_before [] l i j h = refl
  stores_before (a ∷ vs) l i j h =
      stores_before vs (set l i a) (suc i) j (omega arith) ∙ get_or-set_other l i j a d (omega arith)

  -- a place behind the run
  pub stores_after : (vs l : List A) (i j : ℕ) → i + length vs ≤ j → get_or (sets l i vs) j d ≡ get_or l j d
  stores_after [] l i j h = refl
  stores_after (a ∷ vs) l i j h =
      stores_after vs (set l i a) (suc i) j (omega arith) ∙ get_or-set_other l i j a d (omega arith)

  -- a place of the run
  pub stores_at : (vs l : List A) (i k : ℕ) → i + length vs ≤ length l → k < length vs → get_or (sets l i vs) (i + k) d ≡ get_or vs k d
  stores_at [] l i k h g = absurd (omega arith)
  stores_at (a ∷ vs) l i zero h g =
      rw add-zero (stores_before vs (set l i a) (suc i) i (omega arith) ∙ get_or-set_same l i a d (omega arith))
  stores_at (a ∷ vs) l i (suc k) h g =
      let e : i + suc k ≡ suc i + k = omega arith in
      rw e (stores_at vs (set l i a) (suc i) k (rw length-set (omega arith)) (omega arith))

-- a run and then another from its end on
pub stores_then : {A : Type 0} (a b l : List A) (i j : ℕ) → i + length a ≡ j → sets (sets l i a) j b ≡ sets l i (a ++ b)
stores_then [] b l i j e = let k : j ≡ i = omega arith in rw k refl
stores_then (x ∷ a) b l i j e = stores_then a b (set l i x) (suc i) j (omega arith)

-- a part that was written over with as many members is that run
pub part_is : {A : Type 0} (l vs : List A) (i k : ℕ) → length vs ≡ k → i + k ≤ length l → put_mid i k l vs ≡ sets l i vs
part_is l vs i k e room = simp (sym e, drop-drop, append_assoc, sets-eq vs l i (omega arith))
