-- The first places of a list: what holds of every one of them, and what is made of them one by one.
-- Rests on `LoopLaws` of `paper`, for what holds at each place.
use mathlib.Core.Path.{◌≡◌, refl, ap, ◌∙◌}
use mathlib.Core.List.{List, [], ◌∷◌, ◌++◌, map}
use Prim.Native.Nat.{ℕ, ◌+◌, ◌≤◌, ◌<◌}
use native.Mathlib.Omega.{arith}
use native.Mathlib.Numerals.{add-one}
use lib.ListN.{length, get_or, take, length-map}
use lib.Seq.{take-suc, length-take-le, get_or-take}
use Rattle.paper.specs.Chains.{All}
use Rattle.paper.proofs.LoopLaws.{all_at}

-- what holds of every member of a prefix holds at each place of it
pub all_taken : (P : ℕ → Type 0) (l : List ℕ) (n : ℕ) → n ≤ length l → All P (take n l) → (j : ℕ) → j < n → P (get_or l j 0)
all_taken P l n long a j h =
    let e = length-take-le n l long in
    rw get_or-take at (all_at P (take n l) a 0 j (omega arith))

module _ {A : Type 0} (f : ℕ → A) where
  pub map-length : (l : List ℕ) (n : ℕ) → n ≤ length l → length (map f (take n l)) ≡ n
  map-length l n h = length-map (take n l) f ∙ length-take-le n l h

  map-append : (l k : List ℕ) → map f (l ++ k) ≡ map f l ++ map f k
  map-append [] k = refl
  map-append (x ∷ l) k = ap {B = List A} (λ r. f x ∷ r) (map-append l k)

  -- one place more
  pub map_more : (l : List ℕ) (j : ℕ) → j < length l → map f (take (j + 1) l) ≡ map f (take j l) ++ (f (get_or l j 0) ∷ [])
  map_more l j h = rw (add-one j, take-suc l j 0) (map-append (take j l) (get_or l j 0 ∷ []))
