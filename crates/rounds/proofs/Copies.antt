-- A list copied element by element from the front. Rests on lists alone.
use mathlib.Core.Path.{◌≡◌, ◌∙◌}
use mathlib.Core.List.{List}
use Prim.Native.Nat.{ℕ, ◌+◌, ◌≤◌, ◌<◌}
use native.Mathlib.Omega.{arith}
use native.Mathlib.Decide.{ℕ_discrete}
use lib.ListN.{length, get_or, set, length-set}
use lib.Seq.{get_or-set_same, get_or-set_other, ext_get_or}

-- the first i elements of b are those of a
pub record Copied {A : Type 0} (d : A) (a b : List A) (i : ℕ) : Type 0 where
  pub long : length b ≡ length a
  pub so_far : i ≤ length a
  pub same : (k : ℕ) → k < i → get_or b k d ≡ get_or a k d

module _ {A : Type 0} (d : A) (a : List A) where
  -- nothing is copied yet
  pub copied_none : (b : List A) → length b ≡ length a → Copied d a b 0
  copied_none b e = record { long = e; so_far = omega arith; same = λ k h. absurd (omega arith) }

  -- one element more
  pub copied_more : (b : List A) (i : ℕ) → i < length a → Copied d a b i → Copied d a (set b i (get_or a i d)) (i + 1)
  copied_more b i h c = record { long = length-set b i _ ∙ c.long; so_far = omega arith; same = λ k l. pick k l (ℕ_discrete k i) }
    where
      pick : (k : ℕ) → k < i + 1 → Dec (k ≡ i) → get_or (set b i (get_or a i d)) k d ≡ get_or a k d
      pick k l (yes e) = rw e (get_or-set_same b i (get_or a i d) d (let g = c.long in omega arith))
      pick k l (no e) = get_or-set_other b i k _ d e ∙ c.same k (omega arith)

  -- all are copied
  pub copied_all : (b : List A) (i : ℕ) → length a ≤ i → Copied d a b i → b ≡ a
  copied_all b i h c = ext_get_or d b a c.long (λ k l. c.same k (let g = c.long in let f = c.so_far in omega arith))
