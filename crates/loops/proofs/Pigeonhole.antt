-- Pigeonhole: arrows that leave pairwise different registers below n are at most n. So of n + 1 registers in a row two are the same.
-- Rests on `Below`.
use mathlib.Core.Path.{◌≡◌, refl, ap, ◌∙◌}
use mathlib.Core.Logic.{◌≢◌, ◌⊎◌, inl, inr}
use mathlib.Core.List.{List, [], ◌∷◌}
use Prim.Native.Nat.{ℕ, zero, suc, ◌≤◌, ◌<◌}
use native.Mathlib.Omega.{arith}
use native.Mathlib.Decide.{ℕ_discrete}
use lib.ListN.{length}
use Rattle.loops.proofs.Below.{Some, some_or_all}
use Rattle.paper.specs.Chains.{All, Once}

module _ {E : Type 0} (tail head : E → ℕ) where
  -- e in front of l, unless it leaves m
  abbrev keep : {m : ℕ} (e : E) → Dec (tail e ≡ m) → List E → List E
  keep e (yes h) l = l
  keep e (no h) l = e ∷ l

  -- the arrows of l that do not leave m
  abbrev without : ℕ → List E → List E
  without m [] = []
  without m (e ∷ l) = keep e (ℕ_discrete (tail e) m) (without m l)

  keep_all : (P : E → Type 0) {m : ℕ} (e : E) (d : Dec (tail e ≡ m)) (l : List E) → P e → All P l → All P (keep e d l)
  keep_all P e (yes h) l p q = q
  keep_all P e (no h) l p q = (p, q)

  without_all : (P : E → Type 0) (m : ℕ) (l : List E) → All P l → All P (without m l)
  without_all P m [] h = tt
  without_all P m (e ∷ l) h = keep_all P e (ℕ_discrete (tail e) m) (without m l) h.0 (without_all P m l h.1)

  keep_once : {m : ℕ} (e : E) (d : Dec (tail e ≡ m)) (l : List E) → All (λ f. tail f ≢ tail e) l → Once tail head l → Once tail head (keep e d l)
  keep_once e (yes h) l p q = q
  keep_once e (no h) l p q = (p, q)

  without_once : (m : ℕ) (l : List E) → Once tail head l → Once tail head (without m l)
  without_once m [] h = tt
  without_once m (e ∷ l) h = keep_once e (ℕ_discrete (tail e) m) (without m l) (without_all (λ f. tail f ≢ tail e) m l h.0) (without_once m l h.1)

  keep_below : {m : ℕ} (e : E) (d : Dec (tail e ≡ m)) (l : List E) → tail e < suc m → All (λ f. tail f < m) l → All (λ f. tail f < m) (keep e d l)
  keep_below e (yes h) l p q = q
  keep_below e (no h) l p q = (omega arith, q)

  without_below : (m : ℕ) (l : List E) → All (λ f. tail f < suc m) l → All (λ f. tail f < m) (without m l)
  without_below m [] h = tt
  without_below m (e ∷ l) h = keep_below e (ℕ_discrete (tail e) m) (without m l) h.0 (without_below m l h.1)

  keep_other : {m : ℕ} (e : E) (d : Dec (tail e ≡ m)) (l : List E) → tail e ≢ m → length (keep e d l) ≡ suc (length l)
  keep_other e (yes h) l p = absurd (p h)
  keep_other e (no h) l p = refl

  without_none : (m : ℕ) (l : List E) → All (λ f. tail f ≢ m) l → length (without m l) ≡ length l
  without_none m [] h = refl
  without_none m (e ∷ l) h = keep_other e (ℕ_discrete (tail e) m) (without m l) h.0 ∙ ap suc (without_none m l h.1)

  -- One at most leaves m.
  keep_length : {m : ℕ} (e : E) (d : Dec (tail e ≡ m)) (l : List E) → All (λ f. tail f ≢ tail e) l → length l ≤ suc (length (without m l))
      → suc (length l) ≤ suc (length (keep e d (without m l)))
  keep_length e (yes h) l p q = let same = without_none (tail e) l p in rw (← h) (omega arith)
  keep_length e (no h) l p q = omega arith

  without_length : (m : ℕ) (l : List E) → Once tail head l → length l ≤ suc (length (without m l))
  without_length m [] h = omega arith
  without_length m (e ∷ l) h = keep_length e (ℕ_discrete (tail e) m) l h.0 (without_length m l h.1)

  none_below : (l : List E) → All (λ f. tail f < 0) l → length l ≤ 0
  none_below [] h = omega arith
  none_below (e ∷ l) h = absurd (omega (arith, h.0))

  -- Take away the one that leaves n - 1: the others leave registers below n - 1.
  pub once_short : (n : ℕ) (l : List E) → All (λ f. tail f < n) l → Once tail head l → length l ≤ n
  once_short zero l h o = none_below l h
  once_short (suc n) l h o =
      let fewer = once_short n (without n l) (without_below n l h) (without_once n l o) in
      let one = without_length n l o in
      omega arith

-- f (k - 1), .., f 0
abbrev downs : (ℕ → ℕ) → ℕ → List ℕ
downs f zero = []
downs f (suc k) = f k ∷ downs f k

-- pairwise different numbers
abbrev pub Apart : List ℕ → Type 0
Apart l = Once (λ u. u) (λ u. u) l

downs_all : (P : ℕ → Type 0) (f : ℕ → ℕ) (k : ℕ) → ((j : ℕ) → j < k → P (f j)) → All P (downs f k)
downs_all P f zero h = tt
downs_all P f (suc k) h = (h k (omega arith), downs_all P f k (λ j q. h j (omega arith)))

pub downs_apart : (f : ℕ → ℕ) (k : ℕ) → ((i j : ℕ) → i < j → j < k → f i ≢ f j) → Apart (downs f k)
downs_apart f zero h = tt
downs_apart f (suc k) h = (downs_all (λ u. u ≢ f k) f k (λ i q. h i k q (omega arith)), downs_apart f k (λ i j p q. h i j p (omega arith)))

downs_length : (f : ℕ → ℕ) (k : ℕ) → length (downs f k) ≡ k
downs_length f zero = refl
downs_length f (suc k) = ap suc (downs_length f k)

-- pairwise different numbers below n are at most n
pub apart_short : (n k : ℕ) (f : ℕ → ℕ) → ((j : ℕ) → j < k → f j < n) → Apart (downs f k) → k ≤ n
apart_short n k f b h =
    let short = once_short (λ u. u) (λ u. u) n (downs f k) (downs_all (λ u. u < n) f k b) h in
    let long = downs_length f k in
    omega arith

same_or_not : {x u : ℕ} → Dec (x ≡ u) → (x ≡ u) ⊎ (x ≢ u)
same_or_not (yes e) = inl e
same_or_not (no n) = inr n

-- before step k, f comes twice to one number
pub record Twice (f : ℕ → ℕ) (k : ℕ) : Type 0 where
  pub first : ℕ
  pub second : ℕ
  pub later : first < second
  pub before : second < k
  pub same : f first ≡ f second

twice_or_apart : (f : ℕ → ℕ) (k : ℕ) → Twice f k ⊎ Apart (downs f k)
twice_or_apart f zero = inr tt
twice_or_apart f (suc k) = go (some_or_all (λ j. f j ≡ f k) (λ j. f j ≢ f k) (λ j. same_or_not (ℕ_discrete (f j) (f k))) k) (twice_or_apart f k)
  where
    go : Some (λ j. f j ≡ f k) k ⊎ ((j : ℕ) → j < k → f j ≢ f k) → Twice f k ⊎ Apart (downs f k) → Twice f (suc k) ⊎ Apart (downs f (suc k))
    go r (inl t) = inl (record { first = t.first; second = t.second; later = t.later; before = omega (arith, t.before); same = t.same })
    go (inl c) (inr a) = inl (record { first = c.place; second = k; later = c.before; before = omega arith; same = c.holds })
    go (inr h) (inr a) = inr (downs_all (λ u. u ≢ f k) f k h, a)

-- Of more than n numbers below n two are the same.
pub pigeonhole : (n : ℕ) (f : ℕ → ℕ) → ((j : ℕ) → j < suc n → f j < n) → Twice f (suc n)
pigeonhole n f b = go (twice_or_apart f (suc n))
  where
    go : Twice f (suc n) ⊎ Apart (downs f (suc n)) → Twice f (suc n)
    go (inl t) = t
    go (inr a) = let short = apart_short n (suc n) f b a in absurd (omega arith)
