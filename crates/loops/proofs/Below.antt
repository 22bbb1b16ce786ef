-- What holds of the numbers below k: one more of them, and a search among them. Rests on nothing.
use mathlib.Core.Path.{◌≡◌, sym, subst}
use mathlib.Core.Logic.{◌⊎◌, inl, inr}
use Prim.Native.Nat.{ℕ, zero, suc, ◌<◌}
use native.Mathlib.Omega.{arith}
use native.Mathlib.Decide.{ℕ_discrete}

-- what holds below k and of k holds below k + 1
pub below_next : (P : ℕ → Type 0) (k : ℕ) → ((j : ℕ) → j < k → P j) → P k → (j : ℕ) → j < suc k → P j
below_next P k before here j q = go (ℕ_discrete j k)
  where
    go : Dec (j ≡ k) → P j
    go (yes e) = subst P (sym e) here
    go (no n) = before j (omega arith)

-- P holds of some number below k
pub record Some (P : ℕ → Type 0) (k : ℕ) : Type 0 where
  pub place : ℕ
  pub before : place < k
  pub holds : P place

-- where each number has P or Q, some number below k has P, or all have Q
pub some_or_all : (P Q : ℕ → Type 0) → ((j : ℕ) → P j ⊎ Q j) → (k : ℕ) → Some P k ⊎ ((j : ℕ) → j < k → Q j)
some_or_all P Q each zero = inr (λ j q. absurd (omega arith))
some_or_all P Q each (suc k) = go (each k) (some_or_all P Q each k)
  where
    go : P k ⊎ Q k → Some P k ⊎ ((j : ℕ) → j < k → Q j) → Some P (suc k) ⊎ ((j : ℕ) → j < suc k → Q j)
    go (inl h) r = inl (record { place = k; before = omega arith; holds = h })
    go (inr h) (inl c) = inl (record { place = c.place; before = omega (arith, c.before); holds = c.holds })
    go (inr h) (inr all) = inr (below_next Q k all h)
