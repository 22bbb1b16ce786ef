-- The greatest of f 0, f 1, .., f (n - 1). Rests on nothing.
use Prim.Native.Nat.{ℕ, zero, suc, max, ◌≤◌, ◌<◌}
use native.Mathlib.Omega.{arith}
use Rattle.loops.proofs.Below.{below_next}

pub greatest : (ℕ → ℕ) → ℕ → ℕ
greatest f zero = 0
greatest f (suc n) = max (greatest f n) (f n)

-- none of them is above it
pub greatest_over : (f : ℕ → ℕ) (n i : ℕ) → i < n → f i ≤ greatest f n
unfolding greatest
greatest_over f zero i h = absurd (omega arith)
greatest_over f (suc n) i h =
    below_next (λ i. f i ≤ greatest f (suc n)) n (λ j l. omega (arith, greatest_over f n j l)) (omega arith) i h
