-- The measure of the rounds: the sum over the registers of how far the row lies below H + 1. It never rises where no register falls, and it
-- falls where a register at or below H rises. Rests on the order of ℤ.
use mathlib.Core.Path.{◌≡◌, subst}
use mathlib.Core.List.{List}
use Prim.Native.Nat.{ℕ, zero, suc, ◌≤◌, ◌<◌}
use native.Mathlib.Omega.{arith}
use native.Mathlib.Decide.{ℕ_discrete}
use lib.IntN.{ℤ, pos, negsuc, ◌-ℤ◌}
use lib.Signed.{◌≤ℤ◌, ◌<ℤ◌}
use Rattle.whole.proofs.Lin.{lin, negs, above}
use Rattle.loops.specs.Model.{at}
use Rattle.loops.specs.Forest.{gap_below}

above_le : (x y : ℤ) → x ≤ℤ y → above x ≤ above y
above_le (pos x) (pos y) h = omega lin
above_le (pos x) (negsuc y) h = omega lin
above_le (negsuc x) (pos y) h = omega lin
above_le (negsuc x) (negsuc y) h = omega lin

above_lt : (x y : ℤ) → x <ℤ y → pos 0 <ℤ y → above x < above y
above_lt (pos x) (pos y) h k = omega lin
above_lt (pos x) (negsuc y) h k = omega lin
above_lt (negsuc x) (pos y) h k = omega lin
above_lt (negsuc x) (negsuc y) h k = omega lin

module _ (H : ℕ) (a b : List ℤ) where
  short_le : (v : ℕ) → at a v ≤ℤ at b v → above (pos (suc H) -ℤ at b v) ≤ above (pos (suc H) -ℤ at a v)
  short_le v h = above_le (pos (suc H) -ℤ at b v) (pos (suc H) -ℤ at a v) (omega (lin, negs (at a v), negs (at b v)))

  short_lt : (v : ℕ) → at a v <ℤ at b v → at a v ≤ℤ pos H → above (pos (suc H) -ℤ at b v) < above (pos (suc H) -ℤ at a v)
  short_lt v h k = above_lt (pos (suc H) -ℤ at b v) (pos (suc H) -ℤ at a v)
      (omega (lin, negs (at a v), negs (at b v))) (omega (lin, negs (at a v)))

  -- where no register falls, the measure does not rise
  gap_le : (n : ℕ) → ((v : ℕ) → v < n → at a v ≤ℤ at b v) → gap_below H b n ≤ gap_below H a n
  unfolding gap_below
  gap_le zero h = omega arith
  gap_le (suc n) h = omega (arith, gap_le n (λ v q. h v (omega arith)), short_le n (h n (omega arith)))

  -- and where moreover one that was at or below H rises, it falls
  pub gap_lt : (n : ℕ) → ((v : ℕ) → v < n → at a v ≤ℤ at b v) → (u : ℕ) → u < n → at a u <ℤ at b u → at a u ≤ℤ pos H → gap_below H b n < gap_below H a n
  unfolding gap_below
  gap_lt zero h u q up k = absurd (omega arith)
  gap_lt (suc n) h u q up k = go (ℕ_discrete u n) (λ r. gap_lt n (λ v m. h v (omega arith)) u r up k)
    where
      go : Dec (u ≡ n) → (u < n → gap_below H b n < gap_below H a n) → gap_below H b (suc n) < gap_below H a (suc n)
      go (yes e) later =
          let here = subst (λ v. above (pos (suc H) -ℤ at b v) < above (pos (suc H) -ℤ at a v)) e (short_lt u up k) in
          omega (arith, gap_le n (λ v m. h v (omega arith)))
      go (no e) later = omega (arith, later (omega arith), short_le n (h n (omega arith)))
