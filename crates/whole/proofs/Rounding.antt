-- Rounding up is what its name says: the least whole number q with z ≤ q · g, and no other number is that. Rests on `Lin.antt`.
use mathlib.Core.Path.{◌≡◌, sym, ap, ◌∙◌}
use Prim.Native.Nat.{ℕ, zero, suc, ◌+◌, ◌-◌, ◌*◌, ◌/◌, ◌≤◌, ◌<◌}
use native.Mathlib.Omega.{arith}
use native.Mathlib.Nat.{div-add-mod', mod-lt, div-lt_iff_lt-mul, le-div_iff_mul-le, div-le_self, add-div_right, div-eq_of_lt-le, le-mul_of_pos_right}
use lib.IntN.{ℤ, pos, negsuc, neg_ℤ, nat_abs, ◌*ℤ◌, ◌-ℤ◌}
use lib.Signed.{◌≤ℤ◌, ◌<ℤ◌, non_neg}
use lib.Dec.{T}
use mir.Syntax.{w64}
use mir.Val.{SFits}
use Rattle.std.proofs.lemmas.Grind.{div_ceil_times}
use Rattle.std.specs.Int.{div_ceil}
use Rattle.whole.specs.Rounding.{round_up, IsUp}
use Rattle.whole.proofs.Lin.{lin, above, below, minus, negs}

-- q · g, for a natural g, by its parts
pub times : (q : ℤ) (g : ℕ) → above (q *ℤ pos g) + below q * g ≡ above q * g + below (q *ℤ pos g)
times (pos n) g = omega arith
times (negsuc n) g = omega (arith, negs (pos (suc n * g)))

-- -m, with m · g at most n + 1, times g is at least -(n + 1)
neg_enough : (m g n : ℕ) → m * g ≤ suc n → negsuc n ≤ℤ (neg_ℤ (pos m) *ℤ pos g)
neg_enough zero g n h = omega lin
neg_enough (suc m) g n h = omega (lin, negs (pos (suc m * g)))

-- z is at most its rounded quotient times g: from 0 up the division of z + (g - 1) leaves over at most g - 1; below 0 the quotient of
-- -z, rounded down, times g is at most -z.
pub up_enough : (z : ℤ) (g : ℕ) → 0 < g → z ≤ℤ (round_up z g *ℤ pos g)
unfolding round_up
up_enough (pos n) g h = omega (lin, div-add-mod' (n + (g - 1)) g, mod-lt (n + (g - 1)) h)
up_enough (negsuc n) g h = neg_enough (suc n / g) g n (omega (arith, div-add-mod' (suc n) g))

-- and a q with z ≤ q · g is not below it, by the two laws that say when a quotient of natural numbers is below or from a number on
pub up_least : (z : ℤ) (g : ℕ) (q : ℤ) → 0 < g → z ≤ℤ (q *ℤ pos g) → round_up z g ≤ℤ q
unfolding round_up
up_least (pos n) g (pos a) h k = let l : (n + (g - 1)) / g < suc a = (div-lt_iff_lt-mul h).1 (omega lin) in omega lin
up_least (pos n) g (negsuc a) h k = absurd (omega (lin, negs (pos (suc a * g))))
up_least (negsuc n) g (pos a) h k = omega (lin, negs (pos (suc n / g)))
up_least (negsuc n) g (negsuc a) h k =
    let l : suc a ≤ suc n / g = (le-div_iff_mul-le h).1 (omega (lin, negs (pos (suc a * g)))) in
    omega (lin, negs (pos (suc n / g)))

-- a whole number that is enough and the least such is the rounded quotient
pub up_only : (z : ℤ) (g : ℕ) (q : ℤ) → 0 < g → z ≤ℤ (q *ℤ pos g) → ((r : ℤ) → z ≤ℤ (r *ℤ pos g) → q ≤ℤ r) → q ≡ round_up z g
up_only z g q h enough least =
    let l = up_least z g q h enough in
    let m = least (round_up z g) (up_enough z g h) in
    omega lin

-- ---- natural numbers

-- n and one less than k are k and one less than n, so the quotient is one more than that of one less than n
pub up_some : (n k : ℕ) → 0 < k → 0 < n → IsUp n k ((n - 1) / k + 1)
up_some n k h some =
    let e : n + (k - 1) ≡ (n - 1) + k = omega arith in
    record { is = sym (ap (λ x. x / k) e ∙ add-div_right (n - 1) h); most = omega (arith, div-le_self (n - 1) k) }

-- ---- as the code rounds, by the size of the number

-- a quotient of natural numbers, rounded up, is the library's `div_ceil`
div_ceil_is : (n k : ℕ) → 0 < k → div_ceil n k ≡ (n + (k - 1)) / k
div_ceil_is n k h = let t = div_ceil_times n k h in sym (div-eq_of_lt-le k (omega (arith, t.0, t.1)) (omega (arith, t.0, t.1)))

-- from 0 up the quotient of the size is rounded up
pub up_from_zero : (z : ℤ) (k : ℕ) → 0 < k → pos 0 ≤ℤ z → pos (div_ceil (nat_abs z) k) ≡ round_up z k
unfolding round_up
up_from_zero (pos n) k h g = ap pos (div_ceil_is n k h)
up_from_zero (negsuc n) k h g = absurd g.le

-- below 0 it is rounded down, and taken from 0
pub up_by_size : (z : ℤ) (k : ℕ) → z <ℤ pos 0 → pos 0 -ℤ pos (nat_abs z / k) ≡ round_up z k
unfolding round_up
up_by_size (pos n) k g = absurd (omega lin)
up_by_size (negsuc n) k g = omega (lin, minus (pos 0) (pos (suc n / k)), negs (pos (suc n / k)))

-- ---- and with no number that 64 bits lack: z below 0 as -1 - z

less_one : (n : ℕ) → negsuc 0 -ℤ negsuc n ≡ pos n
less_one n = omega lin

-- y, which is -1 - z of a z below 0: one more than it is divided
pub record Downward (z y : ℤ) : Type 0 where
  pub fits : SFits w64 y
  pub not_negative : T (non_neg y)
  pub few : nat_abs y < 9223372036854775808
  pub stands : (k : ℕ) → neg_ℤ (pos ((nat_abs y + 1) / k)) ≡ round_up z k

-- -1 - z of a number z below 0 is so
pub up_below_zero : (z : ℤ) → SFits w64 z → z <ℤ pos 0 → Downward z (negsuc 0 -ℤ z)
unfolding round_up
up_below_zero (pos n) f h = absurd (omega lin)
up_below_zero (negsuc n) f h =
    let few : n < 9223372036854775808 = f.sfits in
    rw (less_one n) (record { fits = omega lin; not_negative = tt; few = few; stands = λ k. ap (λ x. neg_ℤ (pos (x / k))) (omega arith) })

-- ---- where a rounded quotient lies: on the same side of 0 as the number, and no further from 0

record Nearer (z q : ℤ) : Type 0 where
  pub up : above q ≤ above z
  pub down : below q ≤ below z

-- a quotient rounded up is at most the number
up_most : (n k : ℕ) → 0 < k → (n + (k - 1)) / k ≤ n
up_most n k h = let l : (n + (k - 1)) / k < suc n = (div-lt_iff_lt-mul h).1 (omega (arith, le-mul_of_pos_right n h)) in omega arith

up_nearer : (z : ℤ) (g : ℕ) → 0 < g → Nearer z (round_up z g)
unfolding round_up
up_nearer (pos n) g h = record { up = up_most n g h; down = omega arith }
up_nearer (negsuc n) g h = let s = negs (pos (suc n / g)) in record { up = omega arith; down = omega (arith, div-le_self (suc n) g) }

nearer_to : (z q b : ℤ) → pos 0 ≤ℤ b → z ≤ℤ b → Nearer z q → q ≤ℤ b
nearer_to (pos n) q b h k r = omega lin
nearer_to (negsuc n) q b h k r = omega lin

nearer_from : (z q a : ℤ) → a ≤ℤ pos 0 → a ≤ℤ z → Nearer z q → a ≤ℤ q
nearer_from (pos n) q a h k r = omega lin
nearer_from (negsuc n) q a h k r = omega lin

module _ {z : ℤ} {g : ℕ} (some : 0 < g) where
  -- so it lies below any bound of the number from 0 up
  pub up_to : (b : ℤ) → pos 0 ≤ℤ b → z ≤ℤ b → round_up z g ≤ℤ b
  up_to b h k = nearer_to z (round_up z g) b h k (up_nearer z g some)

  -- and above any bound of the number from 0 down
  pub up_from : (a : ℤ) → a ≤ℤ pos 0 → a ≤ℤ z → a ≤ℤ round_up z g
  up_from a h k = nearer_from z (round_up z g) a h k (up_nearer z g some)
