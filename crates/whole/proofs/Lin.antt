-- Linear reasoning over ℤ by `omega`. `omega` reads natural numbers, so a whole number z is split into `above z`, by how much it lies
-- above 0, and `below z`, by how much it lies below 0: z is their difference. Each law turns a statement about whole numbers into one
-- about those parts, or back. The set `lin` hands them all to `omega`, the more special shapes first, since `omega` takes the first
-- that fits. A sum that stands deeper wants its own law in the list, as `omega (lin, plus a b)`; a negation `negs a`. Rests on no other file.
use mathlib.Core.Path.{◌≡◌, refl, sym, ap, ◌∙◌, subst}
use Prim.Native.Nat.{ℕ, zero, suc, pred, max, ◌+◌, ◌-◌, ◌≤◌, ◌<◌, ◌^◌}
use native.Mathlib.Omega.{arith}
use native.Mathlib.Decide.{dec_le, dec_lt}
use mathlib.Core.Bool.{Bool, true, false, cond}
use lib.IntN.{ℤ, pos, negsuc, neg_ℤ, ◌+ℤ◌, ◌-ℤ◌}
use lib.Signed.{lt_z, le_z, ◌≤ℤ◌, ◌<ℤ◌}
use lib.Dec.{T, ltb, leb→le, le→leb, ltb→lt, lt→ltb}
use borrow.Author.Tests.{ltb-true, ltb-false}
use mir.Syntax.{Width}
use mir.Val.{SFits, to_z, of_z, hbits}
use mir.Facts.{to_z-of_z}
pub use Rattle.whole.specs.Parts.{above, below}

-- by how much a number lies above 0
-- ---- sums, differences, negation

sub_case : (a b : ℕ) (t : Bool) → ltb a b ≡ t → above (cond t (negsuc (b - suc a)) (pos (a - b))) + b ≡ a + below (cond t (negsuc (b - suc a)) (pos (a - b)))
sub_case a b true e = omega (arith, ltb-true a b e)
sub_case a b false e = omega (arith, ltb-false a b e)

-- a sum, by its parts
pub plus : (a b : ℤ) → above (a +ℤ b) + (below a + below b) ≡ (above a + above b) + below (a +ℤ b)
plus (pos a) (pos b) = omega arith
plus (pos a) (negsuc b) = omega (arith, sub_case a (suc b) (ltb a (suc b)) refl)
plus (negsuc a) (pos b) = omega (arith, sub_case b (suc a) (ltb b (suc a)) refl)
plus (negsuc a) (negsuc b) = omega arith

-- b is a with its parts exchanged
pub record Negated (a b : ℤ) : Type 0 where
  pub is_above : above b ≡ below a
  pub is_below : below b ≡ above a

-- a negation, by its parts
pub negs : (a : ℤ) → Negated a (neg_ℤ a)
negs (pos zero) = omega arith
negs (pos (suc n)) = omega arith
negs (negsuc n) = omega arith

-- a difference, by its parts
pub minus : (a b : ℤ) → above (a -ℤ b) + (below a + above b) ≡ (above a + below b) + below (a -ℤ b)
minus a b = omega (arith, plus a (neg_ℤ b), negs b)

-- ---- the order and the equality of two whole numbers, read and shown

le_in : (a b : ℤ) → T (le_z a b) → above a + below b ≤ above b + below a
le_in (pos a) (pos b) t = omega (arith, leb→le a b t)
le_in (pos a) (negsuc b) t = absurd t
le_in (negsuc a) (pos b) t = omega arith
le_in (negsuc a) (negsuc b) t = omega (arith, leb→le b a t)

le_out : (a b : ℤ) → above a + below b ≤ above b + below a → T (le_z a b)
le_out (pos a) (pos b) h = le→leb a b (omega arith)
le_out (pos a) (negsuc b) h = omega arith
le_out (negsuc a) (pos b) h = tt
le_out (negsuc a) (negsuc b) h = le→leb b a (omega arith)

lt_in : (a b : ℤ) → T (lt_z a b) → above a + below b < above b + below a
lt_in (pos a) (pos b) t = omega (arith, ltb→lt a b t)
lt_in (pos a) (negsuc b) t = absurd t
lt_in (negsuc a) (pos b) t = omega arith
lt_in (negsuc a) (negsuc b) t = omega (arith, ltb→lt b a t)

lt_out : (a b : ℤ) → above a + below b < above b + below a → T (lt_z a b)
lt_out (pos a) (pos b) h = lt→ltb a b (omega arith)
lt_out (pos a) (negsuc b) h = omega arith
lt_out (negsuc a) (pos b) h = tt
lt_out (negsuc a) (negsuc b) h = lt→ltb b a (omega arith)

-- what an equation says of the parts
pub eq_hyp : (a b : ℤ) → a ≡ b → above a + below b ≡ above b + below a
eq_hyp a b e = ap (λ z. above a + below z) (sym e) ∙ omega (arith, ap above e)

-- and an equation from its parts
pub eq_goal : (a b : ℤ) → above a + below b ≡ above b + below a → a ≡ b
eq_goal (pos a) (pos b) h = let e : a ≡ b = omega arith in ap pos e
eq_goal (pos a) (negsuc b) h = absurd (omega arith)
eq_goal (negsuc a) (pos b) h = absurd (omega arith)
eq_goal (negsuc a) (negsuc b) h = let e : a ≡ b = omega arith in ap negsuc e

-- ---- the same where a side is a sum: on the left (l), on the right (r), on both (lr). Each -hyp reads what is known, each -goal shows
-- what is asked for.
pub le_hyp_lr : (a b c d : ℤ) → (a +ℤ b) ≤ℤ (c +ℤ d) → (above a + above b) + (below c + below d) ≤ (above c + above d) + (below a + below b)
le_hyp_lr a b c d h = omega (arith, le_in (a +ℤ b) (c +ℤ d) h.le, plus a b, plus c d)

pub le_goal_lr : (a b c d : ℤ) → (above a + above b) + (below c + below d) ≤ (above c + above d) + (below a + below b) → (a +ℤ b) ≤ℤ (c +ℤ d)
le_goal_lr a b c d h = record { le = le_out (a +ℤ b) (c +ℤ d) (omega (arith, plus a b, plus c d)) }

pub le_hyp_l : (a b c : ℤ) → (a +ℤ b) ≤ℤ c → (above a + above b) + below c ≤ above c + (below a + below b)
le_hyp_l a b c h = omega (arith, le_in (a +ℤ b) c h.le, plus a b)

pub le_goal_l : (a b c : ℤ) → (above a + above b) + below c ≤ above c + (below a + below b) → (a +ℤ b) ≤ℤ c
le_goal_l a b c h = record { le = le_out (a +ℤ b) c (omega (arith, plus a b)) }

pub le_hyp_r : (a b c : ℤ) → a ≤ℤ (b +ℤ c) → above a + (below b + below c) ≤ (above b + above c) + below a
le_hyp_r a b c h = omega (arith, le_in a (b +ℤ c) h.le, plus b c)

pub le_goal_r : (a b c : ℤ) → above a + (below b + below c) ≤ (above b + above c) + below a → a ≤ℤ (b +ℤ c)
le_goal_r a b c h = record { le = le_out a (b +ℤ c) (omega (arith, plus b c)) }

pub le_hyp : (a b : ℤ) → a ≤ℤ b → above a + below b ≤ above b + below a
le_hyp a b h = le_in a b h.le

pub le_goal : (a b : ℤ) → above a + below b ≤ above b + below a → a ≤ℤ b
le_goal a b h = record { le = le_out a b h }

pub lt_hyp_lr : (a b c d : ℤ) → (a +ℤ b) <ℤ (c +ℤ d) → (above a + above b) + (below c + below d) < (above c + above d) + (below a + below b)
lt_hyp_lr a b c d h = omega (arith, lt_in (a +ℤ b) (c +ℤ d) h.lt, plus a b, plus c d)

pub lt_goal_lr : (a b c d : ℤ) → (above a + above b) + (below c + below d) < (above c + above d) + (below a + below b) → (a +ℤ b) <ℤ (c +ℤ d)
lt_goal_lr a b c d h = record { lt = lt_out (a +ℤ b) (c +ℤ d) (omega (arith, plus a b, plus c d)) }

pub lt_hyp_l : (a b c : ℤ) → (a +ℤ b) <ℤ c → (above a + above b) + below c < above c + (below a + below b)
lt_hyp_l a b c h = omega (arith, lt_in (a +ℤ b) c h.lt, plus a b)

pub lt_goal_l : (a b c : ℤ) → (above a + above b) + below c < above c + (below a + below b) → (a +ℤ b) <ℤ c
lt_goal_l a b c h = record { lt = lt_out (a +ℤ b) c (omega (arith, plus a b)) }

pub lt_hyp_r : (a b c : ℤ) → a <ℤ (b +ℤ c) → above a + (below b + below c) < (above b + above c) + below a
lt_hyp_r a b c h = omega (arith, lt_in a (b +ℤ c) h.lt, plus b c)

pub lt_goal_r : (a b c : ℤ) → above a + (below b + below c) < (above b + above c) + below a → a <ℤ (b +ℤ c)
lt_goal_r a b c h = record { lt = lt_out a (b +ℤ c) (omega (arith, plus b c)) }

pub lt_hyp : (a b : ℤ) → a <ℤ b → above a + below b < above b + below a
lt_hyp a b h = lt_in a b h.lt

pub lt_goal : (a b : ℤ) → above a + below b < above b + below a → a <ℤ b
lt_goal a b h = record { lt = lt_out a b h }

pub eq_hyp_lr : (a b c d : ℤ) → (a +ℤ b) ≡ (c +ℤ d) → (above a + above b) + (below c + below d) ≡ (above c + above d) + (below a + below b)
eq_hyp_lr a b c d h = omega (arith, eq_hyp (a +ℤ b) (c +ℤ d) h, plus a b, plus c d)

pub eq_goal_lr : (a b c d : ℤ) → (above a + above b) + (below c + below d) ≡ (above c + above d) + (below a + below b) → (a +ℤ b) ≡ (c +ℤ d)
eq_goal_lr a b c d h = eq_goal (a +ℤ b) (c +ℤ d) (omega (arith, plus a b, plus c d))

pub eq_hyp_l : (a b c : ℤ) → (a +ℤ b) ≡ c → (above a + above b) + below c ≡ above c + (below a + below b)
eq_hyp_l a b c h = omega (arith, eq_hyp (a +ℤ b) c h, plus a b)

pub eq_goal_l : (a b c : ℤ) → (above a + above b) + below c ≡ above c + (below a + below b) → (a +ℤ b) ≡ c
eq_goal_l a b c h = eq_goal (a +ℤ b) c (omega (arith, plus a b))

pub eq_hyp_r : (a b c : ℤ) → a ≡ (b +ℤ c) → above a + (below b + below c) ≡ (above b + above c) + below a
eq_hyp_r a b c h = omega (arith, eq_hyp a (b +ℤ c) h, plus b c)

pub eq_goal_r : (a b c : ℤ) → above a + (below b + below c) ≡ (above b + above c) + below a → a ≡ (b +ℤ c)
eq_goal_r a b c h = eq_goal a (b +ℤ c) (omega (arith, plus b c))

-- ---- tests: what a flag says (le-true, le-false, lt-true, lt-false), and the flag from what holds (true-le, false-le, true-lt, false-lt)

T_of : {t : Bool} → t ≡ true → T t
T_of e = subst T (sym e) tt

of_T : (t : Bool) → T t → t ≡ true
of_T true h = refl
of_T false h = absurd h

no_T : (t : Bool) → (T t → ⊥) → t ≡ false
no_T true h = absurd (h tt)
no_T false h = refl

pub le_true : (a b : ℤ) → le_z a b ≡ true → above a + below b ≤ above b + below a
le_true a b e = le_in a b (T_of e)

pub true_le : (a b : ℤ) → above a + below b ≤ above b + below a → le_z a b ≡ true
true_le a b h = of_T (le_z a b) (le_out a b h)

pub lt_true : (a b : ℤ) → lt_z a b ≡ true → above a + below b < above b + below a
lt_true a b e = lt_in a b (T_of e)

pub true_lt : (a b : ℤ) → above a + below b < above b + below a → lt_z a b ≡ true
true_lt a b h = of_T (lt_z a b) (lt_out a b h)

pub false_le : (a b : ℤ) → above b + below a < above a + below b → le_z a b ≡ false
false_le a b h = no_T (le_z a b) (λ t. omega (arith, le_in a b t))

pub false_lt : (a b : ℤ) → above b + below a ≤ above a + below b → lt_z a b ≡ false
false_lt a b h = no_T (lt_z a b) (λ t. omega (arith, lt_in a b t))

-- no flag is both
pub true_not_false : {t : Bool} → t ≡ true → t ≡ false → ⊥
true_not_false p q = let z : ◌≡◌ {A = ℕ} 0 1 = ap (λ b. cond b 0 1) (sym p ∙ q) in omega arith

pub le_false : (a b : ℤ) → le_z a b ≡ false → above b + below a < above a + below b
le_false a b e = le_case (dec_le (above a + below b) (above b + below a))
  where
    le_case : Dec (above a + below b ≤ above b + below a) → above b + below a < above a + below b
    le_case (yes h) = absurd (true_not_false (true_le a b h) e)
    le_case (no h) = omega arith

pub lt_false : (a b : ℤ) → lt_z a b ≡ false → above b + below a ≤ above a + below b
lt_false a b e = lt_case (dec_lt (above a + below b) (above b + below a))
  where
    lt_case : Dec (above a + below b < above b + below a) → above b + below a ≤ above a + below b
    lt_case (yes h) = absurd (true_not_false (true_lt a b h) e)
    lt_case (no h) = omega arith

-- ---- machine numbers: a number that fits is read back as itself; what fits lies between the ends of its width

-- a number that fits, written and read
pub fits_read : (w : Width) (z : ℤ) → SFits w z → above (to_z w (of_z w z)) + below z ≡ above z + below (to_z w (of_z w z))
fits_read w z h = eq_hyp (to_z w (of_z w z)) z (to_z-of_z h)

-- a number between the ends of a width fits
pub fits_goal : (w : Width) (z : ℤ) → max (above z - below z) (pred (below z - above z)) < 2 ^ hbits w → SFits w z
fits_goal w (pos n) h = record { sfits = omega arith }
fits_goal w (negsuc n) h = record { sfits = omega arith }

-- z lies between the ends of a width
pub record InWidth (w : Width) (z : ℤ) : Type 0 where
  pub under : above z < 2 ^ hbits w
  pub over : below z ≤ 2 ^ hbits w

-- a number that fits lies between them
pub fits_between : (w : Width) (z : ℤ) → SFits w z → InWidth w z
fits_between w (pos n) h = record { under = h.sfits; over = omega arith }
fits_between w (negsuc n) h = omega (arith, h.sfits)

-- all of them, for `omega`: what is read, what is shown, the tests, and the machine's numbers
pub ruleset read = (le_hyp_lr, le_hyp_l, le_hyp_r, le_hyp, lt_hyp_lr, lt_hyp_l, lt_hyp_r, lt_hyp, eq_hyp_lr, eq_hyp_l, eq_hyp_r, eq_hyp)

pub ruleset shown = (le_goal_lr, le_goal_l, le_goal_r, le_goal, lt_goal_lr, lt_goal_l, lt_goal_r, lt_goal, eq_goal_lr, eq_goal_l, eq_goal_r, eq_goal)

pub ruleset lin = (read, shown, le_true, le_false, lt_true, lt_false, true_le, false_le, true_lt, false_lt, fits_read, fits_goal, arith)
