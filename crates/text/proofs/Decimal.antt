-- Decimal numbers: a number's digits are those of its tenth part and then its last one; read, they give the number again; each is a digit,
-- and the first of a number that is not 0 is not the digit 0; the library writes the same; and how many there are at most. Rests on no other
-- file.
use mathlib.Core.Path.{◌≡◌, refl, sym, ap, subst, ◌∙◌}
use mathlib.Core.List.{List, [], ◌∷◌, ◌++◌}
use mathlib.Core.Bool.{Bool, true, false}
use Prim.Native.Nat.{ℕ, zero, suc, ◌+◌, ◌*◌, ◌-◌, ◌/◌, ◌%◌, ◌^◌, ◌≤◌, ◌<◌}
use native.Mathlib.Omega.{arith}
use lib.IntN.{ℤ, pos, negsuc}
use lib.Dec.{ltb}
use lib.ListN.{length, get_or, length-append, get_or-append}
use borrow.Author.Tests.{ltb-true, ltb-false, lt-ltb, le-ltb}
use lib.Signed.{mag}
use Rattle.std.proofs.Common.{rules}
use Rattle.std.proofs.lemmas.Fmt.{AppendsLastDigit, decimal_from_appends, length-decimal-le_succ}
use Rattle.std.specs.Fmt.{decimal as std_decimal, signed_decimal}
use Rattle.text.specs.Decimal.{digits, decimal, whole, reading}

-- ---- one digit, and more than one

digits_one : (most n : ℕ) → n < 10 → digits (suc most) n ≡ (48 + n) ∷ []
unfolding digits
digits_one most n h = rw (lt-ltb n 10 h)

digits_more : (most n : ℕ) → 10 ≤ n → digits (suc most) n ≡ digits most (n / 10) ++ ((48 + n % 10) ∷ [])
unfolding digits
digits_more most n h = rw (le-ltb n 10 h)

-- more digits than there are change nothing
digits_enough : (f g n : ℕ) → n < f → n < g → digits f n ≡ digits g n
digits_enough zero g n h k = absurd (omega arith)
digits_enough (suc f) zero n h k = absurd (omega arith)
digits_enough (suc f) (suc g) n h k =
    by_size (ltb n 10) refl (λ l. digits_enough f g (n / 10) (omega arith) (omega arith))
  where
    by_size : (t : Bool) → ltb n 10 ≡ t → (10 ≤ n → digits f (n / 10) ≡ digits g (n / 10)) → digits (suc f) n ≡ digits (suc g) n
    by_size true e r = let l = ltb-true n 10 e in digits_one f n l ∙ sym (digits_one g n l)
    by_size false e r = let l = ltb-false n 10 e in digits_more f n l ∙ rw (r l) (sym (digits_more g n l))

-- a number below 10 is one digit
pub decimal_one : (n : ℕ) → n < 10 → decimal n ≡ (48 + n) ∷ []
unfolding decimal
decimal_one n h = digits_one n n h

-- any other is its tenth part and then its last digit
pub decimal_more : (n : ℕ) → 10 ≤ n → decimal n ≡ decimal (n / 10) ++ ((48 + n % 10) ∷ [])
unfolding decimal
decimal_more n h = digits_more n n h ∙ rw (digits_enough n (suc (n / 10)) (n / 10) (omega arith) (omega arith)) refl

-- what holds of one digit, and of a number's digits if it holds of those of its tenth part, holds of every number's digits
module _ (P : ℕ → List ℕ → Type 0)
    (one : (n : ℕ) → n < 10 → P n ((48 + n) ∷ []))
    (more : (n : ℕ) → 10 ≤ n → P (n / 10) (decimal (n / 10)) → P n (decimal (n / 10) ++ ((48 + n % 10) ∷ []))) where
  below : (f n : ℕ) → n < f → P n (decimal n)
  below zero n h = absurd (omega arith)
  below (suc f) n h = by_size (ltb n 10) refl (λ l. below f (n / 10) (omega arith))
    where
      by_size : (t : Bool) → ltb n 10 ≡ t → (10 ≤ n → P (n / 10) (decimal (n / 10))) → P n (decimal n)
      by_size true e r = let l = ltb-true n 10 e in rw (decimal_one n l) (one n l)
      by_size false e r = let l = ltb-false n 10 e in rw (decimal_more n l) (more n l (r l))

  by_digits : (n : ℕ) → P n (decimal n)
  by_digits n = below (suc n) n (omega arith)

-- ---- read, the digits give the number again

reading-append : (v : ℕ) (l k : List ℕ) → reading v (l ++ k) ≡ reading (reading v l) k
reading-append v [] k = refl
reading-append v (d ∷ l) k = reading-append (10 * v + (d - 48)) l k

-- digits are read as their number
pub decimal_read : (n : ℕ) → reading 0 (decimal n) ≡ n
decimal_read =
    by_digits (λ n l. reading 0 l ≡ n)
    (λ n h. omega arith)
    (λ n h r. rw (reading-append 0 (decimal (n / 10)) ((48 + n % 10) ∷ []), r) (omega arith))

-- two numbers with the same digits are the same
pub decimal_tells : (m n : ℕ) → decimal m ≡ decimal n → m ≡ n
decimal_tells m n e = sym (decimal_read m) ∙ ap (reading 0) e ∙ decimal_read n

-- ---- the first digit, and each digit

headed : (n : ℕ) → (0 < length (decimal n)) × (0 < n → 48 < get_or (decimal n) 0 0)
headed =
    by_digits (λ n l. (0 < length l) × (0 < n → 48 < get_or l 0 0))
    (λ n h. (omega arith, λ g. omega arith))
    (λ n h r. (
      rw (length-append (decimal (n / 10)) ((48 + n % 10) ∷ [])) (omega arith),
      λ g. rw (get_or-append (decimal (n / 10)) ((48 + n % 10) ∷ []) 0 0 r.0) (r.1 (omega arith)),
    ))

-- RULES 9.4: "no number has a needless 0"
pub decimal_first : (n : ℕ) → 0 < n → 48 < get_or (decimal n) 0 0
decimal_first n = (headed n).1

-- every byte is a digit
abbrev pub Digits : List ℕ → Type 0
Digits [] = Unit {0}
Digits (d ∷ l) = (48 ≤ d) × (d ≤ 57) × Digits l

digits_append : (l : List ℕ) (d : ℕ) → Digits l → d < 10 → Digits (l ++ ((48 + d) ∷ []))
digits_append [] d t h = (omega arith, omega arith, tt)
digits_append (x ∷ l) d t h = (t.0, t.1, digits_append l d t.2 h)

-- a number is written in digits alone
decimal_digits : (n : ℕ) → Digits (decimal n)
decimal_digits =
    by_digits (λ n l. Digits l)
    (λ n h. (omega arith, omega arith, tt))
    (λ n h r. digits_append (decimal (n / 10)) (n % 10) r (omega arith))

-- two whole numbers with the same bytes are the same: no digit is a minus
pub whole_tells : (y z : ℤ) → whole y ≡ whole z → y ≡ z
unfolding whole
whole_tells (pos m) (pos n) e = ap pos (decimal_tells m n e)
whole_tells (pos m) (negsuc n) e =
    let d : Digits (45 ∷ decimal (suc n)) = subst Digits e (decimal_digits m) in
    let h = d.0 in
    absurd (omega arith)
whole_tells (negsuc m) (pos n) e =
    let d : Digits (45 ∷ decimal (suc m)) = subst Digits (sym e) (decimal_digits n) in
    let h = d.0 in
    absurd (omega arith)
whole_tells (negsuc m) (negsuc n) e =
    let l : decimal (suc m) ≡ decimal (suc n) = cc in
    let s : suc m ≡ suc n = decimal_tells (suc m) (suc n) l in
    let t : m ≡ n = omega arith in
    ap negsuc t

-- ---- what the library writes

-- The library writes the same digits of a number of 64 bits: what is one digit for a number below 10, and one further digit behind those of
-- the tenth part, is its decimal, however the recursion ends.
pub decimal_is : (n : ℕ) → n < 2 ^ 64 → std_decimal n ≡ decimal n
unfolding decimal
decimal_is n h =
    let appends : AppendsLastDigit digits = record { one = digits_one; more = digits_more } in
    sym (decimal_from_appends digits appends (suc n) n h (search (rules, length-decimal-le_succ)))

-- and of a whole number, with the same minus
pub whole_is : (z : ℤ) → mag z < 2 ^ 63 → signed_decimal z ≡ whole z
unfolding whole
whole_is (pos n) h = decimal_is n (omega arith)
whole_is (negsuc n) h = rw (decimal_is (suc n) (omega arith))

-- ---- how many digits

-- 10 to the power of k
abbrev tens : ℕ → ℕ
tens zero = 1
tens (suc k) = 10 * tens k

-- a number below 10^(k + 1) has at most k + 1 digits
pub decimal_few : (n k : ℕ) → n < tens (suc k) → length (decimal n) ≤ suc k
decimal_few =
    by_digits (λ n l. (k : ℕ) → n < tens (suc k) → length l ≤ suc k)
    (λ n h k g. omega arith)
    further
  where
    further : (n : ℕ) → 10 ≤ n → ((k : ℕ) → n / 10 < tens (suc k) → length (decimal (n / 10)) ≤ suc k)
        → (k : ℕ) → n < tens (suc k) → length (decimal (n / 10) ++ ((48 + n % 10) ∷ [])) ≤ suc k
    further n h r zero g = absurd (omega arith)
    further n h r (suc k) g =
        let s : length (decimal (n / 10)) ≤ suc k = r k (omega arith) in
        rw (length-append (decimal (n / 10)) ((48 + n % 10) ∷ [])) (omega arith)
