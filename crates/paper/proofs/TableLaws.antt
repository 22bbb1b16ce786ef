-- What a table of numbers gives, it gives once: where each row has one place, one number and one place. And what is known of each row's
-- places is known of the place that is given. Rests on `Legal` for the bound of a file's places.
use mathlib.Core.Path.{◌≡◌, sym, ◌∙◌}
use mathlib.Core.Logic.{◌⊎◌, inl, inr}
use mathlib.Core.List.{List, [], ◌∷◌, ◌++◌}
use mathlib.Core.Bool.{Bool, true}
use Prim.Native.Nat.{ℕ, ◌≤◌, ◌<◌}
use native.Mathlib.Omega.{arith}
use Rattle.whole.proofs.Lin.{true_not_false}
use Rattle.paper.specs.Network.{Network}
use Rattle.paper.specs.File.{counted}
use Rattle.paper.specs.Table.{Row, Fails, Lowest, When, Silent, Given, Clear}
use Rattle.paper.specs.Refusals.{faults, refusals, schedule_rows}
use Rattle.paper.specs.Question.{Question, question_refusals, question_rows}
use Rattle.paper.proofs.Legal.{passes, counts_to}

-- ---- any table

-- two places at which the row applies are one
abbrev pub OnePlace : Row → Type 0
OnePlace r = (p q : ℕ) → r.applies p → r.applies q → p ≡ q

-- every row has one place
abbrev pub OnePlaces : List Row → Type 0
OnePlaces [] = Unit {0}
OnePlaces (r ∷ t) = OnePlace r × OnePlaces t

-- every row has a number other than 0
abbrev pub Numbered : List Row → Type 0
Numbered [] = Unit {0}
Numbered (r ∷ t) = (0 < r.number) × Numbered t

-- the numbers rise from row to row, from above k on
abbrev pub Rising : ℕ → List Row → Type 0
Rising k [] = Unit {0}
Rising k (r ∷ t) = (k < r.number) × Rising r.number t

-- no row with a number below n applies
abbrev pub NoneBelow : ℕ → List Row → Type 0
NoneBelow n [] = Unit {0}
NoneBelow n (r ∷ t) = ((q : ℕ) → r.applies q → n ≤ r.number) × NoneBelow n t

-- every row applies below b alone, once the rows before it are known not to apply
abbrev pub Below : ℕ → List Row → Type 0
Below b [] = Unit {0}
Below b (r ∷ t) = ((p : ℕ) → r.applies p → p < b) × (Silent r → Below b t)

-- number n and place p are given by a row of the table, the first that applies
abbrev pub ByRow : List Row → ℕ → ℕ → Type 0
ByRow [] n p = ⊥
ByRow (r ∷ t) n p = ((n ≡ r.number) × r.applies p) ⊎ (Silent r × ByRow t n p)

-- RULES 6.3: "Of the numbers from 1 on that apply, the lowest is returned": it is one number, with one place
pub given_one : (t : List Row) → OnePlaces t → (n m p q : ℕ) → Given t n p → Given t m q → (n ≡ m) × (p ≡ q)
given_one [] o n m p q g h = (g.0 ∙ sym h.0, g.1 ∙ sym h.1)
given_one (r ∷ t) o n m p q (inl g) (inl h) = (g.0 ∙ sym h.0, o.0 p q g.1 h.1)
given_one (r ∷ t) o n m p q (inl g) (inr h) = absurd (h.0 p g.1)
given_one (r ∷ t) o n m p q (inr g) (inl h) = absurd (g.0 q h.1)
given_one (r ∷ t) o n m p q (inr g) (inr h) = given_one t o.1 n m p q g.1 h.1

-- and it is the lowest: where the numbers rise, no row with a lower number applies
above_all : (k n : ℕ) (t : List Row) → n ≤ k → Rising k t → NoneBelow n t
above_all k n [] h r = tt
above_all k n (s ∷ t) h r = ((λ q a. omega (arith, r.0)), above_all s.number n t (omega (arith, r.0)) r.1)

pub given_lowest : (k : ℕ) (t : List Row) → Rising k t → (n p : ℕ) → ByRow t n p → NoneBelow n t
given_lowest k [] r n p b = tt
given_lowest k (s ∷ t) r n p (inl b) =
    let e = b.0 in
    ((λ q a. omega arith), above_all s.number n t (omega arith) r.1)
given_lowest k (s ∷ t) r n p (inr b) = ((λ q a. absurd (b.0 q a)), given_lowest s.number t r.1 n p b.1)

-- the place that is given lies below what bounds the rows' places
pub given_below : (b : ℕ) → 0 < b → (t : List Row) → Below b t → (n p : ℕ) → Given t n p → p < b
given_below b h [] k n p g = let e = g.1 in omega arith
given_below b h (r ∷ t) k n p (inl g) = k.0 p g.1
given_below b h (r ∷ t) k n p (inr g) = given_below b h t (k.1 g.0) n p g.1

-- a table continued: each row has one place, or is bounded, as in its part
pub one_places_append : (t s : List Row) → OnePlaces t → OnePlaces s → OnePlaces (t ++ s)
one_places_append [] s o k = k
one_places_append (r ∷ t) s o k = (o.0, one_places_append t s o.1 k)

pub below-append : (b : ℕ) (t s : List Row) → Below b t → Below b s → Below b (t ++ s)
below-append b [] s o k = k
below-append b (r ∷ t) s o k = (o.0, λ h. below-append b t s (o.1 h) k)

-- where 0 is given, no row applies
pub given_clear : (t : List Row) → Numbered t → (p : ℕ) → Given t 0 p → Clear t
given_clear [] k p g = tt
given_clear (r ∷ t) k p (inl g) = let e = g.0 in absurd (omega (arith, k.0))
given_clear (r ∷ t) k p (inr g) = (g.0, given_clear t k.1 p g.1)

-- a table continued: what the second part gives counts where no row of the first applies
pub given_after : (t s : List Row) (n p : ℕ) → Clear t → Given s n p → Given (t ++ s) n p
given_after [] s n p c g = g
given_after (r ∷ t) s n p c g = inr (c.0, given_after t s n p c.1 g)

-- what a row of the first part gives, the whole gives
pub given_before : (t s : List Row) (n p : ℕ) → ByRow t n p → Given (t ++ s) n p
given_before [] s n p b = absurd b
given_before (r ∷ t) s n p (inl b) = inl b
given_before (r ∷ t) s n p (inr b) = inr (b.0, given_before t s n p b.1)

-- what a row gives, its table gives
pub by_row_given : (t : List Row) (n p : ℕ) → ByRow t n p → Given t n p
by_row_given [] n p b = absurd b
by_row_given (r ∷ t) n p (inl b) = inl b
by_row_given (r ∷ t) n p (inr b) = inr (b.0, by_row_given t n p b.1)

-- a number other than 0 is given by a row
pub given_row : (t : List Row) (n p : ℕ) → 0 < n → Given t n p → ByRow t n p
given_row [] n p h g = let e = g.0 in absurd (omega arith)
given_row (r ∷ t) n p h (inl g) = inl g
given_row (r ∷ t) n p h (inr g) = inr (g.0, given_row t n p h g.1)

-- what a table continued gives is given by a row of the first part, or by the second part where no row of the first applies
pub given_append : (t s : List Row) (n p : ℕ) → Given (t ++ s) n p → ByRow t n p ⊎ (Clear t × Given s n p)
given_append [] s n p g = inr (tt, g)
given_append (r ∷ t) s n p (inl g) = inl (inl g)
given_append (r ∷ t) s n p (inr g) = after (given_append t s n p g.1)
  where
    after : ByRow t n p ⊎ (Clear t × Given s n p) → ByRow (r ∷ t) n p ⊎ (Clear (r ∷ t) × Given s n p)
    after (inl b) = inl (inr (g.0, b))
    after (inr c) = inr ((g.0, c.0), c.1)

-- ---- the paper's tables

fails_one : (ok : Bool) (p q : ℕ) → Fails ok p → Fails ok q → p ≡ q
fails_one ok p q a b = a.1 ∙ sym b.1

when_one : (A : Type 0) (p q : ℕ) → When A p → When A q → p ≡ q
when_one A p q a b = a.1 ∙ sym b.1

-- of two lowest records neither is below the other
not_below_lem : (ok : ℕ → Bool) (n p q : ℕ) → Lowest ok n p → Lowest ok n q → p < q → ⊥
not_below_lem ok n p q a b h = true_not_false (b.2 p h) a.1

lowest_one : (ok : ℕ → Bool) (n p q : ℕ) → Lowest ok n p → Lowest ok n q → p ≡ q
lowest_one ok n p q a b = let l = not_below_lem ok n p q a b in let g = not_below_lem ok n q p b a in omega arith

-- a row applies at no place where its test passes, or passes of every record
pub passed : {ok : Bool} → ok ≡ true → (p : ℕ) → Fails ok p → ⊥
passed e p x = true_not_false e x.0

pub all_passed : {ok : ℕ → Bool} {n : ℕ} → ((p : ℕ) → p < n → ok p ≡ true) → (p : ℕ) → Lowest ok n p → ⊥
all_passed all p x = true_not_false (all p x.0) x.1

-- each row of the scheduler and of the question has one place
pub schedule_one_place : (N : Network) (room : ℕ) → OnePlaces (schedule_rows N room)
schedule_one_place N room = (fails_one _, (when_one _, (when_one _, tt)))

pub question_one_place : (N : Network) (q : Question) → OnePlaces (question_rows N q)
question_one_place N q = (when_one _, tt)

-- a test that fails, and a fact that holds, is told at place 0
at_zero : {b : ℕ} → 0 < b → (p : ℕ) → p ≡ 0 → p < b
at_zero h p e = omega arith

-- and each such place lies below 2,048
pub schedule_below : (N : Network) (room : ℕ) → Below 2048 (schedule_rows N room)
schedule_below N room =
    ((λ p a. at_zero (omega arith) p a.1), λ _. ((λ p a. at_zero (omega arith) p a.1), λ _. ((λ p a. at_zero (omega arith) p a.1), λ _. tt)))

pub question_below : (N : Network) (q : Question) → Below 2048 (question_rows N q)
question_below N q = ((λ p a. at_zero (omega arith) p a.1), λ _. tt)

module _ (f : List ℕ) where
  -- each row has one place: 0, or the lowest record of which its test fails
  pub faults_one_place : OnePlaces (faults f)
  faults_one_place = (fails_one _, (fails_one _, (fails_one _, (fails_one _, (lowest_one _ _, (lowest_one _ _, tt))))))

  -- it is the number of a record at most, and the counts of records have been found in range by then
  pub faults_below : Below 2048 (faults f)
  faults_below = (
    zero,
    λ _. (
      zero,
      λ c. (
        zero,
        λ _. (
          zero,
          λ _. (
            (λ p a. let most = (counts_to f (passes (counted f) c)).0 in omega (arith, a.0)),
            λ _. ((λ p a. let most = (counts_to f (passes (counted f) c)).1 in omega (arith, a.0)), λ _. tt),
          ),
        ),
      ),
    ),
  )
    where
      zero : {ok : Bool} → (p : ℕ) → Fails ok p → p < 2048
      zero p a = at_zero (omega arith) p a.1

  -- the table stands in the order of its numbers
  pub refusals_rising : (room : ℕ) → Rising 0 (refusals f room)
  refusals_rising room = omega arith

  -- no row of the faults has number 0
  pub faults_numbered : Numbered (faults f)
  faults_numbered = omega arith

  -- so it is of the scheduler's table, and of the question's
  pub refusals_one_place : (room : ℕ) → OnePlaces (refusals f room)
  refusals_one_place room = one_places_append (faults f) (schedule_rows _ room) faults_one_place (schedule_one_place _ room)

  pub question_refusals_one_place : (q : Question) → OnePlaces (question_refusals f q)
  question_refusals_one_place q = one_places_append (faults f) (question_rows _ q) faults_one_place (question_one_place _ q)
