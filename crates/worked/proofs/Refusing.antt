-- Tests that compute and show, where they pass, that a statement does not hold. Of a statement that says several things it is enough that one
-- of them fails. Rests on `Tests`.
use mathlib.Core.Path.{◌≡◌, refl}
use mathlib.Core.Logic.{◌≢◌, ◌⊎◌, inl, inr}
use mathlib.Core.List.{List, [], ◌∷◌}
use mathlib.Core.Bool.{Bool, true, false, not, ◌||◌}
use Prim.Native.Nat.{ℕ, zero, suc, ◌<◌, ◌≤◌}
use native.Mathlib.Omega.{arith}
use lib.IntN.{ℤ}
use lib.Signed.{le_z, lt_z, ◌≤ℤ◌, ◌<ℤ◌}
use lib.Dec.{leb, ltb, eqb}
use borrow.Author.Tests.{leb-true, ltb-true, eqb-true, not-true}
use Rattle.whole.proofs.Lin.{lin, true_not_false}
use Rattle.paper.specs.Chains.{All}
use Rattle.worked.proofs.Tests.{Test, via, never}

-- of two tests one has passed
pub one_of : (a b : Bool) → a || b ≡ true → (a ≡ true) ⊎ (b ≡ true)
one_of true b e = inl refl
one_of false b e = inr e

module _ {A B : Type 0} where
  pub shown_by : (s : Test A) (t : Test B) → (s.passes ≡ true) ⊎ (t.passes ≡ true) → A ⊎ B
  shown_by s t (inl e) = inl (s.shows e)
  shown_by s t (inr e) = inr (t.shows e)

  abbrev pub either : Test A → Test B → Test (A ⊎ B)
  either s t =
      record {
        passes = s.passes || t.passes;
        shows = λ e. shown_by s t (one_of s.passes t.passes e);
      }

  pub one_fails : (A → ⊥) ⊎ (B → ⊥) → A × B → ⊥
  one_fails (inl n) h = n h.0
  one_fails (inr n) h = n h.1

  -- A does not hold where B does not, which follows from it
  abbrev pub refuting : (A → B) → Test (B → ⊥) → Test (A → ⊥)
  refuting f t = record { passes = t.passes; shows = λ e a. t.shows e (f a) }

-- of two statements one does not hold
abbrev pub not_both : {A B : Type 0} → Test (A → ⊥) → Test (B → ⊥) → Test (A × B → ⊥)
not_both s t = via one_fails (either s t)

abbrev pub impossible : Test (⊥ → ⊥)
impossible = record { passes = true; shows = λ e a. a }

abbrev pub is_false : (b : Bool) → Test (b ≡ false)
is_false b = record { passes = not b; shows = λ e. not-true b e }

abbrev pub not_true : (b : Bool) → Test (b ≡ true → ⊥)
not_true b = record { passes = not b; shows = λ e t. true_not_false t (not-true b e) }

abbrev pub not_less : (a b : ℕ) → Test (a < b → ⊥)
not_less a b = record { passes = leb b a; shows = λ e h. let l = leb-true b a e in omega arith }

abbrev pub not_at_most : (a b : ℕ) → Test (a ≤ b → ⊥)
not_at_most a b = record { passes = ltb b a; shows = λ e h. let l = ltb-true b a e in omega arith }

abbrev pub not_differ : (a b : ℕ) → Test (a ≢ b → ⊥)
not_differ a b = record { passes = eqb a b; shows = λ e n. n (eqb-true a b e) }

abbrev pub not_at_most_ℤ : (a b : ℤ) → Test (a ≤ℤ b → ⊥)
not_at_most_ℤ a b = record { passes = lt_z b a; shows = λ e h. omega lin }

abbrev pub not_less_ℤ : (a b : ℤ) → Test (a <ℤ b → ⊥)
not_less_ℤ a b = record { passes = le_z b a; shows = λ e h. omega lin }

pub ways_both : {a b : ℤ} → a ≡ b → (a ≤ℤ b) × (b ≤ℤ a)
ways_both e = (omega lin, omega lin)

abbrev pub not_same_ℤ : (a b : ℤ) → Test (a ≡ b → ⊥)
not_same_ℤ a b = refuting ways_both (not_both (not_at_most_ℤ a b) (not_at_most_ℤ b a))

-- of some member of a list, and of some number below n
module _ {E : Type 0} (P : E → Type 0) (t : (e : E) → Test (P e → ⊥)) where
  abbrev pub not_every : (l : List E) → Test (All P l → ⊥)
  not_every [] = never _
  not_every (e ∷ l) = not_both (t e) (not_every l)

module _ (P : ℕ → Type 0) where
  pub one_less : (n : ℕ) → ((i : ℕ) → i < suc n → P i) → P n × ((i : ℕ) → i < n → P i)
  one_less n h = (h n (omega arith), λ i l. h i (omega arith))

  abbrev pub not_below : ((i : ℕ) → Test (P i → ⊥)) → (n : ℕ) → Test (((i : ℕ) → i < n → P i) → ⊥)
  not_below t zero = never _
  not_below t (suc n) = refuting (one_less n) (not_both (t n) (not_below t n))
