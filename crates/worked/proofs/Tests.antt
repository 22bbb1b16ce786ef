-- Tests that compute, each with what it shows when it passes. A statement over a table is then a test that is run. Rests on
-- `both` of `Legal`.
use mathlib.Core.Path.{◌≡◌, refl}
use mathlib.Core.Logic.{◌≢◌}
use mathlib.Core.List.{List, [], ◌∷◌, ◌++◌}
use mathlib.Core.Bool.{Bool, true, false, not, ◌&&◌}
use Prim.Native.Nat.{ℕ, zero, suc, ◌<◌, ◌≤◌}
use native.Mathlib.Omega.{arith}
use native.Mathlib.Decide.{dec_lt}
use lib.IntN.{ℤ}
use lib.Signed.{le_z, lt_z, ◌≤ℤ◌, ◌<ℤ◌}
use lib.Dec.{leb, ltb, eqb}
use borrow.Author.Tests.{leb-true, ltb-true, eqb-true, eqb-false, not-true}
use Rattle.whole.proofs.Lin.{lin, true_not_false}
use Rattle.paper.specs.Chains.{All}
use Rattle.paper.proofs.Legal.{both}

pub record Test (A : Type 0) : Type 0 where
  pub passes : Bool
  pub shows : passes ≡ true → A

module _ {A B : Type 0} where
  abbrev pub via : (A → B) → Test A → Test B
  via f t = record { passes = t.passes; shows = λ e. f (t.shows e) }

  abbrev pub pair : Test A → Test B → Test (A × B)
  pair s t =
      record {
        passes = s.passes && t.passes;
        shows = λ e. let p = both s.passes t.passes e in (s.shows p.0, t.shows p.1);
      }

abbrev pub nothing : Test (Unit {0})
nothing = record { passes = true; shows = λ e. tt }

abbrev pub never : (A : Type 0) → Test A
never A = record { passes = false; shows = λ e. absurd (true_not_false e refl) }

abbrev pub is_true : (b : Bool) → Test (b ≡ true)
is_true b = record { passes = b; shows = λ e. e }

abbrev pub less : (a b : ℕ) → Test (a < b)
less a b = record { passes = ltb a b; shows = λ e. ltb-true a b e }

abbrev pub at_most : (a b : ℕ) → Test (a ≤ b)
at_most a b = record { passes = leb a b; shows = λ e. leb-true a b e }

abbrev pub same : (a b : ℕ) → Test (a ≡ b)
same a b = record { passes = eqb a b; shows = λ e. eqb-true a b e }

abbrev pub differ : (a b : ℕ) → Test (a ≢ b)
differ a b = record { passes = not (eqb a b); shows = λ e. eqb-false a b (not-true (eqb a b) e) }

abbrev pub at_most_ℤ : (a b : ℤ) → Test (a ≤ℤ b)
at_most_ℤ a b = record { passes = le_z a b; shows = λ e. omega lin }

abbrev pub less_ℤ : (a b : ℤ) → Test (a <ℤ b)
less_ℤ a b = record { passes = lt_z a b; shows = λ e. omega lin }

pub both_ways : {a b : ℤ} → (a ≤ℤ b) × (b ≤ℤ a) → a ≡ b
both_ways h = let l = h.0 in let g = h.1 in omega lin

abbrev pub same_ℤ : (a b : ℤ) → Test (a ≡ b)
same_ℤ a b = via both_ways (pair (at_most_ℤ a b) (at_most_ℤ b a))

-- of every member of a list, and of every number below n
module _ {E : Type 0} (P : E → Type 0) (t : (e : E) → Test (P e)) where
  abbrev pub every : (l : List E) → Test (All P l)
  every [] = nothing
  every (e ∷ l) = pair (t e) (every l)

module _ (P : ℕ → Type 0) where
  pub one_more : (n : ℕ) → P n × ((i : ℕ) → i < n → P i) → (i : ℕ) → i < suc n → P i
  one_more n h i l = split (dec_lt i n)
    where
      split : Dec (i < n) → P i
      split (yes k) = h.1 i k
      split (no k) = let e : i ≡ n = omega arith in rw e h.0

  abbrev pub below : ((i : ℕ) → Test (P i)) → (n : ℕ) → Test ((i : ℕ) → i < n → P i)
  below t zero = record { passes = true; shows = λ e i l. absurd (omega arith) }
  below t (suc n) = via (one_more n) (pair (t n) (below t n))

-- what holds of every member of two lists holds of both in one
pub all_both : {E : Type 0} (P : E → Type 0) (l m : List E) → All P l → All P m → All P (l ++ m)
all_both P [] m a b = b
all_both P (e ∷ l) m a b = (a.0, all_both P l m a.1 b)
