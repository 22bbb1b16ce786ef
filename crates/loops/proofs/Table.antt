-- A table of n values: its length, and what stands at each place. Rests on nothing.
use mathlib.Core.Path.{◌≡◌, refl, ap, ◌∙◌}
use Prim.Native.Nat.{ℕ, zero, suc, ◌+◌, ◌<◌}
use native.Mathlib.Nat.{zero-add}
use native.Mathlib.Omega.{arith}
use lib.ListN.{length, get_or}
use Rattle.loops.specs.Model.{table}

module _ {A : Type 0} (f : ℕ → A) where
  pub table-length : (i n : ℕ) → length (table f i n) ≡ n
  unfolding table
  table-length i zero = refl
  table-length i (suc n) = ap suc (table-length (suc i) n)

  table_from : (i n j : ℕ) (d : A) → j < n → get_or (table f i n) j d ≡ f (i + j)
  unfolding table
  table_from i zero j d h = absurd (omega arith)
  table_from i (suc n) zero d h = ap f (omega arith)
  table_from i (suc n) (suc j) d h = table_from (suc i) n j d (omega arith) ∙ ap f (omega arith)

  pub table_at : (n j : ℕ) (d : A) → j < n → get_or (table f 0 n) j d ≡ f j
  table_at n j d h = table_from 0 n j d h ∙ ap f (zero-add j)
