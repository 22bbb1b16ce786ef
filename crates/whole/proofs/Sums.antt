-- Laws of sums over a list: of two lists, and of amounts one above the other. Rests on `Lin.antt`.
use mathlib.Core.Path.{◌≡◌}
use mathlib.Core.List.{List, [], ◌∷◌, ◌++◌}
use lib.IntN.{ℤ, ◌+ℤ◌}
use lib.Signed.{◌≤ℤ◌}
use Rattle.whole.specs.Sums.{total}
use Rattle.whole.proofs.Lin.{lin, plus}

module _ {E : Type 0} where
  -- two lists, one behind the other, add up to both sums
  pub total-append : (f : E → ℤ) (l m : List E) → total f (l ++ m) ≡ total f l +ℤ total f m
  total-append f [] m = omega lin
  total-append f (e ∷ l) m = let ih = total-append f l m in omega (lin, plus (f e) (total f l))

  -- amounts no higher add up to no more
  pub total_mono : (f g : E → ℤ) (l : List E) → ((e : E) → f e ≤ℤ g e) → total f l ≤ℤ total g l
  total_mono f g [] h = omega lin
  total_mono f g (e ∷ l) h = let ih = total_mono f g l h in omega (lin, h e)
