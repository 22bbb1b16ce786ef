-- Arrows by another name: where each arrow of a list and what it is renamed to leave the same register and reach the same register, a loop
-- stays a loop, listed from the same register. Rests on nothing.
use mathlib.Core.Path.{◌≡◌, refl, sym, ◌∙◌, subst}
use mathlib.Core.Logic.{◌≢◌}
use mathlib.Core.List.{List, [], ◌∷◌, map}
use Prim.Native.Nat.{ℕ, ◌≤◌}
use lib.IntN.{ℤ}
use Rattle.whole.specs.Sums.{total}
use Rattle.paper.specs.Chains.{All, Chain, Once, Loop, Listed}

module _ {E F : Type 0} (tail head : E → ℕ) (tail' head' : F → ℕ) (g : E → F) where
  -- the arrow and its other name have the same ends
  pub record Alike (e : E) : Type 0 where
    pub tails : tail e ≡ tail' (g e)
    pub heads : head e ≡ head' (g e)

  -- what holds of each arrow and passes to its other name holds of each other name
  pub renamed_all : (P : E → Type 0) (Q : F → Type 0) → ((e : E) → Alike e → P e → Q (g e)) → (l : List E) → All Alike l → All P l → All Q (map g l)
  renamed_all P Q pass [] s h = tt
  renamed_all P Q pass (e ∷ l) s h = (pass e s.0 h.0, renamed_all P Q pass l s.1 h.1)

  renamed_chain : (u v : ℕ) (l : List E) → All Alike l → Chain tail head u l v → Chain tail' head' u (map g l) v
  renamed_chain u v [] s c = c
  renamed_chain u v (e ∷ l) s c = (sym s.0.tails ∙ c.0, rw (← s.0.heads) (renamed_chain (head e) v l s.1 c.1))

  renamed_once : (l : List E) → All Alike l → Once tail head l → Once tail' head' (map g l)
  renamed_once [] s o = tt
  renamed_once (e ∷ l) s o = (
    renamed_all (λ f. tail f ≢ tail e) (λ f. tail' f ≢ tail' (g e)) (λ f a h q. h (a.tails ∙ q ∙ sym s.0.tails)) l s.1 o.0,
    renamed_once l s.1 o.1,
  )

  pub renamed_loop : (l : List E) → All Alike l → Loop tail head l → Loop tail' head' (map g l)
  renamed_loop [] s o = o
  renamed_loop (e ∷ l) s o = (
    subst (λ u. Chain tail' head' u (map g (e ∷ l)) u) s.0.tails (renamed_chain (tail e) (tail e) (e ∷ l) s o.0),
    renamed_once (e ∷ l) s o.1,
  )

  pub renamed_listed : (l : List E) → All Alike l → Listed tail head l → Listed tail' head' (map g l)
  renamed_listed [] s h = tt
  renamed_listed (e ∷ l) s h =
      renamed_all (λ f. tail e ≤ tail f) (λ f. tail' (g e) ≤ tail' f) (λ f a k. rw (← s.0.tails, ← a.tails) k) l s.1 h

-- where the amounts are alike, so are the sums
pub renamed_total : {E F : Type 0} (amount : E → ℤ) (amount' : F → ℤ) (g : E → F) (l : List E) → All (λ e. amount e ≡ amount' (g e)) l
    → total amount l ≡ total amount' (map g l)
renamed_total amount amount' g [] h = refl
renamed_total amount amount' g (e ∷ l) h = rw (h.0, renamed_total amount amount' g l h.1)
