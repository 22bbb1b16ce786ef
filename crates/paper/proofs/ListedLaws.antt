-- A loop is listed in one way: two loops of the same arrows, each from its lowest register, are one list. Rests on the definitions of
-- `Chains` alone.
use mathlib.Core.Path.{◌≡◌, refl, sym, ap, ◌∙◌}
use mathlib.Core.Logic.{◌≢◌, inl, inr}
use mathlib.Core.List.{List, [], ◌∷◌}
use Prim.Native.Nat.{ℕ, ◌≤◌}
use native.Mathlib.Omega.{arith}
use Rattle.paper.specs.Chains.{All, In, SameMembers, Chain, Once, Loop, Listed}

-- what holds of every member holds of each
pub all_in : {E : Type 0} (P : E → Type 0) (e : E) (l : List E) → All P l → In e l → P e
all_in P e [] a i = absurd i
all_in P e (f ∷ l) a (inl is) = rw is a.0
all_in P e (f ∷ l) a (inr i) = all_in P e l a.1 i

-- and what holds of each member holds of all
pub in_all : {E : Type 0} (P : E → Type 0) (l : List E) → ((e : E) → In e l → P e) → All P l
in_all P [] h = tt
in_all P (e ∷ l) h = (h e (inl refl), in_all P l (λ f i. h f (inr i)))

module _ {E : Type 0} (tail head : E → ℕ) where
  -- arrows of a loop that leave one register are one arrow
  once_one : (l : List E) → Once tail head l → (a b : E) → In a l → In b l → tail a ≡ tail b → a ≡ b
  once_one [] o a b i j e = absurd i
  once_one (f ∷ l) o a b (inl i) (inl j) e = i ∙ sym j
  once_one (f ∷ l) o a b (inl i) (inr j) e = absurd (all_in (λ g. tail g ≢ tail f) b l o.0 j (sym e ∙ ap tail i))
  once_one (f ∷ l) o a b (inr i) (inl j) e = absurd (all_in (λ g. tail g ≢ tail f) a l o.0 i (e ∙ ap tail j))
  once_one (f ∷ l) o a b (inr i) (inr j) e = once_one l o.1 a b i j e

  -- Two chains from u back to s, of arrows of one loop, none of which leaves s: each next arrow leaves the same register in both, so it is the
  -- same; and neither ends before the other, for it would have to leave s.
  module _ (loop : List E) (once : Once tail head loop) (s : ℕ) where
    chains_one : (u : ℕ) (l m : List E) → Chain tail head u l s → Chain tail head u m s → All (λ e. In e loop) l → All (λ e. In e loop) m
        → All (λ e. tail e ≢ s) l → All (λ e. tail e ≢ s) m → l ≡ m
    chains_one u [] [] c d i j a b = refl
    chains_one u [] (f ∷ m) c d i j a b = absurd (b.0 (d.0 ∙ c))
    chains_one u (e ∷ l) [] c d i j a b = absurd (a.0 (c.0 ∙ d))
    chains_one u (e ∷ l) (f ∷ m) c d i j a b =
        let is = once_one loop once e f i.0 j.0 (c.0 ∙ sym d.0) in
        let next : Chain tail head (head e) m s = rw is d.1 in
        let rest = chains_one (head e) l m c.1 next i.1 j.1 a.1 b.1 in
        cc (is, rest)

  -- the tail of a listed loop's first arrow lies at or below that of each
  listed_first : (e : E) (l : List E) → Listed tail head (e ∷ l) → (f : E) → In f (e ∷ l) → tail e ≤ tail f
  listed_first e l h f (inl is) = rw is (omega arith)
  listed_first e l h f (inr i) = all_in (λ g. tail e ≤ tail g) f l h i

  -- Their first arrows leave one register, the lowest, so they are one arrow; from there both chains are walked.
  pub listed_one : (l m : List E) → Loop tail head l → Loop tail head m → Listed tail head l → Listed tail head m → SameMembers l m → l ≡ m
  listed_one [] m c d h k same = absurd c
  listed_one (e ∷ l) [] c d h k same = absurd d
  listed_one (e ∷ l) (f ∷ m) c d h k same =
      let under = listed_first e l h f (same.back f (inl refl)) in
      let over = listed_first f m k e (same.there e (inl refl)) in
      let level : tail e ≡ tail f = omega arith in
      let first = once_one (f ∷ m) d.1 e f (same.there e (inl refl)) (inl refl) level in
      let next : Chain tail head (head e) m (tail e) = rw first d.0.1 in
      let here = in_all (λ g. In g (f ∷ m)) l (λ g i. same.there g (inr i)) in
      let there = in_all (λ g. In g (f ∷ m)) m (λ g i. inr i) in
      let apart : All (λ g. tail g ≢ tail e) m = rw first d.1.0 in
      let rest = chains_one (f ∷ m) d.1 (tail e) (head e) l m c.0.1 next here there c.1.0 apart in
      cc (first, rest)
