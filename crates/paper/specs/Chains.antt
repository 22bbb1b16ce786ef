-- Chains and loops of arrows, whatever an arrow is: all that is asked of one is the register that it leaves (`tail`) and the register
-- that it reaches (`head`). The paper's arrows are its rules; the code's are places in its lists.
use Rattle.std.specs.Prelude.{◌≡◌, ◌≢◌, ◌⊎◌, List, [], ◌∷◌, ℕ, ◌≤◌}

-- P holds of every member
abbrev pub All : {E : Type 0} → (E → Type 0) → List E → Type 0
All P [] = Unit {0}
All P (e ∷ l) = P e × All P l

-- e is a member
abbrev pub In : {E : Type 0} → E → List E → Type 0
In e [] = ⊥
In e (f ∷ l) = (e ≡ f) ⊎ In e l

-- the same members, in whatever order and however often
pub record SameMembers {E : Type 0} (l m : List E) : Type 0 where
  pub there : (e : E) → In e l → In e m
  pub back : (e : E) → In e m → In e l

module _ {E : Type 0} (tail head : E → ℕ) where
  -- the first arrow leaves u, each later one leaves the register that the one before reaches, and the last reaches v
  abbrev pub Chain : ℕ → List E → ℕ → Type 0
  Chain u [] v = u ≡ v
  Chain u (e ∷ l) v = (tail e ≡ u) × Chain (head e) l v

  -- no two arrows leave one register
  abbrev pub Once : List E → Type 0
  Once [] = Unit {0}
  Once (e ∷ l) = All (λ f. tail f ≢ tail e) l × Once l

  -- RULES 4.1: "A loop is a closed chain of one or more arrows: each arrow leaves the register that the arrow before it reaches, and the last
  -- one reaches the register that the first one leaves. It passes each register at most once."
  abbrev pub Loop : List E → Type 0
  Loop [] = ⊥
  Loop (e ∷ l) = Chain (tail e) (e ∷ l) (tail e) × Once (e ∷ l)

  -- RULES 7.9: "The first entry is the arrow that leaves the lowest-numbered register of the loop."
  abbrev pub Listed : List E → Type 0
  Listed [] = Unit {0}
  Listed (e ∷ l) = All (λ f. tail e ≤ tail f) l
