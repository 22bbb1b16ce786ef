-- The table of numbers returned: its rows stand in the order in which they are tried, each with its number and with what it says of a place.
-- RULES 6.3: "Of the numbers from 1 on that apply, the lowest is returned; 0 where none applies."
use Rattle.std.specs.Prelude.{◌≡◌, List, [], ◌∷◌, Bool, true, false, ◌⊎◌, ℕ, ◌<◌}

pub record Row : Type 1 where
  pub number : ℕ
  pub applies : ℕ → Type 0

-- given at place 0, when a test fails
abbrev pub Fails : Bool → ℕ → Type 0
Fails ok p = (ok ≡ false) × (p ≡ 0)

-- given at the lowest of n records of which a test fails
abbrev pub Lowest : (ℕ → Bool) → ℕ → ℕ → Type 0
Lowest ok n p = (p < n) × (ok p ≡ false) × ((q : ℕ) → q < p → ok q ≡ true)

-- given at place 0, when A holds
abbrev pub When : Type 0 → ℕ → Type 0
When A p = A × (p ≡ 0)

-- the row applies at no place
abbrev pub Silent : Row → Type 0
Silent r = (p : ℕ) → r.applies p → ⊥

-- Number n and place p are given: by the first row that applies; 0 and 0 where none does.
abbrev pub Given : List Row → ℕ → ℕ → Type 0
Given [] n p = (n ≡ 0) × (p ≡ 0)
Given (r ∷ t) n p = ((n ≡ r.number) × r.applies p) ⊎ (Silent r × Given t n p)

-- no row applies
abbrev pub Clear : List Row → Type 0
Clear [] = Unit {0}
Clear (r ∷ t) = Silent r × Clear t
