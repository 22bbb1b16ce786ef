-- What the members of a list add up to, each counted by its amount.
use Rattle.std.specs.Prelude.{List, [], ◌∷◌, ℤ, pos, ◌+ℤ◌}

abbrev pub total : {E : Type 0} → (E → ℤ) → List E → ℤ
total amount [] = pos 0
total amount (e ∷ l) = amount e +ℤ total amount l
