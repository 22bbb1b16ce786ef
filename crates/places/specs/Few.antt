-- Counts that leave room in a machine word for every place.
use Rattle.std.specs.Prelude.{ℕ, ◌≤◌}

-- more than any file has of either, and few enough that no sum of places leaves its width
abbrev pub most_counted : ℕ
most_counted = 65536

-- there is a host, and registers and paths are few enough
pub record Few (n m : ℕ) : Type 0 where
  pub some : 1 ≤ n
  pub registers : n ≤ most_counted
  pub paths : m ≤ most_counted
