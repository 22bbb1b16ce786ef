-- Whether a whole number lies within a range, as a test that computes.
use Rattle.std.specs.Prelude.{Bool, ◌&&◌, ℤ}
use Rattle.std.specs.Int.Signed.{le_z}

-- low ≤ z ≤ high
unfoldable pub within : ℤ → ℤ → ℤ → Bool
within low high z = le_z low z && le_z z high
