-- A part of a text that was written.
use Rattle.std.specs.Prelude.{List, ◌≡◌, ℕ, ◌+◌, ◌≤◌, length}
use Rattle.std.proofs.lemmas.List.Edits.{sets}

-- the bytes stand from a place on, every other byte is as before, and the next place is the one behind them
pub record Written (before : List ℕ) (at : ℕ) (bytes after : List ℕ) (next : ℕ) : Type 0 where
  pub text : after ≡ sets before at bytes
  pub place : next ≡ at + length bytes

-- and they end no later than a place that is known beforehand
pub record Ended (before : List ℕ) (at : ℕ) (bytes after : List ℕ) (next end : ℕ) : Type 0 where
  pub written : Written before at bytes after next
  pub by : next ≤ end
