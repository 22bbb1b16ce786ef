-- What the module covers (RULES 1.1 to 1.8): one edge-triggered clock, registers joined by paths, each path with a least and a greatest
-- delay. Register 0 is the host. All times are whole picoseconds.
use Rattle.std.specs.Prelude.{ℕ, ℤ}

pub record Network : Type 0 where
  pub registers : ℕ
  pub paths : ℕ
  -- the least and the greatest period that may be answered
  pub floor : ℕ
  pub ceiling : ℕ
  -- of a register: its setup and hold time, and its window, the earliest and the latest latency it may have
  pub setup : ℕ → ℤ
  pub hold : ℕ → ℤ
  pub low : ℕ → ℤ
  pub high : ℕ → ℤ
  -- of a path: its ends, its delays, and the clock uncertainty of which its rules are charged
  pub from : ℕ → ℕ
  pub to : ℕ → ℕ
  pub dmin : ℕ → ℤ
  pub dmax : ℕ → ℤ
  pub uncertainty : ℕ → ℤ
