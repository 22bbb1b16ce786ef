-- The limits of a network file and of a question, each by its name. The code has the same numbers in `src/limits.rt`.
use Rattle.std.specs.Prelude.{ℕ, ◌+◌, ◌*◌, ℤ, pos, negsuc}
use Rattle.whole.specs.Between.{Between}

-- n is 1 to 256 (RULES 5.6)
abbrev pub most_registers : ℕ
most_registers = 256

-- m is 0 to 2,048 (RULES 5.6)
abbrev pub most_paths : ℕ
most_paths = 2048

-- the greatest ceiling, and the longest period that a question may name: 10,000,000 (RULES 5.6, 8.3)
abbrev pub most_period : ℕ
most_period = 10000000

-- u is 0 to 10,000 (RULES 5.6)
abbrev pub most_uncertainty : ℕ
most_uncertainty = 10000

-- setup and hold are -100,000 to 100,000 (RULES 5.6)
abbrev pub least_setup : ℤ
least_setup = negsuc 99999

abbrev pub most_setup : ℤ
most_setup = pos 100000

-- the ends of the widest window, and of the latencies that a question may name: -1,000,000 to 1,000,000 (RULES 5.6, 8.3)
abbrev pub least_latency : ℤ
least_latency = negsuc 999999

abbrev pub most_latency : ℤ
most_latency = pos 1000000

-- dmin is 0 to dmax, and dmax is dmin to 1,000,000 (RULES 5.6)
abbrev pub most_delay : ℤ
most_delay = pos 1000000

-- the room that an answer may need (RULES 7.1): `SK`, n records `LT`, and a loop of at most n entries `ED`
abbrev pub room_for : ℕ → ℕ
room_for n = 14 + 16 * n

-- a period that the paper allows (RULES 5.6, 8.3)
abbrev pub Period : ℤ → Type 0
Period = Between (pos 1) (pos most_period)
