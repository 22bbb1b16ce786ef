-- The network file.
--
-- RULES 5.1: "A file is a row of records. Each begins with a mark, two letters in ASCII, and then has numbers. A number takes four bytes, in
-- two's complement, with the low byte first."
-- RULES 5.2: "The first record is the header, 22 bytes: `NW` (bytes 78, 87), then the number n of registers, the number m of paths, floor,
-- ceiling and u."
-- RULES 5.3: "Then come n register records, register 0 first, 18 bytes each: `RG` (82, 71), then setup, hold, low and high."
-- RULES 5.4: "Then come m path records, path 0 first, 18 bytes each: `PT` (80, 84), then from, to, dmin and dmax."
use Rattle.std.specs.Prelude.{List, Bool, ◌&&◌, cond, ℕ, ◌+◌, ◌*◌, ℤ, pos, negsuc, ◌-ℤ◌, length, get_or, leb, eqb}
use Rattle.std.specs.Int.Signed.{le_z}
use Rattle.whole.specs.Four.{number_at}
unfoldable pub use Rattle.whole.specs.Within.{within}
use Rattle.paper.specs.Network.{Network}
use Rattle.paper.specs.Limits.{most_registers, most_paths, most_period, most_uncertainty, least_setup, most_setup, least_latency, most_latency, most_delay}

-- a number that counts, or names a register: the number itself, from 0 up
abbrev pub natural : ℤ → ℕ
natural (pos n) = n
natural (negsuc n) = 0

-- the letters a and b stand at place i
unfoldable pub marked : List ℕ → ℕ → ℕ → ℕ → Bool
marked f i a b = eqb (get_or f i 0) a && eqb (get_or f (i + 1) 0) b

-- a register's window: both ends 0 for register 0
unfoldable pub windowed : ℕ → ℤ → ℤ → Bool
windowed i low high =
    cond (eqb i 0)
    (within (pos 0) (pos 0) low && within (pos 0) (pos 0) high)
    (within least_latency most_latency low && within low most_latency high)

module _ (f : List ℕ) where
  abbrev pub registers : ℕ
  registers = natural (number_at f 2)

  abbrev pub paths : ℕ
  paths = natural (number_at f 6)

  -- where the record of register i and the record of path p begin
  abbrev pub register_place : ℕ → ℕ
  register_place i = 22 + 18 * i

  abbrev pub path_place : ℕ → ℕ
  path_place p = 22 + 18 * (registers + p)

  -- a whole header, with its mark
  unfoldable pub headed : Bool
  headed = leb 22 (length f) && marked f 0 78 87

  -- RULES 5.6:
  -- | header | 0 | n | 2 | 1 to 256 |
  -- | | | m | 6 | 0 to 2,048 |
  unfoldable pub counted : Bool
  counted = within (pos 1) (pos most_registers) (number_at f 2) && within (pos 0) (pos most_paths) (number_at f 6)

  -- RULES 5.5: "Nothing follows. So the length is 22 + 18(n + m) bytes"
  unfoldable pub sized : Bool
  sized = eqb (length f) (22 + 18 * (registers + paths))

  -- RULES 5.6:
  -- | | | floor | 10 | 1 to 10,000,000 |
  -- | | | ceiling | 14 | floor to 10,000,000 |
  -- | | | u | 18 | 0 to 10,000 |
  unfoldable pub ranged : Bool
  ranged =
      within (pos 1) (pos most_period) (number_at f 10)
      && within (number_at f 10) (pos most_period) (number_at f 14)
      && within (pos 0) (pos most_uncertainty) (number_at f 18)

  -- RULES 5.6:
  -- | register i | 22 + 18i | setup | 2 | -100,000 to 100,000 |
  -- | | | hold | 6 | -100,000 to 100,000 |
  -- | | | low | 10 | -1,000,000 to 1,000,000; for register 0 only 0 |
  -- | | | high | 14 | -1,000,000 to 1,000,000 and not below low; for register 0 only 0 |
  unfoldable pub register_ok : ℕ → Bool
  register_ok i =
      marked f (register_place i) 82 71
      && within least_setup most_setup (number_at f (register_place i + 2))
      && within least_setup most_setup (number_at f (register_place i + 6))
      && windowed i (number_at f (register_place i + 10)) (number_at f (register_place i + 14))

  -- RULES 5.6:
  -- | path p | 22 + 18(n + p) | from | 2 | 0 to n - 1 |
  -- | | | to | 6 | 0 to n - 1 |
  -- | | | dmin | 10 | 0 to dmax |
  -- | | | dmax | 14 | dmin to 1,000,000 |
  unfoldable pub path_ok : ℕ → Bool
  path_ok p =
      marked f (path_place p) 80 84
      && within (pos 0) (pos registers -ℤ pos 1) (number_at f (path_place p + 2))
      && within (pos 0) (pos registers -ℤ pos 1) (number_at f (path_place p + 6))
      && le_z (pos 0) (number_at f (path_place p + 10))
      && within (number_at f (path_place p + 10)) most_delay (number_at f (path_place p + 14))

  -- the network that the file means; every path has the header's u, and `Rules.antt` says what its rules are charged of it
  unfoldable pub network_of : Network
  network_of =
      record {
        registers = registers;
        paths = paths;
        floor = natural (number_at f 10);
        ceiling = natural (number_at f 14);
        setup = λ i. number_at f (register_place i + 2);
        hold = λ i. number_at f (register_place i + 6);
        low = λ i. number_at f (register_place i + 10);
        high = λ i. number_at f (register_place i + 14);
        from = λ p. natural (number_at f (path_place p + 2));
        to = λ p. natural (number_at f (path_place p + 6));
        dmin = λ p. number_at f (path_place p + 10);
        dmax = λ p. number_at f (path_place p + 14);
        uncertainty = λ p. number_at f 18;
      }
