-- Numbers returned, 1 to 9: the rows of the tables (RULES 6.2).
use Rattle.std.specs.Prelude.{List, [], ◌∷◌, ◌++◌, ℕ, ◌≤◌, ℤ, leb}
use Rattle.paper.specs.Network.{Network}
use Rattle.paper.specs.Schedule.{Schedule}
use Rattle.paper.specs.File.{headed, counted, sized, ranged, registers, paths, register_ok, path_ok, network_of}
use Rattle.paper.specs.Table.{Row, Fails, Lowest, When, Clear}
use Rattle.paper.specs.Limits.{room_for}

-- some latencies are a schedule at P
abbrev pub Scheduled : Network → ℕ → Type 0
Scheduled N P = (x : ℕ → ℤ) × Schedule N P x

-- RULES 6.2: "there is no schedule at any whole period, however large"
-- RULES 6.6: "a period in 8 and 9 is a whole number from 1 up"
abbrev pub NoPeriod : Network → Type 0
NoPeriod N = (P : ℕ) → 1 ≤ P → Scheduled N P → ⊥

-- RULES 6.2: "there is a schedule at some period, but at none up to the ceiling"
pub record NoneToCeiling (N : Network) : Type 0 where
  pub some : (P : ℕ) × (1 ≤ P) × Scheduled N P
  pub none : (P : ℕ) → 1 ≤ P → P ≤ N.ceiling → Scheduled N P → ⊥

-- RULES 6.2:
-- | 1 | the file has fewer than 22 bytes, or its first two are not `NW` | 0 | untouched |
-- | 2 | n or m is out of range | 0 | untouched |
-- | 3 | the file's length is not 22 + 18(n + m) | 0 | untouched |
-- | 4 | floor, ceiling or u is out of range | 0 | untouched |
-- | 5 | a register record has a wrong mark, or a number out of range | the lowest such register | untouched |
-- | 6 | a path record has a wrong mark, or a number out of range | the lowest such path | untouched |
--
-- the last two rows, which read the records
abbrev pub record_faults : List ℕ → List Row
record_faults f =
    record { number = 5; applies = Lowest (register_ok f) (registers f) }
    ∷ record { number = 6; applies = Lowest (path_ok f) (paths f) }
    ∷ []

-- and all six
abbrev pub faults : List ℕ → List Row
faults f =
    record { number = 1; applies = Fails (headed f) }
    ∷ record { number = 2; applies = Fails (counted f) }
    ∷ record { number = 3; applies = Fails (sized f) }
    ∷ record { number = 4; applies = Fails (ranged f) }
    ∷ record_faults f

-- RULES 6.4: "A file, or the network that it means, is accepted when none of the refusals that stand before 7 applies"
abbrev pub Accepted : List ℕ → Type 0
Accepted f = Clear (faults f)

-- RULES 6.2:
-- | 7 | the output has fewer than 14 + 16n bytes | 0 | untouched |
-- | 8 | there is no schedule at any whole period, however large | 0 | as 7.6 |
-- | 9 | there is a schedule at some period, but at none up to the ceiling | 0 | as 7.6 |
abbrev pub schedule_rows : Network → ℕ → List Row
schedule_rows N room =
    record { number = 7; applies = Fails (leb (room_for N.registers) room) }
    ∷ record { number = 8; applies = When (NoPeriod N) }
    ∷ record { number = 9; applies = When (NoneToCeiling N) }
    ∷ []

-- the scheduler's table, of a file
abbrev pub refusals : List ℕ → ℕ → List Row
refusals f room = faults f ++ schedule_rows (network_of f) room
