-- Networks worked by hand: the paper's eleven cases (RULES 11.5), as one table. A row writes its network in the paper's own terms and says
-- what comes of it; `Worked` says that the definitions agree, and `proofs/WorkedCases.antt` shows it for the whole table.
use Rattle.std.specs.Prelude.{◌≡◌, List, [], ◌∷◌, ◌++◌, ℕ, ◌≤◌, ℤ, pos, neg_ℤ, length, get_or}
use Rattle.whole.specs.Four.{four}
use Rattle.paper.specs.Network.{Network}
use Rattle.paper.specs.declared.Rule.{Rule}
use Rattle.paper.specs.declared.Rule.TheVariants.{Setup, Hold, High}
use Rattle.paper.specs.Schedule.{Answer, Shown, Refutes, setups}
use Rattle.paper.specs.File.{network_of}
use Rattle.paper.specs.Table.{Given}
use Rattle.paper.specs.Refusals.{Accepted, refusals, NoPeriod, NoneToCeiling}
use Rattle.paper.specs.Limits.{room_for}

-- ---- a network in the paper's terms, and its file

-- of a register (setup, hold, low, high), of a path (from, to, dmin, dmax)
abbrev pub Fields : Type 0
Fields = ℤ × ℤ × ℤ × ℤ

-- n and m are the numbers of its registers and of its paths
pub record Described : Type 0 where
  pub floor : ℤ
  pub ceiling : ℤ
  pub u : ℤ
  pub registers : List Fields
  pub paths : List Fields

-- RULES 5.1: "Each begins with a mark, two letters in ASCII, and then has numbers. A number takes four bytes"
abbrev pub records : ℕ → ℕ → List Fields → List ℕ
records a b [] = []
records a b (r ∷ l) = a ∷ b ∷ (four r.0 ++ four r.1 ++ four r.2 ++ four r.3 ++ records a b l)

unfoldable pub file_of : Described → List ℕ
file_of w =
    78 ∷ 87
    ∷ (four (pos (length w.registers))
    ++ four (pos (length w.paths))
    ++ four w.floor
    ++ four w.ceiling
    ++ four w.u
    ++ records 82 71 w.registers
    ++ records 80 84 w.paths)

-- ---- what comes of it

pub data Expected : Type 0 where
  answered : (period : ℕ) (latencies : List ℤ) (loop : List Rule) → Expected
  refused_8 : (loop : List Rule) → Expected
  refused_9 : (loop : List Rule) → Expected

pub record Case : Type 0 where
  pub network : Described
  pub result : Expected

abbrev pub Comes : Network → Expected → Type 0
Comes N (answered P latencies loop) =
    (length latencies ≡ N.registers) × Answer N P (λ i. get_or latencies i (pos 0)) × Shown N P loop
Comes N (refused_8 loop) = NoPeriod N × (setups loop ≡ 0) × ((P : ℕ) → Refutes N P loop)
Comes N (refused_9 loop) = NoneToCeiling N × Refutes N N.ceiling loop

abbrev pub number_of : Expected → ℕ
number_of (answered P latencies loop) = 0
number_of (refused_8 loop) = 8
number_of (refused_9 loop) = 9

-- The row's file is accepted; where the output has room, the row's number is returned; and the definitions give its network what the row
-- says.
pub record Worked (c : Case) : Type 0 where
  pub accepted : Accepted (file_of c.network)
  pub given : (room : ℕ) → room_for (network_of (file_of c.network)).registers ≤ room
      → Given (refusals (file_of c.network) room) (number_of c.result) 0
  pub comes : Comes (network_of (file_of c.network)) c.result

-- ---- the networks

-- RULES 11.1: "Network A has n = 3, m = 3, floor 1, ceiling 100 and u 0. Every register has setup 1 and hold 1. Registers 1 and 2 have the
-- window -10 to 10. The paths, as (from, to, dmin, dmax): path 0 is (0, 1, 2, 9), path 1 is (1, 2, 2, 3), path 2 is (2, 0, 2, 6)."
abbrev pub network_a : ℕ → ℕ → ℕ → Described
network_a floor ceiling u =
    record {
      floor = pos floor;
      ceiling = pos ceiling;
      u = pos u;
      registers =
          (pos 1, pos 1, pos 0, pos 0)
          ∷ (pos 1, pos 1, neg_ℤ (pos 10), pos 10)
          ∷ (pos 1, pos 1, neg_ℤ (pos 10), pos 10)
          ∷ [];
      paths =
          (pos 0, pos 1, pos 2, pos 9)
          ∷ (pos 1, pos 2, pos 2, pos 3)
          ∷ (pos 2, pos 0, pos 2, pos 6)
          ∷ [];
    }

-- RULES 11.3: "Network D has n = 2, m = 2, floor 1, ceiling 100 and u 0. All setup and hold times are 0. Register 1 has the window -10 to 10.
-- Path 0 is (0, 1, 5, 10), path 1 is (1, 0, 5, 5)."
abbrev pub network_d : ℤ → ℤ → Described
network_d low high =
    record {
      floor = pos 1;
      ceiling = pos 100;
      u = pos 0;
      registers = (pos 0, pos 0, pos 0, pos 0) ∷ (pos 0, pos 0, low, high) ∷ [];
      paths = (pos 0, pos 1, pos 5, pos 10) ∷ (pos 1, pos 0, pos 5, pos 5) ∷ [];
    }

-- the host alone. RULES 11.4: "B and F have floor 1, ceiling 100, u 0, setup 0 and hold 0 where the table does not say otherwise."
abbrev pub host_alone : ℤ → List Fields → Described
host_alone hold paths =
    record {
      floor = pos 1;
      ceiling = pos 100;
      u = pos 0;
      registers = (pos 0, hold, pos 0, pos 0) ∷ [];
      paths = paths;
    }

-- ---- the rows: one name each, by which the check names a row that does not meet the definitions

-- RULES 11.5: | A | 11.1 | answered | 9 | 0, 1, -1 | setup 0, hold 0 |
abbrev pub case_a : Case
case_a = record { network = network_a 1 100 0; result = answered 9 (pos 0 ∷ pos 1 ∷ neg_ℤ (pos 1) ∷ []) (Setup 0 ∷ Hold 0 ∷ []) }

-- RULES 11.5: | A2 | A with floor 9 | answered | 9 | 0, 1, -1 | none |
abbrev pub case_a2 : Case
case_a2 = record { network = network_a 9 100 0; result = answered 9 (pos 0 ∷ pos 1 ∷ neg_ℤ (pos 1) ∷ []) [] }

-- RULES 11.5: | A3 | A with floor 20 | answered | 20 | 0, -2, -1 | none |
abbrev pub case_a3 : Case
case_a3 = record { network = network_a 20 100 0; result = answered 20 (pos 0 ∷ neg_ℤ (pos 2) ∷ neg_ℤ (pos 1) ∷ []) [] }

-- RULES 11.5: | A4 | A with ceiling 8 | refused 9 | | | setup 0, hold 0 |
abbrev pub case_a4 : Case
case_a4 = record { network = network_a 1 8 0; result = refused_9 (Setup 0 ∷ Hold 0 ∷ []) }

-- RULES 11.5: | A5 | A with ceiling 9 | answered, as A | 9 | 0, 1, -1 | setup 0, hold 0 |
abbrev pub case_a5 : Case
case_a5 = record { network = network_a 1 9 0; result = answered 9 (pos 0 ∷ pos 1 ∷ neg_ℤ (pos 1) ∷ []) (Setup 0 ∷ Hold 0 ∷ []) }

-- RULES 11.5: | A6 | A with u 1 | answered | 11 | 0, 0, 0 | setup 0, hold 0 |
abbrev pub case_a6 : Case
case_a6 = record { network = network_a 1 100 1; result = answered 11 (pos 0 ∷ pos 0 ∷ pos 0 ∷ []) (Setup 0 ∷ Hold 0 ∷ []) }

-- RULES 11.5: | A7 | A with u 2 | refused 8 | | | hold 2, hold 1, hold 0 |
abbrev pub case_a7 : Case
case_a7 = record { network = network_a 1 100 2; result = refused_8 (Hold 2 ∷ Hold 1 ∷ Hold 0 ∷ []) }

-- RULES 11.5: | B | n = 1, hold 1, setup 0, u 0, one path (0, 0, 0, 5) | refused 8 | | | hold 0 |
abbrev pub case_b : Case
case_b = record { network = host_alone (pos 1) ((pos 0, pos 0, pos 0, pos 5) ∷ []); result = refused_8 (Hold 0 ∷ []) }

-- RULES 11.5: | D | 11.3 | answered | 8 | 0, 2 | setup 0, setup 1 |
abbrev pub case_d : Case
case_d = record { network = network_d (neg_ℤ (pos 10)) (pos 10); result = answered 8 (pos 0 ∷ pos 2 ∷ []) (Setup 0 ∷ Setup 1 ∷ []) }

-- RULES 11.5: | E | D with the window 0 to 1 for register 1 | answered | 9 | 0, 1 | setup 0, high 1 |
abbrev pub case_e : Case
case_e = record { network = network_d (pos 0) (pos 1); result = answered 9 (pos 0 ∷ pos 1 ∷ []) (Setup 0 ∷ High 1 ∷ []) }

-- RULES 11.5: | F | n = 1, no paths, floor 1 | answered | 1 | 0 | none |
abbrev pub case_f : Case
case_f = record { network = host_alone (pos 0) []; result = answered 1 (pos 0 ∷ []) [] }

unfoldable pub cases : List Case
cases = case_a ∷ case_a2 ∷ case_a3 ∷ case_a4 ∷ case_a5 ∷ case_a6 ∷ case_a7 ∷ case_b ∷ case_d ∷ case_e ∷ case_f ∷ []
