-- How far the filling has come: which rules stand at their places.
use Rattle.std.specs.Prelude.{◌≡◌, List, ℕ, ◌≤◌, ◌<◌, length, get_or, ℤ, pos}
use Rattle.paper.specs.Network.{Network}
use Rattle.paper.specs.File.{network_of}
use Rattle.paper.specs.Refusals.{Accepted}
use Rattle.paper.specs.declared.Rule.{Rule}
use Rattle.paper.specs.declared.Rule.TheVariants.{Setup, Hold, Low, High}
use Rattle.paper.specs.Rules.{tail, head, base}
use Rattle.loops.specs.Layout.{rule_count, place_of}
use Rattle.network.specs.declared.Header.{Header}
use Rattle.network.specs.Records.{IsHeader}
use Rattle.loops.specs.declared.Arrow.{Arrow}
use Rattle.loops.specs.Arrows.{arrow_at}
use Rattle.loops.specs.Names.{named}
use Rattle.arrows.specs.Filled.{Room}

-- at a rule's place stand the rule and its arrow's ends
pub record Stands (N : Network) (rules : List Rule) (arrows : List Arrow) (r : Rule) : Type 0 where
  pub is : named rules (place_of N r) ≡ r
  pub leaves : (arrow_at arrows (place_of N r)).tail ≡ tail N r
  pub reaches : (arrow_at arrows (place_of N r)).head ≡ head N r

-- and its amount without the period
abbrev pub HasBase : Network → List Arrow → Rule → Type 0
HasBase N arrows r = (arrow_at arrows (place_of N r)).amount ≡ base N r

-- the lists by place are long enough for every rule
pub record Wide (N : Network) (rules : List Rule) (arrows : List Arrow) : Type 0 where
  pub in_rules : rule_count N ≤ length rules
  pub in_arrows : rule_count N ≤ length arrows

-- the registers below k, but for the host, have their windows: the low and the high rule stand at their places, each with its amount
pub record Windows (N : Network) (rules : List Rule) (arrows : List Arrow) (k : ℕ) : Type 0 where
  pub wide : Wide N rules arrows
  pub some : 0 < k
  pub low : (i : ℕ) → 0 < i → i < k → Stands N rules arrows (Low i) × HasBase N arrows (Low i)
  pub high : (i : ℕ) → 0 < i → i < k → Stands N rules arrows (High i) × HasBase N arrows (High i)

-- all registers have their windows and the paths below k their rules, of which the setup rule's amount without the period stands in a list
-- of its own
pub record Paths (N : Network) (rules : List Rule) (arrows : List Arrow) (bases : List ℤ) (k : ℕ) : Type 0 where
  pub windows : Windows N rules arrows N.registers
  pub in_bases : N.paths ≤ length bases
  pub hold : (p : ℕ) → p < k → Stands N rules arrows (Hold p) × HasBase N arrows (Hold p)
  pub setup : (p : ℕ) → p < k → Stands N rules arrows (Setup p)
  pub based : (p : ℕ) → p < k → get_or bases p (pos 0) ≡ base N (Setup p)

-- ---- what the code is lent

-- an accepted file and its header
pub record Source (f : List ℕ) (h : Header) : Type 0 where
  pub accepted : Accepted f
  pub header : IsHeader (network_of f) h

-- a file with its header, and room for all rules
pub record AtFill (f : List ℕ) (h : Header) (rules : List Rule) (arrows : List Arrow) (bases : List ℤ) : Type 0 where
  pub source : Source f h
  pub room : Room (network_of f) rules arrows bases

-- a file with its header, and room for all rules but for what the setup rules' amounts are without the period
pub record AtWindows (f : List ℕ) (h : Header) (rules : List Rule) (arrows : List Arrow) : Type 0 where
  pub source : Source f h
  pub wide : Wide (network_of f) rules arrows
