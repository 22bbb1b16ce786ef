-- Whose amount a number is, and the numbers that the sums are asked of. A sum sees records that were read, and knows no network: what it says
-- holds of every network that the records belong to.
use Rattle.std.specs.Prelude.{◌≡◌, ℕ, ℤ, pos}
use Rattle.whole.specs.Between.{Between, far, far_below}
use Rattle.network.specs.declared.Register.{Register}
use Rattle.network.specs.declared.Path.{Path}
use Rattle.network.specs.Records.{IsRegister, IsPath}
use Rattle.paper.specs.Network.{Network}
use Rattle.paper.specs.declared.Rule.{Rule}
use Rattle.paper.specs.Rules.{base}

-- Nothing that a rule is made of lies further from 0 than 2 ^ 24, so sums of a few such numbers fit 32 bits.
abbrev pub Small : ℤ → Type 0
Small = Between far_below (pos far)

pub record SmallPath (road : Path) : Type 0 where
  pub dmin : Small road.dmin.0
  pub dmax : Small road.dmax.0
  pub uncertainty : Small road.uncertainty.0

-- every time of a register
pub record SmallRegister (r : Register) : Type 0 where
  pub setup : Small r.setup.0
  pub hold : Small r.hold.0
  pub low : Small r.low.0
  pub high : Small r.high.0

-- a path, and the register that it leads to
pub record SmallEnds (road : Path) (receiver : Register) : Type 0 where
  pub path : SmallPath road
  pub register : SmallRegister receiver

-- an arrow's amount, and the latencies at its tail and head
pub record SmallArrow (amount tail head : ℤ) : Type 0 where
  pub of_amount : Small amount
  pub at_tail : Small tail
  pub at_head : Small head

-- d is the amount, without the period, of a rule of the path that was read, with its receiver
abbrev pub OfPath : (ℕ → Rule) → Path → Register → ℤ → Type 0
OfPath rule road receiver d = (N : Network) (p : ℕ) → IsPath N p road → IsRegister N (N.to p) receiver → d ≡ base N (rule p)

-- d is the amount of a rule of the register that was read
abbrev pub OfRegister : (ℕ → Rule) → Register → ℤ → Type 0
OfRegister rule r d = (N : Network) (i : ℕ) → IsRegister N i r → d ≡ base N (rule i)
