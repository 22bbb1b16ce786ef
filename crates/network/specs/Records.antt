-- The records that are read from a file, with every field that of the network that the file means.
use Rattle.std.specs.Prelude.{◌≡◌, List, ℕ, ◌<◌, pos}
use Rattle.paper.specs.Network.{Network}
use Rattle.paper.specs.File.{network_of}
use Rattle.paper.specs.Refusals.{Accepted}
use Rattle.network.specs.declared.Header.{Header}
use Rattle.network.specs.declared.Register.{Register}
use Rattle.network.specs.declared.Path.{Path}

pub record IsHeader (N : Network) (r : Header) : Type 0 where
  pub registers : r.registers ≡ N.registers
  pub paths : r.paths ≡ N.paths
  pub floor : r.floor ≡ pos N.floor
  pub ceiling : r.ceiling ≡ pos N.ceiling

pub record IsRegister (N : Network) (i : ℕ) (r : Register) : Type 0 where
  pub setup : r.setup.0 ≡ N.setup i
  pub hold : r.hold.0 ≡ N.hold i
  pub low : r.low.0 ≡ N.low i
  pub high : r.high.0 ≡ N.high i

pub record IsPath (N : Network) (p : ℕ) (r : Path) : Type 0 where
  pub from : r.from ≡ N.from p
  pub to : r.to ≡ N.to p
  pub dmin : r.dmin.0 ≡ N.dmin p
  pub dmax : r.dmax.0 ≡ N.dmax p
  pub uncertainty : r.uncertainty.0 ≡ N.uncertainty p

-- path p of an accepted file with n registers may be read
pub record PathThere (f : List ℕ) (n p : ℕ) : Type 0 where
  pub accepted : Accepted f
  pub registers : n ≡ (network_of f).registers
  pub exists : p < (network_of f).paths
