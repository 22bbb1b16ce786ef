-- A network whose every field lies in its range. An accepted file's network is one (`accepted_legal`), and it is all that is used of 'accepted'.
use Rattle.std.specs.Prelude.{◌≡◌, ℕ, ◌≤◌, ◌<◌, pos}
use Rattle.whole.specs.Between.{Between}
use Rattle.paper.specs.Network.{Network}
use Rattle.paper.specs.Limits.{most_registers, most_paths, most_period, most_uncertainty, least_setup, most_setup, least_latency, most_latency, most_delay}

pub record Legal (N : Network) : Type 0 where
  pub registers_from : 1 ≤ N.registers
  pub registers_to : N.registers ≤ most_registers
  pub paths_to : N.paths ≤ most_paths
  pub floor_from : 1 ≤ N.floor
  pub ceiling_from : N.floor ≤ N.ceiling
  pub ceiling_to : N.ceiling ≤ most_period
  pub setup : (i : ℕ) → i < N.registers → Between least_setup most_setup (N.setup i)
  pub hold : (i : ℕ) → i < N.registers → Between least_setup most_setup (N.hold i)
  pub low : (i : ℕ) → i < N.registers → Between least_latency most_latency (N.low i)
  pub high : (i : ℕ) → i < N.registers → Between (N.low i) most_latency (N.high i)
  pub host_low : N.low 0 ≡ pos 0
  pub host_high : N.high 0 ≡ pos 0
  pub from : (p : ℕ) → p < N.paths → N.from p < N.registers
  pub to : (p : ℕ) → p < N.paths → N.to p < N.registers
  pub dmin : (p : ℕ) → p < N.paths → Between (pos 0) (N.dmax p) (N.dmin p)
  pub dmax : (p : ℕ) → p < N.paths → Between (N.dmin p) most_delay (N.dmax p)
  pub uncertainty : (p : ℕ) → p < N.paths → Between (pos 0) (pos most_uncertainty) (N.uncertainty p)
