-- What is known of an accepted file and of the records that are read from it. Rests on the ranges of `network` and of `rules`.
use Rattle.std.proofs.Common.{ℕ, ◌<◌, List, arith}
use Rattle.paper.specs.File.{network_of}
use Rattle.paper.proofs.Legal.{accepted_legal}
use Rattle.network.specs.declared.Header.{Header}
use Rattle.network.specs.declared.Register.{Register}
use Rattle.network.specs.declared.Path.{Path}
use Rattle.network.specs.Records.{IsRegister, IsPath}
use Rattle.network.proofs.Ranges.{PathRanges, register_ranges, path_ranges}
use Rattle.rules.specs.Amounts.{SmallRegister, SmallEnds}
use Rattle.rules.proofs.Ranges.{small_register, small_ends}
use Rattle.places.specs.Few.{Few}
use Rattle.arrows.specs.Filling.{Source}
use Rattle.arrows.proofs.Laid.{legal_few}

module _ {f : List ℕ} {h : Header} (s : Source f h) where
  -- its counts are few, as `places` asks
  pub source_few : Few h.registers h.paths
  source_few = legal_few (network_of f) (accepted_legal f s.accepted) h.registers h.paths s.header.registers s.header.paths

  -- a register that was read is small
  pub source_small : {i : ℕ} {r : Register} → i < h.registers → IsRegister (network_of f) i r → SmallRegister r
  source_small l is = let e = s.header.registers in small_register (register_ranges f _ _ s.accepted (omega arith) is)

  -- both ends of a path that was read are registers
  pub source_ends : {p : ℕ} {road : Path} → p < h.paths → IsPath (network_of f) p road → PathRanges h.registers road
  source_ends l is = let e = s.header.paths in path_ranges f h.registers _ _ s.accepted s.header.registers (omega arith) is

  -- and the path is small with the register that it leads to
  pub source_small_ends : {p : ℕ} {road : Path} {r : Register} → p < h.paths → IsPath (network_of f) p road → IsRegister (network_of f) road.to r → SmallEnds road r
  source_small_ends l is there =
      let ends = source_ends l is in
      let e = s.header.registers in
      let to = ends.to in
      small_ends ends (register_ranges f _ _ s.accepted (omega arith) there)
