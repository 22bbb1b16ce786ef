-- What is read from an accepted file lies in its ranges. All of them fit a machine number by far, which a caller's sums rest on. Rests on
-- `Legal` of `paper`.
use mathlib.Core.Path.{◌≡◌}
use mathlib.Core.List.{List}
use Prim.Native.Nat.{ℕ, ◌<◌}
use lib.IntN.{pos, negsuc}
use Rattle.paper.specs.Network.{Network}
use Rattle.paper.specs.File.{network_of}
use Rattle.paper.specs.Refusals.{Accepted}
use Rattle.paper.proofs.Legal.{Between, Legal, accepted_legal}
use Rattle.network.specs.declared.Register.{Register}
use Rattle.network.specs.declared.Path.{Path}
use Rattle.network.specs.Records.{IsRegister, IsPath}

pub record RegisterRanges (r : Register) : Type 0 where
  pub setup : Between (negsuc 99999) (pos 100000) r.setup.0
  pub hold : Between (negsuc 99999) (pos 100000) r.hold.0
  pub low : Between (negsuc 999999) r.high.0 r.low.0
  pub high : Between r.low.0 (pos 1000000) r.high.0

pub record PathRanges (n : ℕ) (r : Path) : Type 0 where
  pub from : r.from < n
  pub to : r.to < n
  pub dmin : Between (pos 0) r.dmax.0 r.dmin.0
  pub dmax : Between r.dmin.0 (pos 1000000) r.dmax.0
  pub uncertainty : Between (pos 0) (pos 10000) r.uncertainty.0

-- ---- of any network whose fields lie in their ranges

module _ {N : Network} (legal : Legal N) where
  legal_register : (i : ℕ) (r : Register) → i < N.registers → IsRegister N i r → RegisterRanges r
  legal_register i r l e =
      let low = legal.low i l in
      let high = legal.high i l in
      record {
        setup = rw e.setup (legal.setup i l);
        hold = rw e.hold (legal.hold i l);
        low = rw (e.low, e.high) (record { from = low.from; to = high.from });
        high = rw (e.low, e.high) high;
      }

  legal_path : (n p : ℕ) (r : Path) → n ≡ N.registers → p < N.paths → IsPath N p r → PathRanges n r
  legal_path n p r k l e =
      record {
        from = rw (e.from, k) (legal.from p l);
        to = rw (e.to, k) (legal.to p l);
        dmin = rw (e.dmin, e.dmax) (legal.dmin p l);
        dmax = rw (e.dmin, e.dmax) (legal.dmax p l);
        uncertainty = rw e.uncertainty (legal.uncertainty p l);
      }

-- ---- of an accepted file

-- a register that was read lies in its ranges, and so does a path
pub register_ranges : (f : List ℕ) (i : ℕ) (r : Register) → Accepted f → i < (network_of f).registers → IsRegister (network_of f) i r → RegisterRanges r
register_ranges f i r a l e = legal_register (accepted_legal f a) i r l e

-- the same of a path: its ends are registers, and its delays and uncertainty lie in their ranges
pub path_ranges : (f : List ℕ) (n p : ℕ) (r : Path) → Accepted f → n ≡ (network_of f).registers → p < (network_of f).paths → IsPath (network_of f) p r → PathRanges n r
path_ranges f n p r a k l e = legal_path (accepted_legal f a) n p r k l e
