-- The counts, periods and ends of an accepted file are its network's as they stand: none of them is below 0, of which `natural` makes a 0. So
-- what it makes of a negative number is read in no accepted file and in no question in range. Rests on `Legal`.
use mathlib.Core.Path.{◌≡◌}
use mathlib.Core.List.{List}
use Prim.Native.Nat.{ℕ, ◌+◌, ◌<◌}
use lib.IntN.{pos}
use Rattle.whole.specs.Four.{number_at}
use Rattle.whole.proofs.Lin.{lin}
use Rattle.paper.specs.Network.{Network}
use Rattle.paper.specs.File.{natural, counted, ranged, paths, path_place, path_ok, network_of}
use Rattle.paper.specs.Refusals.{Accepted}
use Rattle.paper.specs.Question.{Question, InRange}
use Rattle.paper.proofs.Legal.{PathPassed, natural_is, within_is, passes, all_pass, header_passed, ranges_passed, path_passed}

pub record ReadAsTheyStand (f : List ℕ) : Type 0 where
  pub registers_are : pos (network_of f).registers ≡ number_at f 2
  pub paths_are : pos (network_of f).paths ≡ number_at f 6
  pub floor_is : pos (network_of f).floor ≡ number_at f 10
  pub ceiling_is : pos (network_of f).ceiling ≡ number_at f 14
  pub from_is : (p : ℕ) → p < (network_of f).paths → pos ((network_of f).from p) ≡ number_at f (path_place f p + 2)
  pub to_is : (p : ℕ) → p < (network_of f).paths → pos ((network_of f).to p) ≡ number_at f (path_place f p + 6)

pub accepted_read : (f : List ℕ) → Accepted f → ReadAsTheyStand f
unfolding network_of
accepted_read f a =
    let counts = header_passed f (passes (counted f) a.1.0) in
    let n = counts.0.from in
    let m = counts.1.from in
    let ranges = ranges_passed f (passes (ranged f) a.1.1.1.0) in
    let low = ranges.in_floor.from in
    let high = ranges.in_ceiling.from in
    let path : (p : ℕ) → p < paths f → PathPassed f p = λ p l. path_passed f p (all_pass (path_ok f) (paths f) a.1.1.1.1.1.0 p l) in
    record {
      registers_are = natural_is _ (omega lin);
      paths_are = natural_is _ m;
      floor_is = natural_is _ (omega lin);
      ceiling_is = natural_is _ (omega lin);
      from_is = λ p l. natural_is _ (path p l).in_from.from;
      to_is = λ p l. natural_is _ (path p l).in_to.from;
    }

-- so of a question's period
pub in_range_read : (N : Network) (q : Question) → InRange N q → pos (natural q.period) ≡ q.period
in_range_read N q i = let b = within_is _ _ q.period i.period_within in let f = b.from in natural_is _ (omega lin)
