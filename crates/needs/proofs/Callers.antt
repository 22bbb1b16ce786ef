-- For callers: where the amounts in memory are those of the rules that the places name, the period that `next` answers lies above the one at
-- hand, and at the period before it the loop still contradicts itself. Rests on `Raises` and `Renamed` of `loops`.
use mathlib.Core.Path.{◌≡◌}
use mathlib.Core.List.{List, map}
use Prim.Native.Nat.{ℕ, ◌<◌}
use lib.IntN.{ℤ, pos, ◌+ℤ◌}
use lib.Signed.{◌<ℤ◌}
use Rattle.whole.specs.Sums.{total}
use Rattle.whole.specs.Rounding.{round_up}
use Rattle.paper.specs.Network.{Network}
use Rattle.paper.specs.File.{natural}
use Rattle.paper.specs.declared.Rule.{Rule}
use Rattle.paper.specs.Rules.{amount}
use Rattle.paper.specs.Chains.{All}
use Rattle.paper.specs.Schedule.{setups}
use Rattle.loops.specs.declared.Arrow.{Arrow}
use Rattle.loops.specs.Arrows.{arrow_at}
use Rattle.loops.specs.Climbing.{Raises}
use Rattle.loops.specs.RuleFamily as family
use Rattle.loops.specs.Names.{named}
use Rattle.loops.proofs.Raises.{raised_natural, raises}
use Rattle.loops.proofs.Renamed.{renamed_total}
use Rattle.needs.specs.Raising.{sum_at, setups_at, Raised}

-- z is a period, and all that the climb asks of the next one after P
pub record Rises (N : Network) (P : ℕ) (l : List Rule) (z : ℤ) : Type 0 where
  pub is : z ≡ pos (natural z)
  pub raises : Raises (family.rules N) P l (natural z)

module _ (N : Network) (P : ℕ) (arrows : List Arrow) (rules : List Rule) (ring : List ℕ)
    (laid : All (λ e. (arrow_at arrows e).amount ≡ amount N P (named rules e)) ring)
    (some : 0 < setups_at rules ring) (over : pos 0 <ℤ sum_at arrows ring) where
  abbrev loop : List Rule
  loop = map (named rules) ring

  same : sum_at arrows ring ≡ total (amount N P) loop
  same = renamed_total (λ e. (arrow_at arrows e).amount) (amount N P) (named rules) ring laid

  -- what `next` answers is such a period
  pub next_rises : (period z : ℤ) → period ≡ pos P → Raised arrows rules period ring z → Rises N P (map (named rules) ring) z
  next_rises period z e r =
      let above : pos 0 <ℤ total (amount N P) loop = rw same at over in
      let raised : z ≡ pos P +ℤ round_up (total (amount N P) loop) (setups loop) = rw (← e, ← same) r in
      let is = raised_natural N P loop some above z raised in
      let step = raises N P loop some above (natural z) (rw (← is) raised) in
      record { is = is; raises = record { up = step.0; over = step.1 } }
