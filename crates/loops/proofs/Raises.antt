-- The step of the climb: from a period at which a loop with setup rules contradicts itself, up by what its sum is over, shared among the
-- setup rules and rounded up. The next period is longer, and the loop contradicts itself at the one before it.
-- Rests on `LoopLaws` of `paper`.
use mathlib.Core.Path.{◌≡◌, refl, sym, ◌∙◌}
use mathlib.Core.List.{List}
use Prim.Native.Nat.{ℕ, ◌-◌, ◌<◌}
use lib.IntN.{ℤ, pos, negsuc, ◌+ℤ◌}
use lib.Signed.{◌<ℤ◌}
use Rattle.whole.specs.Sums.{total}
use Rattle.whole.specs.Rounding.{round_up}
use Rattle.whole.proofs.Lin.{lin}
use Rattle.paper.specs.Network.{Network}
use Rattle.paper.specs.File.{natural}
use Rattle.paper.specs.declared.Rule.{Rule}
use Rattle.paper.specs.Rules.{amount}
use Rattle.paper.specs.Schedule.{setups, need}
use Rattle.paper.proofs.LoopLaws.{need_from, contradicts_below_need}

above_natural : (P : ℕ) (z : ℤ) → pos P <ℤ z → z ≡ pos (natural z)
above_natural P (pos n) h = refl
above_natural P (negsuc n) h = absurd (omega lin)

module _ (N : Network) (P : ℕ) (l : List Rule) (some : 0 < setups l) (over : pos 0 <ℤ total (amount N P) l) where
  -- what is reached is the loop's need
  raised_need : (z : ℤ) → z ≡ pos P +ℤ round_up (total (amount N P) l) (setups l) → z ≡ need N l
  raised_need z e = e ∙ sym (need_from N P l some)

  -- it lies above P, since the loop contradicts itself exactly below its need; so it is a period
  pub raised_natural : (z : ℤ) → z ≡ pos P +ℤ round_up (total (amount N P) l) (setups l) → z ≡ pos (natural z)
  raised_natural z e =
      let same = raised_need z e in
      let below = (contradicts_below_need N P l some).0 over in
      above_natural P z (omega lin)

  -- and at the period before it the loop still contradicts itself, since that one lies below the need
  pub raises : (Q : ℕ) → pos Q ≡ pos P +ℤ round_up (total (amount N P) l) (setups l) → (P < Q) × (pos 0 <ℤ total (amount N (Q - 1)) l)
  raises Q e =
      let same = raised_need (pos Q) e in
      let below = (contradicts_below_need N P l some).0 over in
      let up : P < Q = omega lin in
      (up, (contradicts_below_need N (Q - 1) l some).1 (omega lin))
