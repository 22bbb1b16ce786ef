-- The next period that a loop allows: what is asked of the parts of its computation, and that no sum leaves its width. At most 256 amounts of
-- at most 2 ^ 22 each add up to at most 2 ^ 30, and their share among the setup rules is no larger. Rests on `Sums`, and on `Rounding` of `whole`.
use mathlib.Core.Path.{◌≡◌, refl, ◌∙◌}
use mathlib.Core.List.{List}
use Prim.Native.Nat.{ℕ}
use lib.ListN.{length}
use lib.IntN.{ℤ, pos, ◌+ℤ◌}
use lib.Signed.{◌≤ℤ◌}
use mir.Facts.{to_z-of_z}
use mir.Syntax.{w32, w64}
use mir.Val.{SFits, to_z, of_z}
use Rattle.whole.specs.Rounding.{round_up}
use Rattle.whole.proofs.Lin.{lin, plus}
use Rattle.whole.proofs.Machine.{widens}
use Rattle.whole.proofs.Rounding.{up_to, up_from}
use Rattle.paper.specs.declared.Rule.{Rule}
use Rattle.paper.proofs.LoopLaws.{all_map}
use Rattle.loops.specs.declared.Arrow.{Arrow}
use Rattle.needs.specs.Raising.{Places, Raisable, Raised, sum_at, setups_at}
use Rattle.needs.proofs.Sums.{total_most}

module _ {arrows : List Arrow} {rules : List Rule} {period : ℤ} {ring : List ℕ} (r : Raisable arrows rules period ring) where
  -- what `total_of` asks for
  pub arrows_at : Places (length arrows) ring
  arrows_at = record { few = r.few; within = all_map (λ e s. s.has_arrow) ring r.places }

  -- what `setups_of` asks for
  pub rules_at : Places (length rules) ring
  rules_at = record { few = r.few; within = all_map (λ e s. s.has_rule) ring r.places }

  sum_most : sum_at arrows ring ≤ℤ pos 1073741824
  sum_most =
      let few = r.few in
      let m = total_most _ ring (all_map (λ e s. s.modest.to) ring r.places) in
      omega lin

  module _ (z : ℤ) (is : z ≡ round_up (sum_at arrows ring) (setups_at rules ring)) where
    share_to : z ≤ℤ pos 1073741824
    share_to = rw is (up_to r.some (pos 1073741824) (omega lin) sum_most)

    share_from : pos 0 ≤ℤ z
    share_from = let over = r.over in rw is (up_from r.some (pos 0) (omega lin) (omega lin))

    share_fits : SFits w32 z
    share_fits = let a = share_from in let b = share_to in omega lin

    raised_fits : SFits w32 (period +ℤ z)
    raised_fits =
        let a = share_from in
        let b = share_to in
        let from = r.allowed.from in
        let to = r.allowed.to in
        omega (lin, plus period z)

  -- the same of the numbers that are worked out one after the other, read back from machine words
  module _ (over : ℤ) (k : ℕ) (z : ℤ) (summed : SFits w64 over) (ranged : SFits w32 period)
      (over_is : over ≡ sum_at arrows ring) (k_is : k ≡ setups_at rules ring) (z_is : z ≡ round_up (to_z w64 (of_z w64 over)) k) where
    share : z ≡ round_up (sum_at arrows ring) (setups_at rules ring)
    share = z_is ∙ rw (to_z-of_z summed, over_is, k_is) refl

    -- the share fits 32 bits
    pub narrow_fits : SFits w32 (to_z w64 (of_z w64 z))
    narrow_fits = let f = share_fits z share in rw (to_z-of_z (widens f)) f

    -- so does the next period
    pub next_fits : SFits w32 (to_z w32 (of_z w32 period) +ℤ to_z w32 (of_z w32 (to_z w64 (of_z w64 z))))
    next_fits = let f = share_fits z share in rw (to_z-of_z ranged, to_z-of_z (widens f), to_z-of_z f) (raised_fits z share)

    -- which it is
    pub next_is : Raised arrows rules period ring (to_z w32 (of_z w32 (to_z w32 (of_z w32 period) +ℤ to_z w32 (of_z w32 (to_z w64 (of_z w64 z))))))
    next_is =
        let f = share_fits z share in
        to_z-of_z next_fits ∙ rw (to_z-of_z ranged, to_z-of_z (widens f), to_z-of_z f, share) refl
