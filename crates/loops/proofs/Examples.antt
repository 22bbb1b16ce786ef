-- Small networks of arrows, relaxed by computing: one that rests, one with a circle away from the host, and one whose circle passes the host.
-- Three registers, with their windows from 0 to 10: arrows 0 and 1 are the lows, 2 and 3 the highs, 4 goes from 1 to 2 and 5 from 2 to 1.
-- Rests on computing the model.
use mathlib.Core.Path.{◌≡◌, refl}
use mathlib.Core.List.{[], ◌∷◌}
use Prim.Native.Nat.{ℕ, zero, suc, ◌-◌, ◌<◌}
use native.Mathlib.Omega.{arith}
use lib.IntN.{ℤ, pos, negsuc}
use Rattle.whole.proofs.Lin.{lin}
use Rattle.loops.specs.Arrows.{Arrows, Sound, Lows, Highs, tail, head}
use Rattle.loops.specs.Model.{table, pass, step, round, worth, rooted, rooted_below, settled, back, trail, around, lowest, stray_below}
use Rattle.loops.specs.Model.{first_time, first_row, first_pred, first_preds, Ending, Rested, Circled, relax}

-- the arrows ask `to` of the way from 1 to 2, and `fro` of the way back
abbrev three : ℤ → ℤ → Arrows
three to fro = record {
  registers = 3;
  count = 6;
  list =
      record { tail = 0; head = 1; amount = pos 0 }
      ∷ record { tail = 0; head = 2; amount = pos 0 }
      ∷ record { tail = 1; head = 0; amount = negsuc 9 }
      ∷ record { tail = 2; head = 0; amount = negsuc 9 }
      ∷ record { tail = 1; head = 2; amount = to }
      ∷ record { tail = 2; head = 1; amount = fro }
      ∷ [];
}

-- where the low arrow of register v stands
abbrev low_place : ℕ → ℕ
low_place v = v - 1

-- from the first row, with fuel enough
abbrev relaxed : Arrows → Ending
relaxed Γ = relax Γ 30 (first_row Γ low_place) (first_preds Γ low_place Γ.count)

-- register 2 has to lie 5 above register 1, and 1 no more than 6 below 2
rests : relaxed (three (pos 5) (negsuc 5)) ≡ Rested (pos 0 ∷ pos 0 ∷ pos 5 ∷ [])
unfolding relax round pass step settled worth rooted_below rooted stray_below lowest around trail back table first_row first_time first_preds first_pred
rests = refl

-- 5 above, and no more than 4 below: the two arrows contradict each other, listed from register 1
circles : relaxed (three (pos 5) (negsuc 3)) ≡ Circled (4 ∷ 5 ∷ [])
unfolding relax round pass step settled worth rooted_below rooted stray_below lowest around trail back table first_row first_time first_preds first_pred
circles = refl

-- 11 above leaves the window: the loop goes from the host by register 1 and register 2 back to the host
leaves_window : relaxed (three (pos 11) (negsuc 20)) ≡ Circled (0 ∷ 4 ∷ 3 ∷ [])
unfolding relax round pass step settled worth rooted_below rooted stray_below lowest around trail back table first_row first_time first_preds first_pred
leaves_window = refl

-- these networks are sound, and each register has its window
three_leaves : (to fro : ℤ) (e : ℕ) → e < 6 → tail (three to fro) e < 3
three_leaves to fro zero q = omega arith
three_leaves to fro (suc zero) q = omega arith
three_leaves to fro (suc (suc zero)) q = omega arith
three_leaves to fro (suc (suc (suc zero))) q = omega arith
three_leaves to fro (suc (suc (suc (suc zero)))) q = omega arith
three_leaves to fro (suc (suc (suc (suc (suc zero))))) q = omega arith
three_leaves to fro (suc (suc (suc (suc (suc (suc e)))))) q = absurd (omega arith)

three_reaches : (to fro : ℤ) (e : ℕ) → e < 6 → head (three to fro) e < 3
three_reaches to fro zero q = omega arith
three_reaches to fro (suc zero) q = omega arith
three_reaches to fro (suc (suc zero)) q = omega arith
three_reaches to fro (suc (suc (suc zero))) q = omega arith
three_reaches to fro (suc (suc (suc (suc zero)))) q = omega arith
three_reaches to fro (suc (suc (suc (suc (suc zero))))) q = omega arith
three_reaches to fro (suc (suc (suc (suc (suc (suc e)))))) q = absurd (omega arith)

three_sound : (to fro : ℤ) → Sound (three to fro)
three_sound to fro = record { some = omega arith; leaves = three_leaves to fro; reaches = three_reaches to fro }

three_lows : (to fro : ℤ) → Lows (three to fro) low_place
three_lows to fro = record { exists = λ v z b. omega arith; leaves = leaves; reaches = reaches }
  where
    leaves : (v : ℕ) → 0 < v → v < 3 → tail (three to fro) (low_place v) ≡ 0
    leaves zero z b = absurd (omega arith)
    leaves (suc zero) z b = refl
    leaves (suc (suc zero)) z b = refl
    leaves (suc (suc (suc v))) z b = absurd (omega arith)

    reaches : (v : ℕ) → 0 < v → v < 3 → head (three to fro) (low_place v) ≡ v
    reaches zero z b = absurd (omega arith)
    reaches (suc zero) z b = refl
    reaches (suc (suc zero)) z b = refl
    reaches (suc (suc (suc v))) z b = absurd (omega arith)

three_highs : (to fro : ℤ) → Highs (three to fro) 10
three_highs to fro zero z q = absurd (omega arith)
three_highs to fro (suc zero) z q = record { place = 2; exists = omega arith; leaves = refl; reaches = refl; most = omega lin }
three_highs to fro (suc (suc zero)) z q = record { place = 3; exists = omega arith; leaves = refl; reaches = refl; most = omega lin }
three_highs to fro (suc (suc (suc v))) z q = absurd (omega arith)
