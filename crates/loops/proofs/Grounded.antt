-- Grounded: following preds from a register reaches one without a pred. A register lies at one depth only, so a grounded register is on no
-- circle; and the depth stays below the number of registers (pigeonhole). Rests on `Pigeonhole`.
use mathlib.Core.Path.{◌≡◌, refl, ap, ◌∙◌}
use mathlib.Core.Logic.{◌≢◌}
use mathlib.Core.List.{List}
use Prim.Native.Nat.{ℕ, zero, suc, ◌+◌, ◌-◌, ◌≤◌, ◌<◌}
use native.Mathlib.Nat.{zero-add, suc-add}
use native.Mathlib.Omega.{arith}
use Rattle.loops.specs.Arrows.{Arrows, Sound, tail}
use Rattle.loops.specs.Model.{pred, back}
use Rattle.loops.specs.Forest.{Deep, Grounded, Returns, Arrowed}
use Rattle.loops.proofs.Pigeonhole.{downs_apart, apart_short}

module _ (Γ : Arrows) (p : List ℕ) where
  -- ---- depth

  -- A register without a pred lies at depth 0 and nowhere else; one with a pred lies one deeper than its pred's tail.
  deep_one : (d e v : ℕ) → Deep Γ p d v → Deep Γ p e v → d ≡ e
  deep_one zero zero v h k = refl
  deep_one zero (suc e) v h k = absurd (omega (arith, k.0))
  deep_one (suc d) zero v h k = absurd (omega (arith, h.0))
  deep_one (suc d) (suc e) v h k = ap suc (deep_one d e (tail Γ (pred p v)) h.1 k.1)

  -- k steps back the depth is k less
  deep_back : (k d e v : ℕ) → e ≡ k + d → Deep Γ p e v → Deep Γ p d (back Γ p k v)
  unfolding back
  deep_back zero d e v q h = let same : e ≡ d = omega arith in rw same at h
  deep_back (suc k) d e v q h = (deep_back k (suc d) e v (omega arith) h).1

  -- and the way goes over arrows
  deep_arrow : (k d v : ℕ) → k < d → Deep Γ p d v → pred p (back Γ p k v) < Γ.count
  deep_arrow k d v q h = (deep_back k (suc (d - suc k)) d v (omega arith) h).0

  -- going k steps back over arrows takes k off the depth
  pub deep_walk : (k d v : ℕ) → Arrowed Γ p k v → Deep Γ p d v → k ≤ d
  deep_walk zero d v arrows h = omega arith
  deep_walk (suc k) d v arrows h =
      let before : k ≤ d = deep_walk k d v (λ j q. arrows j (omega arith)) h in
      let here : Deep Γ p (d - k) (back Γ p k v) = deep_back k (d - k) d v (omega arith) h in
      more (d - k) refl here (arrows k (omega arith))
    where
      more : (m : ℕ) → d - k ≡ m → Deep Γ p m (back Γ p k v) → pred p (back Γ p k v) < Γ.count → suc k ≤ d
      more zero q g a = absurd (omega arith)
      more (suc m) q g a = omega arith

  -- Once around a circle of k steps the register would lie at its depth and at k less.
  pub grounded_no_circle : (k v : ℕ) → Grounded Γ p v → Returns Γ p k v → ⊥
  grounded_no_circle k v (d, h) r =
      let long : k ≤ d = deep_walk k d v r.arrows h in
      let round : Deep Γ p (d - k) (back Γ p k v) = deep_back k (d - k) d v (omega arith) h in
      let same : d - k ≡ d = deep_one (d - k) d v (rw r.again at round) h in
      omega (arith, r.some)

  -- ---- the registers on the way

  -- arrows lead to registers
  pub back_below : Sound Γ → (k v : ℕ) → v < Γ.registers → Arrowed Γ p k v → back Γ p k v < Γ.registers
  unfolding back
  back_below s zero v b arrows = b
  back_below s (suc k) v b arrows = s.leaves (pred p (back Γ p k v)) (arrows k (omega arith))

  -- the first step back, and k more
  pub back_first : (k v : ℕ) → back Γ p (suc k) v ≡ back Γ p k (tail Γ (pred p v))
  unfolding back
  back_first zero v = refl
  back_first (suc k) v = ap (λ u. tail Γ (pred p u)) (back_first k v)

  -- i steps back, and k more
  pub back_add : (k i v : ℕ) → back Γ p (k + i) v ≡ back Γ p k (back Γ p i v)
  unfolding back
  back_add zero i v = ap (λ j. back Γ p j v) (zero-add i)
  back_add (suc k) i v = ap (λ j. back Γ p j v) (suc-add k i) ∙ ap (λ u. tail Γ (pred p u)) (back_add k i v)

  -- The d + 1 registers on the way from depth d to a root lie at different depths, so they are different.
  pub deep_short : Sound Γ → (d v : ℕ) → v < Γ.registers → Deep Γ p d v → d < Γ.registers
  deep_short s d v b h = apart_short Γ.registers (suc d) (λ j. back Γ p j v) inside (downs_apart (λ j. back Γ p j v) (suc d) apart)
    where
      inside : (j : ℕ) → j < suc d → back Γ p j v < Γ.registers
      inside j q = back_below s j v b (λ i r. deep_arrow i d v (omega arith) h)

      apart : (i j : ℕ) → i < j → j < suc d → back Γ p i v ≢ back Γ p j v
      apart i j q r e =
          let one : Deep Γ p (d - i) (back Γ p j v) = rw e at (deep_back i (d - i) d v (omega arith) h) in
          let two : Deep Γ p (d - j) (back Γ p j v) = deep_back j (d - j) d v (omega arith) h in
          omega (arith, deep_one (d - i) (d - j) (back Γ p j v) one two)
