-- The search among the preds: from a register that is not rooted it goes back onto a circle, to the lowest register of it, and once around.
-- Rests on `Circles`.
use mathlib.Core.Path.{◌≡◌, refl, sym, subst}
use mathlib.Core.Logic.{◌≢◌}
use mathlib.Core.Bool.{Bool, true, false}
use mathlib.Core.List.{List}
use Prim.Native.Nat.{ℕ, zero, suc, ◌+◌, ◌≤◌, ◌<◌}
use native.Mathlib.Omega.{arith}
use native.Mathlib.Decide.{ℕ_discrete}
use lib.Dec.{ltb, eqb}
use borrow.Author.Tests.{ltb-true, ltb-false, eqb-true, eqb-false}
use Rattle.loops.specs.Arrows.{Arrows, Sound, tail}
use Rattle.loops.specs.Model.{pred, back, rooted, around, Ring, circle_start, circle_from}
use Rattle.loops.specs.Forest.{Returns, Circle, Arrowed}
use Rattle.loops.proofs.Below.{below_next}
use Rattle.loops.proofs.Grounded.{back_below}
use Rattle.loops.proofs.Circles.{Low, lowest_least, lowest_low, unrooted_ends}
use Rattle.loops.proofs.Rooted.{unrooted_arrows}

module _ (Γ : Arrows) (p : List ℕ) where
  -- what a step around may find
  around_cases : (P : ℕ → Type 0) (s m k v : ℕ) → (Γ.count ≤ pred p v → P 0) → (pred p v < Γ.count → tail Γ (pred p v) ≡ s → P (suc k))
      → (pred p v < Γ.count → tail Γ (pred p v) ≢ s → P (around Γ p s m (suc k) (tail Γ (pred p v))))
      → P (around Γ p s (suc m) k v)
  unfolding around
  around_cases P s m k v root again other = go (ltb (pred p v) Γ.count) refl
    where
      u : ℕ
      u = tail Γ (pred p v)

      meets : Bool → ℕ
      meets t = elim t as (λ x. ℕ) [ true ↦ suc k | false ↦ around Γ p s m (suc k) u ]

      same_case : pred p v < Γ.count → (t : Bool) → eqb u s ≡ t → P (meets t)
      same_case a true e = again a (eqb-true u s e)
      same_case a false e = other a (eqb-false u s e)

      go : (t : Bool) → ltb (pred p v) Γ.count ≡ t → P (elim t as (λ x. ℕ) [ false ↦ 0 | true ↦ meets (eqb u s) ])
      go true e = same_case (ltb-true (pred p v) Γ.count e) (eqb u s) refl
      go false e = root (ltb-false (pred p v) Γ.count e)

  -- Where the walk from the lowest register of a circle stops at it again, it met only registers above it on the way.
  around_circle : (m k K s : ℕ) → Low Γ p K s → Arrowed Γ p k s → ((j : ℕ) → 0 < j → j < suc k → back Γ p j s ≢ s)
      → around Γ p s m k (back Γ p k s) ≢ 0 → Circle Γ p (around Γ p s m k (back Γ p k s)) s
  unfolding back around
  around_circle zero k K s low arrows over n = absurd (n refl)
  around_circle (suc m) k K s low arrows over n = around_cases (λ r. r ≢ 0 → Circle Γ p r s) s m k (back Γ p k s)
      (λ h z. absurd (z refl)) (λ h e z. stop h e) (λ h e. around_circle m (suc k) K s low (on h) (up e)) n
    where
      on : pred p (back Γ p k s) < Γ.count → Arrowed Γ p (suc k) s
      on = below_next (λ j. pred p (back Γ p j s) < Γ.count) k arrows

      up : tail Γ (pred p (back Γ p k s)) ≢ s → (j : ℕ) → 0 < j → j < suc (suc k) → back Γ p j s ≢ s
      up h j z q = below_next (λ i. 0 < i → back Γ p i s ≢ s) (suc k) (λ i m n. over i n m) (λ n. h) j q z

      stop : pred p (back Γ p k s) < Γ.count → tail Γ (pred p (back Γ p k s)) ≡ s → Circle Γ p (suc k) s
      stop h e = record {
        returns = record { some = omega arith; again = e; arrows = on h };
        lowest = λ j z q. let other = over j z q in let l = low.least j in omega arith;
      }

  -- From a register of a circle the walk stops at it at the latest once around.
  around_comes : (m k K s : ℕ) → Returns Γ p K s → k < K → K ≤ k + m → around Γ p s m k (back Γ p k s) ≢ 0
  unfolding back around
  around_comes zero k K s r q f = absurd (omega arith)
  around_comes (suc m) k K s r q f = around_cases (λ n. n ≢ 0) s m k (back Γ p k s)
      (λ h. absurd (let a = r.arrows k q in omega arith)) (λ h e. omega arith)
      (λ h e. around_comes m (suc k) K s r (more e (ℕ_discrete (suc k) K)) (omega arith))
    where
      more : back Γ p (suc k) s ≢ s → Dec (suc k ≡ K) → suc k < K
      more h (yes e) = absurd (h (subst (λ i. back Γ p i s ≡ s) (sym e) r.again))
      more h (no e) = omega arith

  low_circle : (n K s : ℕ) → K ≤ n → Low Γ p K s → Circle Γ p (around Γ p s n 0 s) s
  unfolding back
  low_circle n K s q low =
      around_circle n 0 K s low (λ j h. absurd (omega arith)) (λ j z h. absurd (omega arith))
      (around_comes n 0 K s low.returns low.returns.some (omega arith))

  -- a circle from its lowest register
  pub record Found (r : Ring) : Type 0 where
    pub below : r.start < Γ.registers
    pub circle : Circle Γ p r.steps r.start

  -- From a register that is not rooted the walk ends on a circle, and the search lists that one.
  pub circle_found : Sound Γ → (s : ℕ) → s < Γ.registers → rooted Γ p Γ.registers s ≡ false → Found (circle_from Γ p s)
  unfolding back
  circle_found so s b h =
      let n = Γ.registers in
      let w = unrooted_ends Γ p so s b h in
      let low = lowest_low Γ p n w.steps (back Γ p n s) w.short w.returns in
      record { below = inside; circle = low_circle n w.steps (circle_start Γ p s) w.short low }
    where
      inside : circle_start Γ p s < Γ.registers
      inside =
          let onto = back_below Γ p so Γ.registers s b (λ j q. unrooted_arrows Γ p Γ.registers s h j (omega arith)) in
          let l = lowest_least Γ p Γ.registers (back Γ p Γ.registers s) 0 (omega arith) in
          omega (arith, onto)
