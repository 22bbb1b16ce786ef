-- A register that is not rooted goes back over arrows so long that some register comes twice (pigeonhole). From there on the walk stays on
-- a circle, and the lowest register that it meets is the lowest of the circle. Rests on `Rooted` and `Pigeonhole`.
use mathlib.Core.Path.{◌≡◌, refl, sym, ap, ◌∙◌, subst}
use mathlib.Core.Bool.{Bool, true, false}
use mathlib.Core.List.{List}
use Prim.Native.Nat.{ℕ, zero, suc, ◌+◌, ◌-◌, ◌≤◌, ◌<◌}
use native.Mathlib.Omega.{arith}
use native.Mathlib.Decide.{ℕ_discrete}
use lib.Dec.{ltb}
use borrow.Author.Tests.{ltb-true, ltb-false}
use Rattle.loops.specs.Arrows.{Arrows, Sound, tail}
use Rattle.loops.specs.Model.{pred, back, rooted, lowest}
use Rattle.loops.specs.Forest.{Returns}
use Rattle.loops.proofs.Pigeonhole.{pigeonhole}
use Rattle.loops.proofs.Grounded.{back_first, back_add, back_below}
use Rattle.loops.proofs.Rooted.{unrooted_arrows}

module _ (Γ : Arrows) (p : List ℕ) where
  -- ---- every register of a circle is on a circle of as many steps

  returns_arrow : (k s : ℕ) → Returns Γ p k s → pred p s < Γ.count
  unfolding back
  returns_arrow k s r = r.arrows 0 r.some

  -- the way of a circle, one step further on, goes over arrows too
  arrows_next : (k s j : ℕ) → Returns Γ p k s → j < k → pred p (back Γ p (suc j) s) < Γ.count
  arrows_next k s j r q = go (ℕ_discrete (suc j) k)
    where
      go : Dec (suc j ≡ k) → pred p (back Γ p (suc j) s) < Γ.count
      go (yes e) = rw (e, r.again) (returns_arrow k s r)
      go (no e) = r.arrows (suc j) (omega arith)

  -- the register one step back from one on a circle is on a circle of as many steps
  returns_next : (k s : ℕ) → Returns Γ p k s → Returns Γ p k (tail Γ (pred p s))
  unfolding back
  returns_next k s r = record {
    some = r.some;
    again = sym (back_first Γ p k s) ∙ ap (λ u. tail Γ (pred p u)) r.again;
    arrows = λ j q. subst (λ u. pred p u < Γ.count) (back_first Γ p j s) (arrows_next k s j r q);
  }

  returns_back : (j k s : ℕ) → Returns Γ p k s → Returns Γ p k (back Γ p j s)
  unfolding back
  returns_back zero k s r = r
  returns_back (suc j) k s r = returns_next k (back Γ p j s) (returns_back j k s r)

  -- Going back from a register of a circle of k steps meets no register that the first k steps do not meet.
  pub record Met (k s j : ℕ) : Type 0 where
    pub place : ℕ
    pub before : place < k
    pub same : back Γ p j s ≡ back Γ p place s

  returns_met : (k s : ℕ) → Returns Γ p k s → (j : ℕ) → Met k s j
  unfolding back
  returns_met k s r zero = record { place = 0; before = r.some; same = refl }
  returns_met k s r (suc j) = go (returns_met k s r j)
    where
      go : Met k s j → Met k s (suc j)
      go w = next (ℕ_discrete (suc w.place) k)
        where
          next : Dec (suc w.place ≡ k) → Met k s (suc j)
          next (yes e) = record { place = 0; before = r.some; same = ap (λ u. tail Γ (pred p u)) w.same ∙ ap (λ i. back Γ p i s) e ∙ r.again }
          next (no e) = record { place = suc w.place; before = omega (arith, w.before); same = ap (λ u. tail Γ (pred p u)) w.same }

  -- so it goes over arrows however far
  pub returns_arrows : (k s : ℕ) → Returns Γ p k s → (j : ℕ) → pred p (back Γ p j s) < Γ.count
  returns_arrows k s r j = let w = returns_met k s r j in rw w.same (r.arrows w.place w.before)

  -- ---- the lowest register on the way back

  lowest_cases : (P : ℕ → Type 0) (k v : ℕ) → (back Γ p (suc k) v < lowest Γ p k v → P (back Γ p (suc k) v))
      → (lowest Γ p k v ≤ back Γ p (suc k) v → P (lowest Γ p k v)) → P (lowest Γ p (suc k) v)
  unfolding lowest
  lowest_cases P k v under over = go (ltb (back Γ p (suc k) v) (lowest Γ p k v)) refl
    where
      go : (t : Bool) → ltb (back Γ p (suc k) v) (lowest Γ p k v) ≡ t → P (elim t as (λ x. ℕ) [ true ↦ back Γ p (suc k) v | false ↦ lowest Γ p k v ])
      go true e = under (ltb-true (back Γ p (suc k) v) (lowest Γ p k v) e)
      go false e = over (ltb-false (back Γ p (suc k) v) (lowest Γ p k v) e)

  -- it is one of the registers on the way, ..
  lowest_met : (k v : ℕ) → (j : ℕ) × (lowest Γ p k v ≡ back Γ p j v) × (j ≤ k)
  unfolding lowest back
  lowest_met zero v = (0, refl, omega arith)
  lowest_met (suc k) v = lowest_cases (λ u. (j : ℕ) × (u ≡ back Γ p j v) × (j ≤ suc k)) k v
      (λ h. (suc k, refl, omega arith)) (λ h. let (j, e, q) = lowest_met k v in (j, e, omega arith))

  -- .. and none of them lies below it
  pub lowest_least : (k v j : ℕ) → j ≤ k → lowest Γ p k v ≤ back Γ p j v
  unfolding lowest back
  lowest_least zero v zero q = omega arith
  lowest_least zero v (suc j) q = absurd (omega arith)
  lowest_least (suc k) v j q = go (ℕ_discrete j (suc k)) (lowest_least k v j)
    where
      go : Dec (j ≡ suc k) → (j ≤ k → lowest Γ p k v ≤ back Γ p j v) → lowest Γ p (suc k) v ≤ back Γ p j v
      go (yes e) ih = rw e (lowest_cases (λ u. u ≤ back Γ p (suc k) v) k v (λ h. omega arith) (λ h. h))
      go (no e) ih = let l = ih (omega arith) in lowest_cases (λ u. u ≤ back Γ p j v) k v (λ h. omega arith) (λ h. l)

  -- ---- the circle on which a walk ends

  -- the register as many steps back as there are registers comes again after at most so many steps
  pub record Ends (v : ℕ) : Type 0 where
    pub steps : ℕ
    pub short : steps ≤ Γ.registers
    pub returns : Returns Γ p steps (back Γ p Γ.registers v)

  -- Of the registers on the way back from one that is not rooted two are the same: between them lies a circle, and the walk stays on it.
  pub unrooted_ends : Sound Γ → (v : ℕ) → v < Γ.registers → rooted Γ p Γ.registers v ≡ false → Ends v
  unrooted_ends so v b n =
      let arrows = unrooted_arrows Γ p Γ.registers v n in
      let inside : (j : ℕ) → j < suc Γ.registers → back Γ p j v < Γ.registers = λ j q. back_below Γ p so j v b (λ i r. arrows i (omega arith)) in
      let t = pigeonhole Γ.registers (λ j. back Γ p j v) inside in
      let k = t.second - t.first in
      let along : (j : ℕ) → back Γ p (j + t.first) v ≡ back Γ p j (back Γ p t.first v) = λ j. back_add Γ p j t.first v in
      let whole : k + t.first ≡ t.second = omega (arith, t.later) in
      let turn : Returns Γ p k (back Γ p t.first v) = record {
        some = omega (arith, t.later);
        again = sym (along k) ∙ ap (λ j. back Γ p j v) whole ∙ sym t.same;
        arrows = λ j q. subst (λ u. pred p u < Γ.count) (along j) (arrows (j + t.first) (omega (arith, t.before)));
      } in
      let rest = Γ.registers - t.first in
      let all : rest + t.first ≡ Γ.registers = omega (arith, t.later, t.before) in
      record {
        steps = k;
        short = omega (arith, t.before);
        returns = subst (Returns Γ p k) (sym (along rest) ∙ ap (λ j. back Γ p j v) all) (returns_back rest k (back Γ p t.first v) turn);
      }

  -- a register of a circle, and none of the circle lies below it
  pub record Low (k s : ℕ) : Type 0 where
    pub returns : Returns Γ p k s
    pub least : (j : ℕ) → s ≤ back Γ p j s

  -- The lowest register of enough steps back from a register of a circle: whatever comes later came before.
  pub lowest_low : (n k v : ℕ) → k ≤ n → Returns Γ p k v → Low k (lowest Γ p n v)
  lowest_low n k v q r = go (lowest_met n v)
    where
      go : (j : ℕ) × (lowest Γ p n v ≡ back Γ p j v) × (j ≤ n) → Low k (lowest Γ p n v)
      go (j, e, h) =
          record {
            returns = subst (Returns Γ p k) (sym e) (returns_back j k v r);
            least =
                λ i.
                let w = returns_met k v r (i + j) in
                let l = lowest_least n v w.place (omega (arith, w.before)) in
                let same : back Γ p i (lowest Γ p n v) ≡ back Γ p w.place v = ap (back Γ p i) e ∙ sym (back_add Γ p i j v) ∙ w.same in
                omega arith;
          }
