-- The test of the preds decides what is grounded: `rooted` of one register, `all_rooted` of all. Rests on `Grounded`.
use mathlib.Core.Path.{◌≡◌, refl, sym, ap, ◌∙◌}
use mathlib.Core.Bool.{Bool, true, false, true≢false, false≢true}
use mathlib.Core.List.{List}
use Prim.Native.Nat.{ℕ, zero, suc, ◌≤◌, ◌<◌}
use native.Mathlib.Omega.{arith}
use native.Mathlib.Decide.{dec_lt, ℕ_discrete}
use lib.Dec.{ltb}
use borrow.Author.Tests.{ltb-true, ltb-false, lt-ltb, le-ltb}
use Rattle.loops.specs.Arrows.{Arrows, Sound, tail}
use Rattle.loops.specs.Model.{pred, back, rooted, rooted_below, all_rooted, stray_below, stray}
use Rattle.loops.specs.Forest.{Deep, Grounded, Arrowed}
use Rattle.loops.proofs.Grounded.{deep_walk, deep_short, back_first}

module _ (Γ : Arrows) (p : List ℕ) where
  -- ---- one register

  -- a register at depth at most d
  pub record Within (d v : ℕ) : Type 0 where
    pub depth : ℕ
    pub short : depth ≤ d
    pub deep : Deep Γ p depth v

  -- where the test of d steps passes, the register lies at a depth of at most d
  rooted_deep : (d v : ℕ) → rooted Γ p d v ≡ true → Within d v
  unfolding rooted
  rooted_deep zero v = go (ltb (pred p v) Γ.count) refl
    where
      go : (t : Bool) → ltb (pred p v) Γ.count ≡ t → (elim t as (λ x. Bool) [ true ↦ false | false ↦ true ]) ≡ true → Within zero v
      go true q e = absurd (false≢true e)
      go false q e = record { depth = 0; short = omega arith; deep = ltb-false (pred p v) Γ.count q }
  rooted_deep (suc d) v = go (ltb (pred p v) Γ.count) refl (rooted_deep d (tail Γ (pred p v)))
    where
      go : (t : Bool) → ltb (pred p v) Γ.count ≡ t → (rooted Γ p d (tail Γ (pred p v)) ≡ true → Within d (tail Γ (pred p v)))
          → (elim t as (λ x. Bool) [ true ↦ rooted Γ p d (tail Γ (pred p v)) | false ↦ true ]) ≡ true → Within (suc d) v
      go true q ih e = let w = ih e in record { depth = suc w.depth; short = omega (arith, w.short); deep = (ltb-true (pred p v) Γ.count q, w.deep) }
      go false q ih e = record { depth = 0; short = omega arith; deep = ltb-false (pred p v) Γ.count q }

  -- and the other way round
  pub deep_rooted : (e d v : ℕ) → Deep Γ p e v → e ≤ d → rooted Γ p d v ≡ true
  unfolding rooted
  deep_rooted zero zero v h q = rw (le-ltb (pred p v) Γ.count h, rooted)
  deep_rooted zero (suc d) v h q = rw (le-ltb (pred p v) Γ.count h, rooted)
  deep_rooted (suc e) zero v h q = absurd (omega arith)
  deep_rooted (suc e) (suc d) v h q = rw (lt-ltb (pred p v) Γ.count h.0, rooted) (deep_rooted e d (tail Γ (pred p v)) h.1 (omega arith))

  pub rooted_next : (d v : ℕ) → pred p v < Γ.count → rooted Γ p (suc d) v ≡ rooted Γ p d (tail Γ (pred p v))
  unfolding rooted
  rooted_next d v h = rw (lt-ltb (pred p v) Γ.count h, rooted)

  unrooted_here : (d v : ℕ) → rooted Γ p d v ≡ false → pred p v < Γ.count
  unrooted_here d v n = go (dec_lt (pred p v) Γ.count)
    where
      go : Dec (pred p v < Γ.count) → pred p v < Γ.count
      go (yes h) = h
      go (no h) = let root : Γ.count ≤ pred p v = omega arith in absurd (true≢false (sym (deep_rooted 0 d v root (omega arith)) ∙ n))

  -- where the test fails after d steps, all of them and the next go over arrows
  pub unrooted_arrows : (d v : ℕ) → rooted Γ p d v ≡ false → (j : ℕ) → j ≤ d → pred p (back Γ p j v) < Γ.count
  unfolding back
  unrooted_arrows d v n zero q = unrooted_here d v n
  unrooted_arrows zero v n (suc j) q = absurd (omega arith)
  unrooted_arrows (suc d) v n (suc j) q =
      rw (back_first Γ p j v) (unrooted_arrows d (tail Γ (pred p v)) (sym (rooted_next d v (unrooted_here (suc d) v n)) ∙ n) j (omega arith))

  -- ---- all registers rooted, or one that is not

  -- where the test of the registers below n passes, it passes for each
  all_rooted_lem : (n : ℕ) → rooted_below Γ p n ≡ true → (v : ℕ) → v < n → rooted Γ p Γ.registers v ≡ true
  unfolding rooted_below
  all_rooted_lem zero h v q = absurd (omega arith)
  all_rooted_lem (suc n) h v q = go (rooted_below Γ p n) refl h (λ g. all_rooted_lem n g v) (ℕ_discrete v n)
    where
      go : (t : Bool) → rooted_below Γ p n ≡ t → (elim t as (λ x. Bool) [ true ↦ rooted Γ p Γ.registers n | false ↦ false ]) ≡ true
          → (rooted_below Γ p n ≡ true → v < n → rooted Γ p Γ.registers v ≡ true) → Dec (v ≡ n) → rooted Γ p Γ.registers v ≡ true
      go true e r ih (yes s) = rw s r
      go true e r ih (no s) = ih e (omega arith)
      go false e r ih d = absurd (false≢true r)

  stray_cases : (P : ℕ → Type 0) (v : ℕ) → (rooted_below Γ p v ≡ false → P (stray_below Γ p v))
      → (rooted_below Γ p v ≡ true → rooted Γ p Γ.registers v ≡ false → P v)
      → (rooted_below Γ p v ≡ true → rooted Γ p Γ.registers v ≡ true → P (suc v)) → P (stray_below Γ p (suc v))
  unfolding stray_below
  stray_cases P v before here none = go (rooted_below Γ p v) refl
    where
      last : Bool → ℕ
      last t = elim t as (λ x. ℕ) [ true ↦ suc v | false ↦ v ]

      at_last : rooted_below Γ p v ≡ true → (t : Bool) → rooted Γ p Γ.registers v ≡ t → P (last t)
      at_last e true q = none e q
      at_last e false q = here e q

      go : (t : Bool) → rooted_below Γ p v ≡ t → P (elim t as (λ x. ℕ) [ true ↦ last (rooted Γ p Γ.registers v) | false ↦ stray_below Γ p v ])
      go true e = at_last e (rooted Γ p Γ.registers v) refl
      go false e = before e

  below_next_rooted : (v : ℕ) → rooted_below Γ p v ≡ true → rooted_below Γ p (suc v) ≡ rooted Γ p Γ.registers v
  unfolding rooted_below
  below_next_rooted v e = rw (e, rooted_below)

  -- where the test fails, the stray register is one that is not rooted
  pub stray_some : (n : ℕ) → rooted_below Γ p n ≡ false → (stray_below Γ p n < n) × (rooted Γ p Γ.registers (stray_below Γ p n) ≡ false)
  unfolding rooted_below
  stray_some zero h = absurd (true≢false h)
  stray_some (suc n) h = stray_cases (λ u. (u < suc n) × (rooted Γ p Γ.registers u ≡ false)) n
      (λ e. let s = stray_some n e in (omega (arith, s.0), s.1)) (λ e q. (omega arith, q))
      (λ e q. absurd (true≢false (sym (below_next_rooted n e ∙ q) ∙ h)))

  -- where it passes, there is none
  pub stray_none : (n : ℕ) → rooted_below Γ p n ≡ true → stray_below Γ p n ≡ n
  unfolding stray_below rooted_below
  stray_none zero h = refl
  stray_none (suc n) h = stray_cases (λ u. u ≡ suc n) n
      (λ e. absurd (false≢true (sym (failed e) ∙ h))) (λ e q. absurd (false≢true (sym (below_next_rooted n e ∙ q) ∙ h))) (λ e q. refl)
    where
      failed : rooted_below Γ p n ≡ false → rooted_below Γ p (suc n) ≡ false
      failed e = rw (e, rooted_below)

  -- the first that is not rooted is the stray register
  stray_is : (n s : ℕ) → s < n → rooted_below Γ p s ≡ true → rooted Γ p Γ.registers s ≡ false → stray_below Γ p n ≡ s
  stray_is zero s q r h = absurd (omega arith)
  stray_is (suc n) s q r h = go (ℕ_discrete s n) (λ q. stray_is n s q r h)
    where
      go : Dec (s ≡ n) → (s < n → stray_below Γ p n ≡ s) → stray_below Γ p (suc n) ≡ s
      go (yes e) ih = stray_cases (λ u. u ≡ s) n
          (λ f. absurd (true≢false (sym r ∙ ap (rooted_below Γ p) e ∙ f))) (λ f g. sym e)
          (λ f g. absurd (true≢false (sym g ∙ ap (rooted Γ p Γ.registers) (sym e) ∙ h)))
      go (no e) ih = stray_cases (λ u. u ≡ s) n
          (λ f. ih (omega arith)) (λ f g. absurd (true≢false (sym (all_rooted_lem n f s (omega arith)) ∙ h)))
          (λ f g. absurd (true≢false (sym (all_rooted_lem n f s (omega arith)) ∙ h)))

  -- read the other way: a stray number that names no register tells that all are rooted, and one that does is not rooted
  pub stray_above : (s : ℕ) → s ≡ stray Γ p → Γ.registers ≤ s → (s ≡ Γ.registers) × (all_rooted Γ p ≡ true)
  stray_above s e q = go (all_rooted Γ p) refl
    where
      go : (t : Bool) → all_rooted Γ p ≡ t → (s ≡ Γ.registers) × (all_rooted Γ p ≡ true)
      go true h = (e ∙ stray_none Γ.registers h, h)
      go false h = absurd (let b = (stray_some Γ.registers h).0 in omega arith)

  pub stray_below_lem : (s : ℕ) → s ≡ stray Γ p → s < Γ.registers → rooted Γ p Γ.registers s ≡ false
  stray_below_lem s e q = go (all_rooted Γ p) refl
    where
      go : (t : Bool) → all_rooted Γ p ≡ t → rooted Γ p Γ.registers s ≡ false
      go true h = absurd (let b = stray_none Γ.registers h in omega arith)
      go false h = rw e (stray_some Γ.registers h).1

  -- where the test passes, every register is grounded
  pub all_grounded : all_rooted Γ p ≡ true → (v : ℕ) → v < Γ.registers → Grounded Γ p v
  all_grounded h v q = let w = rooted_deep Γ.registers v (all_rooted_lem Γ.registers h v q) in (w.depth, w.deep)

  rooted_below_lem : (n : ℕ) → ((v : ℕ) → v < n → rooted Γ p Γ.registers v ≡ true) → rooted_below Γ p n ≡ true
  unfolding rooted_below
  rooted_below_lem zero h = refl
  rooted_below_lem (suc n) h = rw (rooted_below_lem n (λ v q. h v (omega arith)), rooted_below) (h n (omega arith))

  -- a grounded register is rooted, since its depth stays below the number of registers
  grounded_rooted : Sound Γ → (v : ℕ) → v < Γ.registers → Grounded Γ p v → rooted Γ p Γ.registers v ≡ true
  grounded_rooted s v b g = let short = deep_short Γ p s g.0 v b g.1 in deep_rooted g.0 Γ.registers v g.1 (omega arith)

  -- the test passes where every register is grounded
  pub grounded_all : Sound Γ → ((v : ℕ) → v < Γ.registers → Grounded Γ p v) → all_rooted Γ p ≡ true
  grounded_all s h = rooted_below_lem Γ.registers (λ v b. grounded_rooted s v b (h v b))

  ungrounded : (v : ℕ) → ¬ Grounded Γ p v → rooted Γ p Γ.registers v ≡ false
  ungrounded v n = go (rooted Γ p Γ.registers v) refl
    where
      go : (t : Bool) → rooted Γ p Γ.registers v ≡ t → rooted Γ p Γ.registers v ≡ false
      go true e = let w = rooted_deep Γ.registers v e in absurd (n (w.depth, w.deep))
      go false e = e

  -- the first register that is not grounded is the stray one
  pub stray_first : Sound Γ → (s : ℕ) → s < Γ.registers → ((v : ℕ) → v < s → Grounded Γ p v) → ¬ Grounded Γ p s → stray Γ p ≡ s
  stray_first so s b before n =
      stray_is Γ.registers s b (rooted_below_lem s (λ v q. grounded_rooted so v (omega arith) (before v q))) (ungrounded s n)

  -- Going back over arrows as often as there are registers, without an end, shows that a register is not grounded.
  pub long_not_grounded : Sound Γ → (v : ℕ) → v < Γ.registers → Arrowed Γ p Γ.registers v → ¬ Grounded Γ p v
  long_not_grounded s v b arrows (d, h) =
      let long = deep_walk Γ p Γ.registers d v arrows h in
      let short = deep_short Γ p s d v b h in
      omega arith
