-- The arrows of a circle among the preds are a loop, listed from the lowest register: each register has one pred, and the walk comes back
-- to its start only once, so the tails are pairwise different. Rests on `Grounded` and `Pigeonhole`.
use mathlib.Core.Path.{◌≡◌, refl, sym, ap, ◌∙◌, subst}
use mathlib.Core.Logic.{◌≢◌}
use mathlib.Core.List.{List}
use Prim.Native.Nat.{ℕ, zero, suc, ◌+◌, ◌-◌, ◌≤◌, ◌<◌}
use native.Mathlib.Omega.{arith}
use lib.ListN.{length}
use Rattle.paper.specs.Chains.{All, Chain, Once, Loop, Listed}
use Rattle.loops.specs.Arrows.{Arrows, Sound, tail, head}
use Rattle.loops.specs.Model.{pred, back, trail}
use Rattle.loops.specs.Forest.{Circle}
use Rattle.loops.proofs.Pigeonhole.{downs_apart, apart_short}
use Rattle.loops.proofs.Grounded.{back_add, back_below}

-- on the k steps back from v each pred leads into its register
abbrev pub Leads : Arrows → List ℕ → ℕ → ℕ → Type 0
Leads Γ p k v = (j : ℕ) → j < k → head Γ (pred p (back Γ p j v)) ≡ back Γ p j v

module _ (Γ : Arrows) (p : List ℕ) where
  -- what holds of every pred on the way holds of all arrows of the trail
  trail_all : (P : ℕ → Type 0) (k v : ℕ) → ((j : ℕ) → j < k → P (pred p (back Γ p j v))) → All P (trail Γ p k v)
  unfolding trail
  trail_all P zero v h = tt
  trail_all P (suc k) v h = (h k (omega arith), trail_all P k v (λ j q. h j (omega arith)))

  pub trail-length : (k v : ℕ) → length (trail Γ p k v) ≡ k
  unfolding trail
  trail-length zero v = refl
  trail-length (suc k) v = ap suc (trail-length k v)

  -- where each pred on the way leads into its register, the arrows are a chain from the register k steps back
  trail_chain : (k v : ℕ) → Leads Γ p k v → Chain (tail Γ) (head Γ) (back Γ p k v) (trail Γ p k v) v
  unfolding trail back
  trail_chain zero v into = refl
  trail_chain (suc k) v into =
      let rest = trail_chain k v (λ j q. into j (omega arith)) in
      (refl, subst (λ u. Chain (tail Γ) (head Γ) u (trail Γ p k v) v) (sym (into k (omega arith))) rest)

  -- Where two registers of the way are the same, going on from both for the rest of the circle comes to its start too early.
  circle_apart : (k s : ℕ) → Circle Γ p k s → (i j : ℕ) → i < j → j ≤ k → 0 < (k - j) + i → back Γ p i s ≢ back Γ p j s
  circle_apart k s c i j q r z e =
      let whole : (k - j) + j ≡ k = omega arith in
      let on : back Γ p ((k - j) + i) s ≡ back Γ p ((k - j) + j) s = back_add Γ p (k - j) i s ∙ ap (λ u. back Γ p (k - j) u) e ∙ sym (back_add Γ p (k - j) j s) in
      let early : back Γ p ((k - j) + i) s ≡ s = on ∙ ap (λ m. back Γ p m s) whole ∙ c.returns.again in
      omega (arith, c.lowest ((k - j) + i) z (omega arith))

  -- the first m arrows back leave different registers
  circle_once : (k s : ℕ) → Circle Γ p k s → (m : ℕ) → m ≤ k → Once (tail Γ) (head Γ) (trail Γ p m s)
  unfolding trail back
  circle_once k s c zero q = tt
  circle_once k s c (suc m) q = (
    trail_all (λ f. tail Γ f ≢ tail Γ (pred p (back Γ p m s))) m s (λ j r. circle_apart k s c (suc j) (suc m) (omega arith) q (omega arith)),
    circle_once k s c m (omega arith),
  )

  -- a circle has at most as many steps as there are registers
  pub circle_short : Sound Γ → (k s : ℕ) → s < Γ.registers → Circle Γ p k s → k ≤ Γ.registers
  circle_short so k s b c = apart_short Γ.registers k (λ j. back Γ p j s)
      (λ j q. back_below Γ p so j s b (λ i r. c.returns.arrows i (omega arith)))
      (downs_apart (λ j. back Γ p j s) k (λ i j q r. circle_apart k s c i j q (omega arith) (omega arith)))

  -- the arrows of a circle exist, ..
  pub circle_exist : (k s : ℕ) → Circle Γ p k s → All (λ e. e < Γ.count) (trail Γ p k s)
  circle_exist k s c = trail_all (λ e. e < Γ.count) k s c.returns.arrows

  -- .. are a loop where each pred leads into its register, ..
  pub circle_loop : (k s : ℕ) → Circle Γ p k s → Leads Γ p k s → Loop (tail Γ) (head Γ) (trail Γ p k s)
  unfolding trail back
  circle_loop zero s c into = absurd (omega (arith, c.returns.some))
  circle_loop (suc k) s c into = (
    subst (λ u. Chain (tail Γ) (head Γ) (back Γ p (suc k) s) (trail Γ p (suc k) s) u) (sym c.returns.again) (trail_chain (suc k) s into),
    circle_once (suc k) s c (suc k) (omega arith),
  )

  -- .. and are listed from the lowest register
  pub circle_listed : (k s : ℕ) → Circle Γ p k s → Listed (tail Γ) (head Γ) (trail Γ p k s)
  unfolding trail back
  circle_listed zero s c = tt
  circle_listed (suc k) s c = trail_all (λ f. tail Γ (pred p (back Γ p k s)) ≤ tail Γ f) k s
      (λ j q. let home = c.returns.again in let over = c.lowest (suc j) (omega arith) (omega arith) in omega arith)
