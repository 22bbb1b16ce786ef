-- Tight: the row is exactly what the preds give. A tight row lies below every schedule, by induction on the depth in the forest; no history
-- is needed. Rests on the order of ℤ.
use mathlib.Core.List.{List}
use Prim.Native.Nat.{ℕ, zero, suc, ◌≤◌, ◌<◌}
use native.Mathlib.Omega.{arith}
use native.Mathlib.Decide.{dec_lt}
use lib.IntN.{ℤ, ◌+ℤ◌}
use lib.Signed.{◌≤ℤ◌}
use Rattle.whole.proofs.Lin.{lin}
use Rattle.loops.specs.Arrows.{Arrows, Sound, Schedule, tail, amount}
use Rattle.loops.specs.Model.{at, pred}
use Rattle.loops.specs.Forest.{Deep, Grounded, Forest, Tight}

-- Where every register had a pred, none would be grounded: so the host has none.
fed_not_grounded : (Γ : Arrows) (p : List ℕ) → Sound Γ → ((v : ℕ) → v < Γ.registers → pred p v < Γ.count) → (d v : ℕ) → v < Γ.registers
    → ¬ Deep Γ p d v
fed_not_grounded Γ p s fed zero v b h = omega (arith, fed v b)
fed_not_grounded Γ p s fed (suc d) v b h = fed_not_grounded Γ p s fed d (tail Γ (pred p v)) (s.leaves (pred p v) h.0) h.1

-- the host of a forest has no pred
pub host_no_pred : (Γ : Arrows) (p : List ℕ) → Sound Γ → Forest Γ p → Γ.count ≤ pred p 0
host_no_pred Γ p s f = go (dec_lt (pred p 0) Γ.count) (f.grounded 0 s.some)
  where
    all : pred p 0 < Γ.count → (v : ℕ) → v < Γ.registers → pred p v < Γ.count
    all q zero b = q
    all q (suc v) b = f.fed (suc v) (omega arith) b

    go : Dec (pred p 0 < Γ.count) → Grounded Γ p 0 → Γ.count ≤ pred p 0
    go (yes q) (d, h) = absurd (fed_not_grounded Γ p s (all q) d 0 s.some h)
    go (no q) g = omega arith

module _ (Γ : Arrows) (x : List ℤ) (p : List ℕ) (s : Sound Γ) (t : Tight Γ x p) where
  -- At depth 0 stands the host alone, at 0. Deeper, y v is at least y at the tail and the amount, so at least x at the tail and the amount.
  deep_below : (y : ℕ → ℤ) → Schedule Γ y → (d v : ℕ) → v < Γ.registers → Deep Γ p d v → at x v ≤ℤ y v
  deep_below y sy zero zero b h = let ex = t.host in let ey = sy.host in omega lin
  deep_below y sy zero (suc v) b h = absurd (omega (arith, t.forest.fed (suc v) (omega arith) b))
  deep_below y sy (suc d) v b h =
      let up = deep_below y sy d (tail Γ (pred p v)) (s.leaves (pred p v) h.0) h.1 in
      let met : (y (tail Γ (pred p v)) +ℤ amount Γ (pred p v)) ≤ℤ y v = rw (t.forest.into v b h.0) at (sy.meets (pred p v) h.0) in
      let ex = t.exact v b h.0 in
      omega lin

  -- a tight row lies below every schedule
  pub tight_below : (y : ℕ → ℤ) → Schedule Γ y → (v : ℕ) → v < Γ.registers → at x v ≤ℤ y v
  tight_below y sy v b = let g = t.forest.grounded v b in deep_below y sy g.0 v b g.1
