-- What the preds give a register: 0 where it has none; else what they give the pred's tail, and the pred's amount. Rests on `Worth` of
-- `loops`.
use mathlib.Core.Path.{◌≡◌, ap, ◌∙◌}
use mathlib.Core.List.{List}
use Prim.Native.Nat.{ℕ, zero, suc, ◌≤◌, ◌<◌}
use native.Mathlib.Omega.{arith}
use lib.IntN.{ℤ, pos, ◌+ℤ◌, ◌-ℤ◌}
use Rattle.whole.proofs.Lin.{lin, negs}
use Rattle.loops.specs.Arrows.{Arrows, tail, amount}
use Rattle.loops.specs.Model.{pred, worth}
use Rattle.loops.specs.Forest.{Deep, Grounded}
use Rattle.loops.proofs.Worth.{worth_next, worth_root}
use Rattle.settling.specs.Settling.{Gives}

module _ (Γ : Arrows) (preds : List ℕ) where
  -- equal times are given alike
  pub gives_is : {v : ℕ} {z y : ℤ} → z ≡ y → Gives Γ preds v z → Gives Γ preds v y
  gives_is e g = record { depth = g.depth; deep = g.deep; time = g.time ∙ e }

  -- a register without a pred is given 0
  pub gives_root : (v : ℕ) → Γ.count ≤ pred preds v → Gives Γ preds v (pos 0)
  gives_root v h = record { depth = 0; deep = h; time = worth_root Γ preds 0 v h }

  -- a register with a pred is given what the pred's tail is given, and the pred's amount
  pub gives_next : (v : ℕ) (z : ℤ) → pred preds v < Γ.count → Gives Γ preds (tail Γ (pred preds v)) z → Gives Γ preds v (z +ℤ amount Γ (pred preds v))
  gives_next v z h g =
      record {
        depth = suc g.depth;
        deep = (h, g.deep);
        time = worth_next Γ preds g.depth v h ∙ ap (λ y. y +ℤ amount Γ (pred preds v)) g.time;
      }

  -- and the pred's tail what the register is given, without that amount
  pub gives_back : (v : ℕ) (z : ℤ) → pred preds v < Γ.count → Gives Γ preds v z → Gives Γ preds (tail Γ (pred preds v)) (z -ℤ amount Γ (pred preds v))
  gives_back v z h g = go g.depth g.deep g.time
    where
      go : (d : ℕ) → Deep Γ preds d v → worth Γ preds d v ≡ z → Gives Γ preds (tail Γ (pred preds v)) (z -ℤ amount Γ (pred preds v))
      go zero deep t = absurd (omega arith)
      go (suc d) deep t =
          let n = worth_next Γ preds d v h in
          record { depth = d; deep = deep.1; time = omega (lin, negs (amount Γ (pred preds v))) }

  -- only a grounded register is given anything
  pub gives_grounded : (v : ℕ) (z : ℤ) → Gives Γ preds v z → Grounded Γ preds v
  gives_grounded v z g = (g.depth, g.deep)
