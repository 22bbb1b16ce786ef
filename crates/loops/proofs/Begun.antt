-- Where a relaxation may go on: a pass over arrows that are met changes nothing; a row that is tight for the arrows that Γ begins with is
-- tight for Γ; and a round that leaves a forest leaves the host without a pred. Rests on `Kept`, `Settle` and `Tight`.
use mathlib.Core.Path.{◌≡◌, refl, sym, ap, ◌∙◌}
use mathlib.Core.Logic.{inl, inr}
use mathlib.Core.Bool.{true, false}
use mathlib.Core.List.{List}
use Prim.Native.Nat.{ℕ, zero, suc, ◌≤◌, ◌<◌}
use native.Mathlib.Omega.{arith}
use lib.IntN.{ℤ}
use lib.Signed.{lt_z, ◌≤ℤ◌}
use Rattle.whole.proofs.Lin.{lin, plus}
use Rattle.loops.specs.Arrows.{Arrows, Sound, Schedule, tail, head, amount}
use Rattle.loops.specs.Model.{at, pred, Turn, offered, step, pass, entered, round, all_rooted, preds_after}
use Rattle.loops.specs.Forest.{Deep, Tight}
use Rattle.loops.specs.Begun.{MetBelow, Extends}
use Rattle.loops.proofs.Round.{Stands}
use Rattle.loops.proofs.Kept.{round_each}
use Rattle.loops.proofs.Settle.{round_forest}
use Rattle.loops.proofs.Tight.{host_no_pred}

-- an arrow that asks no more than its head has changes nothing
pub step_keeps : (Γ : Arrows) (a : List ℤ) (e : ℕ) (t : Turn) → lt_z (at t.row (head Γ e)) (offered Γ a e) ≡ false → step Γ a e t ≡ t
unfolding step
step_keeps Γ a e t h = rw (h, step)

-- Nor do all arrows below `from`, one after another, where the row that entered meets them.
pub pass_met : (Γ : Arrows) (a : List ℤ) (p : List ℕ) (from : ℕ) → MetBelow Γ (at a) from → pass Γ a from (entered a p) ≡ entered a p
unfolding pass
pass_met Γ a p zero m = refl
pass_met Γ a p (suc e) m =
    let met : offered Γ a e ≤ℤ at a (head Γ e) = m e (omega arith) in
    ap (step Γ a e) (pass_met Γ a p e (λ i h. m i (omega arith))) ∙ step_keeps Γ a e (entered a p) (omega (lin, plus (at a (tail Γ e)) (amount Γ e)))

-- Where all are rooted after a round the host has no pred among the arrows, and a register whose pred is no arrow was not raised.
pub root_kept : (Γ : Arrows) (a : List ℤ) (p : List ℕ) → Sound Γ → Tight Γ a p → all_rooted Γ (preds_after Γ a p) ≡ true
    → pred (preds_after Γ a p) 0 ≡ pred p 0
root_kept Γ a p s t r = go (round_each Γ a p s t 0 s.some)
  where
    none : Γ.count ≤ pred (preds_after Γ a p) 0
    none = host_no_pred Γ (preds_after Γ a p) s (round_forest Γ a p s t r)

    go : Stands Γ a p Γ.count (round Γ a p) 0 → pred (preds_after Γ a p) 0 ≡ pred p 0
    go (inl k) = k.same
    go (inr l) = absurd (let n = l.noted in omega (arith, none))

module _ (Γ Δ : Arrows) (b : Extends Γ Δ) where
  -- a schedule of the first arrows meets them
  pub met_begun : (x : ℕ → ℤ) → Schedule Δ x → MetBelow Γ x Δ.count
  met_begun x s e h = rw (b.tails e h, b.heads e h, b.amounts e h) (s.meets e h)

  module _ (x : List ℤ) (p : List ℕ) (s : Sound Γ) (t : Tight Δ x p) (root : Γ.count ≤ pred p 0) where
    -- every register but the host has its pred among the first arrows, and the host has none at all
    first_pred_lem : (v : ℕ) → v < Γ.registers → pred p v < Γ.count → pred p v < Δ.count
    first_pred_lem zero h q = absurd (omega arith)
    first_pred_lem (suc v) h q = t.forest.fed (suc v) (omega arith) (let n = b.registers in omega arith)

    deep_begun : (d v : ℕ) → v < Γ.registers → Deep Δ p d v → Deep Γ p d v
    deep_begun zero zero h q = root
    deep_begun zero (suc v) h q = absurd (let n = b.registers in let f = t.forest.fed (suc v) (omega arith) (omega arith) in omega arith)
    deep_begun (suc d) v h q =
        let i : pred p v < Γ.count = let few = b.fewer in let j = q.0 in omega arith in
        (i, deep_begun d (tail Γ (pred p v)) (s.leaves (pred p v) i) (rw (b.tails (pred p v) q.0) q.1))

    -- The same preds at the same depths, each asking the same.
    pub tight_begun : Tight Γ x p
    tight_begun =
        let n = b.registers in
        record {
          row-length = t.row-length ∙ sym n;
          forest = record {
            preds_length = t.forest.preds_length ∙ sym n;
            grounded = λ v h. let g = t.forest.grounded v (omega arith) in (g.0, deep_begun g.0 v h g.1);
            into = λ v h q. let i = first_pred_lem v h q in b.heads (pred p v) i ∙ t.forest.into v (omega arith) i;
            fed = λ v z h. let few = b.fewer in let f = t.forest.fed v z (omega arith) in omega arith;
          };
          host = t.host;
          exact = λ v h q. let i = first_pred_lem v h q in rw (b.tails (pred p v) i, b.amounts (pred p v) i) (t.exact v (omega arith) i);
        }
