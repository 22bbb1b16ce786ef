-- What a forest of preds gives its registers: where all are grounded, the settled row is tight, and it lies at most by the depth times the
-- greatest amount above 0. Rests on `Grounded`, `Tight` and `Table`.
use mathlib.Core.Path.{◌≡◌, refl, sym, ap, ◌∙◌}
use mathlib.Core.List.{List}
use Prim.Native.Nat.{ℕ, zero, suc, ◌-◌, ◌*◌, ◌≤◌, ◌<◌}
use native.Mathlib.Nat.{mul-le-mul_right}
use native.Mathlib.Omega.{arith}
use native.Mathlib.Decide.{dec_lt}
use lib.ListN.{length}
use lib.Seq.{ext_get_or}
use borrow.Author.Tests.{lt-ltb, le-ltb}
use lib.IntN.{ℤ, pos, ◌+ℤ◌}
use lib.Signed.{◌≤ℤ◌}
use Rattle.whole.proofs.Lin.{lin}
use Rattle.loops.specs.Arrows.{Arrows, Sound, tail, amount}
use Rattle.loops.specs.Model.{at, pred, worth, settled}
use Rattle.loops.specs.Forest.{Deep, Forest, Tight}
use Rattle.loops.proofs.Table.{table-length, table_at}
use Rattle.loops.proofs.Grounded.{deep_short}
use Rattle.loops.proofs.Tight.{host_no_pred}

module _ (Γ : Arrows) (p : List ℕ) where
  -- one step more: what the pred's tail is given, and the pred's amount
  pub worth_next : (d v : ℕ) → pred p v < Γ.count → worth Γ p (suc d) v ≡ (worth Γ p d (tail Γ (pred p v)) +ℤ amount Γ (pred p v))
  unfolding worth
  worth_next d v h = rw (lt-ltb (pred p v) Γ.count h, worth)

  -- a register without a pred is at 0
  pub worth_root : (d v : ℕ) → Γ.count ≤ pred p v → worth Γ p d v ≡ pos 0
  unfolding worth
  worth_root zero v h = refl
  worth_root (suc d) v h = rw (le-ltb (pred p v) Γ.count h, worth)

  -- following the preds further than they go changes nothing
  pub worth_deep : (e d v : ℕ) → Deep Γ p e v → e ≤ d → worth Γ p d v ≡ worth Γ p e v
  worth_deep zero d v h q = worth_root d v h ∙ sym (worth_root 0 v h)
  worth_deep (suc e) zero v h q = absurd (omega arith)
  worth_deep (suc e) (suc d) v h q =
      worth_next d v h.0 ∙ ap (λ z. z +ℤ amount Γ (pred p v)) (worth_deep e d (tail Γ (pred p v)) h.1 (omega arith)) ∙ sym (worth_next e v h.0)

  -- so a register stands at what its pred asks
  worth_exact : (e d v : ℕ) → Deep Γ p e v → e ≤ d → pred p v < Γ.count → worth Γ p d v ≡ (worth Γ p d (tail Γ (pred p v)) +ℤ amount Γ (pred p v))
  worth_exact zero d v h q a = absurd (omega arith)
  worth_exact (suc e) d v h q a =
      worth_deep (suc e) d v h q ∙ worth_next e v h.0 ∙ ap (λ z. z +ℤ amount Γ (pred p v)) (sym (worth_deep e d (tail Γ (pred p v)) h.1 (omega arith)))

  -- Each step adds at most A, and a register without a pred is at 0.
  pub worth_most : (A : ℕ) → ((e : ℕ) → e < Γ.count → amount Γ e ≤ℤ pos A) → (d v : ℕ) → worth Γ p d v ≤ℤ pos (d * A)
  unfolding worth
  worth_most A most zero v = omega lin
  worth_most A most (suc d) v = go (dec_lt (pred p v) Γ.count) (worth_most A most d (tail Γ (pred p v)))
    where
      go : Dec (pred p v < Γ.count) → worth Γ p d (tail Γ (pred p v)) ≤ℤ pos (d * A) → worth Γ p (suc d) v ≤ℤ pos (suc d * A)
      go (yes h) ih = let e = worth_next d v h in let m = most (pred p v) h in omega lin
      go (no h) ih = let e = worth_root (suc d) v (omega arith) in omega lin

  pub settled-length : length (settled Γ p) ≡ Γ.registers
  unfolding settled
  settled-length = simp table-length

  pub settled_at : (v : ℕ) → v < Γ.registers → at (settled Γ p) v ≡ worth Γ p Γ.registers v
  unfolding settled
  settled_at v b = table_at (worth Γ p Γ.registers) Γ.registers v (pos 0) b

module _ (Γ : Arrows) (p : List ℕ) (s : Sound Γ) (f : Forest Γ p) where
  forest_host : at (settled Γ p) 0 ≡ pos 0
  forest_host = settled_at Γ p 0 s.some ∙ worth_root Γ p Γ.registers 0 (host_no_pred Γ p s f)

  forest_exact : (v : ℕ) → v < Γ.registers → pred p v < Γ.count → at (settled Γ p) v ≡ (at (settled Γ p) (tail Γ (pred p v)) +ℤ amount Γ (pred p v))
  forest_exact v b h =
      let g = f.grounded v b in
      let short = deep_short Γ p s g.0 v b g.1 in
      settled_at Γ p v b ∙ worth_exact Γ p g.0 Γ.registers v g.1 (omega arith) h
      ∙ ap (λ z. z +ℤ amount Γ (pred p v)) (sym (settled_at Γ p (tail Γ (pred p v)) (s.leaves (pred p v) h)))

  -- Settling a grounded forest makes a tight row.
  pub forest_tight : Tight Γ (settled Γ p) p
  forest_tight = record {
    row-length = settled-length Γ p;
    forest = f;
    host = forest_host;
    exact = forest_exact;
  }

  -- a settled value is at most its depth times the greatest amount, and the depth is below the number of registers
  pub settled_most : (A : ℕ) → ((e : ℕ) → e < Γ.count → amount Γ e ≤ℤ pos A) → (v : ℕ) → v < Γ.registers → at (settled Γ p) v ≤ℤ pos ((Γ.registers - 1) * A)
  settled_most A most v b =
      let g = f.grounded v b in
      let short = deep_short Γ p s g.0 v b g.1 in
      let most-here = worth_most Γ p A most g.0 v in
      let same : at (settled Γ p) v ≡ worth Γ p g.0 v = settled_at Γ p v b ∙ worth_deep Γ p g.0 Γ.registers v g.1 (omega arith) in
      let deeper : g.0 ≤ Γ.registers - 1 = omega arith in
      omega (lin, mul-le-mul_right A deeper)

-- A tight row is the only one that its preds give: the settled row.
pub tight_settled : (Γ : Arrows) (x : List ℤ) (p : List ℕ) → Sound Γ → Tight Γ x p → x ≡ settled Γ p
tight_settled Γ x p s t = ext_get_or (pos 0) x (settled Γ p) (t.row-length ∙ sym (settled-length Γ p)) same
  where
    given : (d v : ℕ) → v < Γ.registers → Deep Γ p d v → at x v ≡ at (settled Γ p) v
    given zero zero b h = t.host ∙ sym (forest_tight Γ p s t.forest).host
    given zero (suc v) b h = absurd (omega (arith, t.forest.fed (suc v) (omega arith) b))
    given (suc d) v b h = t.exact v b h.0
        ∙ ap (λ z. z +ℤ amount Γ (pred p v)) (given d (tail Γ (pred p v)) (s.leaves (pred p v) h.0) h.1)
        ∙ sym ((forest_tight Γ p s t.forest).exact v b h.0)

    same : (v : ℕ) → v < length x → at x v ≡ at (settled Γ p) v
    same v q = let b : v < Γ.registers = omega (arith, t.row-length) in let g = t.forest.grounded v b in given g.0 v b g.1
