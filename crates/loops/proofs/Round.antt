-- A round keeps the books: after any number of its arrows each register is as it was, or raised to exactly what its noted pred asks, and
-- every arrow that had its turn is met by the new row. Rests on `Below`.
use mathlib.Core.Path.{◌≡◌, refl, sym, ap, ◌∙◌, subst}
use mathlib.Core.Logic.{◌≢◌, ◌⊎◌, inl, inr}
use mathlib.Core.Bool.{Bool, true, false, true≢false, false≢true}
use mathlib.Core.List.{List}
use Prim.Native.Nat.{ℕ, zero, suc, ◌≤◌, ◌<◌}
use native.Mathlib.Omega.{arith}
use native.Mathlib.Decide.{ℕ_discrete}
use lib.ListN.{length, length-set}
use lib.Seq.{get_or-set_same, get_or-set_other}
use lib.IntN.{ℤ, pos}
use lib.Signed.{lt_z, ◌≤ℤ◌, ◌<ℤ◌}
use Rattle.whole.proofs.Lin.{lin, plus}
use Rattle.loops.specs.Arrows.{Arrows, Sound, tail, head, amount}
use Rattle.loops.specs.Model.{at, pred, Turn, offered, lift, step, pass, entered, round}
use Rattle.loops.proofs.Below.{below_next}

-- register v is as it was
pub record Kept (a : List ℤ) (p : List ℕ) (t : Turn) (v : ℕ) : Type 0 where
  pub time : at t.row v ≡ at a v
  pub same : pred t.preds v ≡ pred p v

-- register v is raised to exactly what its noted pred asks, one of the first i arrows
pub record Lifted (Γ : Arrows) (a : List ℤ) (i : ℕ) (t : Turn) (v : ℕ) : Type 0 where
  pub higher : at a v <ℤ at t.row v
  pub noted : pred t.preds v < i
  pub into : head Γ (pred t.preds v) ≡ v
  pub exact : at t.row v ≡ offered Γ a (pred t.preds v)

-- how register v stands after the first i arrows
abbrev pub Stands : Arrows → List ℤ → List ℕ → ℕ → Turn → ℕ → Type 0
Stands Γ a p i t v = Kept a p t v ⊎ Lifted Γ a i t v

-- some register is higher than it was
pub record Rise (Γ : Arrows) (a row : List ℤ) : Type 0 where
  pub register : ℕ
  pub below : register < Γ.registers
  pub higher : at a register <ℤ at row register

-- nothing has changed
pub record Quiet (a : List ℤ) (p : List ℕ) (t : Turn) : Type 0 where
  pub row_same : t.row ≡ a
  pub preds_same : t.preds ≡ p

module _ (Γ : Arrows) (a : List ℤ) (p : List ℕ) where
  -- the books after the first i arrows
  pub record Books (i : ℕ) (t : Turn) : Type 0 where
    pub row-length : length t.row ≡ Γ.registers
    pub preds_length : length t.preds ≡ Γ.registers
    pub each : (v : ℕ) → v < Γ.registers → Stands Γ a p i t v
    pub asked : (e : ℕ) → e < i → offered Γ a e ≤ℤ at t.row (head Γ e)
    pub quiet : t.raised ≡ false → Quiet a p t
    pub loud : t.raised ≡ true → Rise Γ a t.row

  grows : (i : ℕ) (t : Turn) (v : ℕ) → Stands Γ a p i t v → at a v ≤ℤ at t.row v
  grows i t v (inl k) = let e = k.time in omega lin
  grows i t v (inr l) = let h = l.higher in omega lin

  -- no register falls
  pub books_grow : (i : ℕ) (t : Turn) → Books i t → (v : ℕ) → v < Γ.registers → at a v ≤ℤ at t.row v
  books_grow i t b v q = grows i t v (b.each v q)

  -- ---- an arrow that raises nothing

  later : (i : ℕ) (t : Turn) (v : ℕ) → Stands Γ a p i t v → Stands Γ a p (suc i) t v
  later i t v (inl k) = inl k
  later i t v (inr l) = inr (record { higher = l.higher; noted = omega (arith, l.noted); into = l.into; exact = l.exact })

  keeps : (i : ℕ) (t : Turn) → Books i t → offered Γ a i ≤ℤ at t.row (head Γ i) → Books (suc i) t
  keeps i t b h = record {
    row-length = b.row-length;
    preds_length = b.preds_length;
    each = λ v q. later i t v (b.each v q);
    asked = below_next (λ e. offered Γ a e ≤ℤ at t.row (head Γ e)) i b.asked h;
    quiet = b.quiet;
    loud = b.loud;
  }

  -- ---- an arrow that raises its head

  module _ (s : Sound Γ) (i : ℕ) (t : Turn) (q : i < Γ.count) (b : Books i t) (h : at t.row (head Γ i) <ℤ offered Γ a i) where
    row_there : at (lift Γ a i t).row (head Γ i) ≡ offered Γ a i
    row_there = get_or-set_same t.row (head Γ i) (offered Γ a i) (pos 0) (let r = s.reaches i q in omega (arith, b.row-length))

    row_other : (v : ℕ) → v ≢ head Γ i → at (lift Γ a i t).row v ≡ at t.row v
    row_other v n = get_or-set_other t.row (head Γ i) v (offered Γ a i) (pos 0) n

    pred_there : pred (lift Γ a i t).preds (head Γ i) ≡ i
    pred_there = get_or-set_same t.preds (head Γ i) i 0 (let r = s.reaches i q in omega (arith, b.preds_length))

    pred_other : (v : ℕ) → v ≢ head Γ i → pred (lift Γ a i t).preds v ≡ pred t.preds v
    pred_other v n = get_or-set_other t.preds (head Γ i) v i 0 n

    up : at a (head Γ i) <ℤ at (lift Γ a i t).row (head Γ i)
    up = let g = books_grow i t b (head Γ i) (s.reaches i q) in let e = row_there in omega lin

    lifted_there : Lifted Γ a (suc i) (lift Γ a i t) (head Γ i)
    lifted_there = record {
      higher = up;
      noted = rw pred_there (omega arith);
      into = ap (λ e. head Γ e) pred_there;
      exact = row_there ∙ ap (λ e. offered Γ a e) (sym pred_there);
    }

    each_other : (v : ℕ) → v ≢ head Γ i → Stands Γ a p i t v → Stands Γ a p (suc i) (lift Γ a i t) v
    each_other v n (inl k) = inl (record { time = row_other v n ∙ k.time; same = pred_other v n ∙ k.same })
    each_other v n (inr l) =
        let er = row_other v n in
        let ep = pred_other v n in
        inr (record {
          higher = rw er l.higher;
          noted = rw ep (omega (arith, l.noted));
          into = rw ep l.into;
          exact = er ∙ l.exact ∙ ap (λ e. offered Γ a e) (sym ep);
        })

    each_lifts : (v : ℕ) → Dec (v ≡ head Γ i) → Stands Γ a p i t v → Stands Γ a p (suc i) (lift Γ a i t) v
    each_lifts v (yes e) r = inr (subst (Lifted Γ a (suc i) (lift Γ a i t)) (sym e) lifted_there)
    each_lifts v (no n) r = each_other v n r

    asked_lifts : (e : ℕ) → offered Γ a e ≤ℤ at t.row (head Γ e) → Dec (head Γ e ≡ head Γ i) → offered Γ a e ≤ℤ at (lift Γ a i t).row (head Γ e)
    asked_lifts e o (yes n) =
        let old : offered Γ a e ≤ℤ at t.row (head Γ i) = subst (λ u. offered Γ a e ≤ℤ at t.row u) n o in
        let new = row_there in
        subst (λ u. offered Γ a e ≤ℤ at (lift Γ a i t).row u) (sym n) (omega lin)
    asked_lifts e o (no n) = rw (row_other (head Γ e) n) o

    lifts : Books (suc i) (lift Γ a i t)
    lifts = record {
      row-length = length-set t.row (head Γ i) (offered Γ a i) ∙ b.row-length;
      preds_length = length-set t.preds (head Γ i) i ∙ b.preds_length;
      each = λ v r. each_lifts v (ℕ_discrete v (head Γ i)) (b.each v r);
      asked = below_next (λ e. offered Γ a e ≤ℤ at (lift Γ a i t).row (head Γ e)) i
          (λ e r. asked_lifts e (b.asked e r) (ℕ_discrete (head Γ e) (head Γ i))) (rw row_there (omega lin));
      quiet = λ e. absurd (true≢false e);
      loud = λ e. record { register = head Γ i; below = s.reaches i q; higher = up };
    }

  -- ---- all arrows

  -- One arrow keeps the books: it raises its head to exactly what it asks and is noted there, or what it asks is met already.
  step_books : Sound Γ → (i : ℕ) (t : Turn) → i < Γ.count → Books i t → Books (suc i) (step Γ a i t)
  unfolding step
  step_books s i t q b = go (lt_z (at t.row (head Γ i)) (offered Γ a i)) refl
    where
      go : (f : Bool) → lt_z (at t.row (head Γ i)) (offered Γ a i) ≡ f → Books (suc i) (elim f as (λ x. Turn) [ true ↦ lift Γ a i t | false ↦ t ])
      go true e = lifts s i t q b (omega (lin, plus (at a (tail Γ i)) (amount Γ i)))
      go false e = keeps i t b (omega (lin, plus (at a (tail Γ i)) (amount Γ i)))

  start_books : length a ≡ Γ.registers → length p ≡ Γ.registers → Books 0 (entered a p)
  start_books la lp = record {
    row-length = la;
    preds_length = lp;
    each = λ v q. inl (record { time = refl; same = refl });
    asked = λ e q. absurd (omega arith);
    quiet = λ e. record { row_same = refl; preds_same = refl };
    loud = λ e. absurd (false≢true e);
  }

  pass_books : Sound Γ → length a ≡ Γ.registers → length p ≡ Γ.registers → (i : ℕ) → i ≤ Γ.count → Books i (pass Γ a i (entered a p))
  unfolding pass
  pass_books s la lp zero q = start_books la lp
  pass_books s la lp (suc i) q = step_books s i (pass Γ a i (entered a p)) q (pass_books s la lp i (omega arith))

  pub round_books : Sound Γ → length a ≡ Γ.registers → length p ≡ Γ.registers → Books Γ.count (round Γ a p)
  unfolding round
  round_books s la lp = pass_books s la lp Γ.count (omega arith)
