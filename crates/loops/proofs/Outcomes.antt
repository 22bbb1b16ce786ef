-- Whether there is a schedule, for every family that is laid out: at a period, at any period at all, and which is the smallest. Each time the
-- model is run on the arrows; it ends with a least schedule or with a loop. Rests on `Relax`, `Laid` and `Families`.
use mathlib.Core.Path.{◌≡◌, refl, ap, ◌∙◌}
use mathlib.Core.Logic.{◌⊎◌, inl, inr, ◌↔◌}
use mathlib.Core.List.{List, [], ◌∷◌, map}
use Prim.Native.Nat.{ℕ, zero, suc, ◌+◌, ◌-◌, ◌≤◌, ◌<◌}
use native.Mathlib.Omega.{arith}
use native.Mathlib.Decide.{dec_lt, dec_le}
use lib.IntN.{ℤ, pos}
use Rattle.whole.proofs.Lin.{lin, negs, below}
use Rattle.paper.specs.Chains.{Listed}
use Rattle.loops.specs.Arrows.{Arrows, Sound, Lows, Highs}
use Rattle.loops.specs.Webs.{Scheduled, Least, Contradicts}
use Rattle.loops.specs.Family.{Graph, Family, Lawful, Enumerates, Framed, Lays, LaidOut, web_of, web_at, fixed_graph, Refutes, Always, Never, NoneTo, Best, ShownFrom}
use Rattle.loops.specs.Model.{at}
use Rattle.loops.proofs.Greatest.{greatest, greatest_over}
use Rattle.loops.proofs.Relax.{Either, schedule_or_loop}
use Rattle.loops.proofs.Webs.{schedule_no_loop}
use Rattle.loops.proofs.Laid.{arrows_of, arrows_of_lays, laid_least, laid_contradicts, laid_listed}
use Rattle.loops.proofs.Families.{scheduled_later, none_up_to, refutes_none_to, climb_ends, fixed_refutes, fixed_scheduled, always_never}

-- ---- a framed graph in memory is what a relaxation asks for

module _ {E : Type 0} (G : Graph E) (f : Framed G) (name : ℕ → E) (w : E → ℤ) (Γ : Arrows) (names : Enumerates G name Γ.count) (y : Lays G name w Γ) where
  pub framed_sound : Sound Γ
  framed_sound = record {
    some = rw y.registers f.some;
    leaves = λ e h. rw (y.registers, y.tails e h) (f.leaves_below (name e) (names.here e h));
    reaches = λ e h. rw (y.registers, y.heads e h) (f.reaches_below (name e) (names.here e h));
  }

  -- the low arrow of v stands at any place that is named after it
  pub framed_lows : (low : ℕ → ℕ) → ((v : ℕ) → 0 < v → v < G.registers → (low v < Γ.count) × (name (low v) ≡ f.low v)) → Lows Γ low
  framed_lows low there =
      let same = y.registers in
      record {
        exists = λ v z b. (there v z (omega arith)).0;
        leaves = λ v z b. let (h, is) = there v z (omega arith) in y.tails (low v) h ∙ ap G.leaves is ∙ f.low_leaves v z (omega arith);
        reaches = λ v z b. let (h, is) = there v z (omega arith) in y.heads (low v) h ∙ ap G.reaches is ∙ f.low_reaches v z (omega arith);
      }

  pub framed_highs : (H : ℕ) → ((v : ℕ) → 0 < v → v < G.registers → below (w (f.high v)) ≤ H) → Highs Γ H
  framed_highs H most v z b =
      let same = y.registers in
      let (e, h, is) = names.found (f.high v) (f.high_here v z (omega arith)) in
      let m = most v z (omega arith) in
      let weighs = y.amounts e h ∙ ap w is in
      record {
        place = e;
        exists = h;
        leaves = y.tails e h ∙ ap G.leaves is ∙ f.high_leaves v z (omega arith);
        reaches = y.heads e h ∙ ap G.reaches is ∙ f.high_reaches v z (omega arith);
        most = omega (lin, negs (pos H));
      }

-- ---- the model, run on a framed graph

-- a least schedule, or a loop that contradicts itself, listed from its lowest register
abbrev LeastOrLoop : {E : Type 0} → Graph E → (E → ℤ) → Type 0
LeastOrLoop {E} G w = ((x : ℕ → ℤ) × Least (web_of G w) x) ⊎ ((l : List E) × Contradicts (web_of G w) l × Listed G.leaves G.reaches l)

module _ {E : Type 0} (G : Graph E) (f : Framed G) (name : ℕ → E) (count : ℕ) (names : Enumerates G name count) (w : E → ℤ) where
  abbrev Γ : Arrows
  Γ = arrows_of G name count w

  abbrev y : Lays G name w Γ
  y = arrows_of_lays G name count w

  -- a place of the low arrow of v, where v has one
  low_at : (v : ℕ) → Dec (0 < v) → Dec (v < G.registers) → ℕ
  low_at v (yes z) (yes b) = (names.found (f.low v) (f.low_here v z b)).0
  low_at v (yes z) (no b) = 0
  low_at v (no z) b = 0

  low : ℕ → ℕ
  low v = low_at v (dec_lt 0 v) (dec_lt v G.registers)

  low_there : (v : ℕ) → 0 < v → v < G.registers → (low v < count) × (name (low v) ≡ f.low v)
  unfolding low low_at
  low_there v z b = go (dec_lt 0 v) (dec_lt v G.registers)
    where
      go : (p : Dec (0 < v)) (q : Dec (v < G.registers)) → (low_at v p q < count) × (name (low_at v p q) ≡ f.low v)
      go (yes z') (yes b') = let r = names.found (f.low v) (f.low_here v z' b') in (r.1, r.2)
      go (yes z') (no n) = absurd (n b)
      go (no n) q = absurd (n z)

  -- a bound of all times: what the high arrows ask
  highest : ℕ
  highest = greatest (λ v. below (w (f.high v))) G.registers

  highest_over : (v : ℕ) → 0 < v → v < G.registers → below (w (f.high v)) ≤ highest
  unfolding highest
  highest_over v z b = greatest_over (λ v. below (w (f.high v))) G.registers v b

  least_or_loop : LeastOrLoop G w
  least_or_loop = go (schedule_or_loop Γ low highest (framed_sound G f name w Γ names y) (framed_lows G f name w Γ names y low low_there) (framed_highs G f name w Γ names y highest highest_over))
    where
      go : Either Γ → LeastOrLoop G w
      go (inl r) = inl (at r.0, laid_least G name w Γ names y (at r.0) r.1)
      go (inr c) = inr (map name c.0, laid_contradicts G name w Γ names y c.0 c.1, laid_listed G name w Γ names y c.0 c.1 c.2)

-- ---- a family that is laid out

module _ {E : Type 0} (F : Family E) (law : Lawful F) (lay : LaidOut F) where
  -- At a period there is a least schedule, or a loop that contradicts itself.
  pub least_or_refutes : (P : ℕ) → ((x : ℕ → ℤ) × Least (web_at F P) x) ⊎ ((l : List E) × Refutes F P l)
  least_or_refutes P = go (least_or_loop F.graph lay.framed lay.name lay.count lay.enumerates (F.weigh P))
    where
      go : LeastOrLoop F.graph (F.weigh P) → ((x : ℕ → ℤ) × Least (web_at F P) x) ⊎ ((l : List E) × Refutes F P l)
      go (inl r) = inl r
      go (inr c) = inr (c.0, record { contradicts = c.1; listed = c.2 })

  -- Some period has a schedule, or a loop of fixed arrows contradicts itself: relax the fixed arrows alone.
  some_or_always : ((P : ℕ) × Scheduled (web_at F P)) ⊎ ((l : List E) × Always F l)
  some_or_always = go (least_or_loop (fixed_graph F) lay.fixed_framed lay.fixed_name lay.fixed_count lay.fixed_enumerates (F.weigh 0))
    where
      go : LeastOrLoop (fixed_graph F) (F.weigh 0) → ((P : ℕ) × Scheduled (web_at F P)) ⊎ ((l : List E) × Always F l)
      go (inl r) = let s = fixed_scheduled F law r.0 r.1.schedule lay.name lay.count lay.enumerates in inl (s.0, (r.0, s.1))
      go (inr c) = inr (c.0, fixed_refutes F law c.0 c.1 c.2)

  -- A schedule exists exactly when no loop contradicts itself.
  pub scheduled_iff : (P : ℕ) → Scheduled (web_at F P) ↔ ((l : List E) → Contradicts (web_at F P) l → ⊥)
  scheduled_iff P = (λ s l c. schedule_no_loop (web_at F P) s.0 l s.1 c, λ none. go none (least_or_refutes P))
    where
      go : ((l : List E) → Contradicts (web_at F P) l → ⊥) → ((x : ℕ → ℤ) × Least (web_at F P) x) ⊎ ((l : List E) × Refutes F P l) → Scheduled (web_at F P)
      go none (inl s) = (s.0, s.1.schedule)
      go none (inr r) = absurd (none r.0 r.1.contradicts)

  -- No period has a schedule exactly when a loop of fixed arrows contradicts itself.
  pub never_iff : Never F ↔ ((l : List E) × Always F l)
  never_iff = (λ none. go none some_or_always, λ a. always_never F law a.0 a.1)
    where
      go : Never F → ((P : ℕ) × Scheduled (web_at F P)) ⊎ ((l : List E) × Always F l) → (l : List E) × Always F l
      go none (inl s) = absurd (none s.0 s.1)
      go none (inr a) = a

  -- ---- the smallest period, by counting up from the floor

  module _ (floor : ℕ) where
    -- a period with its least schedule, and why there is no smaller one
    abbrev Reached : Type 0
    Reached = (P : ℕ) × (floor ≤ P) × ((x : ℕ → ℤ) × Least (web_at F P) x) × ((l : List E) × ShownFrom F floor P l)

    -- a loop has an arrow
    loop_shows : (P : ℕ) (l : List E) → floor ≤ P → Refutes F P l → ShownFrom F floor (suc P) l
    loop_shows P [] a r = absurd r.contradicts.loop
    loop_shows P (e ∷ l) a r = let before : suc P - 1 ≡ P = omega arith in (omega arith, rw before r)

    -- A period without a schedule shows a loop, and then the next one is tried; at the latest, P + k has a schedule.
    counted_up : (k P : ℕ) → floor ≤ P → (l : List E) → ShownFrom F floor P l → Scheduled (web_at F (P + k)) → Reached
    counted_up zero P a l w s = go (least_or_refutes P)
      where
        go : ((x : ℕ → ℤ) × Least (web_at F P) x) ⊎ ((m : List E) × Refutes F P m) → Reached
        go (inl t) = (P, a, t, (l, w))
        go (inr r) = absurd (none_up_to F law (P + 0) P (omega arith) r.0 r.1.contradicts s)
    counted_up (suc k) P a l w s =
        go (least_or_refutes P)
        (λ m r. counted_up k (suc P) (omega arith) m (loop_shows P m a r) (scheduled_later F law (P + suc k) (suc P + k) (omega arith) s))
      where
        go : ((x : ℕ → ℤ) × Least (web_at F P) x) ⊎ ((m : List E) × Refutes F P m) → ((m : List E) → Refutes F P m → Reached) → Reached
        go (inl t) on = (P, a, t, (l, w))
        go (inr r) on = on r.0 r.1

    smallest_period : (Q : ℕ) → Scheduled (web_at F Q) → Reached
    smallest_period Q s = counted_up Q floor (omega arith) [] refl (scheduled_later F law Q (floor + Q) (omega arith) s)

    -- No period has a schedule, or some have and none up to the ceiling, or there is a smallest one, with its least schedule.
    pub outcome : (ceiling : ℕ) → floor ≤ ceiling
        → Never F ⊎ (((Q : ℕ) × Scheduled (web_at F Q)) × NoneTo F ceiling) ⊎ ((P : ℕ) × (x : ℕ → ℤ) × Best F floor ceiling P x)
    outcome ceiling from = go some_or_always
      where
        above_ceiling : (P : ℕ) (l : List E) → ceiling < P → ShownFrom F floor P l → NoneTo F ceiling
        above_ceiling P [] h w = absurd (omega arith)
        above_ceiling P (e ∷ l) h w = λ Q b. refutes_none_to F law (P - 1) (e ∷ l) w.1 Q (omega arith)

        end : ((Q : ℕ) × Scheduled (web_at F Q)) → (r : Reached) → Dec (r.0 ≤ ceiling)
            → (((Q : ℕ) × Scheduled (web_at F Q)) × NoneTo F ceiling) ⊎ ((P : ℕ) × (x : ℕ → ℤ) × Best F floor ceiling P x)
        end s (P, a, t, w) (yes b) = inr (P, t.0, climb_ends F law floor ceiling P t.0 w.0 a b t.1 w.1)
        end s (P, a, t, w) (no b) = inl (s, above_ceiling P w.0 (omega arith) w.1)

        go : ((P : ℕ) × Scheduled (web_at F P)) ⊎ ((l : List E) × Always F l)
            → Never F ⊎ (((Q : ℕ) × Scheduled (web_at F Q)) × NoneTo F ceiling) ⊎ ((P : ℕ) × (x : ℕ → ℤ) × Best F floor ceiling P x)
        go (inl s) = let r = smallest_period s.0 s.1 in inr (end s r (dec_le r.0 ceiling))
        go (inr a) = inl (always_never F law a.0 a.1)
