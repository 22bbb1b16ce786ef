-- The laws of a family: a longer period takes no schedule away, a loop that contradicts itself does so at every shorter period, and a
-- schedule of the fixed arrows is one of all arrows at some period. So the climb's certificate: a loop at the period before shows that no
-- smaller period has a schedule. Rests on `Webs`.
use mathlib.Core.Path.{◌≡◌, refl, subst}
use mathlib.Core.Logic.{◌⊎◌, inl, inr}
use mathlib.Core.List.{List, [], ◌∷◌}
use Prim.Native.Nat.{ℕ, zero, suc, ◌+◌, ◌-◌, ◌≤◌, ◌<◌}
use native.Mathlib.Omega.{arith}
use lib.IntN.{ℤ, ◌+ℤ◌, ◌-ℤ◌}
use lib.Signed.{◌≤ℤ◌}
use Rattle.whole.specs.Sums.{total}
use Rattle.whole.proofs.Lin.{lin, negs}
use Rattle.paper.specs.Chains.{All, Listed}
use Rattle.paper.proofs.LoopLaws.{all_map}
use Rattle.loops.specs.Webs.{Schedule, Scheduled, Least, Contradicts, Within}
use Rattle.loops.specs.Family.{Family, Lawful, Enumerates, web_of, web_at, fixed_graph, Refutes, Never, NoneTo, Best, ShownFrom, Always}
use Rattle.loops.proofs.Below.{below_next}
use Rattle.loops.proofs.Webs.{schedule_no_loop, within_schedule}

-- amounts that are no higher add up to no more
totals_fall : {E : Type 0} (f g : E → ℤ) → ((e : E) → f e ≤ℤ g e) → (l : List E) → total f l ≤ℤ total g l
totals_fall f g h [] = omega lin
totals_fall f g h (e ∷ l) = let first = h e in let rest = totals_fall f g h l in omega lin

module _ {E : Type 0} (F : Family E) (law : Lawful F) where
  -- ---- longer and shorter periods

  later_within : (P Q : ℕ) → P ≤ Q → Within (web_at F Q) (web_at F P) (λ e. e)
  later_within P Q h = record { here = λ e b. b; tails = λ e b. refl; heads = λ e b. refl; asked = λ e b. law.falls P Q h e }

  -- a schedule at P is one at every longer period
  pub schedule_later : (P Q : ℕ) → P ≤ Q → (x : ℕ → ℤ) → Schedule (web_at F P) x → Schedule (web_at F Q) x
  schedule_later P Q h = within_schedule (web_at F Q) (web_at F P) (λ e. e) (later_within P Q h)

  pub scheduled_later : (P Q : ℕ) → P ≤ Q → Scheduled (web_at F P) → Scheduled (web_at F Q)
  scheduled_later P Q h s = (s.0, schedule_later P Q h s.0 s.1)

  -- a loop that contradicts itself at Q does so at every shorter period
  contradicts_sooner : (P Q : ℕ) → P ≤ Q → (l : List E) → Contradicts (web_at F Q) l → Contradicts (web_at F P) l
  contradicts_sooner P Q h l c =
      let over = c.above in
      let more = totals_fall (F.weigh Q) (F.weigh P) (law.falls P Q h) l in
      record { loop = c.loop; exist = c.exist; above = omega lin }

  pub refutes_sooner : (P Q : ℕ) → P ≤ Q → (l : List E) → Refutes F Q l → Refutes F P l
  refutes_sooner P Q h l r = record { contradicts = contradicts_sooner P Q h l r.contradicts; listed = r.listed }

  -- so no period up to Q has a schedule
  pub none_up_to : (P Q : ℕ) → P ≤ Q → (l : List E) → Contradicts (web_at F Q) l → Scheduled (web_at F P) → ⊥
  none_up_to P Q h l c s = schedule_no_loop (web_at F P) s.0 l s.1 (contradicts_sooner P Q h l c)

  pub refutes_none_to : (ceiling : ℕ) (l : List E) → Refutes F ceiling l → NoneTo F ceiling
  refutes_none_to ceiling l r P h = none_up_to P ceiling h l r.contradicts

  -- The end of the climb: the loop kept contradicts itself at P - 1, so no smaller period has a schedule.
  pub climb_ends : (floor ceiling P : ℕ) (x : ℕ → ℤ) (l : List E) → floor ≤ P → P ≤ ceiling → Least (web_at F P) x → ShownFrom F floor P l → Best F floor ceiling P x
  climb_ends floor ceiling P x l a b s w = record { from_floor = a; to_ceiling = b; schedule = s.schedule; smallest = smallest l w; least = s.least }
    where
      smallest : (l : List E) → ShownFrom F floor P l → (Q : ℕ) → floor ≤ Q → Q < P → (y : ℕ → ℤ) → Schedule (web_at F Q) y → ⊥
      smallest [] w Q f h y t = omega arith
      smallest (e ∷ l) w Q f h y t = none_up_to Q (P - 1) (omega arith) (e ∷ l) w.1.contradicts (y, t)

  -- ---- the fixed arrows

  -- fixed arrows add up to the same at every period
  fixed_totals : (P Q : ℕ) (l : List E) → All F.Fixed l → total (F.weigh P) l ≡ total (F.weigh Q) l
  fixed_totals P Q [] h = refl
  fixed_totals P Q (e ∷ l) h = rw (law.stays P Q e h.0, fixed_totals P Q l h.1)

  -- so a loop of them that contradicts itself at one period does so at all
  pub always : (P : ℕ) (l : List E) → Refutes F P l → All F.Fixed l → Always F l
  always P l r fixed = record {
    fixed = fixed;
    refutes = λ Q.
        let over = r.contradicts.above in
        let same = fixed_totals P Q l fixed in
        record { contradicts = record { loop = r.contradicts.loop; exist = r.contradicts.exist; above = omega lin }; listed = r.listed };
  }

  pub fixed_refutes : (l : List E) → Contradicts (web_of (fixed_graph F) (F.weigh 0)) l → Listed F.graph.leaves F.graph.reaches l → Always F l
  fixed_refutes l c s =
      always 0 l (record { contradicts = record { loop = c.loop; exist = all_map (λ e h. h.0) l c.exist; above = c.above }; listed = s })
      (all_map (λ e h. h.1) l c.exist)

  pub always_never : (l : List E) → Always F l → Never F
  always_never l a P s = schedule_no_loop (web_at F P) s.0 l s.1 (a.refutes P).contradicts

  module _ (x : ℕ → ℤ) (s : Schedule (web_of (fixed_graph F) (F.weigh 0)) x) where
    -- x meets arrow e at a period
    abbrev MeetsAt : ℕ → E → Type 0
    MeetsAt P e = (x (F.graph.leaves e) +ℤ F.weigh P e) ≤ℤ x (F.graph.reaches e)

    later_meets : (P Q : ℕ) → P ≤ Q → (e : E) → MeetsAt P e → MeetsAt Q e
    later_meets P Q h e m = let less = law.falls P Q h e in omega lin

    -- a fixed arrow is met at 0 and so at every period; the amount of any other falls to what x leaves room for
    meets_some : (e : E) → F.graph.Here e → (P : ℕ) × MeetsAt P e
    meets_some e h = go (law.sinks e h)
      where
        go : F.Fixed e ⊎ ((b : ℤ) → (P : ℕ) × (F.weigh P e ≤ℤ b)) → (P : ℕ) × MeetsAt P e
        go (inl f) = (0, s.meets e (h, f))
        go (inr sinks) =
            let (P, low) = sinks (x (F.graph.reaches e) -ℤ x (F.graph.leaves e)) in
            (P, omega (lin, negs (x (F.graph.leaves e))))

    -- at some period the arrows at all places below k are met
    meets_below : (name : ℕ → E) (k : ℕ) → ((e : ℕ) → e < k → F.graph.Here (name e)) → (P : ℕ) × ((e : ℕ) → e < k → MeetsAt P (name e))
    meets_below name zero here = (0, λ e h. absurd (omega arith))
    meets_below name (suc k) here =
        let (P, all) = meets_below name k (λ e h. here e (omega arith)) in
        let (Q, last) = meets_some (name k) (here k (omega arith)) in
        (P + Q, below_next (λ e. MeetsAt (P + Q) (name e)) k (λ e h. later_meets P (P + Q) (omega arith) (name e) (all e h)) (later_meets Q (P + Q) (omega arith) (name k) last))

    -- A schedule of the fixed arrows is one of all arrows at some period: there are only so many, and each is met from some period on.
    pub fixed_scheduled : (name : ℕ → E) (count : ℕ) → Enumerates F.graph name count → (P : ℕ) × Schedule (web_at F P) x
    fixed_scheduled name count names =
        let (P, all) = meets_below name count names.here in
        (P, record { host = s.host; meets = λ r h. let (e, b, is) = names.found r h in subst (MeetsAt P) is (all e b) })
