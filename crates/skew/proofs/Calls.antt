-- Which outcome a call of the scheduler has when, whatever its network N is and whatever rows t come before number 7 in its table: a refusal
-- exactly when a row of t gives it; and where none applies, number 7 exactly when there is too little room; with room enough, an answer
-- exactly when there is one, number 8 exactly when no period has a schedule, number 9 exactly when some have and none up to the ceiling.
-- `Numbers` and `Demands` say it of a file. Rests on the laws of tables and on the one law of refusals.
use Rattle.std.specs.Prelude.{Ok, Err}
use mathlib.Core.Path.{◌≡◌, refl, ap, sym}
use mathlib.Core.Logic.{◌↔◌, ◌⊎◌, inl, inr}
use mathlib.Core.List.{List, [], ◌∷◌, ◌++◌}
use Prim.Native.Nat.{ℕ, ◌+◌, ◌*◌, ◌≤◌, ◌<◌}
use native.Mathlib.Omega.{arith}
use lib.IntN.{ℤ}
use lib.ListN.{length}
use borrow.Author.Tests.{lt-leb, leb-false}
use Rattle.paper.specs.declared.Refusal.{Refusal}
use Rattle.paper.specs.declared.Unanswered.TheVariants as unanswered
use Rattle.paper.specs.Network.{Network}
use Rattle.paper.specs.Schedule.{Answer}
use Rattle.paper.specs.Table.{Row, Given, Clear}
use Rattle.paper.specs.Refusals.{Scheduled, NoPeriod, NoneToCeiling, schedule_rows}
use Rattle.paper.specs.Numbers.{Outcome, refusal_number, refusal_place, outcome_number, outcome_place}
use Rattle.paper.specs.Outcome.{Result}
use Rattle.paper.proofs.TableLaws.{ByRow, OnePlaces, given_one, given_append, given_before, given_row, by_row_given, one_places_append, schedule_one_place}
use Rattle.paper.proofs.NumberLaws.{none, Refuses, refusal_in, refusal_apart, refusal_above, outcome_known}

-- where no row of the first part applies, the second part gives the number
pub given_rest : (t s : List Row) (n p : ℕ) → Clear t → Given (t ++ s) n p → Given s n p
given_rest [] s n p c g = g
given_rest (r ∷ t) s n p c (inl g) = absurd (c.0 p g.1)
given_rest (r ∷ t) s n p c (inr g) = given_rest t s n p c.1 g.1

module _ (N : Network) (room : ℕ) where
  -- the rows from 7 on give no refusal's number
  none_refused : (x : Refusal) (p : ℕ) → Given (schedule_rows N room) (refusal_number x) p → ⊥
  none_refused x p (inl g) = refusal_apart x 7 (λ p. refl) (sym g.0)
  none_refused x p (inr (s, inl g)) = refusal_apart x 8 (λ p. refl) (sym g.0)
  none_refused x p (inr (s, inr (t, inl g))) = refusal_apart x 9 (λ p. refl) (sym g.0)
  none_refused x p (inr (s, inr (t, inr (u, g)))) = refusal_apart x 0 (λ p. refl) (sym g.0)

  -- RULES 6.2: "there is a schedule at some period, but at none up to the ceiling": what number 9 says
  pub given_9 : (p : ℕ) → Given (schedule_rows N room) 9 p → NoneToCeiling N
  given_9 p (inl g) = let e = g.0 in absurd (omega arith)
  given_9 p (inr (s, inl g)) = let e = g.0 in absurd (omega arith)
  given_9 p (inr (s, inr (t, inl g))) = g.1.0
  given_9 p (inr (s, inr (t, inr (u, g)))) = let e = g.0 in absurd (omega arith)

module _ (t : List Row) {N : Network} {before after : List ℕ} {o : Outcome} (r : Result N (t ++ schedule_rows N (length before)) before o after) where
  abbrev rows : List Row
  rows = schedule_rows N (length before)

  abbrev ByFirst : Type 0
  ByFirst = ByRow t (outcome_number o) (outcome_place o)

  abbrev ByRest : Type 0
  ByRest = Given rows (outcome_number o) (outcome_place o)

  parted : ByFirst ⊎ (Clear t × ByRest)
  parted = given_append t rows (outcome_number o) (outcome_place o) r.given

  -- where no row of t applies, the number comes from the rows from 7 on
  pub rest_given : Clear t → ByRest
  rest_given c = given_rest t rows (outcome_number o) (outcome_place o) c r.given

  -- a refusal is given exactly when the rows that come before 7 give its number and place (RULES 6.3)
  pub refused_iff : OnePlaces t → (x : Refusal) → (o ≡ Err (unanswered.Refused x)) ↔ Given t (refusal_number x) (refusal_place x)
  refused_iff places x = (to parted, from)
    where
      to : ByFirst ⊎ (Clear t × ByRest) → o ≡ Err (unanswered.Refused x) → Given t (refusal_number x) (refusal_place x)
      to (inl b) e = rw e at (by_row_given t (outcome_number o) (outcome_place o) b)
      to (inr c) e = absurd (none_refused N (length before) x (refusal_place x) (rw e at c.1))

      from : Given t (refusal_number x) (refusal_place x) → o ≡ Err (unanswered.Refused x)
      from g =
          let b = given_row t (refusal_number x) (refusal_place x) (refusal_above x) g in
          let h = given_before t rows (refusal_number x) (refusal_place x) b in
          let both = one_places_append t rows places (schedule_one_place N (length before)) in
          let one = given_one (t ++ rows) both _ _ _ _ r.given h in
          outcome_known o (Err (unanswered.Refused x)) one.0 one.1

  -- RULES 6.4: "accepted when none of the refusals that stand before 7 applies": exactly when the outcome is none
  pub clear_iff : Refuses t → Clear t ↔ ((x : Refusal) → o ≡ Err (unanswered.Refused x) → ⊥)
  clear_iff refuses = (to, λ h. from h parted)
    where
      to : Clear t → (x : Refusal) → o ≡ Err (unanswered.Refused x) → ⊥
      to c x e = none_refused N (length before) x (refusal_place x) (rw e at (rest_given c))

      from : ((x : Refusal) → o ≡ Err (unanswered.Refused x) → ⊥) → ByFirst ⊎ (Clear t × ByRest) → Clear t
      from h (inl b) = let x = refuses (outcome_number o) (outcome_place o) b in absurd (h x.0 (outcome_known o (Err (unanswered.Refused x.0)) x.1 x.2))
      from h (inr c) = c.0

  -- in particular where the outcome is no refusal that comes before 7
  pub clear_beyond : Refuses t → refusal_in o ≡ none → Clear t
  clear_beyond refuses e =
      (clear_iff refuses).1 (λ x d. let f = ap refusal_in d in let z : ◌≡◌ {A = ℕ} 0 1 = cc in omega arith)

  module _ (clear : Clear t) where
    -- 7 (RULES 6.2) is given exactly when there is room below 14 + 16n
    pub room_iff : (o ≡ Err unanswered.Room) ↔ (length before < 14 + 16 * N.registers)
    room_iff = (to (rest_given clear), from (rest_given clear))
      where
        to : ByRest → o ≡ Err unanswered.Room → length before < 14 + 16 * N.registers
        to (inl g) e = leb-false _ _ g.1.0
        to (inr (s, inl g)) e = let n = rw e at g.0 in absurd (omega arith)
        to (inr (s, inr (t, inl g))) e = let n = rw e at g.0 in absurd (omega arith)
        to (inr (s, inr (t, inr (u, g)))) e = let n = rw e at g.0 in absurd (omega arith)

        from : ByRest → length before < 14 + 16 * N.registers → o ≡ Err unanswered.Room
        from (inl g) h = outcome_known o (Err unanswered.Room) g.0 g.1.1
        from (inr g) h = absurd (g.0 0 (lt-leb _ _ h, refl))

    -- With room enough: no period has a schedule, or some have and none up to the ceiling, or neither.
    abbrev pub Parted : Type 0
    Parted =
        ((o ≡ Err unanswered.NoPeriod) × NoPeriod N)
        ⊎ ((o ≡ Err unanswered.NoneToCeiling) × NoneToCeiling N)
        ⊎ (o ≡ Ok tt)

    module _ (enough : 14 + 16 * N.registers ≤ length before) (floor : 1 ≤ N.floor) where
      roomy : ByRest → Parted
      roomy (inl g) = absurd (omega (arith, leb-false (14 + 16 * N.registers) (length before) g.1.0))
      roomy (inr (s, inl g)) = inl (outcome_known o (Err unanswered.NoPeriod) g.0 g.1.1, g.1.0)
      roomy (inr (s, inr (t, inl g))) = inr (inl (outcome_known o (Err unanswered.NoneToCeiling) g.0 g.1.1, g.1.0))
      roomy (inr (s, inr (t, inr (u, g)))) = inr (inr (outcome_known o (Ok tt) g.0 g.1))

      -- where there is an answer, one is returned, for number 8 and number 9 deny it
      answer_returned : (P : ℕ) (x : ℕ → ℤ) → Answer N P x → o ≡ Ok tt
      answer_returned P x h = go (roomy (rest_given clear))
        where
          from : 1 ≤ P
          from = omega (arith, h.from_floor)

          go : Parted → o ≡ Ok tt
          go (inl g) = absurd (g.1 P from (x, h.schedule))
          go (inr (inl g)) = absurd (g.1.none P from h.to_ceiling (x, h.schedule))
          go (inr (inr e)) = e

      -- 0 is given exactly when there is an answer (RULES 6.8)
      pub answered_iff : (o ≡ Ok tt) ↔ ((P : ℕ) × (x : ℕ → ℤ) × Answer N P x)
      answered_iff = (given, λ w. answer_returned w.0 w.1 w.2)
        where
          given : o ≡ Ok tt → (P : ℕ) × (x : ℕ → ℤ) × Answer N P x
          given e =
              let s : Result N (t ++ rows) before (Ok tt) after = rw e at r in
              (s.output.period, s.output.latency, s.output.answer)

      -- unanswered exactly when no period from floor to ceiling has a schedule
      pub unanswered_iff : (o ≡ Ok tt → ⊥) ↔ ((P : ℕ) → N.floor ≤ P → P ≤ N.ceiling → Scheduled N P → ⊥)
      unanswered_iff = (
        (λ un P low high s. go un P low high s (roomy (rest_given clear))),
        (λ none e. let w = answered_iff.0 e in none w.0 w.2.from_floor w.2.to_ceiling (w.1, w.2.schedule)),
      )
        where
          go : (o ≡ Ok tt → ⊥) → (P : ℕ) → N.floor ≤ P → P ≤ N.ceiling → Scheduled N P → Parted → ⊥
          go un P low high s (inl g) = g.1 P (omega arith) s
          go un P low high s (inr (inl g)) = g.1.none P (omega arith) high s
          go un P low high s (inr (inr e)) = un e

      -- 8 (RULES 6.2) is given exactly when there is no schedule at any whole period, however large
      pub no_period_iff : (o ≡ Err unanswered.NoPeriod) ↔ NoPeriod N
      no_period_iff = (to (roomy (rest_given clear)), from (roomy (rest_given clear)))
        where
          to : Parted → o ≡ Err unanswered.NoPeriod → NoPeriod N
          to (inl g) e = g.1
          to (inr (inl g)) e = let d = g.0 in let z : ◌≡◌ {A = ℕ} 0 1 = cc in absurd (omega arith)
          to (inr (inr d)) e = let z : ◌≡◌ {A = ℕ} 0 1 = cc in absurd (omega arith)

          from : Parted → NoPeriod N → o ≡ Err unanswered.NoPeriod
          from (inl g) n = g.0
          from (inr (inl g)) n = let s = g.1.some in absurd (n s.0 s.1 s.2)
          from (inr (inr d)) n =
              let w = answered_iff.0 d in
              absurd (n w.0 (omega (arith, w.2.from_floor)) (w.1, w.2.schedule))

      -- 9 (RULES 6.2) is given exactly when there is a schedule at some period, but at none up to the ceiling
      pub none_to_ceiling_iff : (o ≡ Err unanswered.NoneToCeiling) ↔ NoneToCeiling N
      none_to_ceiling_iff = (to (roomy (rest_given clear)), from (roomy (rest_given clear)))
        where
          to : Parted → o ≡ Err unanswered.NoneToCeiling → NoneToCeiling N
          to (inl g) e = let d = g.0 in let z : ◌≡◌ {A = ℕ} 0 1 = cc in absurd (omega arith)
          to (inr (inl g)) e = g.1
          to (inr (inr d)) e = let z : ◌≡◌ {A = ℕ} 0 1 = cc in absurd (omega arith)

          from : Parted → NoneToCeiling N → o ≡ Err unanswered.NoneToCeiling
          from (inl g) n = let s = n.some in absurd (g.1 s.0 s.1 s.2)
          from (inr (inl g)) n = g.0
          from (inr (inr d)) n =
              let w = answered_iff.0 d in
              absurd (n.none w.0 (omega (arith, w.2.from_floor)) w.2.to_ceiling (w.1, w.2.schedule))

      -- and nothing else is returned
      pub answered_or_refused : (o ≡ Ok tt) ⊎ (o ≡ Err unanswered.NoPeriod) ⊎ (o ≡ Err unanswered.NoneToCeiling)
      answered_or_refused = go (roomy (rest_given clear))
        where
          go : Parted → (o ≡ Ok tt) ⊎ (o ≡ Err unanswered.NoPeriod) ⊎ (o ≡ Err unanswered.NoneToCeiling)
          go (inl g) = inr (inl g.0)
          go (inr (inl g)) = inr (inr g.0)
          go (inr (inr e)) = inl e
