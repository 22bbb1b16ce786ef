-- A relaxation with fuel above the measure ends, at the least schedule or with a loop that contradicts itself. So, constructively: a schedule
-- exists exactly when no loop contradicts itself. Rests on `Webs`, `Search`, `Kept`, `Contradiction`, `Settle` and `Ends`.
use mathlib.Core.Path.{◌≡◌, refl}
use mathlib.Core.Logic.{◌⊎◌, inl, inr, ◌↔◌}
use mathlib.Core.Bool.{Bool, true, false}
use mathlib.Core.List.{List}
use Prim.Native.Nat.{ℕ, zero, suc, ◌≤◌, ◌<◌}
use native.Mathlib.Omega.{arith}
use lib.ListN.{length}
use lib.IntN.{ℤ}
use Rattle.paper.specs.Chains.{Listed}
use Rattle.loops.specs.Arrows.{Arrows, Sound, web, Schedule, Least, Contradicts, Lows, Highs, tail, head}
use Rattle.loops.specs.Model.{at, round, row_after, preds_after, rooted, all_rooted, stray, settled, circle_from, circle_arrows}
use Rattle.loops.specs.Model.{first_row, first_preds, Ending, Rested, Circled, Unended, relax}
use Rattle.loops.specs.Forest.{Tight, gap}
use Rattle.loops.proofs.Webs.{schedule_no_loop}
use Rattle.loops.proofs.Rooted.{stray_some}
use Rattle.loops.proofs.Search.{circle_found}
use Rattle.loops.proofs.First.{first_tight}
use Rattle.loops.proofs.Kept.{tight_books, round_quiet, rested_least}
use Rattle.loops.proofs.Trails.{circle_listed}
use Rattle.loops.proofs.Contradiction.{circle_contradicts}
use Rattle.loops.proofs.Settle.{settled_tight}
use Rattle.loops.proofs.Ends.{gap_falls}

-- what one more round may come to
relax_cases : (P : Ending → Type 0) (Γ : Arrows) (fuel : ℕ) (a : List ℤ) (p : List ℕ)
    → ((round Γ a p).raised ≡ false → P (Rested (row_after Γ a p)))
    → ((round Γ a p).raised ≡ true → all_rooted Γ (preds_after Γ a p) ≡ true → P (relax Γ fuel (settled Γ (preds_after Γ a p)) (preds_after Γ a p)))
    → ((round Γ a p).raised ≡ true → all_rooted Γ (preds_after Γ a p) ≡ false → P (Circled (circle_arrows Γ (preds_after Γ a p) (stray Γ (preds_after Γ a p)))))
    → P (relax Γ (suc fuel) a p)
unfolding relax
relax_cases P Γ fuel a p rested on circled = go (round Γ a p).raised refl
  where
    more : Bool → Ending
    more g = elim g as (λ x. Ending) [ true ↦ relax Γ fuel (settled Γ (preds_after Γ a p)) (preds_after Γ a p) | false ↦ Circled (circle_arrows Γ (preds_after Γ a p) (stray Γ (preds_after Γ a p))) ]

    after : (round Γ a p).raised ≡ true → (g : Bool) → all_rooted Γ (preds_after Γ a p) ≡ g → P (more g)
    after q true e = on q e
    after q false e = circled q e

    go : (f : Bool) → (round Γ a p).raised ≡ f → P (elim f as (λ x. Ending) [ false ↦ Rested (row_after Γ a p) | true ↦ more (all_rooted Γ (preds_after Γ a p)) ])
    go true e = after e (all_rooted Γ (preds_after Γ a p)) refl
    go false e = rested e

-- what a relaxation that ended gives: a row that is the least schedule, or a loop that contradicts itself, listed from its lowest register
abbrev pub Ended : Arrows → Ending → Type 0
Ended Γ (Rested row) = (length row ≡ Γ.registers) × Least Γ (at row)
Ended Γ (Circled l) = Contradicts Γ l × Listed (tail Γ) (head Γ) l
Ended Γ Unended = ⊥

module _ (Γ : Arrows) (a : List ℤ) (p : List ℕ) (s : Sound Γ) (t : Tight Γ a p) where
  -- nothing raised: the row is the least schedule
  rested_ends : (round Γ a p).raised ≡ false → Ended Γ (Rested (row_after Γ a p))
  rested_ends q = ((tight_books Γ a p s t).row-length, rw (round_quiet Γ a p s t q).row_same (rested_least Γ a p s t q))

  -- a register that is not rooted: the circle that the search finds is a contradicting loop, listed from its lowest register
  pub circled_ends : (u : ℕ) → u < Γ.registers → rooted Γ (preds_after Γ a p) Γ.registers u ≡ false → Ended Γ (Circled (circle_arrows Γ (preds_after Γ a p) u))
  circled_ends u b q =
      let f = circle_found Γ (preds_after Γ a p) s u b q in
      let c = circle_from Γ (preds_after Γ a p) u in
      (circle_contradicts Γ a p s t c.steps c.start f.below f.circle, circle_listed Γ (preds_after Γ a p) c.steps c.start f.circle)

-- a row that is the least schedule, or a loop that contradicts itself, listed from its lowest register
abbrev pub Either : Arrows → Type 0
Either Γ = ((row : List ℤ) × Least Γ (at row)) ⊎ ((l : List ℕ) × Contradicts Γ l × Listed (tail Γ) (head Γ) l)

module _ (Γ : Arrows) (H : ℕ) (s : Sound Γ) (w : Highs Γ H) where
  -- A round raises nothing: the least schedule. It leaves a circle: a contradicting loop. Otherwise the measure falls, and the settled row is
  -- tight again.
  pub relax_ends : (fuel : ℕ) (a : List ℤ) (p : List ℕ) → Tight Γ a p → gap Γ H a < fuel → Ended Γ (relax Γ fuel a p)
  relax_ends zero a p t g = absurd (omega arith)
  relax_ends (suc fuel) a p t g = relax_cases (Ended Γ) Γ fuel a p (rested_ends Γ a p s t)
      (λ q r. let less = gap_falls Γ H s w a p t q r in relax_ends fuel (settled Γ (preds_after Γ a p)) (preds_after Γ a p) (settled_tight Γ a p s t r) (omega arith))
      (λ q r. let u = stray_some Γ (preds_after Γ a p) Γ.registers r in circled_ends Γ a p s t (stray Γ (preds_after Γ a p)) u.0 u.1)

ended_or : (Γ : Arrows) (r : Ending) → Ended Γ r → Either Γ
ended_or Γ (Rested row) h = inl (row, h.1)
ended_or Γ (Circled l) h = inr (l, h.0, h.1)
ended_or Γ Unended h = absurd h

module _ (Γ : Arrows) (low : ℕ → ℕ) (H : ℕ) (s : Sound Γ) (lows : Lows Γ low) (highs : Highs Γ H) where
  -- From the first row, with fuel enough.
  first_ends : (none fuel : ℕ) → Γ.count ≤ none → gap Γ H (first_row Γ low) < fuel → Ended Γ (relax Γ fuel (first_row Γ low) (first_preds Γ low none))
  first_ends none fuel q g = relax_ends Γ H s highs fuel (first_row Γ low) (first_preds Γ low none) (first_tight Γ low none s lows q) g

  -- either there is a least schedule, or a loop that contradicts itself
  pub schedule_or_loop : Either Γ
  schedule_or_loop =
      let fuel = suc (gap Γ H (first_row Γ low)) in
      ended_or Γ (relax Γ fuel (first_row Γ low) (first_preds Γ low Γ.count)) (first_ends Γ.count fuel (omega arith) (omega arith))

  -- A schedule exists exactly when no loop contradicts itself. Adding a schedule's inequalities around a loop shows the one half; the
  -- relaxation from the first row ends with a schedule or a loop, which shows the other.
  pub schedule_iff_no_loop_arrows : ((x : ℕ → ℤ) × Schedule Γ x) ↔ ((l : List ℕ) → ¬ Contradicts Γ l)
  schedule_iff_no_loop_arrows = (λ h l c. schedule_no_loop (web Γ) h.0 l h.1 c, λ none. go none schedule_or_loop)
    where
      go : ((l : List ℕ) → ¬ Contradicts Γ l) → Either Γ → (x : ℕ → ℤ) × Schedule Γ x
      go none (inl r) = (at r.0, r.1.schedule)
      go none (inr c) = absurd (none c.0 c.1)
