-- The period by its loops, for every network whose paths join registers: the answered period is the larger of the floor and the greatest
-- need of any loop, and such a period is answered where the ceiling allows it. Rests on `Rules`.
use mathlib.Core.Path.{◌≡◌}
use mathlib.Core.Logic.{◌⊎◌, inl, inr}
use mathlib.Core.List.{List}
use Prim.Native.Nat.{ℕ, ◌-◌, ◌≤◌, ◌<◌}
use native.Mathlib.Omega.{arith}
use native.Mathlib.Decide.{dec_lt}
use lib.IntN.{ℤ, pos, negsuc}
use lib.Signed.{◌≤ℤ◌, ◌<ℤ◌}
use Rattle.whole.proofs.Lin.{lin}
use Rattle.paper.specs.Network.{Network}
use Rattle.paper.specs.declared.Rule.{Rule}
use Rattle.paper.specs.Schedule.{IsLoop, Contradicts, Refutes, Answer, setups, need}
use Rattle.paper.specs.Refusals.{Scheduled, NoPeriod}
use Rattle.paper.proofs.LoopLaws.{contradicts_below_need, contradicts_always}
use Rattle.loops.specs.Layout.{Joined}
use Rattle.loops.specs.Needs.{LeastSchedule, GreatestNeed, FloorOrNeed}
use Rattle.loops.proofs.Rules.{schedule_bars_loop, least_or_refutes}

-- a period that is not below z is at least z
reaches : (z : ℤ) (P : ℕ) → (pos P <ℤ z → ⊥) → z ≤ℤ pos P
reaches (pos n) P h = go (dec_lt P n)
  where
    go : Dec (P < n) → pos n ≤ℤ pos P
    go (yes l) = absurd (h (omega lin))
    go (no l) = omega lin
reaches (negsuc n) P h = omega lin

-- the least schedule at P, or a loop that contradicts itself at P
abbrev LeastOrLoop : Network → ℕ → Type 0
LeastOrLoop N P = ((x : ℕ → ℤ) × LeastSchedule N P x) ⊎ ((l : List Rule) × Refutes N P l)

module _ (N : Network) where
  -- a loop without setup rules that contradicts itself at one period does so at all of them, and leaves none with a schedule
  free_loop_no_period : (l : List Rule) → IsLoop N l → setups l ≡ 0 → (P : ℕ) → Contradicts N P l → NoPeriod N
  free_loop_no_period l i z P c Q b s = schedule_bars_loop N Q s l i ((contradicts_always N P Q l z).0 c)

  -- a period with a schedule is at least the need of every loop, for below its need a loop contradicts itself
  need_enough : (P : ℕ) → Scheduled N P → (l : List Rule) → IsLoop N l → 0 < setups l → need N l ≤ℤ pos P
  need_enough P s l i k = reaches (need N l) P (λ b. schedule_bars_loop N P s l i ((contradicts_below_need N P l k).1 b))

  -- A loop that contradicts itself at P - 1 and not at P has a setup rule, for without one it would be the same at both, and its need is P.
  pub need_is : (P : ℕ) → 0 < P → Scheduled N P → (l : List Rule) → Refutes N (P - 1) l → (0 < setups l) × (need N l ≡ pos P)
  need_is P b s l r = go (dec_lt 0 (setups l))
    where
      go : Dec (0 < setups l) → (0 < setups l) × (need N l ≡ pos P)
      go (yes k) =
          let over = (contradicts_below_need N (P - 1) l k).0 r.contradicts in
          let most = need_enough P s l r.is_loop k in
          (k, omega lin)
      go (no k) = absurd (schedule_bars_loop N P s l r.is_loop ((contradicts_always N (P - 1) P l (omega arith)).0 r.contradicts))

  -- P is the one number that is the larger of the floor and the greatest need
  pub greatest_need_one : (P Q : ℕ) → GreatestNeed N P → GreatestNeed N Q → P ≡ Q
  greatest_need_one P Q p q = let a = below P Q p q in let b = below Q P q p in omega arith
    where
      below : (P Q : ℕ) → GreatestNeed N P → GreatestNeed N Q → P ≤ Q
      below P Q p q = go p.reached
        where
          go : FloorOrNeed N P → P ≤ Q
          go (inl e) = omega (arith, q.from_floor)
          go (inr w) = let e = w.3 in let m = q.enough w.0 w.1 w.2 in omega lin

  -- below P, from the floor on, no period has a schedule: P is the floor, or a loop contradicts itself below P
  need_smallest : (P : ℕ) → GreatestNeed N P → (Q : ℕ) → N.floor ≤ Q → Q < P → Scheduled N Q → ⊥
  need_smallest P g Q a b s = go g.reached
    where
      go : FloorOrNeed N P → ⊥
      go (inl e) = omega arith
      go (inr w) = let e = w.3 in let m = need_enough Q s w.0 w.1 w.2 in omega lin

module _ (N : Network) (j : Joined N) where
  -- The answered period is at least every loop's need, for it has a schedule. Above the floor the period before it has none, so a loop
  -- contradicts itself there, and the need of that loop is the period.
  pub answer_greatest_need : (P : ℕ) (x : ℕ → ℤ) → Answer N P x → GreatestNeed N P
  answer_greatest_need P x a = record {
    from_floor = a.from_floor;
    enough = need_enough N P (x, a.schedule);
    reached = go (dec_lt N.floor P) (least_or_refutes N j (P - 1));
  }
    where
      go : Dec (N.floor < P) → LeastOrLoop N (P - 1) → FloorOrNeed N P
      go (no h) t = inl (omega (arith, a.from_floor))
      go (yes h) (inl s) = absurd (a.smallest (P - 1) (omega arith) (omega arith) s.0 s.1.schedule)
      go (yes h) (inr r) = let k = need_is N P (omega arith) (x, a.schedule) r.0 r.1 in inr (r.0, r.1.is_loop, k.0, k.1)

  -- Where some period has a schedule and the ceiling allows it, the larger of the floor and the greatest need is answered: no loop
  -- contradicts itself there, so the least schedule exists, and below it the loop that needs it does.
  pub greatest_need_answer : (P : ℕ) → (NoPeriod N → ⊥) → GreatestNeed N P → P ≤ N.ceiling → (x : ℕ → ℤ) × Answer N P x
  greatest_need_answer P some g c = go (least_or_refutes N j P)
    where
      go : LeastOrLoop N P → (x : ℕ → ℤ) × Answer N P x
      go (inl s) = (
        s.0,
        record {
          from_floor = g.from_floor;
          to_ceiling = c;
          schedule = s.1.schedule;
          smallest = λ Q a b y t. need_smallest N P g Q a b (y, t);
          least = s.1.least;
        },
      )
      go (inr r) = absurd (bars (dec_lt 0 (setups r.0)))
        where
          bars : Dec (0 < setups r.0) → ⊥
          bars (yes k) =
              let over = (contradicts_below_need N P r.0 k).0 r.1.contradicts in
              let most = g.enough r.0 r.1.is_loop k in
              omega lin
          bars (no k) = some (free_loop_no_period N r.0 r.1.is_loop (omega arith) P r.1.contradicts)
