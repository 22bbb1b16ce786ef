-- No two different results satisfy the scheduler's contract, but for the choice of the loop that is shown. Rests on the laws of tables, by
-- which there is one number and one place, and on the definition of the answer, by which there is one period and one row of latencies.
use Rattle.std.specs.Prelude.{Ok, Err}
use mathlib.Core.Path.{◌≡◌, refl, sym, ◌∙◌}
use mathlib.Core.Logic.{inl}
use mathlib.Core.List.{List, [], ◌∷◌}
use Prim.Native.Nat.{ℕ, ◌<◌}
use native.Mathlib.Omega.{arith}
use lib.IntN.{ℤ}
use lib.ListN.{length}
use Rattle.whole.proofs.Lin.{lin}
use Rattle.paper.specs.Numbers.{Outcome}
use Rattle.paper.specs.declared.Unanswered.TheVariants as unanswered
use Rattle.paper.specs.Network.{Network}
use Rattle.paper.specs.declared.Rule.{Rule}
use Rattle.paper.specs.Rules.{tail, head}
use Rattle.paper.specs.Chains.{SameMembers}
use Rattle.paper.specs.Schedule.{Answer, Refutes, Shown}
use Rattle.paper.specs.File.{network_of}
use Rattle.paper.specs.Table.{Row, Given}
use Rattle.paper.specs.Refusals.{refusals}
use Rattle.paper.specs.Output.{Answered, AnswerOutput, LoopAlone}
use Rattle.paper.specs.Outcome.{Left, Result, FileResult}
use Rattle.paper.proofs.TableLaws.{OnePlaces, given_one, refusals_one_place}
use Rattle.paper.proofs.NumberLaws.{outcome_one}
use Rattle.paper.proofs.OutputLaws.{latencies_same}
use Rattle.paper.proofs.ListedLaws.{listed_one}
use Rattle.skew.specs.Same.{SameAnswer, SameAlone, SameButLoop}

-- ---- one number and one place

-- RULES 6.3: "Of the numbers from 1 on that apply, the lowest is returned": of one file and one room, one number with one place
pub number_unique : (f : List ℕ) (room : ℕ) {n m p q : ℕ} → Given (refusals f room) n p → Given (refusals f room) m q → (n ≡ m) × (p ≡ q)
number_unique f room g h = given_one (refusals f room) (refusals_one_place f room) _ _ _ _ g h

-- ---- one answer

-- of two answers, neither has the longer period, for the other's would be a shorter one with a schedule
not_longer : {N : Network} {P Q : ℕ} {x y : ℕ → ℤ} → Answer N P x → Answer N Q y → P < Q → ⊥
not_longer {P = P} {x = x} a b h = b.smallest P a.from_floor h x a.schedule

-- RULES 3.2: "The period is the smallest whole P from the floor to the ceiling .. at which there is a schedule. The latency of a register is
-- the smallest that it has in any schedule at this P.": one period, and one latency for each register
pub answer_unique : {N : Network} {P Q : ℕ} {x y : ℕ → ℤ} → Answer N P x → Answer N Q y → (P ≡ Q) × ((i : ℕ) → i < N.registers → x i ≡ y i)
answer_unique {P = P} {Q} {x} {y} a b =
    let longer = not_longer a b in
    let shorter = not_longer b a in
    let one : P ≡ Q = omega arith in (
      one,
      λ i h.
          let under = a.least y (rw one b.schedule) i h in
          let over = b.least x (rw (← one) a.schedule) i h in
          omega lin,
    )

-- RULES 7.10: "An answer at the floor shows none"
pub floor_no_loop : (N : Network) (P : ℕ) (l : List Rule) → Shown N P l → P ≡ N.floor → l ≡ []
floor_no_loop N P [] s e = refl
floor_no_loop N P (r ∷ l) s e = absurd (omega (arith, s.0))

-- ---- one loop, of the same rules

refutes_one : (N : Network) {P Q : ℕ} (l m : List Rule) → Refutes N P l → Refutes N Q m → SameMembers l m → l ≡ m
refutes_one N l m a b same = listed_one (tail N) (head N) l m a.is_loop.loop b.is_loop.loop a.listed b.listed same

-- no loop is shown beside a loop, for both are shown at one period
shown_one : (N : Network) (P : ℕ) (l m : List Rule) → Shown N P l → Shown N P m → SameMembers l m → l ≡ m
shown_one N P [] [] s t same = refl
shown_one N P [] (r ∷ m) s t same = absurd (same.back r (inl refl))
shown_one N P (r ∷ l) [] s t same = absurd (same.there r (inl refl))
shown_one N P (r ∷ l) (q ∷ m) s t same = refutes_one N (r ∷ l) (q ∷ m) s.1 t.1 same

-- ---- one output

same_answer : (N : Network) (before after after' : List ℕ) (a : Answered N before after) (b : Answered N before after') → SameAnswer N before after after' a b
same_answer N before after after' a b =
    record {
      one_period = one.0;
      one_latency = one.1;
      its_loop = its_loop;
      one_loop = λ same. let e = shown_one N a.period a.loop b.loop a.shown (rw one.0 b.shown) same in (e, one_output e);
      at_floor = λ e. let l = none e in let m = none' e in (l, m, one_output (l ∙ sym m));
    }
  where
    one : (a.period ≡ b.period) × ((i : ℕ) → i < N.registers → a.latency i ≡ b.latency i)
    one = answer_unique a.answer b.answer

    its_loop : AnswerOutput N.registers a.period a.latency b.loop before after'
    its_loop =
        let p = one.0 in
        let l = latencies_same a.latency b.latency N.registers one.1 in
        cc b.bytes

    one_output : a.loop ≡ b.loop → after ≡ after'
    one_output e = let i = its_loop in cc (a.bytes, i)

    none : a.period ≡ N.floor → a.loop ≡ []
    none e = floor_no_loop N a.period a.loop a.shown e

    none' : a.period ≡ N.floor → b.loop ≡ []
    none' e = floor_no_loop N b.period b.loop b.shown (sym one.0 ∙ e)

-- of the same rules, one list; and the output holds nothing else
same_alone : (l m : List Rule) (before after after' : List ℕ) → LoopAlone l before after → LoopAlone m before after' → (SameMembers l m → l ≡ m)
    → SameAlone l m before after after'
same_alone l m before after after' a b one = record { its_loop = b; one_loop = λ same. let e = one same in (e, cc (a, b)) }

left_unique : (N : Network) (before : List ℕ) (o : Outcome) (after after' : List ℕ) → Left N o before after → Left N o before after'
    → SameButLoop N before o after after'
left_unique N before (Ok tt) after after' l m = same_answer N before after after'
left_unique N before (Err (unanswered.Refused x)) after after' l m = l ∙ sym m
left_unique N before (Err unanswered.Room) after after' l m = l ∙ sym m
left_unique N before (Err unanswered.NoPeriod) after after' l m = λ a b.
    same_alone a.loop b.loop before after after' a.bytes b.bytes (refutes_one N a.loop b.loop (a.refutes 1) (b.refutes 1))
left_unique N before (Err unanswered.NoneToCeiling) after after' l m = λ a b.
    same_alone a.loop b.loop before after after' a.bytes b.bytes (refutes_one N a.loop b.loop a.refutes b.refutes)

-- Of any network, with any table of numbers whose rows each have one place: one outcome, and one output but for the loop.
pub result_unique : {N : Network} {rows : List Row} {before after after' : List ℕ} {o o' : Outcome} → OnePlaces rows
    → Result N rows before o after → Result N rows before o' after' → (o ≡ o') × SameButLoop N before o after after'
result_unique {N} {rows} {before} {after} {after'} {o} {o'} places r s =
    let one = outcome_one places r s in
    (one, left_unique N before o after after' r.output (rw one s.output))

-- Each refusal has one number and one place, and the paper fixes every byte of the output after it, save which loop is shown. An answer has
-- one period and one row of latencies, and the paper fixes its bytes likewise.
pub schedule_unique : (f before : List ℕ) {after after' : List ℕ} {o o' : Outcome} → FileResult f before o after → FileResult f before o' after'
    → (o ≡ o') × SameButLoop (network_of f) before o after after'
schedule_unique f before r s = result_unique (refusals_one_place f (length before)) r s
