-- A trial of a period, step by step as the code goes: the amounts at the period, the relaxation that goes on from the kept row, and what it
-- comes to. Each law speaks of one network that the lists hold. Rests on `Trials`, on `Laid` of `arrows` and on `Callers` of `needs`.
use Rattle.std.specs.Prelude.{Ok, Err}
use mathlib.Core.Path.{◌≡◌, sym, ap, subst, ◌∙◌}
use mathlib.Core.List.{List, map}
use Prim.Native.Nat.{ℕ, ◌≤◌, ◌<◌}
use native.Mathlib.Omega.{arith}
use lib.ListN.{length, take}
use lib.Seq.{length-take-le, get_or-take}
use lib.IntN.{ℤ, pos}
use lib.Signed.{◌≤ℤ◌, ◌<ℤ◌}
use Rattle.whole.proofs.Lin.{lin}
use Rattle.paper.specs.Network.{Network}
use Rattle.paper.specs.Rules.{amount}
use Rattle.paper.specs.File.{natural}
use Rattle.paper.specs.Chains.{All}
use Rattle.paper.specs.Limits.{Period, room_for}
use Rattle.paper.specs.Output.{LoopAlone}
use Rattle.paper.specs.declared.Rule.{Rule}
use Rattle.paper.specs.declared.Unanswered.TheVariants as unanswered
use Rattle.paper.proofs.Legal.{natural_is}
use Rattle.paper.proofs.LoopLaws.{all_map}
use Rattle.loops.specs.declared.Arrow.{Arrow}
use Rattle.loops.specs.Arrows.{Arrows, among, arrow_at}
use Rattle.loops.specs.Family.{Lays}
use Rattle.loops.specs.RuleFamily as family
use Rattle.loops.specs.Names.{named}
use Rattle.loops.proofs.Renamed.{renamed_total}
use Rattle.loops.specs.Layout.{fixed_places, all_places, rule_count}
use Rattle.loops.specs.Shape.{Shape, Modest}
use Rattle.loops.specs.Begun.{Extends}
use Rattle.network.specs.declared.Header.{Header}
use Rattle.rounds.specs.Relaxation.{Bounded, Continues, Rested, Circled}
use Rattle.arrows.specs.Filled.{Weighable, Weighed}
use Rattle.arrows.proofs.Laid.{filled_weighable, weighed_filled, weighed_lays, weighed_extends, laid_shape, laid_highs}
use Rattle.answer.specs.Records.{Nameable, Answerable, AnswerBytes}
use Rattle.needs.specs.Raising.{Summable, Raisable, Raised, sum_at, setups_at}
use Rattle.needs.proofs.Callers.{Rises, next_rises}
use Rattle.climb.specs.Known.{Held, Known, Tries}
use Rattle.climb.specs.Trial.{Trial, Lent}
use Rattle.climb.specs.Solved.{Solved}
use Rattle.climb.proofs.Trials.{trial_answered, trial_loop, trial_setups, trial_over, trial_next}

-- a loop of rules that stand in memory can be written out
pub held_nameable : {N : Network} {h : Header} {rules : List Rule} {arrows : List Arrow} {bases : List ℤ} → Held N h rules arrows bases
    → (ring : List ℕ) → length ring ≤ N.registers → All (λ e. e < rule_count N) ring → Nameable rules ring
held_nameable held ring short exist = record {
  few = let few = held.legal.registers_to in omega arith;
  places = all_map (λ e b. omega (arith, held.filled.room.in_rules)) ring exist;
}

module _ {N : Network} {h : Header} {rules : List Rule} {arrows : List Arrow} {bases : List ℤ} {period : ℤ} {kept : List ℕ}
    (t : Trial h rules arrows bases period kept N) where
  abbrev P : ℕ
  P = natural period

  abbrev held : Held N h rules arrows bases
  held = t.known.held

  trial_period : Period period
  trial_period =
      let is = t.tries.is in
      let low = t.tries.climbing.from_floor in
      let high = t.tries.climbing.to_ceiling in
      let floor = held.legal.floor_from in
      let top = held.legal.ceiling_to in
      record { from = omega lin; to = omega lin }

  -- the amounts may be written at the period
  pub trial_weighable : Weighable h.registers h.paths period arrows bases
  trial_weighable = filled_weighable N rules arrows bases held.filled held.legal h.registers h.paths held.header.registers held.header.paths period trial_period

  -- the answer may be written behind a row of one latency a register
  pub trial_answerable : (row : List ℤ) (out : List ℕ) → length row ≡ h.registers → room_for h.registers ≤ length out → Answerable rules kept row out
  trial_answerable row out long room =
      let c = t.tries.climbing.short in
      let e = held.header.registers in
      let few = held.legal.registers_to in
      record { nameable = held_nameable held kept c t.tries.climbing.exist; few = omega arith; room = omega arith }

  -- all arrows at the period
  module _ {after : List Arrow} (w : Weighed (fixed_places h.registers h.paths) h.paths period bases arrows after) where
    -- the network is still held
    pub trial_known : Known N h rules after bases
    trial_known = record {
      held = record {
        legal = held.legal;
        header = held.header;
        filled = weighed_filled N rules arrows bases held.filled h.registers h.paths held.header.registers held.header.paths period after w;
      };
      some = t.known.some;
    }

    module _ {all : ℕ} (counted : all ≡ all_places h.registers h.paths) where
      abbrev Γ : Arrows
      Γ = among h.registers (take all after)

      stands : all ≡ rule_count N
      stands = let e = held.header.registers in let g = held.header.paths in omega arith

      whole : Γ.count ≡ rule_count N
      whole = let e = stands in let r = trial_known.held.filled.room.in_arrows in omega (arith, length-take-le all after (omega arith))

      lays : Lays (family.graph_of N) (named rules) (amount N P) Γ
      lays = rw stands (weighed_lays N rules arrows bases held.filled h.registers h.paths held.header.registers held.header.paths period after w P t.tries.is)

      small : P ≤ 10000000
      small = let top = held.legal.ceiling_to in let high = t.tries.climbing.to_ceiling in omega arith

      -- the arrows are such as a relaxation can work on
      pub trial_shape : Shape Γ
      trial_shape =
          rw stands
          (laid_shape N held.legal rules after bases trial_known.held.filled.room h.registers P small held.filled.enumerates (rw stands at lays))

      trial_bounded : Bounded Γ
      trial_bounded =
          rw stands
          (laid_highs N held.legal rules after bases trial_known.held.filled.room h.registers P small held.filled.enumerates (rw stands at lays))

      begins : Extends Γ (among h.registers (take (fixed_places h.registers h.paths) arrows))
      begins = rw stands (weighed_extends N rules arrows bases held.filled h.registers h.paths held.header.registers held.header.paths period after w)

      -- a relaxation of them may go on from the kept row
      pub trial_continues : {row : List ℤ} {preds : List ℕ} {passed : ℕ} {a b : List ℤ} {p out : List ℕ} → Lent h arrows row preds passed a b p out
          → Continues Γ row b preds passed a p
      trial_continues l = record {
        starts = record { bounded = trial_bounded; resumes = l.resumable Γ begins trial_shape; spare = l.there };
        row_long = l.here;
        preds_long = l.noted;
      }

      -- the relaxation rests: the row is the answer, and what is listed is still the loop that shows why
      pub trial_rests : {last : List ℤ} {p ring shown before out after : List ℕ} → Rested Γ last p kept ring → shown ≡ ring → out ≡ before
          → AnswerBytes period last (map (named rules) shown) out after → Solved N before (Ok tt) after
      trial_rests r listed unwritten bytes =
          trial_answered N rules t.known.some held.filled.enumerates period Γ whole lays _ (rw (listed ∙ r.kept) t.tries) _ r.rests _ _ (rw unwritten at bytes)

      -- ---- a loop is found

      -- the part that is lent has the arrows of the whole list
      same : (e : ℕ) → e < rule_count N → arrow_at Γ.list e ≡ arrow_at after e
      same e b = let m = stands in get_or-take all after e _ (omega arith)

      -- and each has the amount of its rule at the period
      amounts : (e : ℕ) → e < rule_count N → (arrow_at after e).amount ≡ amount N P (named rules e)
      amounts e b = let s = whole in sym (ap (λ a. a.amount) (same e b)) ∙ lays.amounts e (omega arith)

      modest : (e : ℕ) → e < rule_count N → Modest (arrow_at after e).amount
      modest e b = let s = whole in subst (λ a. Modest a.amount) (same e b) (trial_shape.modest e (omega arith))

      module _ {ring : List ℕ} (r : Circled Γ ring) where
        abbrev loop : List Rule
        loop = map (named rules) ring

        exist : All (λ e. e < rule_count N) ring
        exist = rw whole at r.shows.contradicts.exist

        short : length ring ≤ N.registers
        short = let m = r.short in let e = held.header.registers in omega arith

        laid : All (λ e. (arrow_at after e).amount ≡ amount N P (named rules e)) ring
        laid = all_map amounts ring exist

        over : pos 0 <ℤ sum_at after ring
        over =
            rw (renamed_total (λ e. (arrow_at after e).amount) (amount N P) (named rules) ring laid)
            (trial_loop N rules t.known.some held.filled.enumerates period Γ whole lays ring r.shows).contradicts.above

        setups : 0 < setups_at rules ring
        setups = trial_setups N rules t.known.some held.filled.enumerates period Γ whole lays ring r.shows

        -- it can be written out
        pub trial_nameable : Nameable rules ring
        trial_nameable = held_nameable held ring short exist

        -- it leads to another period
        pub trial_raisable : Raisable after rules period ring
        trial_raisable = record { allowed = trial_period; few = trial_nameable.few; places = all_map summable ring exist; over = over; some = setups }
          where
            summable : (e : ℕ) → e < rule_count N → Summable after rules e
            summable e b = record {
              has_arrow = omega (arith, trial_known.held.filled.room.in_arrows);
              has_rule = omega (arith, held.filled.room.in_rules);
              modest = modest e b;
            }

        module _ {next : ℤ} (raised : Raised after rules period ring next) where
          -- which lies above the one at hand
          pub trial_rises : Rises N P loop next
          trial_rises = next_rises N P after rules ring laid setups over period next t.tries.is raised

          -- past the ceiling, none up to it has a schedule, and the loop shows it
          pub trial_ends : h.ceiling <ℤ next → {shown before out after : List ℕ} → shown ≡ ring → out ≡ before → LoopAlone (map (named rules) shown) out after
              → Solved N before (Err unanswered.NoneToCeiling) after
          trial_ends past {shown} {before} {out} {after} listed unwritten bytes =
              let e = trial_rises.is in
              let c = held.header.ceiling in
              trial_over N rules t.known.some held.filled.enumerates period Γ whole lays ring r.shows (natural next) trial_rises.raises (omega lin) before after
              (subst (λ (b : List ℕ). LoopAlone loop b after) unwritten (subst (λ (l : List ℕ). LoopAlone (map (named rules) l) out after) listed bytes))

          -- every period above the floor may be tried, up to the next one and the ceiling
          pub trial_tries : (z : ℤ) → z ≤ℤ next → z ≤ℤ h.ceiling → h.floor <ℤ z → Tries N rules z ring
          trial_tries z to high low =
              let e = trial_rises.is in
              let f = held.header.floor in
              let c = held.header.ceiling in
              let is : z ≡ pos (natural z) = sym (natural_is z (omega lin)) in
              record {
                is = is;
                climbing =
                    trial_next N rules t.known.some held.filled.enumerates period Γ whole lays ring r.shows (natural next) (natural z) trial_rises.raises
                    (omega lin) (omega lin) (omega lin) short;
              }

          -- so the next one may, where it is not past the ceiling
          pub trial_onward : next ≤ℤ h.ceiling → Tries N rules next ring
          trial_onward to =
              let e = trial_rises.is in
              let up = trial_rises.raises.up in
              let f = held.header.floor in
              let low = t.tries.climbing.from_floor in
              trial_tries next (omega lin) to (omega lin)
