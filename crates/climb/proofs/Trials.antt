-- A relaxation at the period that is tried, and each of its ends, in the paper's words. Rests on `Families`, `Climbs` and `Rules` of `loops`.
use Rattle.std.specs.Prelude.{Ok, Err}
use mathlib.Core.Path.{◌≡◌, sym, subst, ◌∙◌}
use mathlib.Core.List.{List, ◌++◌, map}
use Prim.Native.Nat.{ℕ, ◌-◌, ◌≤◌, ◌<◌}
use native.Mathlib.Omega.{arith}
use native.Mathlib.Decide.{ℕ_discrete}
use lib.ListN.{length}
use lib.IntN.{ℤ, pos}
use Rattle.paper.specs.Network.{Network}
use Rattle.paper.specs.declared.Rule.{Rule}
use Rattle.paper.specs.Rules.{amount}
use Rattle.paper.specs.File.{natural}
use Rattle.paper.specs.Output.{Front, LoopAlone, skew_record, latency_records, entry_records}
use Rattle.paper.specs.declared.Unanswered.TheVariants as unanswered
use Rattle.loops.specs.Arrows.{Arrows}
use Rattle.loops.specs.Webs.{Scheduled}
use Rattle.loops.specs.Family.{Enumerates, Lays, Refutes, web_at}
use Rattle.loops.specs.Climbing.{Raises, Climbing}
use Rattle.loops.specs.RuleFamily as family
use Rattle.loops.specs.Names.{named}
use Rattle.loops.specs.Layout.{rule_count}
use Rattle.loops.specs.Model.{at}
use Rattle.loops.proofs.Families.{refutes_none_to}
use Rattle.loops.proofs.Climbs.{climbing_at, climbing_answers, trial_refutes, refutes_unfixed, raised_refutes}
use Rattle.loops.proofs.Rules.{rules_lawful, fixed_setups, best_answer, shown_rules, refutes_rules, none_rules, some_rules}
use Rattle.rounds.specs.Relaxation.{Rests, ShowsLoop}
use Rattle.answer.specs.Records.{AnswerBytes}
use Rattle.needs.specs.Raising.{setups_at}
use Rattle.climb.specs.Known.{Tries}
use Rattle.climb.specs.Solved.{Solved}

-- the bytes of an answer are the paper's
answer_bytes : {P n : ℕ} {period : ℤ} {names : List ℤ} {loop : List Rule} {before after : List ℕ} → period ≡ pos P → length names ≡ n
    → AnswerBytes period names loop before after → Front (skew_record P n (length loop) ++ latency_records (at names) n ++ entry_records loop) before after
answer_bytes {P} {n} {period} {names} {loop} {before} {after} is long bytes =
    subst (λ (m : ℕ). Front (skew_record P m (length loop) ++ latency_records (at names) m ++ entry_records loop) before after) long (rw is at bytes).front

module _ (N : Network) (rules : List Rule) (some : (Q : ℕ) × Scheduled (web_at (family.rules N) Q))
    (names : Enumerates (family.graph_of N) (named rules) (rule_count N)) (period : ℤ)
    (Γ : Arrows) (whole : Γ.count ≡ rule_count N) (lays : Lays (family.graph_of N) (named rules) (amount N (natural period)) Γ) where
  -- the period that is tried
  abbrev P : ℕ
  P = natural period

  -- the row rests: it is the answer
  pub trial_answered : (ring : List ℕ) → Tries N rules period ring → (times : List ℤ) → Rests Γ times → (before after : List ℕ)
      → AnswerBytes period times (map (named rules) ring) before after → Solved N before (Ok tt) after
  trial_answered ring t times r before after bytes =
      let c = t.climbing in
      record {
        period = P;
        latency = at times;
        loop = map (named rules) ring;
        answer =
            best_answer N P (at times)
            (climbing_answers (family.rules N) (rules_lawful N) (named rules) (rule_count N) N.floor N.ceiling P Γ whole names lays ring c (at times) r.least);
        shown = shown_rules N P (map (named rules) ring) c.shown;
        bytes = answer_bytes t.is (r.long ∙ lays.registers) bytes;
      }

  -- a loop was found
  module _ (ring : List ℕ) (s : ShowsLoop Γ ring) where
    abbrev loop : List Rule
    loop = map (named rules) ring

    -- the loop contradicts itself at the period
    pub trial_loop : Refutes (family.rules N) P loop
    trial_loop =
        trial_refutes (family.rules N) (rules_lawful N) (named rules) (rule_count N) N.floor N.ceiling P Γ whole names lays ring s.contradicts s.listed

    -- some period has a schedule, so a loop without setup rules cannot contradict itself: this one has a setup rule
    pub trial_setups : 0 < setups_at rules ring
    trial_setups = go (ℕ_discrete (setups_at rules ring) 0)
      where
        go : Dec (setups_at rules ring ≡ 0) → 0 < setups_at rules ring
        go (yes e) = absurd (refutes_unfixed (family.rules N) (rules_lawful N) some P loop trial_loop ((fixed_setups loop).1 e))
        go (no e) = omega arith

    -- the next period is above the ceiling: none up to the ceiling
    pub trial_over : (Q : ℕ) → Raises (family.rules N) P loop Q → N.ceiling < Q → (before after : List ℕ)
        → LoopAlone loop before after → Solved N before (Err unanswered.NoneToCeiling) after
    trial_over Q up over before after bytes =
        let r = raised_refutes (family.rules N) (rules_lawful N) P Q N.ceiling loop trial_loop up over in (
          none_rules N (some_rules N some) (refutes_none_to (family.rules N) (rules_lawful N) N.ceiling loop r),
          record { loop = loop; refutes = (refutes_rules N N.ceiling loop).0 r; bytes = bytes },
        )

    -- or any period up to it may be tried, above the floor
    pub trial_next : (Q R : ℕ) → Raises (family.rules N) P loop Q → R ≤ Q → N.floor < R → R ≤ N.ceiling → length ring ≤ N.registers
        → Climbing (family.rules N) (named rules) (rule_count N) N.floor N.ceiling R ring
    trial_next Q R up to low high short =
        climbing_at (family.rules N) (rules_lawful N) (named rules) (rule_count N) N.floor N.ceiling R ring low high short (rw (sym whole) s.contradicts.exist)
        (raised_refutes (family.rules N) (rules_lawful N) P Q (R - 1) loop trial_loop up (omega arith))
