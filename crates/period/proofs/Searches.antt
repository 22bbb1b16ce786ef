-- What the look at the rules that do not know the period says of a network: refusal 8 with its loop, or that some period has a schedule. Rests on
-- `Laid`, `Families` and `Rules` of `loops`, on `Laid` of `arrows` and on `Attempts` of `climb`.
use Rattle.std.specs.Prelude.{Err}
use mathlib.Core.Path.{◌≡◌, subst}
use mathlib.Core.List.{List, map}
use Prim.Native.Nat.{ℕ, ◌≤◌}
use native.Mathlib.Omega.{arith}
use lib.ListN.{length, take}
use lib.IntN.{ℤ}
use Rattle.paper.specs.Network.{Network}
use Rattle.paper.specs.File.{network_of}
use Rattle.paper.specs.Refusals.{Accepted}
use Rattle.paper.specs.Rules.{amount}
use Rattle.paper.specs.Limits.{room_for}
use Rattle.paper.specs.Output.{LoopAlone}
use Rattle.paper.specs.declared.Rule.{Rule}
use Rattle.paper.specs.declared.Unanswered.TheVariants as unanswered
use Rattle.paper.proofs.Legal.{accepted_legal}
use Rattle.paper.proofs.LoopLaws.{all_map}
use Rattle.loops.specs.declared.Arrow.{Arrow}
use Rattle.loops.specs.Arrows.{Arrows, Schedule, among}
use Rattle.loops.specs.Family.{Lays, Enumerates, Always, fixed_graph}
use Rattle.loops.specs.RuleFamily as family
use Rattle.loops.specs.Names.{named}
use Rattle.loops.specs.Layout.{fixed_places, fixed_rule_count, rule_count}
use Rattle.loops.specs.Shape.{Shape}
use Rattle.loops.proofs.Laid.{laid_schedule, laid_contradicts, laid_listed}
use Rattle.loops.proofs.Families.{fixed_scheduled, fixed_refutes, always_never}
use Rattle.loops.proofs.Rules.{rules_lawful, always_rules, never_rules}
use Rattle.network.specs.declared.Header.{Header}
use Rattle.network.specs.Records.{IsHeader}
use Rattle.rounds.specs.Relaxation.{ShowsLoop}
use Rattle.look.specs.Looking.{Lookable, Resumable}
use Rattle.arrows.specs.Filled.{Filled}
use Rattle.arrows.proofs.Laid.{filled_fixed, first_count, fixed_shape, fixed_highs, fixed_lows}
use Rattle.answer.specs.Records.{Nameable}
use Rattle.climb.specs.Known.{Held, Known}
use Rattle.climb.specs.Solved.{Solved}
use Rattle.climb.specs.Trial.{Climbable}
use Rattle.climb.proofs.Attempts.{held_nameable}

-- the rules of an accepted file's network are held once they are filled in
pub accepted_held : (f : List ℕ) {h : Header} {rules : List Rule} {arrows : List Arrow} {bases : List ℤ} → Accepted f → IsHeader (network_of f) h
    → Filled (network_of f) rules arrows bases → Held (network_of f) h rules arrows bases
accepted_held f accepted header filled = record { legal = accepted_legal f accepted; header = header; filled = filled }

-- a row of the search is long enough for one entry a register
pub held_few : {N : Network} {h : Header} {rules : List Rule} {arrows : List Arrow} {bases : List ℤ} → Held N h rules arrows bases → h.registers ≤ 256
held_few held = let e = held.header.registers in let t = held.legal.registers_to in omega arith

module _ {N : Network} {h : Header} {rules : List Rule} {arrows : List Arrow} {bases : List ℤ} (held : Held N h rules arrows bases) {fixed : ℕ}
    (counted : fixed ≡ fixed_places h.registers h.paths) where
  -- the rules that do not know the period, as the lists lay them
  abbrev Δ : Arrows
  Δ = among h.registers (take fixed arrows)

  stands : fixed ≡ fixed_rule_count N
  stands = let e = held.header.registers in let g = held.header.paths in omega arith

  whole : Δ.count ≡ fixed
  whole = let e = stands in let r = held.filled.room.in_arrows in first_count h.registers fixed arrows (omega arith)

  lays : Lays (fixed_graph (family.rules N)) (named rules) (amount N 0) Δ
  lays = rw stands (filled_fixed N rules arrows bases held.filled h.registers 0 held.header.registers)

  names : Enumerates (fixed_graph (family.rules N)) (named rules) Δ.count
  names = rw (whole, stands) held.filled.fixed_enumerates

  -- the look may work on them
  pub held_shape : Shape Δ
  held_shape = rw stands (fixed_shape N held.legal rules arrows bases held.filled.room h.registers 0 (omega arith) held.filled (rw stands at lays))

  -- the look has what it asks for
  pub held_lookable : {a b kept : List ℤ} {p preds : List ℕ} → length a ≡ h.registers → length b ≡ h.registers → length p ≡ h.registers
      → length kept ≡ h.registers → length preds ≡ h.registers → Lookable Δ a b p kept preds
  held_lookable la lb lp lk lq =
      let y = rw stands at lays in
      record {
        bounded = rw stands (fixed_highs N held.legal rules arrows bases held.filled.room h.registers 0 (omega arith) held.filled y);
        lows = rw stands (fixed_lows N held.legal rules arrows bases held.filled.room h.registers 0 (omega arith) held.filled y);
        here = la;
        there = lb;
        noted = lp;
        row_kept = lk;
        preds_kept = lq;
      }

  -- a schedule of these rules is one of all rules at some period, so the climb may be made
  pub seen_known : (x : ℕ → ℤ) × Schedule Δ x → Known N h rules arrows bases
  seen_known (x, s) =
      let t = (laid_schedule (fixed_graph (family.rules N)) (named rules) (amount N 0) Δ names lays x).0 s in
      let f = fixed_scheduled (family.rules N) (rules_lawful N) x t (named rules) (rule_count N) held.filled.enumerates in
      record { held = held; some = (f.0, (x, f.1)) }

  -- a loop of these rules contradicts itself at every period
  module _ {ring : List ℕ} (s : ShowsLoop Δ ring) where
    seen_always : Always (family.rules N) (map (named rules) ring)
    seen_always =
        fixed_refutes (family.rules N) (rules_lawful N) (map (named rules) ring)
        (laid_contradicts (fixed_graph (family.rules N)) (named rules) (amount N 0) Δ names lays ring s.contradicts)
        (laid_listed (fixed_graph (family.rules N)) (named rules) (amount N 0) Δ names lays ring s.contradicts s.listed)

    -- so no period has a schedule, and the loop shows it
    pub seen_solved : {shown before after : List ℕ} → shown ≡ ring → LoopAlone (map (named rules) shown) before after → Solved N before (Err unanswered.NoPeriod) after
    seen_solved {shown} {before} {after} listed bytes =
        let a = (always_rules N (map (named rules) ring)).0 seen_always in (
          (never_rules N).0 (always_never (family.rules N) (rules_lawful N) (map (named rules) ring) seen_always),
          record { loop = map (named rules) ring; no_setups = a.no_setups; refutes = a.refutes; bytes = subst (λ (l : List ℕ). LoopAlone (map (named rules) l) before after) listed bytes },
        )

    -- it can be written out
    pub seen_nameable : length ring ≤ Δ.registers → Nameable rules ring
    seen_nameable short =
        let e = held.header.registers in
        let g = held.header.paths in
        held_nameable held ring (omega arith) (all_map (λ e b. let m = whole in let f = stands in omega arith) ring s.contradicts.exist)

  -- the climb has what it asks for
  pub seen_climbable : {kept : List ℤ} {preds : List ℕ} {passed : ℕ} → ((x : ℕ → ℤ) × Schedule Δ x) × Resumable Δ kept preds passed → {a b : List ℤ} {p out : List ℕ}
      → length a ≡ h.registers → length b ≡ h.registers → length p ≡ h.registers → room_for h.registers ≤ length out
      → Climbable h rules arrows bases kept preds passed a b p out
  seen_climbable l la lb lp lo = record {
    network = N;
    known = seen_known l.0;
    lent = record { resumable = rw (← counted) l.1; here = la; there = lb; noted = lp; output = lo };
  }
