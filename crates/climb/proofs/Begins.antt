-- Where the climb begins: at the floor, or where a guessed loop leads. Rests on `Attempts`: the floor may be tried, and a guessed loop is one that
-- a relaxation at the floor could have found.
use mathlib.Core.Path.{◌≡◌, refl}
use mathlib.Core.Logic.{◌⊎◌, inl, inr}
use mathlib.Core.List.{List, []}
use Prim.Native.Nat.{ℕ, ◌<◌}
use mir.Syntax.{w32}
use mir.Val.{to_z, of_z}
use mir.Facts.{to_z-of_z}
use lib.ListN.{length, take}
use lib.IntN.{ℤ}
use lib.Signed.{◌≤ℤ◌, ◌<ℤ◌}
use Rattle.whole.proofs.Lin.{lin}
use Rattle.paper.specs.Network.{Network}
use Rattle.paper.specs.File.{natural}
use Rattle.paper.specs.declared.Rule.{Rule}
use Rattle.loops.specs.declared.Arrow.{Arrow}
use Rattle.loops.specs.Arrows.{among}
use Rattle.loops.specs.RuleFamily as family
use Rattle.loops.specs.Names.{named}
use Rattle.loops.specs.Layout.{fixed_places, all_places, rule_count}
use Rattle.loops.proofs.Climbs.{climbing_floor}
use Rattle.loops.proofs.Rules.{rules_lawful}
use Rattle.network.specs.declared.Header.{Header}
use Rattle.rounds.specs.Relaxation.{Circled}
use Rattle.guess.specs.Guessing.{Guessed}
use Rattle.arrows.specs.Filled.{Weighed}
use Rattle.needs.specs.Raising.{Raisable}
use Rattle.climb.specs.Known.{Known, Tries}
use Rattle.climb.specs.Begin.{Led}
use Rattle.climb.specs.Trial.{Trial}
use Rattle.climb.proofs.Attempts.{trial_raisable, trial_tries, trial_onward}

module _ {N : Network} {h : Header} {rules : List Rule} {arrows : List Arrow} {bases : List ℤ} (known : Known N h rules arrows bases) where
  floor_natural : natural h.floor ≡ N.floor
  floor_natural = rw known.held.header.floor refl

  -- floor and ceiling are numbers of 32 bits
  pub floor_kept : to_z w32 (of_z w32 h.floor) ≡ h.floor
  floor_kept =
      let e = known.held.header.floor in
      let b = known.held.legal.ceiling_from in
      let top = known.held.legal.ceiling_to in
      to_z-of_z {w = w32} (omega lin)

  pub ceiling_kept : to_z w32 (of_z w32 h.ceiling) ≡ h.ceiling
  ceiling_kept = let e = known.held.header.ceiling in let top = known.held.legal.ceiling_to in to_z-of_z {w = w32} (omega lin)

  -- the floor may be tried, and no loop is shown there
  pub floor_trial : Trial h rules arrows bases h.floor [] N
  floor_trial = record {
    known = known;
    tries = record {
      is = rw known.held.header.floor refl;
      climbing = rw floor_natural (climbing_floor (family.rules N) (rules_lawful N) (named rules) (rule_count N) N.floor N.ceiling known.held.legal.ceiling_from);
    };
  }

  module _ {after : List Arrow} (w : Weighed (fixed_places h.registers h.paths) h.paths h.floor bases arrows after) {all : ℕ}
      (counted : all ≡ all_places h.registers h.paths) {loop : List ℕ} (g : Guessed (among h.registers (take all after)) loop) where
    found : 0 < length loop → Circled (among h.registers (take all after)) loop
    found some = record { shows = record { contradicts = g.contradicts some; listed = g.listed some }; short = g.short }

    -- a guessed loop leads to another period
    pub guessed_raisable : 0 < length loop → Raisable after rules h.floor loop
    guessed_raisable some = trial_raisable floor_trial w counted (found some)

    -- the climb may begin where it leads
    pub led_tries : (period : ℤ) (ring : List ℕ) → Led after rules loop h.floor h.ceiling period ring → Tries N rules period ring
    led_tries period ring (inl at_floor) = rw (at_floor.0, at_floor.1) floor_trial.tries
    led_tries period ring (inr l) = rw l.kept (lower l.lower)
      where
        lower : ((l.next ≤ℤ h.ceiling) × (period ≡ l.next)) ⊎ ((h.ceiling <ℤ l.next) × (period ≡ h.ceiling)) → Tries N rules period loop
        lower (inl x) = rw x.1 (trial_onward floor_trial w counted (found l.some) l.raised x.0)
        lower (inr x) =
            let over = x.0 in
            rw x.1 (trial_tries floor_trial w counted (found l.some) l.raised h.ceiling (omega lin) (omega lin) l.apart)
