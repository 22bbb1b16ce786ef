-- What holds whenever the climb tries a period. Rests on `Attempts` and `Begins`.
use mathlib.Core.Path.{◌≡◌, refl, sym, ap, ◌∙◌}
use mathlib.Core.List.{List}
use Prim.Native.Nat.{ℕ, suc, ◌-◌, ◌<◌}
use native.Mathlib.Omega.{arith}
use lib.ListN.{length, take}
use lib.Seq.{get_or-take}
use Rattle.std.proofs.lemmas.List.{ext_get_or, length-take}
use lib.IntN.{ℤ, pos}
use lib.Signed.{◌≤ℤ◌}
use Rattle.whole.proofs.Lin.{lin}
use Rattle.paper.specs.Network.{Network}
use Rattle.paper.specs.File.{natural}
use Rattle.paper.specs.declared.Rule.{Rule}
use Rattle.loops.specs.declared.Arrow.{Arrow}
use Rattle.loops.specs.Arrows.{among}
use Rattle.loops.specs.Layout.{fixed_places, all_places}
use Rattle.network.specs.declared.Header.{Header}
use Rattle.rounds.specs.Relaxation.{Circled}
use Rattle.arrows.specs.Filled.{Weighed}
use Rattle.needs.specs.Raising.{Raised}
use Rattle.climb.specs.Known.{Known}
use Rattle.climb.specs.Begin.{Begun}
use Rattle.climb.specs.Trial.{Climbable, Lent, Trial}
use Rattle.climb.proofs.Attempts.{trial_known, trial_rises, trial_onward}
use Rattle.climb.proofs.Begins.{floor_trial}

-- the memory is still there, nothing is written, and of every network that was held at first the period may be tried
pub record Going (h : Header) (rules : List Rule) (first arrows : List Arrow) (bases row : List ℤ) (preds : List ℕ) (passed : ℕ) (a b : List ℤ) (p ring before out : List ℕ)
    (period : ℤ) : Type 0 where
  pub lent : Lent h arrows row preds passed a b p out
  pub unwritten : out ≡ before
  pub each : (N : Network) → Known N h rules first bases → Trial h rules arrows bases period ring N

-- the arrows that do not know the period stay when the amounts at another one are written
same_fixed : {fixed m : ℕ} {period : ℤ} {bases : List ℤ} {arrows after : List Arrow} → Weighed fixed m period bases arrows after → take fixed after ≡ take fixed arrows
same_fixed {fixed} {m} {period} {bases} {arrows} {after} w =
    ext_get_or (record { tail = 0; head = 0; amount = pos 0 }) (take fixed after) (take fixed arrows) (omega (arith, w.long, length-take fixed after, length-take fixed arrows))
    (λ e h. let b : e < fixed = omega (arith, length-take fixed after) in get_or-take fixed after e _ b ∙ w.same e b ∙ sym (get_or-take fixed arrows e _ b))

-- the first trial
pub going_first : {h : Header} {rules : List Rule} {arrows after : List Arrow} {bases row : List ℤ} {preds : List ℕ} {passed : ℕ} {a b : List ℤ} {p p' ring out : List ℕ} {period : ℤ}
    → Climbable h rules arrows bases row preds passed a b p out → Begun h rules arrows after bases ring period → length p' ≡ length p
    → Going h rules arrows after bases row preds passed a b p' ring out out period
going_first k b long = record {
  lent = record {
    resumable = rw (same_fixed b.weighed) k.lent.resumable;
    here = k.lent.here;
    there = k.lent.there;
    noted = long ∙ k.lent.noted;
    output = k.lent.output;
  };
  unwritten = refl;
  each = λ N known. record { known = trial_known (floor_trial known) b.weighed; tries = b.tries N known };
}

module _ {h : Header} {rules : List Rule} {first arrows : List Arrow} {bases row : List ℤ} {preds : List ℕ} {passed : ℕ} {a b : List ℤ} {p ring before out : List ℕ} {period : ℤ}
    (g : Going h rules first arrows bases row preds passed a b p ring before out period)
    {after : List Arrow} (w : Weighed (fixed_places h.registers h.paths) h.paths period bases arrows after) {all : ℕ} (counted : all ≡ all_places h.registers h.paths)
    {loop : List ℕ} (r : Circled (among h.registers (take all after)) loop) {next : ℤ} (raised : Raised after rules period loop next) (to : next ≤ℤ h.ceiling) where
  -- the next trial
  pub going_on : {a' b' : List ℤ} {p' : List ℕ} → length a' ≡ length a → length b' ≡ length b → length p' ≡ length p
      → Going h rules first after bases row preds passed a' b' p' loop before out next
  going_on la lb lp = record {
    lent = record {
      resumable = rw (same_fixed w) g.lent.resumable;
      here = la ∙ g.lent.here;
      there = lb ∙ g.lent.there;
      noted = lp ∙ g.lent.noted;
      output = g.lent.output;
    };
    unwritten = g.unwritten;
    each = λ N known. record { known = trial_known (g.each N known) w; tries = trial_onward (g.each N known) w counted r raised to };
  }

  -- what is left up to the ceiling falls, as the period rises and stays within it
  pub going_up : {M : Network} → Known M h rules first bases → suc (natural h.ceiling) - natural next < suc (natural h.ceiling) - natural period
  going_up {M} known =
      let t = g.each M known in
      let rise = trial_rises t w counted r raised in
      let up = rise.raises.up in
      let e = rise.is in
      let c = t.known.held.header.ceiling in
      let same : natural h.ceiling ≡ M.ceiling = ap natural c in
      omega lin
