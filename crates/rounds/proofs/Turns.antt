-- What a turn of the relaxation rests on: a ready row lies in its range, what a round's preds give lies in a row's range, and each way that
-- a turn ends is what its contract says. Rests on `Kept`, `Settle`, `Ends`, `Relax` and `Worth` of `loops`.
use mathlib.Core.Path.{◌≡◌, refl, sym, ap, ◌∙◌}
use mathlib.Core.Bool.{Bool, true, false}
use mathlib.Core.List.{List}
use Prim.Native.Nat.{ℕ, zero, suc, ◌-◌, ◌*◌, ◌≤◌, ◌<◌}
use native.Mathlib.Omega.{arith}
use native.Mathlib.Nat.{mul-le-mul_right}
use lib.ListN.{length}
use Rattle.std.specs.Prelude.{None}
use lib.IntN.{ℤ, pos}
use lib.Signed.{◌≤ℤ◌}
use Rattle.whole.proofs.Lin.{lin}
use Rattle.loops.specs.Arrows.{Arrows, amount, tail}
use Rattle.loops.specs.Model.{at, pred, round, row_after, preds_after, rooted, all_rooted, stray, settled, worth, circle_arrows}
use Rattle.loops.specs.Forest.{Deep}
use Rattle.loops.proofs.Grounded.{deep_short}
use Rattle.loops.proofs.Worth.{worth_next, worth_root, worth_most, tight_settled, settled_most}
use Rattle.loops.proofs.Kept.{round_grows, round_exact, round_fed, round_still, round_quiet, rested_least, tight_books}
use Rattle.loops.proofs.Settle.{settled_tight, rows_from}
use Rattle.loops.proofs.Ends.{gap_falls}
use Rattle.loops.proofs.Relax.{circled_ends}
use Rattle.loops.proofs.Rooted.{stray_above, stray_below_lem}
use Rattle.loops.proofs.Begun.{root_kept}
use Rattle.loops.specs.Shape.{Shape, Times}
use Rattle.circles.specs.Circle.{Astray, ShowsCircle}
use Rattle.settling.specs.Settling.{Fair, Settleable, Settles}
use Rattle.rounds.specs.Turning.{turn}
use Rattle.rounds.specs.Relaxation.{Bounded, Ready, ShowsLoop, Rested, Circled, Nears}

module _ {Γ : Arrows} (shape : Shape Γ) where
  modest_to : (e : ℕ) → e < Γ.count → amount Γ e ≤ℤ pos 4194304
  modest_to e h = (shape.modest e h).to

  -- 255 times the greatest amount
  range : (d : ℕ) → d < Γ.registers → d * 4194304 ≤ 1073741824
  range d h = let f = shape.few in let l : d ≤ 256 = omega arith in omega (arith, mul-le-mul_right 4194304 l)

  -- A tight row is what its preds give, so at most its depth times the greatest amount.
  pub ready_row : {a : List ℤ} {preds : List ℕ} → Ready Γ a preds → Times Γ.registers a
  ready_row {a} {preds} r =
      record {
        long = r.tight.row-length;
        in_row =
            λ v b.
            let most = settled_most Γ preds shape.sound r.tight.forest 4194304 modest_to v b in
            let is = ap (λ x. at x v) (tight_settled Γ a preds shape.sound r.tight) in
            let from = r.from v b in
            let top = range (Γ.registers - 1) (let s = shape.sound.some in omega arith) in
            record { from = from; to = omega lin };
      }

  module _ {a : List ℤ} {preds : List ℕ} (r : Ready Γ a preds) where
    -- By depth: a register without a pred is the host, which was not raised; deeper, what the round left at v is what its pred asks of the row
    -- that entered, which lies below what the round left at the tail, and so below what the preds give there.
    deep_from : (d v : ℕ) → v < Γ.registers → Deep Γ (preds_after Γ a preds) d v → at (row_after Γ a preds) v ≤ℤ worth Γ (preds_after Γ a preds) d v
    deep_from zero zero b h =
        let still = round_still Γ a preds shape.sound r.tight 0 b h in
        let host = r.tight.host in
        let root = worth_root Γ (preds_after Γ a preds) 0 0 h in
        omega lin
    deep_from zero (suc v) b h = absurd (let f = round_fed Γ a preds shape.sound r.tight (suc v) (omega arith) b in omega arith)
    deep_from (suc d) v b h =
        let u = tail Γ (pred (preds_after Γ a preds) v) in
        let ub = shape.sound.leaves (pred (preds_after Γ a preds) v) h.0 in
        let up = deep_from d u ub h.1 in
        let grows = round_grows Γ a preds shape.sound r.tight u ub in
        let left = round_exact Γ a preds shape.sound r.tight v b h.0 in
        let next = worth_next Γ (preds_after Γ a preds) d v h.0 in
        omega lin

    -- so a row can hold whatever the preds give after a round
    round_fair : Fair Γ (preds_after Γ a preds)
    round_fair v z b g =
        let up = deep_from g.depth v b g.deep in
        let grows = round_grows Γ a preds shape.sound r.tight v b in
        let low = r.from v b in
        let is = g.time in
        let most = worth_most Γ (preds_after Γ a preds) 4194304 modest_to g.depth v in
        let top = range g.depth (deep_short Γ (preds_after Γ a preds) shape.sound g.depth v b g.deep) in
        record { from = omega lin; to = omega lin }

    -- and a round keeps the lengths
    preds_long : length (preds_after Γ a preds) ≡ Γ.registers
    preds_long = (tight_books Γ a preds shape.sound r.tight).preds_length

    row_long : length (row_after Γ a preds) ≡ Γ.registers
    row_long = (tight_books Γ a preds shape.sound r.tight).row-length

    -- nothing was raised: the row and the preds are those that entered, and the row is the least schedule
    turned_rested : (ring : List ℕ) → (round Γ a preds).raised ≡ false → Rested Γ (row_after Γ a preds) (preds_after Γ a preds) ring ring
    turned_rested ring q =
        let same = round_quiet Γ a preds shape.sound r.tight q in
        record {
          rests = record { long = row_long; least = rw same.row_same (rested_least Γ a preds shape.sound r.tight q) };
          ready = rw (same.row_same, same.preds_same) r;
          kept = refl;
        }

    -- the preds are a forest, and the row is settled
    turned_settled : (ring : List ℕ) → Bounded Γ → (round Γ a preds).raised ≡ true → all_rooted Γ (preds_after Γ a preds) ≡ true
        → Nears Γ a (settled Γ (preds_after Γ a preds)) (preds_after Γ a preds) ring ring
    turned_settled ring w q all =
        record {
          ready = record {
            tight = settled_tight Γ a preds shape.sound r.tight all;
            from = λ v b. let f = rows_from Γ a preds shape.sound r.tight all v b in let g = r.from v b in omega lin;
            root = root_kept Γ a preds shape.sound r.tight all ∙ r.root;
          };
          nearer = gap_falls Γ 16777216 shape.sound w a preds r.tight q all;
          kept = refl;
        }

    -- a register is not grounded: the circle on which the walk back from it ends contradicts itself
    turned_circled : (u : ℕ) → u < Γ.registers → rooted Γ (preds_after Γ a preds) Γ.registers u ≡ false → ShowsLoop Γ (circle_arrows Γ (preds_after Γ a preds) u)
    turned_circled u b q = let e = circled_ends Γ a preds shape.sound r.tight u b q in record { contradicts = e.0; listed = e.1 }

    -- the same of the row, the preds and the flag that the code holds after its round
    module _ {b : List ℤ} {q : List ℕ} {raised : Bool} (is : turn b q raised ≡ round Γ a preds) where
      row_is : b ≡ row_after Γ a preds
      row_is = ap (λ t. t.row) is

      preds_is : q ≡ preds_after Γ a preds
      preds_is = ap (λ t. t.preds) is

      flag_is : raised ≡ (round Γ a preds).raised
      flag_is = ap (λ t. t.raised) is

      -- what settling is given: a time for each register, and preds that leave all times in a row's range
      pub after_settleable : Settleable Γ q b
      after_settleable = record { row_long = rw row_is row_long; fair = rw preds_is round_fair }

      -- nothing was raised
      pub after_rested : {ring : List ℕ} → raised ≡ false → Rested Γ b q ring ring
      after_rested {ring} h = rw (row_is, preds_is) (turned_rested ring (sym flag_is ∙ h))

      -- all registers are grounded: the row is settled, and the relaxation goes on
      pub after_settled : {row : List ℤ} {ring : List ℕ} → Settles Γ q row None → Bounded Γ → raised ≡ true → Nears Γ a row q ring ring
      after_settled {row} {ring} s w h =
          let (_, all) = stray_above Γ q Γ.registers (sym s.0) (omega arith) in
          rw (s.1, preds_is) (turned_settled ring w (sym flag_is ∙ h) (ap (all_rooted Γ) (sym preds_is) ∙ all))

      -- a register is not: the walk back from it does not end
      module _ {t : ℕ} (s : (stray Γ q ≡ t) × (t < Γ.registers)) where
        pub after_astray : Astray Γ q t
        after_astray = record { below = s.1; stray = stray_below_lem Γ q t (sym s.0) s.1 }

        -- and the circle that it ends on is listed
        pub after_circled : {ring : List ℕ} → ShowsCircle Γ q t ring → Circled Γ ring
        after_circled h =
            record {
              shows = rw (h.shows, preds_is) (turned_circled t s.1 (ap (λ x. rooted Γ x Γ.registers t) (sym preds_is) ∙ after_astray.stray));
              short = h.short;
            }
