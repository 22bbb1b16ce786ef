-- What is true of arrows of any kind. Fewer arrows, or arrows that ask less, lose no schedule and gain no loop; and no schedule stands beside
-- a loop that contradicts itself. Rests on `Renamed`.
use mathlib.Core.List.{List, [], ◌∷◌, map}
use Prim.Native.Nat.{ℕ}
use lib.IntN.{ℤ, ◌+ℤ◌}
use lib.Signed.{◌≤ℤ◌}
use Rattle.whole.specs.Sums.{total}
use Rattle.whole.proofs.Lin.{lin}
use Rattle.paper.specs.Chains.{All, Listed}
use Rattle.paper.proofs.LoopLaws.{all_map, loop_binds}
use Rattle.loops.specs.Webs.{Web, Schedule, Contradicts, Within}
use Rattle.loops.proofs.Renamed.{Alike, renamed_all, renamed_loop, renamed_listed}

-- Adding a schedule's inequalities around a loop: its amounts add up to at most 0.
pub schedule_no_loop : {E : Type 0} (W : Web E) (x : ℕ → ℤ) (l : List E) → Schedule W x → Contradicts W l → ⊥
schedule_no_loop W x l s c =
    let binds = loop_binds W.leaves W.reaches W.asks x l (all_map (λ e h. s.meets e h) l c.exist) c.loop in
    let over = c.above in
    omega lin

module _ {D E : Type 0} (W : Web D) (U : Web E) (name : D → E) (i : Within W U name) where
  -- Amounts no higher, same ends: schedules stay. An arrow of W asks no more than the one that it is named after.
  pub within_schedule : (x : ℕ → ℤ) → Schedule U x → Schedule W x
  within_schedule x s = record { host = s.host; meets = meets }
    where
      meets : (e : D) → W.Here e → (x (W.leaves e) +ℤ W.asks e) ≤ℤ x (W.reaches e)
      meets e h =
          let met = s.meets (name e) (i.here e h) in
          let less = i.asked e h in
          rw (i.tails e h, i.heads e h) (omega lin)

  alike : (e : D) → W.Here e → Alike W.leaves W.reaches U.leaves U.reaches name e
  alike e h = record { tails = i.tails e h; heads = i.heads e h }

  totals : (l : List D) → All W.Here l → total W.asks l ≤ℤ total U.asks (map name l)
  totals [] h = omega lin
  totals (e ∷ l) h =
      let first = i.asked e h.0 in
      let rest = totals l h.1 in
      omega lin

  -- And loops that contradict themselves do so under their other names.
  pub within_contradicts : (l : List D) → Contradicts W l → Contradicts U (map name l)
  within_contradicts l c =
      let same = all_map alike l c.exist in
      let over = c.above in
      let more = totals l c.exist in
      record {
        loop = renamed_loop W.leaves W.reaches U.leaves U.reaches name l same c.loop;
        exist = renamed_all W.leaves W.reaches U.leaves U.reaches name W.Here U.Here (λ e a h. i.here e h) l same c.exist;
        above = omega lin;
      }

  pub within_listed : (l : List D) → All W.Here l → Listed W.leaves W.reaches l → Listed U.leaves U.reaches (map name l)
  within_listed l h = renamed_listed W.leaves W.reaches U.leaves U.reaches name l (all_map alike l h)
