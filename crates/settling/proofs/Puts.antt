-- The walk that writes: every register that it marks stands where its preds put it, and what was marked stays marked. Rests on `Gives`.
use mathlib.Core.Path.{◌≡◌, sym, ◌∙◌}
use mathlib.Core.Bool.{Bool, true, false}
use mathlib.Core.List.{List}
use Prim.Native.Nat.{ℕ, ◌+◌, ◌<◌}
use native.Mathlib.Omega.{arith}
use native.Mathlib.Decide.{ℕ_discrete}
use lib.ListN.{length, set, length-set}
use lib.Seq.{get_or-set_same, get_or-set_other}
use lib.IntN.{ℤ, pos, ◌+ℤ◌, ◌-ℤ◌}
use Rattle.loops.specs.declared.Arrow.{Arrow}
use Rattle.loops.specs.Arrows.{Arrows, arrow_at, tail, amount}
use Rattle.loops.specs.Model.{at, pred}
use Rattle.loops.specs.Shape.{Shape, InRow}
use Rattle.settling.specs.Settling.{marked, Gives, Fair, Marked, Walks, Marks}
use Rattle.settling.proofs.Gives.{gives_is, gives_next, gives_back}

-- the walk stands at v after k steps with the time z that the preds give v; past the first step s is marked
pub record Putting (Γ : Arrows) (preds : List ℕ) (s : ℕ) (old : List Bool) (row : List ℤ) (marks : List Bool) (v : ℕ) (z : ℤ) (k : ℕ) : Type 0 where
  pub still : Marked Γ preds row marks
  pub kept : (u : ℕ) → marked old u ≡ true → marked marks u ≡ true
  pub below : v < Γ.registers
  pub gives : Gives Γ preds v z
  pub begin : k ≡ 0 → v ≡ s
  pub done : 0 < k → marked marks s ≡ true

-- a mark that is set takes no other away
mark_kept : (marks : List Bool) (v u : ℕ) → v < length marks → marked marks u ≡ true → marked (set marks v true) u ≡ true
mark_kept marks v u b h = go (ℕ_discrete u v)
  where
    go : Dec (u ≡ v) → marked (set marks v true) u ≡ true
    go (yes e) = rw e (get_or-set_same marks v true false b)
    go (no e) = get_or-set_other marks v u true false e ∙ h

module _ (Γ : Arrows) (preds : List ℕ) (s : ℕ) (old : List Bool) where
  -- a register takes its time and its mark
  mark_stands : (row : List ℤ) (marks : List Bool) (v : ℕ) (z : ℤ) → v < Γ.registers → Gives Γ preds v z → Marked Γ preds row marks
      → Marked Γ preds (set row v z) (set marks v true)
  mark_stands row marks v z b g m =
      record {
        row_long = length-set row v z ∙ m.row_long;
        marks_long = rw length-set m.marks_long;
        stands = λ u c h. go u c h (ℕ_discrete u v);
      }
    where
      go : (u : ℕ) → u < Γ.registers → marked (set marks v true) u ≡ true → Dec (u ≡ v) → Gives Γ preds u (at (set row v z) u)
      go u c h (yes e) =
          rw e (gives_is Γ preds (sym (get_or-set_same row v z (pos 0) (let l = m.row_long in omega arith))) g)
      go u c h (no e) =
          gives_is Γ preds (sym (get_or-set_other row v u z (pos 0) e)) (m.stands u c (sym (get_or-set_other marks v u true false e) ∙ h))

  module _ (row : List ℤ) (marks : List Bool) (v : ℕ) (z : ℤ) (k : ℕ) (w : Putting Γ preds s old row marks v z k) where
    room : v < length marks
    room = let b = w.below in let l = w.still.marks_long in omega arith

    marked_first : k ≡ 0 → marked (set marks v true) s ≡ true
    marked_first e = rw (sym (w.begin e)) (get_or-set_same marks v true false room)

    marked_start : marked (set marks v true) s ≡ true
    marked_start = go (ℕ_discrete k 0)
      where
        go : Dec (k ≡ 0) → marked (set marks v true) s ≡ true
        go (yes e) = marked_first e
        go (no e) = mark_kept marks v s room (w.done (omega arith))

    -- the walk goes on to the pred's tail
    putting_more : Shape Γ → pred preds v < Γ.count
        → Putting Γ preds s old (set row v z) (set marks v true) (tail Γ (pred preds v)) (z -ℤ amount Γ (pred preds v)) (k + 1)
    putting_more shape h =
        record {
          still = mark_stands row marks v z w.below w.gives w.still;
          kept = λ u e. mark_kept marks v u room (w.kept u e);
          below = shape.sound.leaves (pred preds v) h;
          gives = gives_back Γ preds v z h w.gives;
          begin = λ e. absurd (omega arith);
          done = λ g. marked_start;
        }

    -- the pred as the code reads it: the time at its tail fits a row, and the walk goes on from there
    module _ (arrow : Arrow) (some : pred preds v < Γ.count) (is : arrow ≡ arrow_at Γ.list (pred preds v)) where
      -- the time at the tail fits a row
      pub read_in_row : Shape Γ → Fair Γ preds → InRow (z -ℤ arrow.amount)
      read_in_row shape fair = rw is (fair _ _ (shape.sound.leaves (pred preds v) some) (gives_back Γ preds v z some w.gives))

      -- the register is written, and the walk stands at the tail
      pub putting_on : Shape Γ → (t : ℕ) (x : ℤ) → t ≡ arrow.tail → x ≡ z -ℤ arrow.amount
          → Putting Γ preds s old (set row v z) (set marks v true) t x (k + 1)
      putting_on shape t x at_tail taken = rw (at_tail, taken, is) (putting_more shape some)

    -- it may end at a register that it writes
    pub put_here : Marks Γ preds s (set row v z) old (set marks v true)
    put_here =
        record {
          still = mark_stands row marks v z w.below w.gives w.still;
          kept = λ u e. mark_kept marks v u room (w.kept u e);
          done = marked_start;
        }

  -- a register that takes its time and its mark at once
  put_once : (row : List ℤ) (x z : ℤ) → s < Γ.registers → x ≡ z → Gives Γ preds s z → Marked Γ preds row old → Marks Γ preds s (set row s x) old (set old s true)
  put_once row x z b e g m =
      rw e
      (record {
        still = mark_stands row old s z b g m;
        kept = λ u h. mark_kept old s u (let l = m.marks_long in omega arith) h;
        done = get_or-set_same old s true false (let l = m.marks_long in omega arith);
      })

-- ---- one step back from s, over the pred as the code reads it

module _ (Γ : Arrows) (shape : Shape Γ) (preds : List ℕ) (row : List ℤ) (marks : List Bool) (s : ℕ) (w : Walks Γ preds row marks s) (arrow : Arrow)
    (some : pred preds s < Γ.count) (is : arrow ≡ arrow_at Γ.list (pred preds s)) where
  -- where the tail is marked, the preds give s what stands there and the pred's amount
  hop_gives : marked marks arrow.tail ≡ true → Gives Γ preds s (at row arrow.tail +ℤ arrow.amount)
  hop_gives mark = rw is (gives_next Γ preds s _ some (w.marked.stands _ (shape.sound.leaves (pred preds s) some) (rw is at mark)))

  -- and s takes it with its mark
  pub hop_marks : marked marks arrow.tail ≡ true → (x : ℤ) → x ≡ at row arrow.tail +ℤ arrow.amount → Marks Γ preds s (set row s x) marks (set marks s true)
  hop_marks mark x asked = put_once Γ preds s marks row x _ w.below asked (hop_gives mark) w.marked
