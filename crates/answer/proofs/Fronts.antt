-- The answer's records one after the other are its bytes at the front of the output. Rests on `stores_then` of `whole`, and on the lengths of
-- the records in `OutputLaws` of `paper`.
use mathlib.Core.Path.{◌≡◌, sym, ap, ◌∙◌}
use mathlib.Core.List.{List, ◌++◌, map}
use Prim.Native.Nat.{ℕ, ◌+◌, ◌*◌, ◌≤◌}
use native.Mathlib.Omega.{arith}
use lib.IntN.{ℤ, pos}
use lib.ListN.{length, length-append, length-map}
use lib.Seq.{sets}
use mir.Facts.{to_z-of_z, to_z_pos}
use mir.Syntax.{w32}
use mir.Val.{SFits, to_z, of_z}
use Rattle.whole.proofs.Four.{four-length}
use Rattle.whole.proofs.Stores.{stores_then}
use Rattle.paper.specs.declared.Rule.{Rule}
use Rattle.paper.specs.Output.{LoopAlone, skew_record, latency_records, entry_records}
use Rattle.paper.proofs.OutputLaws.{skew_length, latencies-length, entries-length, stored_front}
use Rattle.loops.specs.Model.{at}
use Rattle.loops.specs.Names.{named}
use Rattle.answer.specs.Records.{skew_bytes, AnswerBytes}

-- a first record has 14 bytes, whatever its numbers
skew_long : (x y z : ℤ) → length (skew_bytes x y z) ≡ 14
skew_long x y z = simp length-append (omega (arith, four-length x, four-length y, four-length z))

module _ (rules : List Rule) (ring : List ℕ) (few : length ring ≤ 256) where
  abbrev loop : List Rule
  loop = map (named rules) ring

  -- the loop has as many rules as places
  counted : length loop ≡ length ring
  counted = length-map ring (named rules)

  count : to_z w32 (length ring) ≡ pos (length loop)
  count = to_z_pos w32 (omega arith) ∙ ap pos (sym counted)

  -- a first record, all latencies and the loop, each run from where the one before it ends, are the answer's bytes
  pub answered_front : (row : List ℤ) (before first second after : List ℕ) (period : ℤ)
      → SFits w32 period → length row ≤ 256 → 14 + 6 * length row + 10 * length ring ≤ length before
      → first ≡ sets before 0 (skew_bytes (to_z w32 (of_z w32 period)) (to_z w32 (length row)) (to_z w32 (length ring)))
      → second ≡ sets first 14 (latency_records (at row) (length row))
      → after ≡ sets second (14 + 6 * length row) (entry_records (map (named rules) ring))
      → AnswerBytes period row (map (named rules) ring) before after
  answered_front row before first second after period fits short room e f g =
      let skew = skew_bytes period (pos (length row)) (pos (length loop)) in
      let rows = latency_records (at row) (length row) in
      let shown = entry_records loop in
      let a : length skew ≡ 14 = skew_long period (pos (length row)) (pos (length loop)) in
      let b = latencies-length (at row) (length row) in
      let d = entries-length loop in
      let n = counted in
      let l : to_z w32 (length row) ≡ pos (length row) = to_z_pos w32 (omega arith) in
      let two : length (skew ++ rows) ≡ 14 + 6 * length row = omega (arith, length-append skew rows) in
      let s : second ≡ sets before 0 (skew ++ rows) = f ∙ rw (e, to_z-of_z fits, l, count) (stores_then skew rows before 0 14 (omega arith)) in
      let t : after ≡ sets before 0 (skew ++ rows ++ shown) = g ∙ rw s (stores_then (skew ++ rows) shown before 0 (14 + 6 * length row) (omega arith)) in
      record { front = t ∙ stored_front (skew ++ rows ++ shown) before (omega (arith, length-append (skew ++ rows) shown)) }

  -- a first record without a period and without latencies, and the loop behind it, are a loop alone
  pub alone_front : (before first after : List ℕ) → 14 + 10 * length ring ≤ length before
      → first ≡ sets before 0 (skew_bytes (pos 0) (pos 0) (to_z w32 (length ring)))
      → after ≡ sets first 14 (entry_records (map (named rules) ring))
      → LoopAlone (map (named rules) ring) before after
  alone_front before first after room e g =
      let skew = skew_record 0 0 (length loop) in
      let shown = entry_records loop in
      let a = skew_length 0 0 (length loop) in
      let d = entries-length loop in
      let n = counted in
      let t : after ≡ sets before 0 (skew ++ shown) = g ∙ rw (e, count) (stores_then skew shown before 0 14 (omega arith)) in
      t ∙ stored_front (skew ++ shown) before (omega (arith, length-append skew shown))
