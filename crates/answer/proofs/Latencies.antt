-- The latencies written one after the other: the loop's invariant and its law. Rests on `stores_then` of `whole` and `latencies-length` of
-- `paper`.
use mathlib.Core.Path.{◌≡◌, ◌∙◌}
use mathlib.Core.List.{List}
use Prim.Native.Nat.{ℕ, ◌+◌, ◌*◌}
use native.Mathlib.Omega.{arith}
use native.Mathlib.Numerals.{add-one}
use lib.IntN.{ℤ}
use lib.Seq.{sets}
use Rattle.whole.proofs.Stores.{stores_then}
use Rattle.paper.specs.Output.{latency_record, latency_records}
use Rattle.paper.proofs.OutputLaws.{latencies-length}
use Rattle.loops.specs.Model.{at}

-- the latencies of the first i registers stand in the output, and nothing else changed
abbrev pub Timed : List ℤ → List ℕ → List ℕ → ℕ → Type 0
Timed row before out i = out ≡ sets before 14 (latency_records (at row) i)

-- what is written after the first i records, each of 6 bytes, is the record of the next register
pub timed_more : (row : List ℤ) (before out after : List ℕ) (i : ℕ) (x : ℤ) → Timed row before out i
    → after ≡ sets out (14 + 6 * i) (latency_record x) → x ≡ at row i → Timed row before after (i + 1)
timed_more row before out after i x t e f =
    e
    ∙ rw (t, f, add-one)
    (stores_then (latency_records (at row) i) (latency_record (at row i)) before 14 (14 + 6 * i)
    (omega (arith, latencies-length (at row) i)))
