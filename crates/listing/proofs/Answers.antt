-- The answers of the paper can be listed: what an answer's bytes say is what a listing asks of them. Rests on `OutputLaws.antt` of `paper`.
use mathlib.Core.Path.{◌≡◌, ◌∙◌}
use mathlib.Core.List.{List, ◌++◌, append_assoc}
use Prim.Native.Nat.{ℕ, ◌≤◌, ◌<◌}
use native.Mathlib.Omega.{arith}
use lib.ListN.{length, drop, length-append}
use Rattle.paper.specs.Network.{Network}
use Rattle.paper.specs.declared.Rule.{Rule}
use Rattle.paper.specs.Output.{skew_record, latency_records, entry_records, LoopAlone, Answered}
use Rattle.paper.proofs.OutputLaws.{skew_length, latencies-length, entries-length, period_back, latencies_back, entries_back}
use Rattle.listing.specs.Listable.{FullAnswer, LoopAnswer}

-- an answer of a small network
pub answered_listable : (N : Network) (before after : List ℕ) (a : Answered N before after)
    → a.period < 2147483648 → N.registers ≤ 256 → length a.loop ≤ 256 → FullAnswer after
answered_listable N before after a h few entries =
    let n = N.registers in
    let k = length a.loop in
    let rows = latency_records a.latency n in
    let shown = entry_records a.loop in
    let skew = skew_record a.period n k in
    let behind = drop (length (skew ++ rows ++ shown)) before in
    let rest = rows ++ (shown ++ behind) in
    let e : after ≡ skew ++ rest = a.bytes ∙ simp append_assoc in
    record {
      period = a.period;
      n = n;
      k = k;
      period_is = rw e (period_back a.period n k rest h);
      latencies_are = rw e (latencies_back a.period n k rest (omega arith));
      entries_are = rw e (entries_back a.period n k rest (omega arith));
      few_latencies = few;
      few_entries = entries;
      within =
          rw e
          (omega (
            arith,
            skew_length a.period n k,
            length-append skew rest,
            length-append rows (shown ++ behind),
            length-append shown behind,
            latencies-length a.latency n,
            entries-length a.loop,
          ));
    }

-- a loop alone
pub loop_listable : (loop : List Rule) (before after : List ℕ) → LoopAlone loop before after → length loop ≤ 256 → LoopAnswer after
loop_listable loop before after a few =
    let k = length loop in
    let shown = entry_records loop in
    let skew = skew_record 0 0 k in
    let behind = drop (length (skew ++ shown)) before in
    let rest = shown ++ behind in
    let e : after ≡ skew ++ rest = a ∙ simp append_assoc in
    record {
      k = k;
      entries_are = rw e (entries_back 0 0 k rest (omega arith));
      few_entries = few;
      within = rw e (omega (arith, skew_length 0 0 k, length-append skew rest, length-append shown behind, entries-length loop));
    }
