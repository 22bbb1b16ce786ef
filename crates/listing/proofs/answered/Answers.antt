-- `listing::answered` meets its contract: the lines of the period, of the registers and of the loop follow one another.
use Rattle.std.proofs.Common.{rules}
use native.Mathlib.Omega.{arith}
use mathlib.Core.Path.{◌∙◌}
use Rattle.listing.proofs.Lines.{without_loop, with_loop, same_count, less_one}
use Rattle.listing.proofs.answered.Goals as goal

pub returns-then-k-eq0 : goal.returns-then-k-eq0
returns-then-k-eq0 c =
    let f = c.requires.counted in
    let w = c.put_line-next.ensures in
    let v = c.put_latencies-end.ensures in
    record {
      written = without_loop _ _ _ _ _ _ _ _ _ c.count-n.ensures c.count-k.ensures (search rules) w.written v.written c.if-k-eq0.true;
      by = omega (arith, f.few_latencies, same_count _ _ _ c.count-n.ensures f.latencies_are, w.by, v.by);
    }

pub returns : goal.returns
returns c =
    let f = c.requires.counted in
    let w = c.put_line-next.ensures in
    let v = c.put_latencies-end.ensures in
    let u = c.put_loop.ensures in
    record {
      written =
          with_loop _ _ _ _ _ _ _ _ _ c.count-n.ensures c.count-k.ensures (search rules) w.written v.written c.if-k-eq0.false _ _ _
          (less_one _ _ (search rules) (c.number-period.ensures ∙ f.period_is)) u.written;
      by =
          omega (
            arith,
            f.few_latencies,
            f.few_entries,
            same_count _ _ _ c.count-n.ensures f.latencies_are,
            same_count _ _ _ c.count-k.ensures f.entries_are,
            w.by,
            v.by,
            u.by,
          );
    }
