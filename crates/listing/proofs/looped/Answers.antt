-- `listing::looped` meets its contract: the loop follows the line of the refusal.
use Rattle.std.specs.Prelude.{Err}
use mathlib.Core.Path.{◌≡◌}
use native.Mathlib.Omega.{arith}
use mir.Facts.{to_z-of_z}
use Rattle.listing.proofs.Lines.{looped_written, same_count}
use Rattle.listing.proofs.looped.Goals as goal

pub returns : goal.returns
returns c =
    let k_is : c.count-k.result ≡ c.requires.counted.k = same_count _ _ _ c.count-k.ensures c.requires.counted.entries_are in
    let w = c.put_refusal-next.ensures in
    let v = c.put_loop.ensures in
    let e = k_is in
    record {
      written = looped_written _ _ _ _ (Err c.args.e) _ _ _ _ _ c.count-k.ensures (to_z-of_z c.ranges.ceiling) w.written v.written;
      by = omega (arith, c.requires.counted.few_entries, w.by, v.by);
    }
