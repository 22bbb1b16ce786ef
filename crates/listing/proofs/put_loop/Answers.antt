-- `listing::put_loop` meets its contract: the entries follow the line of the loop.
use mathlib.Core.Path.{ap}
use native.Mathlib.Omega.{arith}
use mir.Facts.{to_z-of_z}
use Rattle.listing.specs.Text.{line, loop_word}
use Rattle.text.proofs.Runs.{and_then, named}
use Rattle.listing.proofs.put_loop.Goals as goal

-- ---- the answers
pub returns : goal.returns
returns c =
    let w = c.put_line-next.ensures in
    let v = c.put_entries.ensures in
    let p = w.by in
    let q = v.by in
    record {
      written = and_then (named w.written (ap (line loop_word) (to_z-of_z c.ranges.period))) v.written;
      by = omega arith;
    }
