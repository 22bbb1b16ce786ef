-- `listing::put_latency` meets its contract: the rest of the line follows the word and the register.
use native.Mathlib.Omega.{arith}
use mir.Facts.{to_z-of_z}
use Rattle.listing.specs.Text.{latency_word}
use Rattle.text.proofs.Runs.{and_then, named, long}
use Rattle.listing.proofs.Lines.{latency_line_lem, counted_place, three_digits}
use Rattle.listing.proofs.put_latency.Goals as goal

pub put_count-next-requires : goal.put_count-next-requires
put_count-next-requires c = omega (arith, three_digits c.args.i c.requires.few, c.requires.room)

pub put_line-requires : goal.put_line-requires
put_line-requires c =
    let w = c.put_count-next.ensures in
    omega (arith, three_digits c.args.i c.requires.few, counted_place latency_word c.args.i w, long w, c.requires.room)

pub returns : goal.returns
returns c =
    let w = c.put_count-next.ensures in
    let v = c.put_line.ensures in
    record {
      written = named (and_then w v.written) (latency_line_lem c.args.i (to_z-of_z c.ranges.z));
      by = omega (arith, three_digits c.args.i c.requires.few, counted_place latency_word c.args.i w, v.by);
    }
