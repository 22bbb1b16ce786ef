-- `listing::put_refused` meets its contract: the word and the number, a space and the place, and the newline follow one another.
use native.Mathlib.Omega.{arith}
use Rattle.listing.specs.Text.{refused_word}
use Rattle.text.proofs.Runs.{and_then, and_byte, named, long}
use Rattle.listing.proofs.Lines.{refused_line_lem, counted_place, ten_digits, twenty_digits, refused_end}
use Rattle.listing.proofs.put_refused.Goals as goal
use Rattle.listing.proofs.put_refused.Goals.{After-put_count-end}
use Prim.Native.Nat.{◌≤◌}

-- where the newline is written
last : (c : After-put_count-end) → c.put_count-end.result ≤ 39
last c = refused_end _ _ c.ranges.number.fits c.ranges.place.fits c.put_count-next.ensures c.put_count-end.ensures

pub put_count-next-requires : goal.put_count-next-requires
put_count-next-requires c = omega (arith, ten_digits c.args.number c.ranges.number.fits, c.requires)

pub put_count-end-requires : goal.put_count-end-requires
put_count-end-requires c =
    let w = c.put_count-next.ensures in
    omega (
      arith,
      ten_digits c.args.number c.ranges.number.fits,
      twenty_digits c.args.place c.ranges.place.fits,
      counted_place refused_word c.args.number w,
      long w,
      c.requires,
    )

pub bounds-text-end : goal.bounds-text-end
bounds-text-end c =
    let d = c.before.before in
    omega (arith, last d, long d.put_count-end.ensures, long d.put_count-next.ensures, c.requires)

pub overflow_add-result : goal.overflow_add-result
overflow_add-result c = omega (arith, last c.before.before)

pub returns : goal.returns
returns c =
    record {
      written = named (and_byte (and_then c.put_count-next.ensures c.put_count-end.ensures) 10) (refused_line_lem c.args.number c.args.place);
      by = omega (arith, last c.before.before);
    }
