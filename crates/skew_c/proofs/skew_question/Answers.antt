-- `skew_c::skew_question` meets its contract: the number, and what stands above it, are those of the reply that `skew` returned, and they fit.
use native.Mathlib.Omega.{arith}
use Rattle.skew.proofs.Replies.{as_read}
use Rattle.skew_c.proofs.Places.{above_below}
use Rattle.skew_c.proofs.Unpacked.{replied}
use Rattle.skew_c.proofs.skew_question.Goals as goal

pub pack-requires : goal.pack-requires
pack-requires c =
    let h = above_below _ c.question-o.result c.question-o.ensures in
    let a = c.above.ensures in
    omega arith

pub returns : goal.returns
returns c =
    let n = c.number.ensures in
    let a = c.above.ensures in
    let f = c.ranges in
    let e = c.pack.ensures in
    replied _ _ (as_read _ f.period f.kind f.number f.tail f.head c.question-o.ensures) (omega arith) (omega arith)
