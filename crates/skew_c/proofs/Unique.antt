-- No two different results satisfy the contracts of the two functions, but for the choice of the loop that is shown: what is proved of
-- `skew`'s own two, carried over to the packed integers. Rests on `Unique` of `skew` and `reply_one` of `paper`.
use mathlib.Core.Path.{◌≡◌, sym, ap, ◌∙◌}
use mathlib.Core.List.{List}
use Prim.Native.Nat.{ℕ}
use Rattle.paper.specs.Question.{Question}
use Rattle.skew.specs.Same.{SameButLoop}
use Rattle.paper.specs.File.{network_of}
use Rattle.paper.proofs.TableLaws.{question_refusals_one_place}
use Rattle.paper.proofs.NumberLaws.{reply_one}
use Rattle.skew.proofs.Unique.{schedule_unique}
use Rattle.skew_c.specs.Packed.{packed_outcome, packed_reply}
use Rattle.skew_c.specs.Returned.{Scheduled, Replied}

-- the scheduler's
pub scheduled_unique : (f before : List ℕ) {after after' : List ℕ} {r s : ℕ} (a : Scheduled f before r after) → Scheduled f before s after'
    → (r ≡ s) × SameButLoop (network_of f) before a.outcome after after'
scheduled_unique f before a b =
    let one = schedule_unique f before a.result b.result in
    (a.is_packed ∙ ap packed_outcome one.0 ∙ sym b.is_packed, one.1)

-- the question's
pub replied_unique : (f : List ℕ) (q : Question) {r s : ℕ} → Replied f q r → Replied f q s → r ≡ s
replied_unique f q a b =
    let one = reply_one (question_refusals_one_place f q) a.answers b.answers in
    a.is_packed ∙ ap packed_reply one ∙ sym b.is_packed
