-- What stands above the number in the packed integer fits its 32 bits. A place lies below 2048: it is 0, or the number of a record, and the
-- counts of records have been found in range by then. A slack lies between the ends of its kind. Rests on `TableLaws` of `paper`, of which what
-- is known of the table's rows is all that is used, and on `Slacks` of `skew`.
use Rattle.std.specs.Prelude.{Ok, Err}
use mathlib.Core.List.{List}
use Prim.Native.Nat.{ℕ, ◌<◌}
use native.Mathlib.Omega.{arith}
use lib.IntN.{ℤ}
use lib.Signed.{◌<ℤ◌}
use lib.ListN.{length}
use mir.Syntax.{w32}
use mir.Val.{SFits}
use Rattle.whole.specs.Between.{Between}
use Rattle.whole.proofs.Lin.{lin}
use Rattle.whole.proofs.Four.{word_small}
use Rattle.paper.specs.declared.Delay.{Delay}
use Rattle.paper.specs.declared.Rule.{Rule}
use Rattle.paper.specs.declared.Rule.TheVariants.{Setup, Hold, Low, High}
use Rattle.paper.specs.File.{network_of}
use Rattle.paper.specs.Refusals.{faults, refusals, schedule_rows}
use Rattle.paper.specs.Numbers.{Outcome, Reply, outcome_place, reply_place}
use Rattle.paper.specs.Outcome.{FileResult}
use Rattle.paper.specs.Question.{Question, FileAnswers, question_refusals, question_rows}
use Rattle.paper.proofs.TableLaws.{given_below, below-append, faults_below, schedule_below, question_below}
use Rattle.skew.specs.Asks.{least_slack, most_slack}
use Rattle.skew.proofs.Slacks.{told_within}
use Rattle.skew_c.specs.Packed.{above_of, no_slack}

-- the scheduler's place
pub outcome_below : (f : List ℕ) {before after : List ℕ} {o : Outcome} → FileResult f before o after → outcome_place o < 2048
outcome_below f {before} r =
    let rows = below-append 2048 (faults f) (schedule_rows (network_of f) (length before)) (faults_below f) (schedule_below (network_of f) (length before)) in
    given_below 2048 (omega arith) (refusals f (length before)) rows _ _ r.given

-- the question's place
reply_below : (f : List ℕ) {q : Question} {o : Reply} → FileAnswers f q o → reply_place o < 2048
reply_below f {q} a =
    let rows = below-append 2048 (faults f) (question_rows (network_of f) q) (faults_below f) (question_below (network_of f) q) in
    given_below 2048 (omega arith) (question_refusals f q) rows _ _ a.given

-- the ends of every kind fit 32 bits
ends_fit : (r : Rule) {z : ℤ} → Between (least_slack r) (most_slack r) z → SFits w32 z
ends_fit (Setup p) b = omega lin
ends_fit (Hold p) b = omega lin
ends_fit (Low i) b = omega lin
ends_fit (High i) b = omega lin

-- so does the question's slack
pub slack_fits : (f : List ℕ) {q : Question} (d : Delay) → FileAnswers f q (Ok d) → SFits w32 d.0
slack_fits f d a =
    let h = told_within f d a in
    ends_fit h.0 h.2

below_ends : (r : Rule) {z : ℤ} → Between (least_slack r) (most_slack r) z → no_slack <ℤ z
below_ends (Setup p) b = omega lin
below_ends (Hold p) b = omega lin
below_ends (Low i) b = omega lin
below_ends (High i) b = omega lin

-- and what is read as the slack of a refusal lies below every slack
pub no_slack_below : (f : List ℕ) {q : Question} (d : Delay) → FileAnswers f q (Ok d) → no_slack <ℤ d.0
no_slack_below f d a =
    let h = told_within f d a in
    below_ends h.0 h.2

pub above_below : (f : List ℕ) {q : Question} (o : Reply) → FileAnswers f q o → above_of o < 4294967296
above_below f (Ok d) a = word_small d.0 (slack_fits f d a)
above_below f (Err x) a = omega (arith, reply_below f a)
