-- What the two functions may return and leave: what those of `skew` promise, packed.
use Rattle.std.specs.Prelude.{◌≡◌, ◌↔◌, List, true, ℕ}
use Rattle.paper.specs.Numbers.{Outcome, Reply, outcome_number, outcome_place, reply_number, reply_place}
use Rattle.paper.specs.Outcome.{FileResult}
use Rattle.paper.specs.Question.{Question, FileAnswers, Yes}
use Rattle.skew_c.specs.Packed.{packed_outcome, packed_reply, slack_of, number_in, place_in, slack_in, yes_in}

-- The scheduler, lent the file f and an output that holds `before`, may return r and leave `after`: r is an outcome that the paper allows,
-- packed, and the outcome's number and place are what a caller reads out of r.
pub record Scheduled (f before : List ℕ) (r : ℕ) (after : List ℕ) : Type 0 where
  pub outcome : Outcome
  pub result : FileResult f before outcome after
  pub is_packed : r ≡ packed_outcome outcome
  pub number_read : number_in r ≡ outcome_number outcome
  pub place_read : place_in r ≡ outcome_place outcome

-- The rule question, lent the file f, may return r: a reply that the paper allows, packed, and read out alike. RULES 15.4: "Yes is a slack of
-- at least 0"
pub record Replied (f : List ℕ) (q : Question) (r : ℕ) : Type 0 where
  pub reply : Reply
  pub answers : FileAnswers f q reply
  pub is_packed : r ≡ packed_reply reply
  pub number_read : number_in r ≡ reply_number reply
  pub place_read : place_in r ≡ reply_place reply
  pub slack_read : slack_in r ≡ slack_of reply
  pub yes_read : (yes_in r ≡ true) ↔ Yes reply
