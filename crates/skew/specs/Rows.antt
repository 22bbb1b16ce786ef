-- What a row of the networks worked by hand (RULES 11.5) says of the scheduler's results: with room enough, the row's own outcome and bytes
-- are allowed, and nothing else is, but for the loop.
use Rattle.std.specs.Prelude.{◌≡◌, List, [], ◌++◌, ℕ, ◌≤◌, pos, length, get_or, drop, Ok, Err}
use Rattle.paper.specs.declared.Unanswered.TheVariants as unanswered
use Rattle.paper.specs.declared.Rule.{Rule}
use Rattle.paper.specs.File.{network_of}
use Rattle.paper.specs.Output.{skew_record, latency_records, entry_records, Front}
use Rattle.paper.specs.Numbers.{Outcome, outcome_number, outcome_place}
use Rattle.paper.specs.Outcome.{FileResult}
use Rattle.worked.specs.Cases.{Expected, answered, refused_8, refused_9, Case, Comes, number_of, file_of}
use Rattle.paper.specs.Limits.{room_for}

-- the outcome, the loop and the bytes that a row names
abbrev pub outcome_of : Expected → Outcome
outcome_of (answered P latencies loop) = Ok tt
outcome_of (refused_8 loop) = Err unanswered.NoPeriod
outcome_of (refused_9 loop) = Err unanswered.NoneToCeiling

abbrev pub loop_of : Expected → List Rule
loop_of (answered P latencies loop) = loop
loop_of (refused_8 loop) = loop
loop_of (refused_9 loop) = loop

abbrev pub row_bytes : Expected → List ℕ
row_bytes (answered P latencies loop) =
    skew_record P (length latencies) (length loop)
    ++ latency_records (λ i. get_or latencies i (pos 0)) (length latencies)
    ++ entry_records loop
row_bytes (refused_8 loop) = skew_record 0 0 (length loop) ++ entry_records loop
row_bytes (refused_9 loop) = skew_record 0 0 (length loop) ++ entry_records loop

-- the row with another loop in its place
abbrev pub showing : List Rule → Expected → Expected
showing l (answered P latencies loop) = answered P latencies l
showing l (refused_8 loop) = refused_8 l
showing l (refused_9 loop) = refused_9 l

-- the row's number, at place 0, and the row's bytes with a loop that the paper allows in place of the row's; where the row has no loop, its
-- own bytes
pub record AsRow (c : Case) (before : List ℕ) (o : Outcome) (after : List ℕ) : Type 0 where
  pub number_is : outcome_number o ≡ number_of c.result
  pub place_is : outcome_place o ≡ 0
  pub loop : List Rule
  pub comes : Comes (network_of (file_of c.network)) (showing loop c.result)
  pub bytes : Front (row_bytes (showing loop c.result)) before after
  pub no_loop : loop_of c.result ≡ [] → Front (row_bytes c.result) before after

pub record Promised (c : Case) : Type 0 where
  -- the row is allowed
  pub allowed : (before : List ℕ) → room_for (network_of (file_of c.network)).registers ≤ length before
      → FileResult (file_of c.network) before (outcome_of c.result) (row_bytes c.result ++ drop (length (row_bytes c.result)) before)
  -- whatever is allowed is the row's
  pub only : (before after : List ℕ) (o : Outcome) → room_for (network_of (file_of c.network)).registers ≤ length before
      → FileResult (file_of c.network) before o after → AsRow c before o after
