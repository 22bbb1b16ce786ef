-- What two results of one call have in common, in the end everything but the loop that is shown. RULES 10.12: "no two different results
-- satisfy the contract. There is one exception: which loop is shown (7.12)."
use Rattle.std.specs.Prelude.{◌≡◌, List, [], ℕ, ◌<◌, Ok, Err}
use Rattle.paper.specs.Numbers.{Outcome}
use Rattle.paper.specs.declared.Unanswered.TheVariants as unanswered
use Rattle.paper.specs.Network.{Network}
use Rattle.paper.specs.declared.Rule.{Rule}
use Rattle.paper.specs.Chains.{SameMembers}
use Rattle.paper.specs.Output.{Answered, NoPeriodShown, NoneToCeilingShown, AnswerOutput, LoopAlone}

-- Two answers to one network: one period, one latency for each register. The second output is what the first would be with the second's loop
-- in its place. Loops of the same rules are listed in one way and leave one output; at the floor there is no loop to choose.
pub record SameAnswer (N : Network) (before after after' : List ℕ) (a : Answered N before after) (b : Answered N before after') : Type 0 where
  pub one_period : a.period ≡ b.period
  pub one_latency : (i : ℕ) → i < N.registers → a.latency i ≡ b.latency i
  pub its_loop : AnswerOutput N.registers a.period a.latency b.loop before after'
  pub one_loop : SameMembers a.loop b.loop → (a.loop ≡ b.loop) × (after ≡ after')
  pub at_floor : a.period ≡ N.floor → (a.loop ≡ []) × (b.loop ≡ []) × (after ≡ after')

-- Two outputs that hold a loop alone, l and m: the second is what the first would be with m in the place of l, and loops of the same rules leave
-- one output.
pub record SameAlone (l m : List Rule) (before after after' : List ℕ) : Type 0 where
  pub its_loop : LoopAlone m before after'
  pub one_loop : SameMembers l m → (l ≡ m) × (after ≡ after')

-- Two outputs, left with one outcome: number 7 and what comes before it leave one output; an answer, and numbers 8 and 9, leave one output but
-- for the loop, whatever period, latencies and loop the two outputs are said to hold.
abbrev pub SameButLoop : Network → List ℕ → Outcome → List ℕ → List ℕ → Type 0
SameButLoop N before (Ok tt) after after' =
    (a : Answered N before after) (b : Answered N before after') → SameAnswer N before after after' a b
SameButLoop N before (Err (unanswered.Refused x)) after after' = after ≡ after'
SameButLoop N before (Err unanswered.Room) after after' = after ≡ after'
SameButLoop N before (Err unanswered.NoPeriod) after after' =
    (a : NoPeriodShown N before after) (b : NoPeriodShown N before after') → SameAlone a.loop b.loop before after after'
SameButLoop N before (Err unanswered.NoneToCeiling) after after' =
    (a : NoneToCeilingShown N before after) (b : NoneToCeilingShown N before after') → SameAlone a.loop b.loop before after after'
