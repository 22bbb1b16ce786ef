-- What the loop that is shown proves of the periods: above the floor that no smaller one has a schedule, and where there is no answer, that
-- none has. And how a reader sees it on the slacks of the loop's rules.
use Rattle.std.specs.Prelude.{◌≡◌, List, ℕ, ◌≤◌, ◌<◌, ℤ, pos, ◌≤ℤ◌, ◌<ℤ◌, Ok, Err}
use Rattle.whole.specs.Sums.{total}
use Rattle.paper.specs.Numbers.{Outcome}
use Rattle.paper.specs.declared.Unanswered.TheVariants as unanswered
use Rattle.paper.specs.Network.{Network}
use Rattle.paper.specs.declared.Rule.{Rule}
use Rattle.paper.specs.Rules.{slack_by}
use Rattle.paper.specs.Schedule.{Refutes, setups, need}
use Rattle.paper.specs.Refusals.{Scheduled, NoPeriod}
use Rattle.paper.specs.Outcome.{Left}

-- No period is shorter than P: at each of these the loop contradicts itself, and P is what it needs.
pub record ProvesLeast (N : Network) (P : ℕ) (l : List Rule) : Type 0 where
  pub refutes : (Q : ℕ) → Q < P → Refutes N Q l
  pub none : (Q : ℕ) → Q < P → Scheduled N Q → ⊥
  pub has_setup : 0 < setups l
  pub needs : need N l ≡ pos P

-- At period P, by the latencies x, the loop has no room for a period shorter by 1, which would take 1 from the slack of each of its setup
-- rules: what the slacks of its rules add up to is less than the number of these. RULES 15.7: "The sum is at least 0"
pub record LeavesNoRoom (N : Network) (P : ℕ) (x : ℕ → ℤ) (l : List Rule) : Type 0 where
  pub from_zero : pos 0 ≤ℤ total (slack_by N P x) l
  pub below_setups : total (slack_by N P x) l <ℤ pos (setups l)

-- No period, however large, has a schedule: the loop has no setup rule, and contradicts itself at every period.
pub record ProvesNone (N : Network) (l : List Rule) : Type 0 where
  pub no_setups : setups l ≡ 0
  pub refutes : (Q : ℕ) → Refutes N Q l
  pub none : NoPeriod N

-- No period up to the ceiling has a schedule: at each of these the loop contradicts itself, and what it needs is above the ceiling.
pub record ProvesNoneToCeiling (N : Network) (l : List Rule) : Type 0 where
  pub refutes : (Q : ℕ) → Q ≤ N.ceiling → Refutes N Q l
  pub none : (Q : ℕ) → Q ≤ N.ceiling → Scheduled N Q → ⊥
  pub has_setup : 0 < setups l
  pub needs : pos N.ceiling <ℤ need N l

-- what the loop in the output proves, by cases of the outcome; number 7 and what comes before it write none
abbrev pub LoopProves : (N : Network) (before : List ℕ) (o : Outcome) (after : List ℕ) → Left N o before after → Type 0
LoopProves N before (Ok tt) after l = N.floor < l.period → ProvesLeast N l.period l.loop
LoopProves N before (Err (unanswered.Refused x)) after l = Unit {0}
LoopProves N before (Err unanswered.Room) after l = Unit {0}
LoopProves N before (Err unanswered.NoPeriod) after l = ProvesNone N l.loop
LoopProves N before (Err unanswered.NoneToCeiling) after l = ProvesNoneToCeiling N l.loop
