-- What stands in the output, number by number: what a caller reads there.
use Rattle.std.specs.Prelude.{◌≡◌, List, ℕ, ◌+◌, ◌*◌, ◌<◌, ℤ, pos, length, get_or, Ok, Err}
use Rattle.whole.specs.Four.{number_at}
use Rattle.paper.specs.Numbers.{Outcome}
use Rattle.paper.specs.declared.Unanswered.TheVariants as unanswered
use Rattle.paper.specs.declared.Rule.{Rule}
use Rattle.paper.specs.declared.Rule.TheVariants.{Low}
use Rattle.paper.specs.Rules.{kind, number}
use Rattle.paper.specs.Network.{Network}
use Rattle.paper.specs.Outcome.{Left}

-- The numbers of the records `SK`, `LT` and `ED` (RULES 7.2 to 7.4): each is read at its place, past its record's mark of two bytes.
pub record Reads (after : List ℕ) (P n : ℕ) (x : ℕ → ℤ) (l : List Rule) : Type 0 where
  pub period : number_at after 2 ≡ pos P
  pub latencies : number_at after 6 ≡ pos n
  pub entries : number_at after 10 ≡ pos (length l)
  pub latency : (i : ℕ) → i < n → number_at after (14 + 6 * i + 2) ≡ x i
  pub entry_kind : (j : ℕ) → j < length l → number_at after (14 + 6 * n + 10 * j + 2) ≡ pos (kind (get_or l j (Low 0)))
  pub entry_number : (j : ℕ) → j < length l → number_at after (14 + 6 * n + 10 * j + 6) ≡ pos (number (get_or l j (Low 0)))

-- by cases of the outcome: the answer (RULES 7.5), or the loop alone (RULES 7.6)
abbrev pub ReadsBack : (N : Network) (before : List ℕ) (o : Outcome) (after : List ℕ) → Left N o before after → Type 0
ReadsBack N before (Ok tt) after l = Reads after l.period N.registers l.latency l.loop
ReadsBack N before (Err (unanswered.Refused x)) after l = Unit {0}
ReadsBack N before (Err unanswered.Room) after l = Unit {0}
ReadsBack N before (Err unanswered.NoPeriod) after l = Reads after 0 0 (λ i. pos 0) l.loop
ReadsBack N before (Err unanswered.NoneToCeiling) after l = Reads after 0 0 (λ i. pos 0) l.loop
