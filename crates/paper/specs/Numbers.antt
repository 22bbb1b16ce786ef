-- One number and one place: the paper's number and place of each case of what a function returns (RULES 6.2). Whoever adds a case of a
-- refusal says its number and place here, and nowhere else.
use Rattle.std.specs.Prelude.{ℕ, Result, Ok, Err}
use Rattle.paper.specs.declared.Fault.{Fault}
use Rattle.paper.specs.declared.Fault.TheVariants.{Header, Counts, Length, Ranges, Register, Path}
use Rattle.paper.specs.declared.Refusal.{Refusal}
use Rattle.paper.specs.declared.Refusal.TheVariants as refusal
use Rattle.paper.specs.declared.Unanswered.{Unanswered}
use Rattle.paper.specs.declared.Unanswered.TheVariants as unanswered
use Rattle.paper.specs.declared.Delay.{Delay}

abbrev pub fault_number : Fault → ℕ
fault_number Header = 1
fault_number Counts = 2
fault_number Length = 3
fault_number Ranges = 4
fault_number (Register i) = 5
fault_number (Path p) = 6

abbrev pub fault_place : Fault → ℕ
fault_place Header = 0
fault_place Counts = 0
fault_place Length = 0
fault_place Ranges = 0
fault_place (Register i) = i
fault_place (Path p) = p

-- what is wrong with what a call was given: a file's fault, or number 10
abbrev pub refusal_number : Refusal → ℕ
refusal_number (refusal.File x) = fault_number x
refusal_number refusal.Question = 10

abbrev pub refusal_place : Refusal → ℕ
refusal_place (refusal.File x) = fault_place x
refusal_place refusal.Question = 0

-- why the scheduler leaves a network without an answer
abbrev pub unanswered_number : Unanswered → ℕ
unanswered_number (unanswered.Refused x) = refusal_number x
unanswered_number unanswered.Room = 7
unanswered_number unanswered.NoPeriod = 8
unanswered_number unanswered.NoneToCeiling = 9

abbrev pub unanswered_place : Unanswered → ℕ
unanswered_place (unanswered.Refused x) = refusal_place x
unanswered_place unanswered.Room = 0
unanswered_place unanswered.NoPeriod = 0
unanswered_place unanswered.NoneToCeiling = 0

-- the number of a result, or its place, by those of what went wrong: an answer, whatever it is, has number 0 and place 0
abbrev pub result_number : {A E : Type 0} → (E → ℕ) → Result A E → ℕ
result_number of_error (Ok x) = 0
result_number of_error (Err x) = of_error x

-- what a look at a file finds: that it is accepted, or its fault
abbrev pub Verdict : Type 0
Verdict = Result (Unit {0}) Fault

abbrev pub verdict_number : Verdict → ℕ
verdict_number = result_number fault_number

abbrev pub verdict_place : Verdict → ℕ
verdict_place = result_number fault_place

-- what the scheduler returns: that the answer stands in the output, or why there is none
abbrev pub Outcome : Type 0
Outcome = Result (Unit {0}) Unanswered

abbrev pub outcome_number : Outcome → ℕ
outcome_number = result_number unanswered_number

abbrev pub outcome_place : Outcome → ℕ
outcome_place = result_number unanswered_place

-- What the rule question returns: by how much the rule is met, or a refusal. RULES 15.5: "An answered question has number 0, place 0 and a
-- slack."
abbrev pub Reply : Type 0
Reply = Result Delay Refusal

abbrev pub reply_number : Reply → ℕ
reply_number = result_number refusal_number

abbrev pub reply_place : Reply → ℕ
reply_place = result_number refusal_place
