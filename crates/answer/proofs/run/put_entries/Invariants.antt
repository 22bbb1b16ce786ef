-- `answer::run::put_entries` meets its contract. The loop's invariant: the records of the entries passed stand in the output.
use Rattle.answer.proofs.Entries.{Entered}
use Rattle.answer.proofs.run.put_entries.Given as goal

abbrev pub invariant-loop-j : goal.invariant-loop-j
invariant-loop-j l = Entered l.rules l.ring l.at l.initial.out l.out l.j
