-- `answer::run::put_latencies` meets its contract. The loop's invariant: the latencies of the registers passed stand in the output.
use Rattle.answer.proofs.Latencies.{Timed}
use Rattle.answer.proofs.run.put_latencies.Given as goal

abbrev pub invariant-loop-i : goal.invariant-loop-i
invariant-loop-i l = Timed l.row l.initial.out l.out l.i
