-- `answer::run::put_latencies` meets its contract: a turn writes the record of the next latency behind those that stand already.
use Rattle.std.proofs.Common.{rules}
use Rattle.answer.proofs.Latencies.{timed_more}
use Rattle.answer.proofs.run.put_latencies.Goals as goal

pub loop-i-preserved : goal.loop-i-preserved
loop-i-preserved c = search (rules, timed_more)
