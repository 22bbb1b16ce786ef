-- `listing::put_latencies` meets its contract.
use Rattle.std.proofs.Common.{rules}
use Rattle.listing.proofs.Lines.{lines_none, lines_more, latency_none, latency_more}
use Rattle.listing.proofs.put_latencies.Goals as goal

pub loop-i-init : goal.loop-i-init
loop-i-init c = search (rules, lines_none, latency_none)

pub loop-i-preserved : goal.loop-i-preserved
loop-i-preserved c = search (rules, lines_more, latency_more)
