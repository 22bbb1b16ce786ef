-- `listing::put_latencies`: the lines of the registers passed stand in the text.
use Rattle.listing.specs.Text.{latency_lines}
use Rattle.listing.proofs.Lines.{Lines}
use Rattle.listing.proofs.put_latencies.Given as goal

abbrev pub invariant-loop-i : goal.invariant-loop-i
invariant-loop-i l = Lines (latency_lines l.answer) l.n l.initial.text l.at l.text l.next l.i
