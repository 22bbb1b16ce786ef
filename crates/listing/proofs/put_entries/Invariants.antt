-- `listing::put_entries`: the lines of the entries passed stand in the text.
use Rattle.listing.specs.Text.{entry_lines}
use Rattle.listing.proofs.Lines.{Lines}
use Rattle.listing.proofs.put_entries.Given as goal

abbrev pub invariant-loop-j : goal.invariant-loop-j
invariant-loop-j l = Lines (entry_lines l.answer l.start) l.k l.initial.text l.at l.text l.next l.j
