-- Register by register both amounts fit, and what is written are the two rules.
use Rattle.std.proofs.Common.{arith, rules}
use Rattle.arrows.proofs.Sources.{source_few, source_small}
use Rattle.arrows.proofs.Fills.{windows_more}
use Rattle.arrows.proofs.windows.Goals as goal

pub overflow_cast-v : goal.overflow_cast-v
overflow_cast-v c = let few = source_few c.requires.source in omega arith

pub invariant_of-places : goal.invariant_of-places
invariant_of-places c = record { few = source_few c.requires.source }

pub low-requires : goal.low-requires
low-requires c = source_small c.requires.source c.loop-i-test.true c.register-r.ensures

pub high-requires : goal.high-requires
high-requires c = source_small c.requires.source c.loop-i-test.true c.register-r.ensures

pub loop-i-preserved : goal.loop-i-preserved
loop-i-preserved c = search (rules, windows_more)

pub returns : goal.returns
returns c = let few = source_few c.requires.source in search rules
