-- Path by path both ends are registers, both amounts fit, and what is written are the two rules; after the last path the lists are filled.
use Rattle.std.proofs.Common.{arith, rules}
use Rattle.arrows.proofs.Sources.{source_few, source_ends, source_small_ends}
use Rattle.paper.specs.File.{network_of}
use Rattle.network.specs.Records.{IsRegister}
use Rattle.arrows.proofs.Fills.{paths_more, paths_all}
use Rattle.arrows.proofs.fill.Goals as goal

pub register-receiver-requires : goal.register-receiver-requires
register-receiver-requires c =
    let ends = source_ends c.requires.source c.loop-p-test.true c.path-road.ensures in
    let e = c.requires.source.header.registers in
    let to = ends.to in
    (c.requires.source.accepted, omega arith)

pub overflow_cast-p : goal.overflow_cast-p
overflow_cast-p c = let few = source_few c.requires.source in omega arith

pub overflow_cast-from : goal.overflow_cast-from
overflow_cast-from c =
    let few = source_few c.requires.source in
    let ends = source_ends c.requires.source c.loop-p-test.true c.path-road.ensures in
    omega arith

pub overflow_cast-to : goal.overflow_cast-to
overflow_cast-to c =
    let few = source_few c.requires.source in
    let ends = source_ends c.requires.source c.loop-p-test.true c.path-road.ensures in
    omega arith

pub invariant_of-places : goal.invariant_of-places
invariant_of-places c = record { few = source_few c.requires.source }

pub hold-requires : goal.hold-requires
hold-requires c = source_small_ends c.requires.source c.loop-p-test.true c.path-road.ensures c.register-receiver.ensures

pub setup-requires : goal.setup-requires
setup-requires c = source_small_ends c.requires.source c.loop-p-test.true c.path-road.ensures c.register-receiver.ensures

pub loop-p-preserved : goal.loop-p-preserved
loop-p-preserved c =
    let there : IsRegister (network_of c.args.file.now) ((network_of c.args.file.now).to c.loop-p.p) c.register-receiver.result =
    rw c.path-road.ensures.to at c.register-receiver.ensures in
    rw c.from-k.ensures (search (rules, paths_more, c.hold.ensures _ _ c.path-road.ensures there, c.setup.ensures _ _ c.path-road.ensures there))

pub returns : goal.returns
returns c = let e = c.requires.source.header.paths in paths_all (omega arith) c.loop-p.invariant
