-- `settling::reach` meets its contract: the walk's invariant says that whatever the preds give the register it stands at, they give s
-- that and the sum on the way. At a marked register, and at one without a pred, that settles s; a walk of more than n steps shows that s is
-- not grounded.
use Rattle.std.proofs.Common.{rules, arith, refl, sym, ◌∙◌, SFits, ◌≤◌, length, to_z}
use Rattle.std.specs.Int.{w64}
use mir.Facts.{to_z-of_z}
use Rattle.loops.specs.Graphs.{of}
use Rattle.loops.specs.Model.{pred}
use Rattle.settling.specs.Settling.{Gives}
use Rattle.settling.proofs.Gives.{gives_is}
use Rattle.settling.proofs.Walks.{walking_none, walking_root, walking_on, walking_long, row_fits}
use Rattle.settling.proofs.reach.Goals as goal

pub loop-k-init : goal.loop-k-init
loop-k-init c = walking_none _ _ c.args.preds.graph.shape _ c.requires.below

pub overflow_cast-result : goal.overflow_cast-result
overflow_cast-result c =
    let root : length c.args.preds.graph.arrows.now ≤ pred c.args.preds.list.now c.loop-k.v = grind arith in
    row_fits _ (c.requires.fair _ _ c.requires.below (walking_root _ _ c.args.preds.graph.shape _ _ _ _ root c.loop-k.invariant))

pub returns-in_default : goal.returns-in_default
returns-in_default c =
    let root : length c.args.preds.graph.arrows.now ≤ pred c.args.preds.list.now c.loop-k.v = grind arith in
    let given : Gives (of c.args.preds.graph) c.args.preds.list.now c.args.s (to_z w64 c.loop-k.sum-bits) =
    walking_root _ _ c.args.preds.graph.shape _ _ _ _ root c.loop-k.invariant in
    gives_is _ _ (sym (to_z-of_z (row_fits _ (c.requires.fair _ _ c.requires.below given)))) given

pub loop-k-preserved : goal.loop-k-preserved
loop-k-preserved c =
    let f : SFits w64 c.further-sum.result = search rules in
    walking_on _ _ c.args.preds.graph.shape _ _ _ _ _ (c.in-Some.ensures.some.0 refl) c.in-Some.ensures.is c.loop-k-test.true c.loop-k.invariant
    _ _ c.from-v.ensures (to_z-of_z f ∙ c.further-sum.ensures)

pub returns-in-Some : goal.returns-in-Some
returns-in-Some c =
    walking_long _ _ c.args.preds.graph.shape _ _ _ _ _ (c.in-Some.ensures.some.0 refl) c.in-Some.ensures.is c.loop-k-test.true c.loop-k.invariant
    c.requires.below (omega arith)
