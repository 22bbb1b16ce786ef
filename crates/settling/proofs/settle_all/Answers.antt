-- `settling::settle_all` meets its contract: the registers before s are marked, and each marked register stands where its preds put it.
use Rattle.settling.proofs.Settles.{settles_no, settles_yes}
use Rattle.settling.proofs.settle_all.Goals as goal

pub returns-then-not-settle_one : goal.returns-then-not-settle_one
returns-then-not-settle_one c =
    settles_no _ _ c.args.preds.graph.shape _ c.settle_one.new.row _ _ c.loop-s-test.true c.loop-s.invariant c.if-not-settle_one.ensures

pub returns : goal.returns
returns c = settles_yes _ _ c.args.preds.graph.shape _ _ _ c.loop-s-test.false c.loop-s.invariant
