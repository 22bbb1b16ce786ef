-- `settling::put` meets its contract: the walk's invariant says that the preds give the register it stands at the time in hand, so each
-- register that it writes stands where its preds put it.
use Rattle.std.proofs.Common.{rules, refl, ◌∙◌, SFits}
use Rattle.std.specs.Int.{w32}
use mir.Facts.{to_z-of_z}
use Rattle.settling.proofs.Walks.{row_fits}
use Rattle.settling.proofs.Puts.{putting_on, put_here, read_in_row}
use Rattle.settling.proofs.put.Goals as goal

pub earlier-z-requires : goal.earlier-z-requires
earlier-z-requires c =
    row_fits _ (read_in_row _ _ _ _ _ _ _ _ _ c.loop-k.invariant _ (c.in-Some.ensures.some.0 refl) c.in-Some.ensures.is c.args.preds.graph.shape c.requires.walks.fair)

pub loop-k-preserved : goal.loop-k-preserved
loop-k-preserved c =
    let f : SFits w32 c.earlier-z.result = search rules in
    putting_on _ _ _ _ _ _ _ _ _ c.loop-k.invariant _ (c.in-Some.ensures.some.0 refl) c.in-Some.ensures.is c.args.preds.graph.shape
    _ _ c.from-v.ensures (to_z-of_z f ∙ c.earlier-z.ensures)

pub returns-in_default : goal.returns-in_default
returns-in_default c = put_here _ _ _ _ _ _ _ _ _ c.loop-k.invariant

pub returns-in-Some : goal.returns-in-Some
returns-in-Some c = put_here _ _ _ _ _ _ _ _ _ c.loop-k.invariant
