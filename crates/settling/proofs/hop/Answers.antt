-- `settling::hop` meets its contract: where the register one step back stands already, the preds give s what stands there and the pred's amount.
use Rattle.std.proofs.Common.{rules, refl, ◌∙◌, SFits}
use Rattle.std.specs.Int.{w32}
use mir.Facts.{to_z-of_z}
use Rattle.settling.proofs.Puts.{hop_marks}
use Rattle.settling.proofs.hop.Goals as goal

pub returns-then-marks-from : goal.returns-then-marks-from
returns-then-marks-from c =
    let f : SFits w32 c.offer.result = search rules in
    let mark = c.if-marks-from.true in
    hop_marks _ c.args.preds.graph.shape _ _ _ _ c.requires _ (c.in-Some.ensures.some.0 refl) c.in-Some.ensures.is (rw c.from.ensures at mark) _ (to_z-of_z f ∙ c.offer.ensures)
