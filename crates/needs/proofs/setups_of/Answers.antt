-- `needs::setups_of` meets its contract: an entry more counts where the rule at its place is a setup rule.
use Rattle.std.proofs.Common.{◌≡◌, ◌<◌, refl, arith, get_or, length}
use Rattle.std.proofs.lemmas.List.{get_or_read_under}
use Rattle.paper.specs.declared.Rule.TheVariants.{Setup}
use Rattle.paper.proofs.LoopLaws.{all_at}
use Rattle.loops.specs.Names.{named}
use Rattle.needs.proofs.Counts.{counted_next}
use Rattle.needs.proofs.setups_of.Goals.{then-is_setup, else-is_setup}
use Rattle.needs.proofs.setups_of.Goals as goal

pub overflow_add-count : goal.overflow_add-count
overflow_add-count c = let few = c.requires.few in let most = c.loop-e.invariant.most in omega arith

pub loop-e-preserved : goal.loop-e-preserved
loop-e-preserved c =
    let there : get_or c.args.ring.now c.loop-e.e-index 0 < length c.args.rules.now = all_at _ _ c.requires.within 0 c.loop-e.e-index c.loop-e-test.true in
    let read : c.index-rules-from.result ≡ named c.args.rules.now (get_or c.args.ring.now c.loop-e.e-index 0) =
    rw c.from.ensures at (get_or_read_under c.args.rules.now c.from.result _ c.index-rules-from.result (Setup 0) c.index-rules-from.is (rw c.from.ensures there) refl) in
    let most = c.loop-e.invariant.most in
    let next = counted_next _ _ _ _ c.if-is_setup.count _ _ c.loop-e-test.true c.loop-e.invariant.is read c.is_setup.ensures in
    elim c.if-is_setup.branch [
      | then-is_setup w ↦ let t = w.if-is_setup.true in let n = w.count-is in record { most = omega arith; is = next (rw t n) }
      | else-is_setup w ↦ let t = w.if-is_setup.false in let n = w.count-is in record { most = omega arith; is = next (rw t (omega arith)) }
    ]
