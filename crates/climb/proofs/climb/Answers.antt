-- `climb::climb` meets its contract: each period that is tried lies from floor to ceiling, with a loop that shows why no smaller one has a
-- schedule. It ends because the period rises.
use borrow.Author.Rules.{rules}
use mathlib.Core.Path.{◌∙◌}
use mir.Syntax.{w32}
use mir.Val.{SFits}
use mir.Facts.{to_z-of_z}
use Rattle.whole.proofs.Lin.{lin}
use Rattle.climb.proofs.Attempts.{trial_weighable, trial_shape, trial_continues, trial_answerable, trial_rests, trial_nameable, trial_raisable, trial_ends}
use Rattle.climb.proofs.Begins.{ceiling_kept}
use Rattle.climb.proofs.Goings.{going_first, going_on, going_up}
use Rattle.climb.proofs.climb.Goals as goal

pub loop-row-init : goal.loop-row-init
loop-row-init c =
    let same : SFits w32 c.begin-period.result = search rules in
    rw (to_z-of_z same) (going_first c.requires c.begin-period.ensures c.begin-period.auto.preds)

pub at_period-requires : goal.at_period-requires
at_period-requires c = trial_weighable (c.loop-row.invariant.each c.requires.network c.requires.known)

pub invariant_of-graph : goal.invariant_of-graph
invariant_of-graph c = record { shape = trial_shape (c.loop-row.invariant.each c.requires.network c.requires.known) c.at_period.ensures c.all.ensures }

pub resume-requires : goal.resume-requires
resume-requires c =
    trial_continues (c.loop-row.invariant.each c.requires.network c.requires.known) c.at_period.ensures c.all.ensures c.loop-row.invariant.lent

pub answered-requires : goal.answered-requires
answered-requires c =
    let r = c.in-Some.ensures.rests in
    rw (c.deref.ensures.0 ∙ r.kept)
    (trial_answerable (c.loop-row.invariant.each c.requires.network c.requires.known) c.in-Some.row.now c.loop-row.out r.rests.long c.loop-row.invariant.lent.output)

pub returns-in-Some : goal.returns-in-Some
returns-in-Some c =
    λ N known.
    trial_rests (c.loop-row.invariant.each N known) c.at_period.ensures c.all.ensures c.in-Some.ensures.rests c.deref.ensures.0 c.loop-row.invariant.unwritten
    c.answered.ensures

pub next-above-requires : goal.next-above-requires
next-above-requires c =
    rw c.deref-in-loop-row.ensures.0
    (trial_raisable (c.loop-row.invariant.each c.requires.network c.requires.known) c.at_period.ensures c.all.ensures c.in_default.ensures.circles)

pub loop_alone-requires-clause-nameable : goal.loop_alone-requires-clause-nameable
loop_alone-requires-clause-nameable c =
    rw c.deref-then-h-above.ensures.0
    (trial_nameable (c.loop-row.invariant.each c.requires.network c.requires.known) c.at_period.ensures c.all.ensures c.in_default.ensures.circles)

pub returns-then-h-above : goal.returns-then-h-above
returns-then-h-above c =
    let next : SFits w32 c.next-above.result = search rules in
    let over = rw (ceiling_kept c.requires.known, to_z-of_z next) at c.if-h-above.true in
    λ N known.
    trial_ends (c.loop-row.invariant.each N known) c.at_period.ensures c.all.ensures c.in_default.ensures.circles (rw c.deref-in-loop-row.ensures.0 at c.next-above.ensures)
    (omega lin) c.deref-then-h-above.ensures.0 c.loop-row.invariant.unwritten c.loop_alone.ensures

pub loop-row-smaller : goal.loop-row-smaller
loop-row-smaller c =
    let next : SFits w32 c.next-above.result = search rules in
    let to = rw (ceiling_kept c.requires.known, to_z-of_z next) at c.if-h-above.false in
    rw (to_z-of_z next)
    (going_up c.loop-row.invariant c.at_period.ensures c.all.ensures c.in_default.ensures.circles (rw c.deref-in-loop-row.ensures.0 at c.next-above.ensures) (omega lin) c.requires.known)

pub loop-row-preserved : goal.loop-row-preserved
loop-row-preserved c =
    let next : SFits w32 c.next-above.result = search rules in
    let to = rw (ceiling_kept c.requires.known, to_z-of_z next) at c.if-h-above.false in
    rw (to_z-of_z next)
    (going_on c.loop-row.invariant c.at_period.ensures c.all.ensures c.in_default.ensures.circles (rw c.deref-in-loop-row.ensures.0 at c.next-above.ensures)
    (omega lin) (search rules) (search rules) c.resume.auto.preds)
