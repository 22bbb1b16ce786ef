-- `climb::begin::begin` meets its contract: a loop that contradicts itself at the floor shows why the climb may begin where it leads, or at the
-- ceiling where that is lower.
use borrow.Author.Rules.{rules}
use mir.Syntax.{w32}
use mir.Val.{SFits}
use mir.Facts.{to_z-of_z}
use Rattle.climb.proofs.Attempts.{trial_weighable, trial_shape}
use Rattle.climb.proofs.Begins.{floor_kept, floor_trial, guessed_raisable, led_tries}
use Rattle.climb.proofs.begin.begin.Goals as goal

pub at_period-requires : goal.at_period-requires
at_period-requires c = rw (floor_kept c.requires.known) (trial_weighable (floor_trial c.requires.known))

pub invariant_of-graph : goal.invariant_of-graph
invariant_of-graph c = record { shape = trial_shape (floor_trial c.requires.known) (rw (floor_kept c.requires.known) at c.at_period.ensures) c.all.ensures }

pub lead-requires : goal.lead-requires
lead-requires c = guessed_raisable c.requires.known (rw (floor_kept c.requires.known) at c.at_period.ensures) c.all.ensures c.guess.ensures

pub returns : goal.returns
returns c =
    let same : SFits w32 c.lead.result = search rules in
    record {
      weighed = rw (floor_kept c.requires.known) at c.at_period.ensures;
      tries = λ N known.
          rw (to_z-of_z same) (led_tries known (rw (floor_kept known) at c.at_period.ensures) c.all.ensures c.guess.ensures c.lead.result c.lead.new.ring.items c.lead.ensures);
    }
