-- `rounds::relax::turn` meets its contract: the round is the model's, and each way out is one of the laws of a turn.
use Rattle.rounds.proofs.Turns.{ready_row, after_rested, after_settleable, after_settled, after_astray, after_circled}
use Rattle.rounds.proofs.relax.turn.Goals as goal

pub turn_round-requires : goal.turn_round-requires
turn_round-requires c =
    let s = c.requires in
    let r = s.resumes.ready in
    record {
      times = ready_row c.args.graph.shape r;
      row_long = s.spare;
      preds_long = r.tight.forest.preds_length;
      within = s.resumes.within;
      met = s.resumes.met;
    }

pub returns-then-not-turn_round : goal.returns-then-not-turn_round
returns-then-not-turn_round c = after_rested c.args.graph.shape c.requires.resumes.ready c.turn_round.ensures c.if-not-turn_round.true

pub settle-requires : goal.settle-requires
settle-requires c = after_settleable c.args.graph.shape c.requires.resumes.ready c.turn_round.ensures

pub returns-in_default : goal.returns-in_default
returns-in_default c =
    after_settled c.args.graph.shape c.requires.resumes.ready c.turn_round.ensures c.in_default.ensures c.requires.bounded c.if-not-turn_round.false

pub show-requires : goal.show-requires
show-requires c = after_astray c.args.graph.shape c.requires.resumes.ready c.turn_round.ensures c.in-Some.ensures

pub returns : goal.returns
returns c = after_circled c.args.graph.shape c.requires.resumes.ready c.turn_round.ensures c.in-Some.ensures c.show.ensures
