-- `skew::question::slack` meets its contract: each way through the match takes the amount of the rule from records that were read, and answers
-- by how much its arrow is met.
use mathlib.Core.Path.{◌∙◌}
use Rattle.paper.specs.declared.Rule.TheVariants.{Setup, Hold, Low, High}
use Rattle.paper.specs.File.{network_of}
use Rattle.skew.proofs.Limits.{numbers_in, arrow_small, period_fits, arrow_slack, as_cast, register_small, receiver_there, ends_small, amount_of_path, setup_amount}
use Rattle.skew.proofs.question.slack.Goals as goal

-- ---- setup

pub register-receiver-requires : goal.register-receiver-requires
register-receiver-requires c =
    let there = as_cast c.requires.there Setup c.in-Setup.is (c.from.ensures ∙ c.get.ensures) in
    (there.accepted, receiver_there _ there.accepted there.exists c.path-road.ensures)

pub setup-requires : goal.setup-requires
setup-requires c =
    let there = as_cast c.requires.there Setup c.in-Setup.is (c.from.ensures ∙ c.get.ensures) in
    ends_small _ there.accepted there.exists c.path-road.ensures c.register-receiver.ensures

pub setup_at-amount-requires : goal.setup_at-amount-requires
setup_at-amount-requires c =
    let there = as_cast c.requires.there Setup c.in-Setup.is (c.from.ensures ∙ c.get.ensures) in
    let e = amount_of_path _ there.accepted there.exists c.path-road.ensures c.register-receiver.ensures Setup c.setup.ensures in
    period_fits there _ _ _ c.requires.in_range e

pub slack-requires : goal.slack-requires
slack-requires c =
    let there = as_cast c.requires.there Setup c.in-Setup.is (c.from.ensures ∙ c.get.ensures) in
    let period = (numbers_in c.requires.in_range).period_within in
    let e = setup_amount _ there.accepted there.exists c.path-road.ensures c.register-receiver.ensures _ period c.setup.ensures c.setup_at-amount.ensures in
    arrow_small there _ _ _ c.requires.in_range e

pub returns-in-Setup : goal.returns-in-Setup
returns-in-Setup c =
    let there = as_cast c.requires.there Setup c.in-Setup.is (c.from.ensures ∙ c.get.ensures) in
    let period = (numbers_in c.requires.in_range).period_within in
    let e = setup_amount _ there.accepted there.exists c.path-road.ensures c.register-receiver.ensures _ period c.setup.ensures c.setup_at-amount.ensures in
    rw (c.in-Setup.is, ← (c.from.ensures ∙ c.get.ensures)) (arrow_slack (network_of c.args.file.now) c.args.period.0 _ _ (Setup c.from.result) e c.slack.ensures)

-- ---- hold

pub register-receiver-requires-in-Hold : goal.register-receiver-requires-in-Hold
register-receiver-requires-in-Hold c =
    let there = as_cast c.requires.there Hold c.in-Hold.is (c.from-in-Hold.ensures ∙ c.get-in-Hold.ensures) in
    (there.accepted, receiver_there _ there.accepted there.exists c.path-road-in-Hold.ensures)

pub hold-requires : goal.hold-requires
hold-requires c =
    let there = as_cast c.requires.there Hold c.in-Hold.is (c.from-in-Hold.ensures ∙ c.get-in-Hold.ensures) in
    ends_small _ there.accepted there.exists c.path-road-in-Hold.ensures c.register-receiver-in-Hold.ensures

pub slack-requires-in-Hold : goal.slack-requires-in-Hold
slack-requires-in-Hold c =
    let there = as_cast c.requires.there Hold c.in-Hold.is (c.from-in-Hold.ensures ∙ c.get-in-Hold.ensures) in
    let e = amount_of_path _ there.accepted there.exists c.path-road-in-Hold.ensures c.register-receiver-in-Hold.ensures Hold c.hold.ensures in
    arrow_small there _ _ _ c.requires.in_range e

pub returns-in-Hold : goal.returns-in-Hold
returns-in-Hold c =
    let there = as_cast c.requires.there Hold c.in-Hold.is (c.from-in-Hold.ensures ∙ c.get-in-Hold.ensures) in
    let e = amount_of_path _ there.accepted there.exists c.path-road-in-Hold.ensures c.register-receiver-in-Hold.ensures Hold c.hold.ensures in
    rw (c.in-Hold.is, ← (c.from-in-Hold.ensures ∙ c.get-in-Hold.ensures)) (arrow_slack (network_of c.args.file.now) c.args.period.0 _ _ (Hold c.from-in-Hold.result) e c.slack-in-Hold.ensures)

-- ---- low and high

pub low-requires : goal.low-requires
low-requires c =
    let there = as_cast c.requires.there Low c.in-Low.is (c.from-in-Low.ensures ∙ c.get-in-Low.ensures) in
    register_small _ _ there.accepted there.exists.1 c.register-record.ensures

pub slack-requires-in-Low : goal.slack-requires-in-Low
slack-requires-in-Low c =
    arrow_small (as_cast c.requires.there Low c.in-Low.is (c.from-in-Low.ensures ∙ c.get-in-Low.ensures)) _ _ _ c.requires.in_range (c.low.ensures _ _ c.register-record.ensures)

pub high-requires : goal.high-requires
high-requires c =
    let there = as_cast c.requires.there High c.in-High.is (c.from-in-High.ensures ∙ c.get-in-High.ensures) in
    register_small _ _ there.accepted there.exists.1 c.register-record-in-High.ensures

pub slack-requires-in-High : goal.slack-requires-in-High
slack-requires-in-High c =
    arrow_small (as_cast c.requires.there High c.in-High.is (c.from-in-High.ensures ∙ c.get-in-High.ensures)) _ _ _ c.requires.in_range (c.high.ensures _ _ c.register-record-in-High.ensures)
