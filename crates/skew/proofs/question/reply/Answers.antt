-- `skew::question::reply` meets its contract: number 10 where a test failed, else the slack. The parts answer of the numbers as they are read
-- back, which are the numbers themselves.
use mathlib.Core.Path.{sym, ◌∙◌}
use borrow.Author.Rules.{rules}
use Rattle.paper.specs.File.{network_of}
use Rattle.paper.specs.Refusals.{faults}
use Rattle.skew.proofs.Limits.{counts_few}
use Rattle.skew.proofs.Replies.{as_read, asks_for, is_in_range, no_numbers, question_reply, slack_reply}
use Rattle.skew.proofs.question.reply.Goals as goal

pub rule-requires : goal.rule-requires
rule-requires c = counts_few _ c.requires c.header-h.ensures

pub returns-then-not-in_range : goal.returns-then-not-in_range
returns-then-not-in_range c =
    let f = c.ranges in
    let out = sym c.in_range.ensures ∙ c.if-not-in_range.true in
    as_read _ f.period f.kind f.number f.tail f.head (question_reply _ (faults c.args.file.now) _ c.requires (no_numbers out))

pub slack-requires-clause-there : goal.slack-requires-clause-there
slack-requires-clause-there c =
    let h = c.header-h.ensures in
    let told = rw c.in_ok-rule.ensures.ok_part at c.rule.ensures.tells in
    record { accepted = c.requires; registers = h.registers; exists = (told (network_of c.args.file.now) h.registers h.paths).0 }

pub returns : goal.returns
returns c =
    let f = c.ranges in
    let h = c.header-h.ensures in
    let told = rw c.in_ok-rule.ensures.ok_part at c.rule.ensures.tells in
    let within = sym c.in_range.ensures ∙ c.if-not-in_range.false in
    as_read _ f.period f.kind f.number f.tail f.head
    (slack_reply _ (faults c.args.file.now) _ c.requires (is_in_range h.registers h.paths _ within told) _ _ (asks_for h.registers h.paths told) (search rules))
