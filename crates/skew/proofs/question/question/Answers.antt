-- `skew::question::question` meets its contract: the reply to an accepted file. The file's own fault is found by search, which names no place of
-- the code: code that returns another refusal there is refused for what it returns.
use Rattle.skew.proofs.Replies.{as_read}
use Rattle.skew.proofs.question.question.Goals as goal

pub returns : goal.returns
returns c = let f = c.ranges in as_read _ f.period f.kind f.number f.tail f.head c.reply.ensures
