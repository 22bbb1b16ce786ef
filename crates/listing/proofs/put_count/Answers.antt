-- `listing::put_count` meets its contract: the digits follow the word.
use Rattle.std.proofs.Common.{rules}
use Rattle.text.proofs.Runs.{and_then}
use Rattle.listing.proofs.put_count.Goals as goal

pub returns : goal.returns
returns c = search (rules, and_then)
