-- `network::fault::path_ok` meets its contract. The file and the number of the path are named first, which makes the search short.
use borrow.Author.Rules.{rules}
use Rattle.paper.specs.File.{path_ok}
use Rattle.network.proofs.fault.path_ok.Goals as goal

pub returns-then-r-ge0 : goal.returns-then-r-ge0
unfolding path_ok
returns-then-r-ge0 c = λ f p n s. search rules

pub returns-else-r-ge0 : goal.returns-else-r-ge0
unfolding path_ok
returns-else-r-ge0 c = λ f p n s. search rules
