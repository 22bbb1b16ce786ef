-- `network::fault::lowest_path` meets its contract: what `find` found is the first record whose test fails.
use mathlib.Core.Path.{◌≡◌}
use mathlib.Core.Bool.{true, false}
use Rattle.std.proofs.Common.{rules}
use Rattle.std.proofs.lemmas.Iterator.{first_from_Range}
use Rattle.paper.specs.File.{path_ok}
use Rattle.network.proofs.Searching.{sought}
use Rattle.network.proofs.fault.lowest_path.Goals as goal

pub returns : goal.returns
returns c =
    let f = c.args.file.now in
    sought (path_ok f) c.args.m _
    (first_from_Range _ _ _ _ (λ i. path_ok f i ≡ false) (λ i. path_ok f i ≡ true) c.find.ensures.ran (λ x q k. search rules) (λ x q k. search rules))
