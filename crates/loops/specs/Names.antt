-- Which rule stands at which place of the arrows in memory is data: a list of rules beside the list of arrows. And which rule a question names by
-- two numbers.
use Rattle.std.specs.Prelude.{List, cond, ℕ, eqb, get_or}
use Rattle.paper.specs.declared.Rule.{Rule}
use Rattle.paper.specs.declared.Rule.TheVariants.{Setup, Hold, Low, High}

-- the rule that a kind and a number name: 0 setup, 1 hold, 2 low, 3 high; any other kind, which never occurs, is taken for 3
unfoldable pub rule_of : ℕ → ℕ → Rule
rule_of kind number =
    cond (eqb kind 0) (Setup number)
    (cond (eqb kind 1) (Hold number)
    (cond (eqb kind 2) (Low number) (High number)))

-- the rule at place e of a list; past the list one that is never read
abbrev pub named : List Rule → ℕ → Rule
named rules e = get_or rules e (Setup 0)
