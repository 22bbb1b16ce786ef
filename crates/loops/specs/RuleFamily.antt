-- The paper's rules as a family of arrows: each rule's arrow with its amount at P. Only a setup rule's amount knows P.
use Rattle.paper.specs.Network.{Network}
use Rattle.paper.specs.declared.Rule.{Rule}
use Rattle.paper.specs.declared.Rule.TheVariants.{Setup, Hold, Low, High}
use Rattle.paper.specs.Rules.{Exists, tail, head, amount}
use Rattle.loops.specs.Family.{Graph, Family}

-- every rule but a setup rule
abbrev pub IsFixed : Rule → Type 0
IsFixed (Setup p) = ⊥
IsFixed (Hold p) = Unit {0}
IsFixed (Low i) = Unit {0}
IsFixed (High i) = Unit {0}

module _ (N : Network) where
  abbrev pub graph_of : Graph Rule
  graph_of = record { registers = N.registers; Here = Exists N; leaves = tail N; reaches = head N }

  abbrev pub rules : Family Rule
  rules = record { graph = graph_of; Fixed = IsFixed; weigh = amount N }
