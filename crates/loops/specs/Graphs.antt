-- What the code is lent: arrows as a graph, and preds among them, in the words of the theory.
use Rattle.loops.specs.declared.Graph.{Graph}
use Rattle.loops.specs.declared.Preds.{Preds}
use Rattle.loops.specs.Arrows.{Arrows, among}

-- the arrows of a graph
abbrev pub of : Graph → Arrows
of graph = among graph.registers graph.arrows.now

-- the arrows of the graph in which the preds are looked for
abbrev pub web_of_preds : Preds → Arrows
web_of_preds preds = of preds.graph
