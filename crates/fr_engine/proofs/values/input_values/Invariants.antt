use Rattle.std.proofs.Common.{◌≡◌, take}
use Rattle.fr_graph.specs.Graph.{part_values}
use Rattle.fr_nodes.specs.Kinds.{Sites, parts_of}
use Rattle.fr_engine.proofs.values.input_values.Given as goal

abbrev pub invariant-loop-place : goal.invariant-loop-place
invariant-loop-place g l = (sites : Sites) → l.values.items ≡ part_values (g.N.Nodes.way l.nodes sites).graph (parts_of (take l.place l.inputs))
