use Rattle.std.proofs.Common.{◌≡◌, Ok, map, take}
use Rattle.fr_graph.specs.Graph.{part_values}
use Rattle.fr_nodes.specs.Kinds.{Sites, parts_of}
use Rattle.fr_runtime.proofs.shown.values_of.Given as goal

abbrev pub invariant-loop-part : goal.invariant-loop-part
invariant-loop-part g l = (sites : Sites) → map (λ v. Ok v) l.values.items ≡ part_values (g.N.Nodes.way l.nodes sites).graph (parts_of (take l.part-index l.parts))
