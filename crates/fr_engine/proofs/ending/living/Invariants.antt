use Rattle.std.proofs.Common.{take}
use Rattle.fr_nodes.specs.Kinds.{Sites}
use Rattle.fr_engine.specs.Ending.{AreLiving}
use Rattle.fr_engine.proofs.ending.living.Given as goal

abbrev pub invariant-loop-id : goal.invariant-loop-id
invariant-loop-id g l = (sites : Sites) → AreLiving (g.N.Nodes.way l.nodes sites).graph (take l.id-index l.ids) l.living.items
