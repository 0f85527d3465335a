use Rattle.std.proofs.Common.{take}
use Rattle.fr_build.specs.Items.{ItemsMade}
use Rattle.fr_build.proofs.items.build_items.Given as goal

abbrev pub invariant-loop-item : goal.invariant-loop-item
invariant-loop-item g l =
    ItemsMade l.plan (take l.item-index l.items) (g.N.Nodes.way l.fn.nodes) (g.N.Nodes.way l.nodes) (g.N.Nodes.has_era l.fn.nodes) (g.N.Nodes.has_era l.nodes) l.env l.shown
