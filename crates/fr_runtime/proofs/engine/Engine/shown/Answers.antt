use Rattle.std.proofs.Common.{◌≡◌, List, map, Ok, IfOk, subst}
use Rattle.fr_value.specs.declared.now.Held.{Held}
use Rattle.fr_graph.specs.Graph.{part_values}
use Rattle.fr_nodes.specs.Kinds.{Sites, parts_of}
use Rattle.fr_runtime.proofs.engine.Engine.shown.Goals as goal

pub returns : goal.returns
returns g c =
    subst (λ (l : List Held). IfOk c.values_of.result (λ shown. (sites : Sites) → map (λ v. Ok v) shown.items ≡ part_values (g.N.Nodes.way c.args.self.now.nodes sites).graph (parts_of l))) c.as_slice.ensures c.values_of.ensures
