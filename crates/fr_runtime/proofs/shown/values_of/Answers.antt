use Rattle.std.proofs.Common.{◌∙◌, ◌≤◌, List, length, ap, sym, arith, Some}
use Rattle.fr_value.specs.declared.now.Held.{Held}
use Rattle.fr_graph.specs.Graph.{part_values}
use Rattle.fr_nodes.specs.Kinds.{parts_of}
use Rattle.fr_runtime.proofs.Values.{item_at, part_there, value_next, take_every}
use Rattle.fr_runtime.proofs.shown.values_of.Goals as goal

pub returns : goal.returns
returns g c = λ sites.
    c.loop-part.invariant sites ∙ ap (λ (l : List Held). part_values (g.N.Nodes.way c.args.nodes.now sites).graph (parts_of l)) (take_every c.args.parts.now c.loop-part.part-index c.loop-part-test.false)

pub value_of-requires : goal.value_of-requires
value_of-requires g c = λ sites.
    part_there (g.N.Nodes.way c.args.nodes.now sites) c.args.parts.now c.loop-part.part-index c.part-item.result
    (item_at c.args.parts.now c.loop-part.part-index c.part-item.result c.loop-part-test.true ∙ ap Some (sym c.part-item.is)) (c.requires sites)

pub loop-part-preserved : goal.loop-part-preserved
loop-part-preserved g c = λ sites.
    value_next (g.N.Nodes.way c.args.nodes.now sites).graph c.args.parts.now c.loop-part.part-index c.part-item.result c.loop-part.values.items c.push.new.self.items c.in_ok-value_of.field-0
    (item_at c.args.parts.now c.loop-part.part-index c.part-item.result c.loop-part-test.true ∙ ap Some (sym c.part-item.is)) (c.loop-part.invariant sites) c.in_ok-push.ensures.items (c.in_ok-value_of.ensures sites)
