use Rattle.std.proofs.Common.{◌∙◌, ◌-◌, ap, sym}
use Rattle.std.specs.Option.{option_map}
use Rattle.fr_meaning.specs.Evaluation.{most_levels}
use Rattle.fr_graph.specs.Graph.{part_values}
use Rattle.fr_store.specs.Rows.{cell_of as cell_seen}
use Rattle.fr_nodes.specs.Kinds.{parts_of}
use Rattle.fr_engine.specs.Rules.{is_late_in}
use Rattle.fr_engine.proofs.Comes.{work_ran_over}
use Rattle.fr_engine.proofs.computing.worked.Goals as goal

pub returns : goal.returns
returns g c = λ sites w e.
    work_ran_over c.is_late.result (option_map cell_seen c.get.result) c.in-Ok-owned.before c.args.node.now.cell c.as_slice.result.now (part_values (g.N.Nodes.way c.args.nodes.now sites).graph (parts_of c.args.node.now.inputs))
    c.args.table.now (most_levels - c.args.node.now.nest) c.step-stepped.result c.with_cell.result w c.args.fuel.now.left c.step-stepped.new.fuel.left
    (c.is_late.ensures ∙ ap is_late_in e) (c.get.ensures ∙ sym c.in-Ok-owned.ensures) c.in-Ok-owned.ensures (c.as_slice.ensures.value ∙ c.in-Ok.ensures sites) c.with_cell.ensures (c.step-stepped.ensures w e)
