use Rattle.std.proofs.Common.{not}
use Rattle.std.specs.Option.{option_map}
use Rattle.fr_events.specs.Works.{cell_of}
use Rattle.fr_engine.proofs.Settled.{on_ok, settles, notes_node, value_differs, value_stays}
use Rattle.fr_engine.proofs.setting.settle.Goals as goal

pub returns-clause-settles : goal.returns-clause-settles
returns-clause-settles g c = on_ok c.wake.result
    (λ wakes sites.
    settles c.occurs_now-occurs.result (not c.same_now-differs.result) (g.N.Nodes.way c.args.nodes.now sites) (g.N.Nodes.way c.set.new.self sites) (g.N.Nodes.way c.wake.new.nodes sites)
    c.args.id.0 c.args.computed.value (option_map cell_of c.args.computed.cell) (c.set.ensures.writes sites) (wakes sites) c.occurs_now-occurs.ensures
    (value_stays sites (g.N.Nodes.way c.args.nodes.now sites) c.args.id.0 c.node.result.now c.args.computed.value c.same_now-differs.result (c.node.ensures sites) c.same_now-differs.ensures))
    c.wake.ensures.wakes

pub returns-clause-noted : goal.returns-clause-noted
returns-clause-noted g c = on_ok c.wake.result
    (λ wakes sites.
    notes_node c.occurs_now-occurs.result (not c.same_now-differs.result) (g.N.Nodes.way c.args.nodes.now sites) c.args.id.0 c.args.computed.value c.args.notes.now (record { wakes = c.note.new.ids; changed = c.note-2.new.ids })
    c.in_ok-note.ensures c.in_ok-note-2.ensures c.occurs_now-occurs.ensures
    (value_stays sites (g.N.Nodes.way c.args.nodes.now sites) c.args.id.0 c.node.result.now c.args.computed.value c.same_now-differs.result (c.node.ensures sites) c.same_now-differs.ensures)
    (value_differs sites (g.N.Nodes.way c.args.nodes.now sites) c.args.id.0 c.node.result.now c.args.computed.value c.same_now-differs.result (c.node.ensures sites) c.same_now-differs.ensures))
    c.wake.ensures.wakes
