use Rattle.std.proofs.Common.{sym}
use Rattle.fr_engine.proofs.Latches.{takes_last, takes_refused}
use Rattle.fr_engine.proofs.latching.taken_by.Goals as goal

pub returns-in-Err : goal.returns-in-Err
returns-in-Err g c = λ sites.
    takes_refused sites (g.N.Nodes.way c.args.nodes.now sites) c.args.id.0 c.node-node.result.now c.in-Some.last c.in-Err.stop (c.node-node.ensures sites)
    (sym c.if-not-is_late.ensures) c.in-Some.ensures (c.in-Err.ensures sites)

pub returns-in-Ok : goal.returns-in-Ok
returns-in-Ok g c = λ sites.
    takes_last sites (g.N.Nodes.way c.args.nodes.now sites) c.args.id.0 c.node-node.result.now c.in-Some.last c.in-Ok.cell (c.node-node.ensures sites)
    (sym c.if-not-is_late.ensures) c.in-Some.ensures (c.in-Ok.ensures sites)
