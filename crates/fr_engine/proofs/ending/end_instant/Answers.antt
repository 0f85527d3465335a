use Rattle.fr_engine.proofs.Settled.{on_ok}
use Rattle.fr_engine.proofs.Ended.{ends_well}
use Rattle.fr_engine.proofs.ending.end_instant.Goals as goal

pub returns-clause-ends : goal.returns-clause-ends
returns-clause-ends g c = on_ok c.close.result
    (λ closes sites p is ms sources old u empty noted late.
    ends_well p is ms sources old (g.N.Nodes.way c.args.nodes.now sites) (g.N.Nodes.way c.close.new.nodes sites) c.args.notes.now c.close.new.notes c.args.late.now.items c.close.new.late.items
    (λ t tk. c.instants_end.ensures p is ms sources old (g.N.Nodes.way c.args.nodes.now sites) t u empty tk) empty noted late (closes sites))
    c.close.ensures.closes
