use Rattle.std.proofs.Common.{Option, Ok, subst}
use Rattle.fr_store.specs.declared.cell.Cell.{Cell}
use Rattle.fr_events.specs.Works.{cell_of}
use Rattle.fr_engine.specs.Latching.{TakesOr}
use Rattle.fr_engine.proofs.Latches.{latched_one}
use Rattle.fr_engine.proofs.latching.latch_one.Goals as goal

pub returns-in-Some-clause-latched : goal.returns-in-Some-clause-latched
returns-in-Some-clause-latched g c = λ sites.
    latched_one (g.N.Nodes.way c.args.nodes.now sites) (g.N.Nodes.way c.latch.new.self sites) c.args.id (cell_of c.in-Some.cell) (c.latch.ensures.latches sites)
    (subst (λ (o : Option Cell). TakesOr (Ok o) (g.N.Nodes.way c.args.nodes.now sites).graph c.args.id.0) c.in-Some.is (c.in_ok-cell.ensures sites))
