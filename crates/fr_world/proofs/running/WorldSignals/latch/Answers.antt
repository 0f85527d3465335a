use Rattle.fr_world.proofs.Whole.{lives_there}
use Rattle.fr_world.proofs.Written.{way_latched, world_latched}
use Rattle.fr_world.proofs.running.WorldSignals.latch.Goals as goal

pub latch-requires : goal.latch-requires
latch-requires g c = lives_there c.args.self.now.whole c.args.self.now.store c.args.self.now.eras (g.A.Agenda.queued c.args.self.now.agenda) c.args.self.now.instant c.args.id.0 c.requires

pub invariant_of-self : goal.invariant_of-self
invariant_of-self g c = record {
  is = λ e. world_latched c.args.self.now.store c.latch.new.self c.args.self.now.eras (g.A.Agenda.queued c.args.self.now.agenda) c.args.self.now.instant c.args.id.0 c.args.self.now.highest c.args.cell (lives_there c.args.self.now.whole c.args.self.now.store c.args.self.now.eras (g.A.Agenda.queued c.args.self.now.agenda) c.args.self.now.instant c.args.id.0 c.requires) c.latch.ensures (c.args.self.now.is e);
}

pub returns-clause-latches : goal.returns-clause-latches
returns-clause-latches g c = way_latched c.args.self.now.store c.latch.new.self c.args.self.now.eras (g.A.Agenda.queued c.args.self.now.agenda) c.args.self.now.instant c.args.id.0 c.args.self.now.whole c.requires c.args.cell c.latch.ensures
