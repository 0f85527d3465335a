use Rattle.fr_world.proofs.Whole.{lives_there}
use Rattle.fr_world.proofs.Written.{way_computed, world_computed}
use Rattle.fr_world.proofs.running.WorldSignals.set.Goals as goal

pub set-requires : goal.set-requires
set-requires g c = lives_there c.args.self.now.whole c.args.self.now.store c.args.self.now.eras (g.A.Agenda.queued c.args.self.now.agenda) c.args.self.now.instant c.args.id.0 c.requires

pub invariant_of-self : goal.invariant_of-self
invariant_of-self g c = record {
  is = λ e. world_computed c.args.self.now.store c.set.new.self c.args.self.now.eras (g.A.Agenda.queued c.args.self.now.agenda) c.args.self.now.instant c.args.id.0 c.args.self.now.highest c.args.value c.args.cell (lives_there c.args.self.now.whole c.args.self.now.store c.args.self.now.eras (g.A.Agenda.queued c.args.self.now.agenda) c.args.self.now.instant c.args.id.0 c.requires) c.set.ensures (c.args.self.now.is e);
}

pub returns-clause-writes : goal.returns-clause-writes
returns-clause-writes g c = way_computed c.args.self.now.store c.set.new.self c.args.self.now.eras (g.A.Agenda.queued c.args.self.now.agenda) c.args.self.now.instant c.args.id.0 c.args.self.now.whole c.requires c.args.value c.args.cell c.set.ensures
