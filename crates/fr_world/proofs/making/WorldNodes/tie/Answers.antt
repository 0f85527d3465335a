use Rattle.fr_world.proofs.Whole.{lives_there}
use Rattle.fr_world.proofs.Written.{way_tied, world_tied}
use Rattle.fr_world.proofs.making.WorldNodes.tie.Goals as goal

pub tie-requires : goal.tie-requires
tie-requires g c = lives_there c.args.self.now.whole c.args.self.now.store c.args.self.now.eras (g.A.Agenda.queued c.args.self.now.agenda) c.args.self.now.instant c.args.id.0 c.requires.there

pub invariant_of-self : goal.invariant_of-self
invariant_of-self g c = record {
  is = λ e. world_tied c.args.self.now.store c.tie.new.self c.args.self.now.eras (g.A.Agenda.queued c.args.self.now.agenda) c.args.self.now.instant c.args.id.0 c.args.self.now.highest c.args.last (lives_there c.args.self.now.whole c.args.self.now.store c.args.self.now.eras (g.A.Agenda.queued c.args.self.now.agenda) c.args.self.now.instant c.args.id.0 c.requires.there) c.tie.ensures (c.args.self.now.is e);
}

pub returns-clause-ties : goal.returns-clause-ties
returns-clause-ties g c = way_tied c.args.self.now.store c.tie.new.self c.args.self.now.eras (g.A.Agenda.queued c.args.self.now.agenda) c.args.self.now.instant c.args.id.0 c.args.self.now.whole c.requires.there c.args.last c.tie.ensures
