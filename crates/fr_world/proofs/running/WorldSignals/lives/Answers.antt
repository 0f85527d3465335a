use Rattle.fr_world.proofs.Calls.{lives_is}
use Rattle.fr_world.proofs.running.WorldSignals.lives.Goals as goal

pub returns : goal.returns
returns g c = lives_is c.args.self.now.whole c.args.self.now.store c.args.self.now.eras (g.A.Agenda.queued c.args.self.now.agenda) c.args.self.now.instant c.args.id.0 c.in_grave.result c.requires c.in_grave.ensures
