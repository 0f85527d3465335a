use Rattle.fr_world.proofs.Whole.{lives_there}
use Rattle.fr_world.proofs.Written.{node_of}
use Rattle.fr_world.proofs.running.WorldSignals.node.Goals as goal

pub node-requires : goal.node-requires
node-requires g c = lives_there c.args.self.now.whole c.args.self.now.store c.args.self.now.eras (g.A.Agenda.queued c.args.self.now.agenda) c.args.self.now.instant c.args.id.0 c.requires

pub returns : goal.returns
returns g c = node_of c.args.self.now.store c.args.self.now.eras (g.A.Agenda.queued c.args.self.now.agenda) c.args.self.now.instant c.args.self.now.highest c.args.id.0 c.node.result.now c.args.self.now.whole c.requires c.node.ensures c.args.self.now.is
