use Rattle.fr_world.proofs.Calls.{way_one, world_one}
use Rattle.fr_world.proofs.Whole.{lives_live, lives_there, lives_whole}
use Rattle.fr_world.specs.World.{way_of}
use Rattle.fr_world.proofs.running.WorldSignals.queue.Goals as goal

pub queue_one-requires-clause-there : goal.queue_one-requires-clause-there
queue_one-requires-clause-there g c = lives_there c.args.self.now.whole c.args.self.now.store c.args.self.now.eras (g.A.Agenda.queued c.args.self.now.agenda) c.args.self.now.instant c.args.id.0 c.requires

pub queue_one-requires-clause-right : goal.queue_one-requires-clause-right
queue_one-requires-clause-right g c = (c.args.self.now.is (lives_whole c.args.self.now.whole (λ sites. way_of sites c.args.self.now.store c.args.self.now.eras (g.A.Agenda.queued c.args.self.now.agenda) c.args.self.now.instant) c.args.id.0 c.requires)).queue.right

pub invariant_of-self-2 : goal.invariant_of-self-2
invariant_of-self-2 g c = record {
  is = λ e. world_one c.args.self.now.store c.args.self.now.eras (g.A.Agenda.queued c.args.self.now.agenda) (g.A.Agenda.queued c.queue_one.new.agenda) c.args.self.now.instant c.args.self.now.highest c.args.id.0 (c.args.self.now.is (lives_whole c.args.self.now.whole (λ sites. way_of sites c.args.self.now.store c.args.self.now.eras (g.A.Agenda.queued c.args.self.now.agenda) c.args.self.now.instant) c.args.id.0 c.requires)) (lives_live c.args.self.now.whole c.args.self.now.store c.args.self.now.eras (g.A.Agenda.queued c.args.self.now.agenda) c.args.self.now.instant c.args.id.0 c.requires) c.in_ok-queue_one.ensures;
}

pub returns-clause-queues : goal.returns-clause-queues
returns-clause-queues g c =
    way_one c.args.self.now.whole c.args.self.now.store c.args.self.now.eras (g.A.Agenda.queued c.args.self.now.agenda) (g.A.Agenda.queued c.queue_one.new.agenda) c.args.self.now.instant c.args.id.0 (lives_whole c.args.self.now.whole (λ sites. way_of sites c.args.self.now.store c.args.self.now.eras (g.A.Agenda.queued c.args.self.now.agenda) c.args.self.now.instant) c.args.id.0 c.requires) (lives_live c.args.self.now.whole c.args.self.now.store c.args.self.now.eras (g.A.Agenda.queued c.args.self.now.agenda) c.args.self.now.instant c.args.id.0 c.requires) c.in_ok-queue_one.ensures
