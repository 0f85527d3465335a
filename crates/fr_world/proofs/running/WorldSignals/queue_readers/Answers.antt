use Rattle.fr_store.specs.Nodes.{dependents_at}
use Rattle.fr_world.proofs.Calls.{way_all, world_all}
use Rattle.fr_world.proofs.Whole.{lives_there, lives_whole}
use Rattle.fr_world.specs.World.{way_of}
use Rattle.fr_world.proofs.running.WorldSignals.queue_readers.Goals as goal

pub queue_all-requires-clause-there : goal.queue_all-requires-clause-there
queue_all-requires-clause-there g c = lives_there c.args.self.now.whole c.args.self.now.store c.args.self.now.eras (g.A.Agenda.queued c.args.self.now.agenda) c.args.self.now.instant c.args.id.0 c.requires

pub queue_all-requires-clause-queue : goal.queue_all-requires-clause-queue
queue_all-requires-clause-queue g c = (c.args.self.now.is (lives_whole c.args.self.now.whole (λ sites. way_of sites c.args.self.now.store c.args.self.now.eras (g.A.Agenda.queued c.args.self.now.agenda) c.args.self.now.instant) c.args.id.0 c.requires)).queue

pub invariant_of-self-2 : goal.invariant_of-self-2
invariant_of-self-2 g c = record {
  is = λ e. world_all c.args.self.now.store c.args.self.now.eras (g.A.Agenda.queued c.args.self.now.agenda) (g.A.Agenda.queued c.queue_all.new.agenda) c.args.self.now.instant c.args.self.now.highest (dependents_at c.args.self.now.store c.args.id.0) (c.args.self.now.is (lives_whole c.args.self.now.whole (λ sites. way_of sites c.args.self.now.store c.args.self.now.eras (g.A.Agenda.queued c.args.self.now.agenda) c.args.self.now.instant) c.args.id.0 c.requires)) c.in_ok-queue_all.ensures.queues;
}

pub returns-clause-queues : goal.returns-clause-queues
returns-clause-queues g c =
    way_all c.args.self.now.whole c.args.self.now.store c.args.self.now.eras (g.A.Agenda.queued c.args.self.now.agenda) (g.A.Agenda.queued c.queue_all.new.agenda) c.args.self.now.instant c.args.id.0 (lives_whole c.args.self.now.whole (λ sites. way_of sites c.args.self.now.store c.args.self.now.eras (g.A.Agenda.queued c.args.self.now.agenda) c.args.self.now.instant) c.args.id.0 c.requires) c.in_ok-queue_all.ensures.exact c.in_ok-queue_all.ensures.queues
