use Rattle.fr_world.proofs.Queuing.{queuing_ends, queuing_goes_on, queuing_nearer, reader_there}
use Rattle.fr_world.proofs.parts.queue_all.Goals as goal

pub queue_one-requires-clause-there : goal.queue_one-requires-clause-there
queue_one-requires-clause-there g c = reader_there c.args.store.now c.args.eras.now c.args.id.0 c.first_dependent-at.ensures.exact (g.A.Agenda.queued c.args.agenda.now) (g.A.Agenda.queued c.loop-at.agenda) c.loop-at.at c.in-Some.edge c.loop-at.invariant c.in-Some.is c.edge_node.result.0 c.edge_node.ensures

pub loop-at-smaller : goal.loop-at-smaller
loop-at-smaller g c = queuing_nearer c.args.store.now c.args.eras.now c.args.id.0 c.first_dependent-at.ensures.exact (g.A.Agenda.queued c.args.agenda.now) (g.A.Agenda.queued c.loop-at.agenda) c.loop-at.at c.in-Some.edge c.loop-at.invariant c.in-Some.is c.next_dependent-at.result c.next_dependent-at.ensures

pub loop-at-preserved : goal.loop-at-preserved
loop-at-preserved g c =
    queuing_goes_on c.args.store.now c.args.eras.now c.args.id.0 c.first_dependent-at.ensures.exact (g.A.Agenda.queued c.args.agenda.now) (g.A.Agenda.queued c.loop-at.agenda) c.loop-at.at c.in-Some.edge c.loop-at.invariant c.in-Some.is c.edge_node.result.0 c.edge_node.ensures (g.A.Agenda.queued c.queue_one.new.agenda) c.in_ok-queue_one.ensures
    c.next_dependent-at.result c.next_dependent-at.ensures

pub returns-clause-queues : goal.returns-clause-queues
returns-clause-queues g c = queuing_ends c.args.store.now c.args.eras.now c.args.id.0 c.first_dependent-at.ensures.exact (g.A.Agenda.queued c.args.agenda.now) (g.A.Agenda.queued c.loop-at.agenda) c.loop-at.at c.loop-at.invariant c.in_default.is
