use Rattle.fr_store.specs.Nodes.{dependents_at}
use Rattle.fr_eras.proofs.Readers.{edges_left}
use Rattle.fr_world.specs.Calls.{Queuing}
use Rattle.fr_world.proofs.parts.queue_all.Given as goal

abbrev pub invariant-loop-at : goal.invariant-loop-at
invariant-loop-at g l = Queuing l.store l.eras (g.A.Agenda.queued l.fn.agenda) (g.A.Agenda.queued l.agenda) l.fn.id.0 l.at

abbrev pub decreases-loop-at : goal.decreases-loop-at
decreases-loop-at g l = edges_left (dependents_at l.store l.fn.id.0) l.at
