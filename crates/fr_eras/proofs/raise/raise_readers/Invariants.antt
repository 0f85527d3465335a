use Rattle.fr_store.specs.Nodes.{dependents_at}
use Rattle.fr_eras.specs.Lives.{eras_in}
use Rattle.fr_eras.specs.Rising.{Reading}
use Rattle.fr_eras.proofs.Readers.{edges_left}
use Rattle.fr_eras.proofs.raise.raise_readers.Given as goal

abbrev pub invariant-loop-edge : goal.invariant-loop-edge
invariant-loop-edge g l =
    Reading (eras_in l.links.lists) l.lower.0 l.fn.store l.store (g.A.Agenda.queued l.fn.agenda) (g.A.Agenda.queued l.agenda)
    (g.A.Agenda.room l.fn.agenda) (g.A.Agenda.room l.agenda) l.fn.work l.work l.edge

abbrev pub decreases-loop-edge : goal.decreases-loop-edge
decreases-loop-edge g l = edges_left (dependents_at l.fn.store l.lower.0) l.edge
