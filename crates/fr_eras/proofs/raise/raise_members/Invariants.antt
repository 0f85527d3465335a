use Rattle.std.proofs.Common.{◌+◌, length}
use Rattle.fr_eras.specs.Lives.{eras_in}
use Rattle.fr_eras.specs.Order.{from_here}
use Rattle.fr_eras.specs.Rising.{Joining}
use Rattle.fr_eras.proofs.raise.raise_members.Given as goal

abbrev pub invariant-loop-next : goal.invariant-loop-next
invariant-loop-next g l =
    Joining (eras_in l.links.lists) l.lower.0 l.fn.store l.store (g.A.Agenda.queued l.fn.agenda) (g.A.Agenda.queued l.agenda)
    (g.A.Agenda.room l.fn.agenda) (g.A.Agenda.room l.agenda) l.fn.work l.work l.next

abbrev pub decreases-loop-next : goal.decreases-loop-next
decreases-loop-next g l = length (from_here (eras_in l.links.lists (l.lower.0 + 1)) l.next)
