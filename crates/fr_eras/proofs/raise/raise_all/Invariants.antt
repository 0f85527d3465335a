use Rattle.std.proofs.Common.{◌+◌, length}
use Rattle.std.specs.Option.{is_some}
use Rattle.std.specs.List.{count_by}
use Rattle.fr_eras.specs.Lives.{eras_in}
use Rattle.fr_eras.specs.Raise.{rise_left}
use Rattle.fr_eras.specs.Heights.{height_at, top_height}
use Rattle.fr_eras.specs.Rising.{Risen}
use Rattle.fr_eras.proofs.raise.raise_all.Given as goal

abbrev pub invariant-loop-item : goal.invariant-loop-item
invariant-loop-item g l =
    Risen (eras_in l.links.lists) l.fn.id.0 l.fn.store l.store (g.A.Agenda.queued l.fn.agenda) (g.A.Agenda.queued l.agenda)
    (g.A.Agenda.room l.fn.agenda) (g.A.Agenda.room l.agenda) l.fn.work l.work

abbrev pub decreases-loop-item : goal.decreases-loop-item
decreases-loop-item g l =
    rise_left (length l.fn.store.nodes) (top_height l.fn.store.nodes + count_by is_some l.fn.store.nodes) (height_at l.store) + length l.work.nodes
