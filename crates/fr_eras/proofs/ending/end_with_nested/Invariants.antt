use Rattle.std.proofs.Common.{◌-◌, ◌^◌}
use Rattle.fr_links.specs.Lists.{list_at}
use Rattle.fr_queue.specs.Queue.{KeepsRoom}
use Rattle.fr_eras.specs.Kept.{Killing, lives_of}
use Rattle.fr_eras.proofs.Places.{place_in}
use Rattle.fr_eras.proofs.ending.end_with_nested.Given as goal

abbrev pub invariant-loop-at : goal.invariant-loop-at
invariant-loop-at g l = record {
  killing : Killing (lives_of l.fn.links.lists l.fn.begun.items) (lives_of l.links.lists l.begun.items)
      (g.A.Agenda.queued l.fn.agenda) (g.A.Agenda.queued l.agenda) l.era l.at;
  room : KeepsRoom (g.A.Agenda.room l.fn.agenda) (g.A.Agenda.room l.agenda);
}

abbrev pub decreases-loop-at : goal.decreases-loop-at
decreases-loop-at g l = 2 ^ 32 - place_in (list_at l.links.lists 0) l.at
