use Rattle.std.proofs.Common.{length}
use Rattle.fr_links.specs.Lists.{list_at}
use Rattle.fr_eras.specs.Burial.{Burying}
use Rattle.fr_eras.proofs.burial.bury_all.Given as goal

abbrev pub invariant-loop-item : goal.invariant-loop-item
invariant-loop-item l = Burying l.fn.links.lists l.links.lists l.fn.store l.store

abbrev pub decreases-loop-item : goal.decreases-loop-item
decreases-loop-item l = length (list_at l.links.lists 0)
