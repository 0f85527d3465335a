use Rattle.std.proofs.Common.{length}
use Rattle.fr_links.specs.Lists.{list_at}
use Rattle.fr_eras.specs.Kept.{Moving}
use Rattle.fr_eras.proofs.ending.move_members.Given as goal

abbrev pub invariant-loop-node : goal.invariant-loop-node
invariant-loop-node l = Moving l.fn.links.lists l.links.lists l.list

abbrev pub decreases-loop-node : goal.decreases-loop-node
decreases-loop-node l = length (list_at l.links.lists l.list)
