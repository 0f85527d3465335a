-- What a tree agenda holds.
use Rattle.std.specs.Prelude.{ℕ, Bool}
use Rattle.std.specs.BTreeMap as map
use Rattle.std.specs.Ordering.{nat_cmp}
use Rattle.fr_queue.specs.Queue.{Queued}
use Rattle.fr_queue.specs.declared.tree.TreeAgenda.{TreeAgenda}

-- The height of each node in the agenda.
abbrev pub heights_in : TreeAgenda → Queued
heights_in agenda node = map.get nat_cmp agenda.heights node
