use Rattle.std.proofs.Common.{◌≡◌, ◌≤◌, length, drop}
use Rattle.std.specs.List.{flat_map}
use Rattle.fr_prims.specs.Data.{items_of}
use Rattle.fr_prims.proofs.lists.join_lists.Given as goal

abbrev pub invariant-loop-at : goal.invariant-loop-at
invariant-loop-at l = record {
  so_far : l.all ≡ flat_map items_of (drop l.at l.lists);
  within : l.at ≤ length l.lists;
}

abbrev pub decreases-loop-at : goal.decreases-loop-at
decreases-loop-at l = l.at
