use Rattle.std.proofs.Common.{◌≤◌}
use Rattle.fr_value.proofs.Lists.{Split}
use Rattle.fr_value.proofs.slices.measure.Given as goal
use Rattle.fr_value.specs.Limits.{most_size, most_depth}

abbrev pub invariant-loop-v : goal.invariant-loop-v
invariant-loop-v l = record {
  so_far : Split l.items l.v-index l.size l.depth;
  small : l.size ≤ most_size;
  shallow : l.depth ≤ most_depth;
}
