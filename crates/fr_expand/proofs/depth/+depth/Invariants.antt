use Rattle.std.proofs.Common.{◌≡◌, ◌≤◌, map, drop, take, max, min}
use Rattle.fr_value.specs.Data.{greatest}
use Rattle.fr_expand.specs.Depths.{depth, around, and_depth, or_depth, count_end}
use Rattle.fr_expand.proofs.depth.+depth.Given as goal

abbrev pub invariant-depth_of_each-loop-expr : goal.invariant-depth_of_each-loop-expr
invariant-depth_of_each-loop-expr l = record {
  within : l.greatest ≤ count_end;
  rest : min count_end (max l.greatest (greatest (map depth (drop l.expr-index l.exprs)))) ≡ min count_end (greatest (map depth l.exprs));
}

abbrev pub invariant-depth_of_chain-loop-at : goal.invariant-depth_of_chain-loop-at
invariant-depth_of_chain-loop-at l = l.rest ≡ min count_end (around (drop l.at (take l.count (map depth l.parts))) l.last)

abbrev pub invariant-depth_of_and-loop-at : goal.invariant-depth_of_and-loop-at
invariant-depth_of_and-loop-at l = l.rest ≡ min count_end (and_depth (map depth (drop l.at l.parts)))

abbrev pub invariant-depth_of_or-loop-at : goal.invariant-depth_of_or-loop-at
invariant-depth_of_or-loop-at l = l.rest ≡ min count_end (or_depth (map depth (drop l.at l.parts)))
