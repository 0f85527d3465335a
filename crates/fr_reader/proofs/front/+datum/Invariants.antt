use Rattle.std.proofs.Common.{◌≤◌, ◌+◌, ◌*◌, length}
use Rattle.fr_value.specs.Data.{data_of}
use Rattle.fr_value.specs.Grammar.{begins, Items}
use Rattle.fr_reader.proofs.front.+datum.Given as goal

abbrev pub decreases-datum : goal.decreases-datum
decreases-datum l = 2 * l.levels

abbrev pub decreases-list : goal.decreases-list
decreases-list l = 2 * l.levels + 1

abbrev pub decreases-quoted : goal.decreases-quoted
decreases-quoted l = 2 * l.levels + 1

abbrev pub invariant-list-loop-b : goal.invariant-list-loop-b
invariant-list-loop-b l = record {
  found : Items (begins l.levels) l.fn.bytes (data_of l.items.items) l.rest;
  less : length l.rest ≤ length l.fn.bytes;
}

abbrev pub decreases-list-loop-b : goal.decreases-list-loop-b
decreases-list-loop-b l = length l.rest
