use Rattle.std.proofs.Common.{◌≤◌, ◌+◌, length}
use Rattle.fr_value.specs.Data.{data_of}
use Rattle.fr_value.specs.Grammar.{begins, Items}
use Rattle.fr_reader.proofs.reader.read_all.Given as goal
use Rattle.fr_value.specs.Limits.{data_levels}

abbrev pub invariant-loop-rest : goal.invariant-loop-rest
invariant-loop-rest l = record {
  found : Items (begins data_levels) l.fn.bytes (data_of l.items.items) l.rest;
  less : length l.rest + length l.items.items ≤ length l.fn.bytes;
}

abbrev pub decreases-loop-rest : goal.decreases-loop-rest
decreases-loop-rest l = length l.rest
