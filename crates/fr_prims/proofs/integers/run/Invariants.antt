use Rattle.std.proofs.Common.{◌≡◌, drop}
use Rattle.fr_prims.specs.Integers.{running}
use Rattle.fr_prims.specs.Choices.{op_of}
use Rattle.fr_prims.proofs.integers.run.Given as goal

abbrev pub invariant-loop-value : goal.invariant-loop-value
invariant-loop-value l = running (op_of l.operation) l.so_far (drop l.value-index l.values) ≡ running (op_of l.operation) l.start l.values
