use Rattle.std.proofs.Common.{◌≡◌, ◌+◌, length}
use Rattle.fr_tests.proofs.kernels.push_values.Given as goal

abbrev pub invariant-loop-slot : goal.invariant-loop-slot
invariant-loop-slot l = length l.values ≡ length l.fn.values + l.slot-index
