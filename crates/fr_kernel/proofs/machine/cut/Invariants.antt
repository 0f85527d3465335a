use Rattle.std.proofs.Common.{◌≡◌, length, take}
use Rattle.fr_kernel.proofs.machine.cut.Given as goal

abbrev pub invariant-loop-stack : goal.invariant-loop-stack
invariant-loop-stack l = take l.len l.stack ≡ take l.len l.fn.stack

abbrev pub decreases-loop-stack : goal.decreases-loop-stack
decreases-loop-stack l = length l.stack
