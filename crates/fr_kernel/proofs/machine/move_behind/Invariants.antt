use Rattle.std.proofs.Common.{◌≡◌, ◌++◌, length, take, drop}
use Rattle.fr_kernel.proofs.machine.move_behind.Given as goal

abbrev pub invariant-loop-stack : goal.invariant-loop-stack
invariant-loop-stack l = record { moved : l.to ++ drop l.from l.stack ≡ l.fn.to ++ drop l.from l.fn.stack; front : take l.from l.stack ≡ take l.from l.fn.stack }

abbrev pub decreases-loop-stack : goal.decreases-loop-stack
decreases-loop-stack l = length l.stack
