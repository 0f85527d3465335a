use Rattle.std.proofs.Common.{◌≡◌, ◌++◌, take}
use Rattle.fr_kernel.proofs.machine.share_seen_behind.Given as goal

abbrev pub invariant-loop-value : goal.invariant-loop-value
invariant-loop-value l = l.stack ≡ l.fn.stack ++ take l.value-index l.values
