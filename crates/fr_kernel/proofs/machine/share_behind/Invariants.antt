use Rattle.std.proofs.Common.{◌≡◌, ◌++◌, map, take, Ok}
use Rattle.fr_kernel.proofs.machine.share_behind.Given as goal

abbrev pub invariant-loop-value : goal.invariant-loop-value
invariant-loop-value l = l.stack ≡ l.fn.stack ++ map (λ n. Ok n) (take l.value-index l.values)
