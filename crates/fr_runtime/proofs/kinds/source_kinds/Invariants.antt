use Rattle.std.proofs.Common.{◌≡◌, length}
use Rattle.fr_runtime.proofs.kinds.source_kinds.Given as goal

abbrev pub invariant-loop-number : goal.invariant-loop-number
invariant-loop-number l = length l.kinds.items ≡ l.number
