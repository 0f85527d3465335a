use Rattle.std.proofs.Common.{◌≡◌, ◌+◌, drop}
use Rattle.fr_kernel.specs.Numbers.{index_of}
use Rattle.fr_kernel.proofs.names.index_in.Given as goal

abbrev pub invariant-loop-i : goal.invariant-loop-i
invariant-loop-i l = l.i + index_of l.number (drop l.i l.list) ≡ index_of l.number l.list
