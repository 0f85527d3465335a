use Rattle.std.proofs.Common.{◌≡◌, ◌++◌, take}
use Rattle.fr_value.proofs.slices.push_shared.Given as goal

abbrev pub invariant-loop-x : goal.invariant-loop-x
invariant-loop-x l = l.v.items ≡ l.fn.v.items ++ take l.x-index l.items
