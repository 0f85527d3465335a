use Rattle.std.proofs.Common.{◌≡◌, ◌++◌, take}
use Rattle.fr_value.specs.Text.{escaped}
use Rattle.fr_value.proofs.text.escaped_into.Given as goal

abbrev pub invariant-loop-b : goal.invariant-loop-b
invariant-loop-b l = l.out.items ≡ l.fn.out.items ++ escaped (take l.b-index l.bytes)
