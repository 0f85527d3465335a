use Rattle.std.proofs.Common.{◌≡◌, ◌++◌, ◌-◌, map, drop, length}
use Rattle.std.specs.List.{concat}
use Rattle.fr_core.specs.WellFormed.{nesting}
use Rattle.fr_core.specs.Shapes.{parts_of}
use Rattle.fr_purity.specs.Calls.{calls}
use Rattle.fr_purity.proofs.calling.+calls_into.Given as goal

abbrev pub decreases-calls_into : goal.decreases-calls_into
decreases-calls_into l = nesting l.e.now

abbrev pub invariant-loop-part : goal.invariant-loop-part
invariant-loop-part l = l.called.items ++ concat (map calls (drop l.number (parts_of l.e))) ≡ l.fn.called.items ++ calls l.e

abbrev pub decreases-loop-part : goal.decreases-loop-part
decreases-loop-part l = length (parts_of l.e) - l.number
