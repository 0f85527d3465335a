use Rattle.std.proofs.Common.{◌-◌, drop, length}
use Rattle.fr_lower.specs.Making.{outside}
use Rattle.fr_lower.proofs.Steps.{Closing}
use Rattle.fr_lower.proofs.closing.close_parts.Given as goal

abbrev pub invariant-loop-part : goal.invariant-loop-part
invariant-loop-part l = Closing l.variables l.fn.made l.made (outside l.e) l.fn.found.items (drop l.number (outside l.e)) l.found.items l.parts

abbrev pub decreases-loop-part : goal.decreases-loop-part
decreases-loop-part l = length (outside l.e) - l.number
