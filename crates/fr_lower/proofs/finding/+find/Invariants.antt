use Rattle.std.proofs.Common.{◌-◌, drop, length}
use Rattle.fr_core.specs.WellFormed.{nesting}
use Rattle.fr_lower.specs.Making.{given, outside}
use Rattle.fr_lower.proofs.Steps.{Gathers}
use Rattle.fr_lower.proofs.finding.+find.Given as goal

abbrev pub decreases-find : goal.decreases-find
decreases-find l = nesting l.e.now

abbrev pub invariant-loop-part : goal.invariant-loop-part
invariant-loop-part l = Gathers l.program (given l.classes) l.variables l.fn.made l.made l.e l.found.items l.joins (drop l.number (outside l.e))

abbrev pub decreases-loop-part : goal.decreases-loop-part
decreases-loop-part l = length (outside l.e) - l.number
