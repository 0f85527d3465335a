use Rattle.std.proofs.Common.{◌-◌, length}
use Rattle.fr_core.specs.Shapes.{parts_of}
use Rattle.fr_core.specs.WellFormed.{nesting}
use Rattle.fr_core.proofs.text.+core_into.Given as goal

abbrev pub decreases-core_into : goal.decreases-core_into
decreases-core_into l = nesting l.e.now

abbrev pub decreases-loop-part : goal.decreases-loop-part
decreases-loop-part l = length (parts_of l.e) - l.number
