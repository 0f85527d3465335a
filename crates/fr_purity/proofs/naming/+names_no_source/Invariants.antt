use Rattle.std.proofs.Common.{◌≡◌, ◌-◌, map, drop, length}
use Rattle.fr_core.specs.Classes.{names_only}
use Rattle.fr_core.specs.WellFormed.{nesting}
use Rattle.fr_core.specs.Shapes.{parts_of, all_true}
use Rattle.fr_purity.specs.Marks.{below}
use Rattle.fr_purity.proofs.naming.+names_no_source.Given as goal

abbrev pub decreases-names_no_source : goal.decreases-names_no_source
decreases-names_no_source l = nesting l.e.now

abbrev pub invariant-loop-part : goal.invariant-loop-part
invariant-loop-part l = all_true (map (names_only (below l.functions)) (drop l.number (parts_of l.e))) ≡ names_only (below l.functions) l.e

abbrev pub decreases-loop-part : goal.decreases-loop-part
decreases-loop-part l = length (parts_of l.e) - l.number
