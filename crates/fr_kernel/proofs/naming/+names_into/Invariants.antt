use Rattle.std.proofs.Common.{◌≡◌, ◌++◌, ◌-◌, map, drop, length}
use Rattle.fr_core.specs.WellFormed.{nesting}
use Rattle.fr_core.specs.Shapes.{parts_of}
use Rattle.fr_meaning.specs.Dependence.{joined, variables, sources_of}
use Rattle.fr_kernel.specs.Slots.{all_below}
use Rattle.fr_kernel.proofs.naming.+names_into.Given as goal

abbrev pub decreases-names_into : goal.decreases-names_into
decreases-names_into l = nesting l.e.now

abbrev pub invariant-loop-part : goal.invariant-loop-part
invariant-loop-part l = record {
  variables : l.outer.items ++ all_below l.first (joined (map variables (drop l.number (parts_of l.e)))) ≡ l.fn.outer.items ++ all_below l.first (variables l.e);
  sources : l.sources.items ++ joined (map sources_of (drop l.number (parts_of l.e))) ≡ l.fn.sources.items ++ sources_of l.e;
}

abbrev pub decreases-loop-part : goal.decreases-loop-part
decreases-loop-part l = length (parts_of l.e) - l.number
