use Rattle.std.proofs.Common.{drop}
use Rattle.fr_lower.specs.Making.{given}
use Rattle.fr_lower.proofs.Whole.{LaysItems}
use Rattle.fr_lower.proofs.tops.lowered_items.Given as goal

abbrev pub invariant-loop-item : goal.invariant-loop-item
invariant-loop-item l = LaysItems l.program (given l.classes) l.fn.made l.made l.variables (drop l.item-index l.program.body) l.items
