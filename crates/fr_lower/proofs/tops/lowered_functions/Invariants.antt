use Rattle.std.proofs.Common.{drop}
use Rattle.fr_lower.specs.Making.{given}
use Rattle.fr_lower.proofs.Whole.{LaysFunctions}
use Rattle.fr_lower.proofs.tops.lowered_functions.Given as goal

abbrev pub invariant-loop-function : goal.invariant-loop-function
invariant-loop-function l = LaysFunctions l.program (given l.classes) l.fn.made l.made (drop l.function-index l.program.functions) l.functions
