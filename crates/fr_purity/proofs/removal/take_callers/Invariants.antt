use Rattle.std.proofs.Common.{◌+◌, length}
use Rattle.fr_purity.proofs.Marking.{marks_in}
use Rattle.fr_purity.proofs.Removing.{Removing}
use Rattle.fr_purity.proofs.removal.take_callers.Given as goal

abbrev pub invariant-loop-number : goal.invariant-loop-number
invariant-loop-number l = Removing l.callers l.fn.marks l.marks l.taken.items

abbrev pub decreases-loop-number : goal.decreases-loop-number
decreases-loop-number l = length l.taken.items + marks_in l.marks
