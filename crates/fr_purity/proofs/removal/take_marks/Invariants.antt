use Rattle.std.proofs.Common.{◌≡◌, ◌++◌, drop}
use Rattle.fr_purity.specs.Removal.{marked_among, without}
use Rattle.fr_purity.proofs.removal.take_marks.Given as goal

abbrev pub invariant-loop-number : goal.invariant-loop-number
invariant-loop-number l =
    (without l.marks (drop l.number-index l.numbers) ≡ without l.fn.marks l.numbers)
    × (l.taken.items ++ marked_among l.marks (drop l.number-index l.numbers) ≡ l.fn.taken.items ++ marked_among l.fn.marks l.numbers)
