use Rattle.std.proofs.Common.{◌≤◌, length}
use Rattle.fr_tests.proofs.graph.wrong_step.Given as goal

abbrev pub invariant-loop-at : goal.invariant-loop-at
invariant-loop-at l = (2 ≤ length l.links.lists) × (3 ≤ l.links.items)
