use Rattle.std.proofs.Common.{◌≡◌, ℕ, Some}
use Rattle.fr_store.specs.Nodes.{IsEdge}
use Rattle.fr_tests.proofs.nodes.tell_readers.Given as goal

abbrev pub invariant-loop : goal.invariant-loop
invariant-loop l = (edge : ℕ) → l.at ≡ Some edge → IsEdge l.store edge
