use Rattle.std.proofs.Common.{ℕ, ◌≡◌, [], length}
use Rattle.fr_purity.specs.Removal.{list_at}
use Rattle.fr_purity.proofs.calling.empty_lists.Given as goal

abbrev pub invariant-loop-function : goal.invariant-loop-function
invariant-loop-function l = (length l.lists.items ≡ l._function) × ((n : ℕ) → list_at l.lists.items n ≡ [])
