use Rattle.std.proofs.Common.{ℕ, ◌≡◌, ◌&&◌, not, nat_lt}
use Rattle.fr_purity.specs.Marks.{set_of}
use Rattle.fr_purity.specs.Removal.{has}
use Rattle.fr_purity.proofs.removal.unmarked.Given as goal

abbrev pub invariant-loop-number : goal.invariant-loop-number
invariant-loop-number l = (n : ℕ) → has l.numbers.items n ≡ nat_lt n l.number && not (set_of l.marks n)
