use Rattle.std.proofs.Common.{◌≡◌, ◌+◌, ◌-◌, ℕ, length}
use Rattle.fr_ready.specs.Seen.{entries_seen}
use Rattle.fr_ready.specs.Switches.{found_at}
use Rattle.fr_ready.proofs.choices.put.Given as goal

abbrev pub invariant-loop-found : goal.invariant-loop-found
invariant-loop-found l = (n : ℕ) → found_at (entries_seen l.found.items) n ≡ found_at (entries_seen l.fn.found.items) n

abbrev pub decreases-loop-found : goal.decreases-loop-found
decreases-loop-found l = l.index + 1 - length l.found.items
