use Rattle.std.proofs.Common.{map}
use Rattle.fr_value.specs.Data.{total}
use Rattle.fr_ready.specs.Seen.{entries_seen, lows_seen}
use Rattle.fr_ready.proofs.Gathering.{Gathers, low_count}
use Rattle.fr_ready.proofs.choices.ChoicesAt.of.Given as goal

abbrev pub invariant-loop-e : goal.invariant-loop-e
invariant-loop-e l = Gathers l.lowered (entries_seen l.found.items) (lows_seen l.waiting.items)

abbrev pub decreases-loop-e : goal.decreases-loop-e
decreases-loop-e l = total (map low_count (lows_seen l.waiting.items))
