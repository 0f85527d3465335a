use Rattle.std.proofs.Common.{◌≡◌, ◌-◌, ◌++◌, drop, length}
use Rattle.fr_core.specs.Sites.{parts}
use Rattle.fr_ready.specs.Seen.{lows_seen}
use Rattle.fr_ready.proofs.choices.wait_for_parts.Given as goal

abbrev pub invariant-loop-part : goal.invariant-loop-part
invariant-loop-part l = lows_seen l.waiting.items ++ drop l.number (parts l.e) ≡ lows_seen l.fn.waiting.items ++ parts l.e

abbrev pub decreases-loop-part : goal.decreases-loop-part
decreases-loop-part l = length (parts l.e) - l.number
