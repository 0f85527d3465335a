use Rattle.std.proofs.Common.{◌≡◌, ◌++◌, drop, map}
use Rattle.fr_core.specs.Sites.{item_expr}
use Rattle.fr_ready.specs.Seen.{lows_seen}
use Rattle.fr_ready.proofs.choices.wait_for_items.Given as goal

abbrev pub invariant-loop-item : goal.invariant-loop-item
invariant-loop-item l = lows_seen l.waiting.items ++ map item_expr (drop l.item-index l.items) ≡ lows_seen l.fn.waiting.items ++ map item_expr l.items
