use Rattle.std.proofs.Common.{map}
use Rattle.fr_core.specs.Sites.{item_expr}
use Rattle.fr_core.proofs.Found.{NoneBefore}
use Rattle.fr_core.proofs.site.site_in_items.Given as goal

abbrev pub invariant-loop-item : goal.invariant-loop-item
invariant-loop-item l = NoneBefore l.site (map item_expr l.items) l.item-index
