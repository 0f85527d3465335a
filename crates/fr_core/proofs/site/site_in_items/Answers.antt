use Rattle.fr_core.specs.Sites.{item_expr}
use Rattle.fr_core.proofs.Found.{none_next, none_of_all}
use Rattle.fr_core.proofs.site.site_in_items.Goals as goal

pub loop-item-preserved : goal.loop-item-preserved
loop-item-preserved c = none_next c.args.site item_expr c.args.items.now c.loop-item.item-index c.item-item.result c.loop-item-test.true c.item-item.is c.loop-item.invariant (rw c.expr_of.ensures at c.in_default.ensures)

pub returns : goal.returns
returns c = none_of_all c.args.site item_expr c.args.items.now c.loop-item.item-index c.loop-item-test.false c.loop-item.invariant
