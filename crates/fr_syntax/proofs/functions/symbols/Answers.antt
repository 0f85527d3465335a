use Rattle.std.proofs.Common.{◌∙◌}
use Rattle.fr_syntax.proofs.Heads.{next_symbol, no_symbol}
use Rattle.fr_syntax.proofs.functions.symbols.Goals as goal

pub returns-in-None : goal.returns-in-None
returns-in-None c =
    no_symbol c.loop-item.names c.args.items.now c.loop-item.item-index c.item-item.result c.loop-item-test.true c.item-item.is c.in-None.ensures ∙ c.loop-item.invariant

pub loop-item-preserved : goal.loop-item-preserved
loop-item-preserved c =
    rw (c.in_ok-push-in-Some.ensures.ok, c.in_ok-share-in-Some.ensures)
    (next_symbol c.loop-item.names c.args.items.now c.loop-item.item-index c.item-item.result c.in-Some.name.now c.loop-item-test.true c.item-item.is c.in-Some.ensures)
    ∙ c.loop-item.invariant
