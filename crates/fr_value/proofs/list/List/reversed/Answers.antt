use Rattle.std.proofs.Common.{◌∙◌, refl}
use Rattle.fr_value.proofs.Reversed.{few_turned, turned_more}
use Rattle.fr_value.proofs.list.List.reversed.Goals as goal

pub in_tree-requires : goal.in_tree-requires
in_tree-requires c = few_turned c.args.self.now _ c.loop-at.at c.loop-at.invariant (c.measure.ensures.small, c.measure.ensures.shallow)

pub loop-at-preserved : goal.loop-at-preserved
loop-at-preserved c = turned_more c.args.self.now _ c.in_ok-front.front.items c.loop-at.at _ c.run.result.0.now c.run.result.1.now
    (c.in_ok-more.ensures ∙ c.loop-at.invariant) c.in_ok-front.ensures c.run.ensures refl

pub laid_out-requires : goal.laid_out-requires
laid_out-requires c = few_turned c.args.self.now _ c.loop-at.at c.loop-at.invariant (c.measure.ensures.small, c.measure.ensures.shallow)
