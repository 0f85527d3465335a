use Rattle.std.proofs.Common.{arith, ap, map, length-append}
use Rattle.std.proofs.lemmas.Grind.{common_steps}
use Rattle.fr_value.specs.Data.{total}
use Rattle.fr_syntax.specs.Weights.{weight}
use Rattle.fr_expand.specs.declared.view.Parts.{Parts}
use Rattle.fr_expand.specs.Shapes.{exprs_of}
use Rattle.fr_expand.proofs.Walks.{weight_at, weight_positive, weights_behind}
use Rattle.fr_expand.proofs.translation.+core.Goals as goal

pub add_group-add_core-requires-in-loop-part : goal.add_group-add_core-requires-in-loop-part
add_group-add_core-requires-in-loop-part t c =
    let e = ap (λ (p : Parts). total (map weight (exprs_of p))) c.in-Each.is in
    let w = weight_at c.in-Each.parts.now c.loop-part.part-index c.part-item.result c.loop-part-test.true c.part-item.is in
    rw c.loop-part.invariant.scope (omega arith, omega arith)

pub and_core-and_core-requires : goal.and_core-and_core-requires
and_core-and_core-requires t c = let w = weights_behind c.args.parts.now c.first-item.result (omega arith) c.first-item.is in let p = weight_positive c.first-item.result in (omega arith, omega arith)

pub and_core-boxed_core-requires : goal.and_core-boxed_core-requires
and_core-boxed_core-requires t c = let w = weights_behind c.args.parts.now c.first-item.result (omega arith) c.first-item.is in (omega arith, rw c.in_ok-then-in-len1-up.ensures.scope (omega arith))

pub or_core-push_unnamed-requires : goal.or_core-push_unnamed-requires
or_core-push_unnamed-requires t c = let w = weights_behind c.args.parts.now c.first-item.result (omega arith) c.first-item.is in let p = weight_positive c.first-item.result in omega arith

pub or_core-or_core-requires : goal.or_core-or_core-requires
or_core-or_core-requires t c = let w = weights_behind c.args.parts.now c.first-item.result (omega arith) c.first-item.is in let p = weight_positive c.first-item.result in rw (c.in_ok-push_unnamed-in-len1-up.ensures.pushed, length-append) (omega arith, omega arith)

pub or_core-let_core-requires : goal.or_core-let_core-requires
or_core-let_core-requires t c = let w = weights_behind c.args.parts.now c.first-item.result (omega arith) c.first-item.is in (omega arith, grind (arith, common_steps))
