use Rattle.std.proofs.Common.{◌≡◌, ◌≤◌, ◌+◌, drop, length, slice_get, Some, refl, sym, ap, ◌∙◌}
use Rattle.std.proofs.lemmas.Option.{slice_get_read, slice_get_past}
use Rattle.fr_core.proofs.PartLists.{drop_part, drop_none}
use Rattle.fr_lower.specs.Making.{given}
use Rattle.fr_lower.proofs.Whole.{item_fit, items_next, items_last}
use Rattle.fr_lower.proofs.tops.lowered_items.Goals as goal

pub lowered_item-requires-clause-fit : goal.lowered_item-requires-clause-fit
lowered_item-requires-clause-fit c =
    let items = c.as_slice-item-items.result.now in
    let at : slice_get items c.loop-item.item-index ≡ Some c.item-item.result = slice_get_read items (length items) c.loop-item.item-index c.item-item.result refl c.loop-item-test.true c.item-item.is in
    item_fit c.args.program.now c.loop-item.item-index c.item-item.result c.requires.fit (rw c.as_slice-item-items.ensures at at)

pub loop-item-preserved : goal.loop-item-preserved
loop-item-preserved c =
    let items = c.as_slice-item-items.result.now in
    let at : slice_get items c.loop-item.item-index ≡ Some c.item-item.result = slice_get_read items (length items) c.loop-item.item-index c.item-item.result refl c.loop-item-test.true c.item-item.is in
    let here = drop_part c.args.program.now.body c.loop-item.item-index c.item-item.result (sym (rw c.as_slice-item-items.ensures at at)) in
    rw c.in_ok-push.ensures.ok
    (items_next c.args.program.now (given c.args.classes) c.args.made.now c.loop-item.made c.lowered_item.new.made c.loop-item.variables c.in_ok-variables.variables c.item-item.result (drop (c.loop-item.item-index + 1) c.args.program.now.body)
    c.loop-item.items c.in_ok-lowered_item.field-0 c.in_ok-lowered_item.ensures (c.in_ok-variables.ensures ∙ ap (λ n. c.loop-item.variables + n) c.bound_by_item.ensures) (rw here at c.loop-item.invariant))

pub returns : goal.returns
returns c =
    let past : length c.args.program.now.body ≤ c.loop-item.item-index = rw c.as_slice-item-items.ensures at c.loop-item-test.false in
    items_last c.args.program.now (given c.args.classes) c.args.made.now c.loop-item.made c.loop-item.variables (drop c.loop-item.item-index c.args.program.now.body) c.loop-item.items
    (drop_none c.args.program.now.body c.loop-item.item-index (sym (slice_get_past c.args.program.now.body c.loop-item.item-index past))) c.loop-item.invariant
