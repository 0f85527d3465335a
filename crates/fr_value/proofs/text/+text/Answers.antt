use Rattle.std.proofs.Common.{◌≡◌, ◌++◌, [], ◌∷◌, OnOk, arith, subst, sym}
use Rattle.fr_value.specs.Data.{datum_of, size-of}
use Rattle.fr_value.proofs.Lists.{item_smaller as slice_smaller}
use Rattle.fr_value.proofs.Items.{item_smaller}
use Rattle.fr_value.proofs.Runs.{run_within, run_smaller}
use Rattle.fr_value.proofs.Parts.{on_err, on_err_then, on_ok_then, walk_next, walk_part, first_is, none_is, found, list_first, list_others, list_whole, list_none, run_first, run_others, behind_next, behind_so_far, behind_part, string_text}
use Rattle.fr_value.proofs.text.+text.Goals as goal
use Rattle.fr_value.proofs.text.+text.Goals.{list_into-in-Some+in_ok-text_into+in_ok-behind_into, list_into-in_default}

pub behind_into-run_into-requires : goal.behind_into-run_into-requires
behind_into-run_into-requires t c = (omega (arith, c.decreases, run_smaller c.args.list.now c.loop-at.at c.run.result.0.now c.run.result.1.now c.run.ensures), tt)

pub behind_into-returns-in_err-run_into-clause-part : goal.behind_into-returns-in_err-run_into-clause-part
behind_into-returns-in_err-run_into-clause-part t c = on_err c.from_residual.result
    (walk_part c.args.out.now.items c.loop-at.out.items c.run_into.new.out.items c.args.list.now c.loop-at.at c.run.result.0.now c.run.result.1.now c.loop-at.invariant c.run.ensures c.in_err-run_into.ensures.part)

pub behind_into-overflow_add-at-in-loop-at : goal.behind_into-overflow_add-at-in-loop-at
behind_into-overflow_add-at-in-loop-at t c = omega (arith, run_within c.args.list.now c.loop-at.at c.run.result.0.now c.run.result.1.now c.run.ensures, c.len.ensures)

pub behind_into-loop-at-preserved : goal.behind_into-loop-at-preserved
behind_into-loop-at-preserved t c = walk_next c.args.out.now.items c.loop-at.out.items c.run_into.new.out.items c.args.list.now c.loop-at.at _ c.run.result.0.now c.run.result.1.now
    c.loop-at.invariant c.run.ensures c.in_ok-run_into.ensures.whole (omega arith)

pub list_into-text_into-requires : goal.list_into-text_into-requires
list_into-text_into-requires t c = (omega (arith, c.decreases, item_smaller c.args.list.now 0 c.in-Some.first.now (sym (found c.get.result c.args.list.now c.in-Some.first c.in-Some.is c.get.ensures))), tt)

pub list_into-returns-in_err-text_into-clause-part : goal.list_into-returns-in_err-text_into-clause-part
list_into-returns-in_err-text_into-clause-part t c = on_err c.from_residual-in_err-text_into.result
    (list_first c.args.out.now.items c.extend_from_slice.new.self.items c.text_into.new.out.items c.args.list.now _ (datum_of c.in-Some.first.now)
    c.in_ok-extend_from_slice.ensures.items (first_is _ _ (found c.get.result c.args.list.now c.in-Some.first c.in-Some.is c.get.ensures)) c.in_err-text_into.ensures.part)

pub list_into-returns-in_err-behind_into-clause-part : goal.list_into-returns-in_err-behind_into-clause-part
list_into-returns-in_err-behind_into-clause-part t c = on_err c.from_residual-in_err-behind_into.result
    (list_others c.args.out.now.items c.extend_from_slice.new.self.items c.text_into.new.out.items c.behind_into.new.out.items c.args.list.now _ (datum_of c.in-Some.first.now)
    c.in_ok-extend_from_slice.ensures.items (first_is _ _ (found c.get.result c.args.list.now c.in-Some.first c.in-Some.is c.get.ensures)) c.in_ok-text_into.ensures.whole c.in_err-behind_into.ensures.part)

pub list_into-returns-clause-whole : goal.list_into-returns-clause-whole
list_into-returns-clause-whole t c = on_ok_then c.extend_from_slice-2.result (c.extend_from_slice-2.new.self.items) (c.match-get.out.items) (41 ∷ []) _ c.extend_from_slice-2.ensures.items
    (elim c.match-get.branch [
      | list_into-in-Some+in_ok-text_into+in_ok-behind_into w ↦ (λ e. list_whole c.args.out.now.items c.extend_from_slice.new.self.items w.text_into.new.out.items c.match-get.out.items c.extend_from_slice-2.new.self.items c.args.list.now _ (datum_of w.in-Some.first.now)
          c.in_ok-extend_from_slice.ensures.items (first_is _ _ (found c.get.result c.args.list.now w.in-Some.first w.in-Some.is c.get.ensures)) w.in_ok-text_into.ensures.whole (rw w.out-is w.in_ok-behind_into.ensures.whole) e)
      | list_into-in_default w ↦ (λ e. list_none c.args.out.now.items c.extend_from_slice.new.self.items c.extend_from_slice-2.new.self.items c.args.list.now c.in_ok-extend_from_slice.ensures.items (none_is _ w.in_default.ensures) (rw w.out-is at e))
    ])

pub run_into-text_into-requires : goal.run_into-text_into-requires
run_into-text_into-requires t c = (omega (arith, c.decreases, size-of c.args.first.now), tt)

pub run_into-returns-in_err-text_into-clause-part : goal.run_into-returns-in_err-text_into-clause-part
run_into-returns-in_err-text_into-clause-part t c = on_err c.from_residual-in_err-text_into.result
    (run_first c.args.out.now.items c.extend_from_slice.new.self.items c.text_into.new.out.items c.args.first.now c.args.others.now c.in_ok-extend_from_slice.ensures.items c.in_err-text_into.ensures.part)

pub run_into-returns-clause-part : goal.run_into-returns-clause-part
run_into-returns-clause-part t c = on_err_then c.others_into.result (λ h. run_others c.args.out.now.items c.extend_from_slice.new.self.items c.text_into.new.out.items c.others_into.new.out.items c.args.first.now c.args.others.now
    c.in_ok-extend_from_slice.ensures.items c.in_ok-text_into.ensures.whole h) c.others_into.ensures.part

pub others_into-returns-in_err-extend_from_slice-clause-part : goal.others_into-returns-in_err-extend_from_slice-clause-part
others_into-returns-in_err-extend_from_slice-clause-part t c = on_err c.from_residual.result
    (behind_so_far c.args.out.now.items c.extend_from_slice.new.self.items c.args.items.now c.loop-item.item-index (rw c.in_err-extend_from_slice.ensures.items c.loop-item.invariant))

pub others_into-text_into-requires : goal.others_into-text_into-requires
others_into-text_into-requires t c = (omega (arith, c.decreases, slice_smaller c.args.items.now c.loop-item.item-index c.item-item.result c.loop-item-test.true c.item-item.is), tt)

pub others_into-returns-in_err-text_into-clause-part : goal.others_into-returns-in_err-text_into-clause-part
others_into-returns-in_err-text_into-clause-part t c = on_err c.from_residual-in_err-text_into.result
    (behind_part c.args.out.now.items c.loop-item.out.items c.extend_from_slice.new.self.items c.text_into.new.out.items c.args.items.now c.loop-item.item-index c.item-item.result
    c.loop-item-test.true c.item-item.is c.loop-item.invariant c.in_ok-extend_from_slice.ensures.items c.in_err-text_into.ensures.part)

pub others_into-loop-item-preserved : goal.others_into-loop-item-preserved
others_into-loop-item-preserved t c = behind_next c.args.out.now.items c.loop-item.out.items c.extend_from_slice.new.self.items c.text_into.new.out.items
    c.args.items.now c.loop-item.item-index c.item-item.result c.loop-item-test.true c.item-item.is c.loop-item.invariant c.in_ok-extend_from_slice.ensures.items c.in_ok-text_into.ensures.whole

pub text_into-returns-in-Str-clause-whole : goal.text_into-returns-in-Str-clause-whole
text_into-returns-in-Str-clause-whole t c = subst (λ x. OnOk c.string_into.result (c.string_into.new.out.items ≡ c.args.out.now.items ++ x))
    (string_text c.args.v.now c.in-Str.s c.as_str-in-Str.result.now c.as_bytes-in-Str.result.now c.in-Str.is c.as_str-in-Str.ensures c.as_bytes-in-Str.ensures.value) c.string_into.ensures.whole
