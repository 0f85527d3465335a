use Rattle.std.proofs.Common.{◌≡◌, ◌≤◌, ◌+◌, drop, length, slice_get, Some, refl, sym}
use Rattle.std.proofs.lemmas.Option.{slice_get_read, slice_get_past}
use Rattle.fr_core.proofs.PartLists.{drop_part, drop_none}
use Rattle.fr_lower.specs.Making.{given}
use Rattle.fr_lower.proofs.Whole.{function_fit, functions_next, functions_last}
use Rattle.fr_lower.proofs.tops.lowered_functions.Goals as goal

pub lowered_whole-requires-clause-fit : goal.lowered_whole-requires-clause-fit
lowered_whole-requires-clause-fit c =
    let items = c.as_slice-function-items.result.now in
    let at : slice_get items c.loop-function.function-index ≡ Some c.function-item.result = slice_get_read items (length items) c.loop-function.function-index c.function-item.result refl c.loop-function-test.true c.function-item.is in
    function_fit c.args.program.now c.loop-function.function-index c.function-item.result c.requires.fit (rw c.as_slice-function-items.ensures at at)

pub loop-function-preserved : goal.loop-function-preserved
loop-function-preserved c =
    let items = c.as_slice-function-items.result.now in
    let at : slice_get items c.loop-function.function-index ≡ Some c.function-item.result = slice_get_read items (length items) c.loop-function.function-index c.function-item.result refl c.loop-function-test.true c.function-item.is in
    let here = drop_part c.args.program.now.functions c.loop-function.function-index c.function-item.result (sym (rw c.as_slice-function-items.ensures at at)) in
    rw c.in_ok-push.ensures.ok
    (functions_next c.args.program.now (given c.args.classes) c.args.made.now c.loop-function.made c.lowered_whole.new.made c.function-item.result (drop (c.loop-function.function-index + 1) c.args.program.now.functions) c.loop-function.functions _
    c.in_ok-name.ensures refl c.in_ok-body.ensures (rw here at c.loop-function.invariant))

pub returns : goal.returns
returns c =
    let past : length c.args.program.now.functions ≤ c.loop-function.function-index = rw c.as_slice-function-items.ensures at c.loop-function-test.false in
    functions_last c.args.program.now (given c.args.classes) c.args.made.now c.loop-function.made (drop c.loop-function.function-index c.args.program.now.functions) c.loop-function.functions
    (drop_none c.args.program.now.functions c.loop-function.function-index (sym (slice_get_past c.args.program.now.functions c.loop-function.function-index past))) c.loop-function.invariant
