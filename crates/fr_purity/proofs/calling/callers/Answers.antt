use Rattle.std.proofs.Common.{◌∙◌, ap, sym, length}
use Rattle.fr_purity.proofs.Listing.{listed_next, written_back}
use Rattle.fr_purity.proofs.calling.callers.Goals as goal

pub loop-number-preserved : goal.loop-number-preserved
loop-number-preserved c =
    listed_next c.args.functions.now c.loop-number.number c.loop-number.callers.items _ c.index-functions-number.result c.loop-number-test.true c.index-functions-number.is
    (written_back c.loop-number.callers.items c.add_caller.new.callers c.loop-number.callers.len (sym c.deref_mut.ensures.len ∙ ap length c.deref_mut.ensures.value) (c.add_caller.auto.callers ∙ ap length c.deref_mut.ensures.value)
    ∙ rw (c.deref_mut.ensures.value, c.deref.ensures.value, c.in_ok-calls_into.ensures, c.new-called.ensures.items) at c.in_ok-add_caller.ensures)
    c.loop-number.invariant
