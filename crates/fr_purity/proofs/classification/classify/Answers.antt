use Rattle.std.proofs.Common.{◌∙◌, ap, sym, subst, length}
use Rattle.std.proofs.lemmas.List.{length-map}
use Rattle.fr_purity.specs.Calls.{calls}
use Rattle.fr_purity.specs.Judgements.{pure_bodies}
use Rattle.fr_purity.specs.Marks.{set_of}
use Rattle.fr_purity.specs.Removal.{IsGreatest}
use Rattle.fr_purity.proofs.ClassLemmas.{classified, length-pure_bodies}
use Rattle.fr_purity.proofs.Listing.{written_back}
use Rattle.fr_purity.proofs.classification.classify.Goals as goal

pub take_callers-requires-2 : goal.take_callers-requires-2
take_callers-requires-2 c =
    ap length c.deref-3.ensures.value ∙ (c.in_ok-callers.ensures.one_for_each ∙ (length-map c.as_slice-functions.result.now (λ f. calls f.body) ∙ ap length c.as_slice-functions.ensures))
    ∙ sym (ap length c.deref_mut-2.ensures.value ∙ (ap length c.in_ok-pure.ensures ∙ length-pure_bodies c.args.program.now (set_of c.deref-2.result.now) 0 c.args.program.now.functions))

pub returns : goal.returns
returns c =
    let p = c.args.program.now in
    let kept = written_back c.in_ok-closed.closed.items c.take_callers.new.marks c.in_ok-closed.closed.len (sym c.deref_mut.ensures.len ∙ ap length c.deref_mut.ensures.value) (c.take_callers.auto.marks ∙ ap length c.deref_mut.ensures.value) in
    let kept_pure = written_back c.in_ok-pure.pure.items c.take_callers-2.new.marks c.in_ok-pure.pure.len (sym c.deref_mut-2.ensures.len ∙ ap length c.deref_mut-2.ensures.value) (c.take_callers-2.auto.marks ∙ ap length c.deref_mut-2.ensures.value) in
    classified p c.in_ok-callers.callers.items c.in_ok-closed.closed.items _ c.in_ok-pure.pure.items _
    (rw c.as_slice-functions.ensures at c.in_ok-callers.ensures)
    (rw c.as_slice-functions.ensures at c.in_ok-closed.ensures)
    (ap length kept ∙ (c.take_callers.auto.marks ∙ ap length c.deref_mut.ensures.value))
    (subst (λ l. IsGreatest c.in_ok-callers.callers.items (set_of c.in_ok-closed.closed.items) (set_of l)) (sym kept) (rw (c.deref.ensures.value, c.deref_mut.ensures.value) at c.in_ok-take_callers.ensures))
    (c.in_ok-pure.ensures ∙ ap (λ l. pure_bodies p (set_of l) 0 p.functions) c.deref-2.ensures.value)
    (ap length kept_pure ∙ (c.take_callers-2.auto.marks ∙ ap length c.deref_mut-2.ensures.value))
    (subst (λ l. IsGreatest c.in_ok-callers.callers.items (set_of c.in_ok-pure.pure.items) (set_of l)) (sym kept_pure) (rw (c.deref-3.ensures.value, c.deref_mut-2.ensures.value) at c.in_ok-take_callers-2.ensures))
