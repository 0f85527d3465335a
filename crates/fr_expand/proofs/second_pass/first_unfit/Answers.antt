use Rattle.std.proofs.Common.{arith, []}
use Rattle.std.proofs.lemmas.Option.{slice_get_within}
use Rattle.fr_expand.specs.Expansion.{cores_from}
use Rattle.fr_expand.proofs.Unfit.{none_gone, is_first, one_gone, length-cores_from}
use Rattle.fr_expand.proofs.second_pass.first_unfit.Goals as goal

pub loop-at-init : goal.loop-at-init
loop-at-init c globals e =
    rw (c.iter-functions.ensures.rest, c.as_slice.ensures, c.iter-items.ensures.rest, c.as_slice-2.ensures) (none_gone globals c.args.program.now c.args.forms.now e)

pub returns-then-not-is_fit_form-clause-found : goal.returns-then-not-is_fit_form-clause-found
returns-then-not-is_fit_form-clause-found c globals e =
    is_first globals c.args.program.now c.args.forms.now c.loop-at.at c.index-forms-at.result _ _ _ _ _ c.loop-at-test.true c.index-forms-at.is c.core_of_form-core.ensures (c.loop-at.invariant globals e)
    c.is_fit_form.result c.is_fit_form.ensures c.if-not-is_fit_form.true

pub loop-at-preserved : goal.loop-at-preserved
loop-at-preserved c globals e =
    one_gone globals c.args.program.now c.args.forms.now c.loop-at.at c.index-forms-at.result _ _ _ _ _ c.loop-at-test.true c.index-forms-at.is c.core_of_form-core.ensures (c.loop-at.invariant globals e)
    c.is_fit_form.result c.is_fit_form.ensures c.if-not-is_fit_form.false

pub returns-clause-found : goal.returns-clause-found
returns-clause-found c globals e = λ i x h.
    let cores = cores_from globals [] c.args.forms.now in
    (c.loop-at.invariant globals e).before i x (omega (arith, c.loop-at-test.false, slice_get_within cores i x h, length-cores_from globals [] c.args.forms.now)) h
