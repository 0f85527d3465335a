use Rattle.std.proofs.Common.{arith, sym, ◌∙◌, subst, refl}
use Rattle.std.proofs.lemmas.List.{length-map}
use Rattle.fr_value.specs.Data.{data_of, datum_of}
use Rattle.fr_expand.specs.Stops.{IsStopOf}
use Rattle.fr_expand.proofs.Expanded.{finds_shaped, finds_form, finds_second, finds_well_formed}
use Rattle.fr_expand.proofs.Sizes.{few_data, shaped_small}
use Rattle.fr_expand.proofs.expansion.expand.Goals as goal

pub of-requires : goal.of-requires
of-requires c = omega (arith, c.requires, few_data (data_of c.args.forms.now), length-map c.args.forms.now datum_of)

pub first_refusal-requires : goal.first_refusal-requires
first_refusal-requires c = rw (c.as_slice-shaped.ensures.value, c.in_ok-shapes.ensures) (omega (arith, c.requires, shaped_small (data_of c.args.forms.now)))

pub returns-in-Some-clause-refused : goal.returns-in-Some-clause-refused
returns-in-Some-clause-refused c =
    finds_shaped (data_of c.args.forms.now) c.in_ok-globals.globals c.as_slice-shaped.result.now c.in_ok-globals.ensures (c.as_slice-shaped.ensures.value ∙ c.in_ok-shapes.ensures)
    c.in_ok-refusal.field-0 c.in-Some.refusal c.in-Some.is c.in_ok-refusal.ensures

pub refused-requires : goal.refused-requires
refused-requires c = omega (arith, c.requires, few_data (data_of c.args.forms.now), length-map c.args.forms.now datum_of, c.if-shaped-forms.true)

pub returns-then-shaped-forms-clause-refused : goal.returns-then-shaped-forms-clause-refused
returns-then-shaped-forms-clause-refused c =
    subst (IsStopOf (data_of c.args.forms.now)) (sym c.refused.ensures)
    (finds_form (data_of c.args.forms.now) c.in_ok-globals.globals c.as_slice-shaped.result.now c.in_ok-globals.ensures (c.as_slice-shaped.ensures.value ∙ c.in_ok-shapes.ensures)
    c.in_ok-refusal.field-0 _ c.in_default.is c.in_ok-refusal.ensures (omega (arith, length-map c.args.forms.now datum_of, c.if-shaped-forms.true)) refl)

pub fit_program-requires : goal.fit_program-requires
fit_program-requires c = rw (c.as_slice-shaped.ensures.value, c.in_ok-shapes.ensures) (omega (arith, c.requires, shaped_small (data_of c.args.forms.now)))

pub returns-clause-expanded : goal.returns-clause-expanded
returns-clause-expanded c =
    (finds_second (data_of c.args.forms.now) c.in_ok-globals.globals c.as_slice-shaped.result.now c.in_ok-globals.ensures (c.as_slice-shaped.ensures.value ∙ c.in_ok-shapes.ensures)
    c.in_ok-refusal.field-0 c.fit_program.result c.in_default.is c.in_ok-refusal.ensures (omega (arith, length-map c.args.forms.now datum_of, c.if-shaped-forms.false))
    c.fit_program.ensures).0

pub returns-clause-refused : goal.returns-clause-refused
returns-clause-refused c =
    (finds_second (data_of c.args.forms.now) c.in_ok-globals.globals c.as_slice-shaped.result.now c.in_ok-globals.ensures (c.as_slice-shaped.ensures.value ∙ c.in_ok-shapes.ensures)
    c.in_ok-refusal.field-0 c.fit_program.result c.in_default.is c.in_ok-refusal.ensures (omega (arith, length-map c.args.forms.now datum_of, c.if-shaped-forms.false))
    c.fit_program.ensures).1

pub returns-clause-well_formed : goal.returns-clause-well_formed
returns-clause-well_formed c =
    (finds_well_formed (data_of c.args.forms.now) c.in_ok-globals.globals c.as_slice-shaped.result.now c.in_ok-globals.ensures (c.as_slice-shaped.ensures.value ∙ c.in_ok-shapes.ensures)
    c.in_ok-refusal.field-0 c.fit_program.result c.in_default.is c.in_ok-refusal.ensures (omega (arith, length-map c.args.forms.now datum_of, c.if-shaped-forms.false))
    c.fit_program.ensures c.requires).0

pub returns-clause-few : goal.returns-clause-few
returns-clause-few c =
    (finds_well_formed (data_of c.args.forms.now) c.in_ok-globals.globals c.as_slice-shaped.result.now c.in_ok-globals.ensures (c.as_slice-shaped.ensures.value ∙ c.in_ok-shapes.ensures)
    c.in_ok-refusal.field-0 c.fit_program.result c.in_default.is c.in_ok-refusal.ensures (omega (arith, length-map c.args.forms.now datum_of, c.if-shaped-forms.false))
    c.fit_program.ensures c.requires).1
