use Rattle.std.proofs.lemmas.Result.{err_from_is_err_and}
use Rattle.fr_build.proofs.Lines.{some_work, line_value, line_event, line_stops, line_paid, line_fuel}
use Rattle.fr_build.proofs.works.compute_steady.Goals as goal

pub unreachable-requires : goal.unreachable-requires
unreachable-requires c =
    let some = some_work _ c.requires.work in
    line_event c.args.setting.now.plan.now c.table.result.now c.args.setting.now.below some.0 c.args.values.now c.table.ensures c.requires.below c.args.runner.now.fuel.left c.step.new.fuel.left
    c.in_ok-value.field-0 c.in-Occ.field-0 c.in-Occ.is (c.in_ok-value.ensures some.0 some.1) c.requires.plan c.requires.values (c.requires.plain some.0 some.1)

pub returns-clause-value : goal.returns-clause-value
returns-clause-value c = λ w e.
    line_value c.args.setting.now.plan.now c.table.result.now c.args.setting.now.below w c.args.values.now c.table.ensures c.requires.below c.args.runner.now.fuel.left c.step.new.fuel.left
    c.in_ok-value.field-0 c.in-Plain.plain c.in-Plain.is (c.in_ok-value.ensures w e)

pub returns-in_err-value-clause-stops : goal.returns-in_err-value-clause-stops
returns-in_err-value-clause-stops c =
    let p = err_from_is_err_and c.from_residual.result c.from_residual.ensures.1 in
    let was = c.in_err-value.was in
    let told = c.in_err-value.ensures in
    rw (p.1, p.2) (λ w e.
    line_stops c.args.setting.now.plan.now c.table.result.now c.args.setting.now.below w c.args.values.now c.table.ensures c.requires.below c.args.runner.now.fuel.left c.step.new.fuel.left
    c.in_err-value.field-0.0 (c.in_err-value.ensures w e))

pub returns-clause-paid : goal.returns-clause-paid
returns-clause-paid c = λ w e.
    line_paid c.args.setting.now.plan.now c.table.result.now c.args.setting.now.below w c.args.values.now c.table.ensures c.requires.below c.args.runner.now.fuel.left c.step.new.fuel.left
    c.in_ok-value.field-0 (c.in_ok-value.ensures w e)

pub returns-in_err-value-clause-fuel : goal.returns-in_err-value-clause-fuel
returns-in_err-value-clause-fuel c =
    let p = err_from_is_err_and c.from_residual.result c.from_residual.ensures.1 in
    rw (p.1, p.2) (λ w e.
    line_fuel c.args.setting.now.plan.now c.table.result.now c.args.setting.now.below w c.args.values.now c.table.ensures c.requires.below c.args.runner.now.fuel.left c.step.new.fuel.left
    c.in_err-value.field-0.0 (c.in_err-value.ensures w e))
