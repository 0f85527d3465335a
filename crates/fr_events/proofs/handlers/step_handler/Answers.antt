use Rattle.std.proofs.Common.{◌≡◌, ap, subst, ◌∙◌}
use Rattle.std.specs.Prelude.{drop}
use Rattle.fr_forms.specs.Lent.{earlier, form_line}
use Rattle.fr_forms.specs.Begins.{args_of, begun_of}
use Rattle.fr_forms.specs.declared.handlers.Begun.{Begun}
use Rattle.fr_meaning.specs.States.{handler_begin}
use Rattle.fr_events.proofs.Begins.{gave_told, asked_told}
use Rattle.fr_events.proofs.handlers.step_handler.Goals as goal

pub returns-in-Ok-Gives : goal.returns-in-Ok-Gives
returns-in-Ok-Gives c =
    let is = subst (λ (b : Begun). begun_of b ≡ handler_begin c.args.handler (earlier c.args.cell) c.args.inputs.now) c.in-Ok-Gives.field-0-is c.in-Ok-Gives.ensures in
    gave_told c.args.table.now c.args.levels c.args.handler c.args.body.0 (earlier c.args.cell) c.args.inputs.now c.line_stepped.result c.args.fuel.now.left (form_line c.in-Ok-Gives.line)
    is (c.line_stepped.ensures c.args.fuel.now.left)

pub returns-in-Ok-Asks : goal.returns-in-Ok-Asks
returns-in-Ok-Asks c =
    let is = subst (λ (b : Begun). begun_of b ≡ handler_begin c.args.handler (earlier c.args.cell) c.args.inputs.now) c.in-Ok-Asks.field-0-is c.in-Ok-Asks.ensures in
    asked_told c.args.table.now c.args.levels c.args.handler c.args.body.0 (earlier c.args.cell) c.args.inputs.now c.call_handler.result c.args.fuel.now.left c.call_handler.new.fuel.left
    (args_of c.in-Ok-Asks.args) c.behind-slots.result.now is (c.behind-slots.ensures ∙ ap (λ n. drop n c.args.inputs.now) c.parts_of.ensures) c.call_handler.ensures
