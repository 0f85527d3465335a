use Rattle.std.proofs.Common.{refl}
use Rattle.fr_forms.specs.Begins.{args_of}
use Rattle.fr_events.proofs.Begins.{call_told, call_stopped}
use Rattle.fr_events.proofs.handlers.call_handler.Goals as goal

pub returns-in-Err : goal.returns-in-Err
returns-in-Err c =
    call_stopped c.args.table.now c.args.levels c.args.body.0 c.args.handler c.args.slots.now (args_of c.args.args) c.args.fuel.now.left c.spend.new.self.left
    c.spend.ensures.left (c.if-not-spend.ensures.some.0 refl) c.in-Err.stop c.in-Err.ensures

pub returns-in-Ok : goal.returns-in-Ok
returns-in-Ok c =
    call_told c.args.table.now c.args.levels c.args.body.0 c.args.handler c.args.slots.now (args_of c.args.args) c.args.fuel.now.left c.spend.new.self.left
    c.spend.ensures.left (c.if-not-spend.ensures.some.0 refl) c.end_call.result c.in-Ok.value c.run_body.new.fuel.left c.in-Ok.ensures c.end_call.ensures
