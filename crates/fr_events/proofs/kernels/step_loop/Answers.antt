use Rattle.fr_events.proofs.Calls.{loop_told}
use Rattle.fr_events.proofs.kernels.step_loop.Goals as goal

pub returns : goal.returns
returns c = λ cell.
    loop_told c.args.table.now c.args.body.0 c.requires c.loop_code.result c.args.fuel.now.left c.loop_code.new.fuel.left c.args.levels
    c.run_stepped.result c.args.looped cell c.args.inputs.now c.behind-slots.result.now c.run_stepped.ensures c.behind-slots.ensures c.loop_code.ensures
