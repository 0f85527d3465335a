use Rattle.fr_events.proofs.Calls.{code_ran}
use Rattle.fr_events.proofs.kernels.run_kernel.Goals as goal

pub returns : goal.returns
returns c = code_ran c.args.table.now c.args.id.0 c.requires c.run_code.result c.args.fuel.now.left c.run_code.new.fuel.left c.args.levels c.args.slots.now c.args.args.now c.run_code.ensures
