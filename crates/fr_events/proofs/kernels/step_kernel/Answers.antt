use Rattle.std.proofs.Common.{◌+◌, refl}
use Rattle.fr_events.proofs.Calls.{kernel_told}
use Rattle.fr_events.proofs.kernels.step_kernel.Goals as goal

pub returns : goal.returns
returns c = λ cell.
    kernel_told c.args.table.now c.args.id.0 c.requires.number c.run_kernel.result c.args.fuel.now.left c.run_kernel.new.fuel.left (c.args.levels + 1)
    c.run_stepped.result c.args.levels cell c.args.inputs.now refl c.run_stepped.ensures c.run_kernel.ensures
