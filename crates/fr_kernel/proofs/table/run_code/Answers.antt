use Rattle.fr_kernel.proofs.Purity.{code_pure}
use Rattle.fr_kernel.proofs.Tables.{kernel_here, code_answers}
use Rattle.fr_kernel.proofs.table.run_code.Goals as goal

pub run_over-requires : goal.run_over-requires
run_over-requires c =
    rw c.as_slice-2.ensures (code_pure c.table.inside.functions c.index-as_slice-id.result (kernel_here c.table.inside.functions c.table.inside.kernels c.args.table.now c.table.view_is c.args.id.0 c.as_slice.result.now c.as_slice.ensures c.index-as_slice-id.result c.index-as_slice-id.is c.requires c.table.invariant))

pub returns : goal.returns
returns c =
    code_answers c.table.inside.functions c.table.inside.kernels c.args.table.now c.table.view_is c.args.id.0 c.as_slice.result.now c.as_slice.ensures c.index-as_slice-id.result c.index-as_slice-id.is c.requires c.table.invariant
    c.as_slice-2.result.now c.as_slice-2.ensures c.args.slots.now c.args.args.now c.run_over.result c.args.fuel.now.left c.run_over.new.fuel.left c.args.levels c.run_over.ensures
