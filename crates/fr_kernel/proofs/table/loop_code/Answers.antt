use Rattle.fr_kernel.proofs.Purity.{code_pure}
use Rattle.fr_kernel.proofs.Tables.{kernel_here, code_loops}
use Rattle.fr_kernel.proofs.table.loop_code.Goals as goal

pub loop_over_seen-requires : goal.loop_over_seen-requires
loop_over_seen-requires c =
    rw c.as_slice-2.ensures (code_pure c.table.inside.functions c.index-as_slice-body.result (kernel_here c.table.inside.functions c.table.inside.kernels c.args.table.now c.table.view_is c.args.body.0 c.as_slice.result.now c.as_slice.ensures c.index-as_slice-body.result c.index-as_slice-body.is c.requires c.table.invariant))

pub returns : goal.returns
returns c =
    code_loops c.table.inside.functions c.table.inside.kernels c.args.table.now c.table.view_is c.args.body.0 c.as_slice.result.now c.as_slice.ensures c.index-as_slice-body.result c.index-as_slice-body.is c.requires c.table.invariant
    c.as_slice-2.result.now c.as_slice-2.ensures c.args.looped c.args.values.now c.args.slots.now c.loop_over_seen.result c.args.fuel.now.left c.loop_over_seen.new.fuel.left c.args.levels c.loop_over_seen.ensures
