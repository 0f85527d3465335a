use Rattle.std.proofs.Common.{arith}
use Rattle.fr_kernel.specs.Tables.{kernel_of}
use Rattle.fr_kernel.proofs.Purity.{code_pure}
use Rattle.fr_kernel.proofs.Tables.{kernel_here, seen_here, kern_answers}
use Rattle.fr_kernel.proofs.table.run_kern.Goals as goal

pub run-requires-clause-inputs : goal.run-requires-clause-inputs
run-requires-clause-inputs c =
    let q = c.index-as_slice-id.result in
    omega (arith, c.requires.inputs (kernel_of q) (seen_here c.table.inside.functions c.table.inside.kernels c.args.table.now c.table.view_is c.args.id.0 c.as_slice.result.now c.as_slice.ensures q c.index-as_slice-id.is c.requires.number c.table.invariant))

pub run-requires-clause-pure : goal.run-requires-clause-pure
run-requires-clause-pure c =
    let q = c.index-as_slice-id.result in
    rw c.as_slice-2.ensures (code_pure c.table.inside.functions q (kernel_here c.table.inside.functions c.table.inside.kernels c.args.table.now c.table.view_is c.args.id.0 c.as_slice.result.now c.as_slice.ensures q c.index-as_slice-id.is c.requires.number c.table.invariant))

pub returns : goal.returns
returns c =
    kern_answers c.table.inside.functions c.table.inside.kernels c.args.table.now c.table.view_is c.args.id.0 c.as_slice.result.now c.as_slice.ensures c.index-as_slice-id.result c.index-as_slice-id.is c.requires.number c.table.invariant
    c.as_slice-2.result.now c.as_slice-2.ensures c.args.inputs.now c.run.result c.args.fuel.now.left c.run.new.fuel.left c.args.nest c.run.ensures
