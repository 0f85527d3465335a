use Rattle.std.proofs.Common.{arith}
use Rattle.fr_core.specs.declared.core_form.Loop.TheVariants as loop
use Rattle.fr_kernel.specs.Tables.{kernel_of}
use Rattle.fr_kernel.proofs.Purity.{code_pure}
use Rattle.fr_kernel.proofs.Tables.{kernel_here, seen_here, loop_answers}
use Rattle.fr_kernel.proofs.table.run_repeat.Goals as goal

pub run_loop-requires-clause-inputs : goal.run_loop-requires-clause-inputs
run_loop-requires-clause-inputs c =
    let q = c.index-as_slice-body.result in
    let fits = c.requires.body (kernel_of q) (seen_here c.table.inside.functions c.table.inside.kernels c.args.table.now c.table.view_is c.args.body.0 c.as_slice.result.now c.as_slice.ensures q c.index-as_slice-body.is c.requires.number c.table.invariant) in
    omega (arith, fits.1)

pub run_loop-requires-clause-pure : goal.run_loop-requires-clause-pure
run_loop-requires-clause-pure c =
    let q = c.index-as_slice-body.result in
    rw c.as_slice-2.ensures (code_pure c.table.inside.functions q (kernel_here c.table.inside.functions c.table.inside.kernels c.args.table.now c.table.view_is c.args.body.0 c.as_slice.result.now c.as_slice.ensures q c.index-as_slice-body.is c.requires.number c.table.invariant))

pub returns : goal.returns
returns c =
    let q = c.index-as_slice-body.result in
    let fits = c.requires.body (kernel_of q) (seen_here c.table.inside.functions c.table.inside.kernels c.args.table.now c.table.view_is c.args.body.0 c.as_slice.result.now c.as_slice.ensures q c.index-as_slice-body.is c.requires.number c.table.invariant) in
    loop_answers c.table.inside.functions c.table.inside.kernels c.args.table.now c.table.view_is c.args.body.0 c.as_slice.result.now c.as_slice.ensures q c.index-as_slice-body.is c.requires.number c.table.invariant
    c.as_slice-2.result.now c.as_slice-2.ensures c.args.inputs.now c.run_loop.result c.args.fuel.now.left c.run_loop.new.fuel.left c.args.nest loop.Repeat fits.0 c.run_loop.ensures
