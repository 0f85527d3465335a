use Rattle.std.proofs.Common.{arith}
use Rattle.fr_store.specs.Kept.{nodes_of}
use Rattle.fr_store.proofs.Heights.{low_height, read_at}
use Rattle.fr_store.proofs.store.least_height.Goals as goal

pub overflow_add-height_of : goal.overflow_add-height_of
overflow_add-height_of c =
    let h = low_height (nodes_of c.args.table.now) c.args.inputs.now c.requires.low c.in-Signal.id.0
    (read_at c.args.inputs.now c.loop-input.input-index c.input-item.result c.in-Signal.id c.loop-input-test.true c.input-item.is c.in-Signal.is) in
    let e = c.height_of.ensures in
    omega arith
