use Rattle.std.proofs.Common.{arith}
use Rattle.fr_value.specs.Data.{data_of, more_data}
use Rattle.fr_value.proofs.Measured.{len_small, few_parts, measured-append}
use Rattle.fr_value.proofs.list.block_of.Goals as goal

pub measure_few-len-requires : goal.measure_few-len-requires
measure_few-len-requires c = rw c.deref.ensures.value (few_parts (data_of c.args.front.items) (more_data c.args.more) c.requires).0

pub more_measure-others-requires : goal.more_measure-others-requires
more_measure-others-requires c = (few_parts (data_of c.args.front.items) (more_data c.args.more) c.requires).1

pub overflow_add-len : goal.overflow_add-len
overflow_add-len c = omega (arith, len_small _ _ _ _ c.measure_few-len.ensures, len_small _ _ _ _ c.more_measure-others.ensures)

pub invariant_of-result : goal.invariant_of-result
invariant_of-result c = rw (c.in_ok-block.ensures.ok, c.max-depth.ensures) (measured-append (data_of c.args.front.items) (more_data c.args.more) _ _ _ _ _ _
    (rw c.deref.ensures.value at c.measure_few-len.ensures) c.more_measure-others.ensures c.requires)
