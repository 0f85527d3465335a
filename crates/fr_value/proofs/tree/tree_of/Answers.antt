use Rattle.std.proofs.Common.{arith}
use Rattle.fr_value.specs.Data.{data_of, kids_data}
use Rattle.fr_value.proofs.Measured.{len_small, item_small, few_parts, few_behind, measured-append, measured-cons}
use Rattle.fr_value.proofs.tree.tree_of.Goals as goal

pub measure_few-len-requires : goal.measure_few-len-requires
measure_few-len-requires c = rw c.deref.ensures.value (few_parts (data_of c.args.chunk.items) (kids_data c.args.kids) (few_behind _ _ c.requires)).0

pub kids_measure-others-requires : goal.kids_measure-others-requires
kids_measure-others-requires c = (few_parts (data_of c.args.chunk.items) (kids_data c.args.kids) (few_behind _ _ c.requires)).1

pub overflow_add-len : goal.overflow_add-len
overflow_add-len c = omega (arith, len_small _ _ _ _ c.measure_few-len.ensures, len_small _ _ _ _ c.kids_measure-others.ensures)

pub overflow_add-len-2 : goal.overflow_add-len-2
overflow_add-len-2 c = omega (arith, len_small _ _ _ _ c.measure_few-len.ensures, len_small _ _ _ _ c.kids_measure-others.ensures)

pub overflow_cast-size : goal.overflow_cast-size
overflow_cast-size c = omega (arith, c.size.ensures.value, item_small _ _ c.requires)

pub overflow_add-size-2 : goal.overflow_add-size-2
overflow_add-size-2 c = omega (arith, c.size.ensures.value, item_small _ _ c.requires, c.measure_few-len.ensures.size_is, c.measure_few-len.ensures.small, c.kids_measure-others.ensures.size_is, c.kids_measure-others.ensures.small)

pub invariant_of-new : goal.invariant_of-new
invariant_of-new c = rw (c.max-depth.ensures, c.max.ensures, c.size.ensures.value, c.depth.ensures.value) (measured-cons _ _ _ _ _
    (measured-append (data_of c.args.chunk.items) (kids_data c.args.kids) _ _ _ _ _ _ (rw c.deref.ensures.value at c.measure_few-len.ensures) c.kids_measure-others.ensures (few_behind _ _ c.requires)) c.requires c.size.ensures.valid)
