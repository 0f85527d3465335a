use Rattle.std.proofs.Common.{arith}
use Rattle.fr_value.specs.Data.{tree_data}
use Rattle.fr_value.proofs.Measured.{len_small, measured-append}
use Rattle.fr_value.proofs.tree.kids_measure.Goals as goal

pub overflow_add-result : goal.overflow_add-result
overflow_add-result c = omega (arith, len_small _ _ _ _ c.measure-len.ensures, len_small _ _ _ _ c.measure-more.ensures)

pub returns-in-Two : goal.returns-in-Two
returns-in-Two c = rw (c.in-Two.is, c.max.ensures) (measured-append (tree_data c.in-Two.a.value) (tree_data c.in-Two.b.value) _ _ _ _ _ _
    (rw c.deref.ensures at c.measure-len.ensures) (rw c.deref-in-Two.ensures at c.measure-more.ensures) (rw c.in-Two.is at c.requires))
