use Rattle.std.proofs.Common.{arith}
use Rattle.fr_value.specs.Data.{tree_data}
use Rattle.fr_value.proofs.Measured.{len_small, measured-append}
use Rattle.fr_value.proofs.list.more_measure.Goals as goal

pub overflow_add-result : goal.overflow_add-result
overflow_add-result c = omega (arith, len_small _ _ _ _ c.measure-len.ensures, len_small _ _ _ _ c.measure-others.ensures)

pub returns-in-Row : goal.returns-in-Row
returns-in-Row c = rw (c.in-Row.is, c.max.ensures) (measured-append (tree_data c.in-Row.tree.value) c.in-Row.rest _ _ _ _ _ _
    (rw c.deref.ensures at c.measure-len.ensures) c.measure-others.ensures (rw c.in-Row.is at c.requires))
