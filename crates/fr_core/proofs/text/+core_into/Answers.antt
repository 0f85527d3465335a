use Rattle.std.proofs.Common.{arith}
use Rattle.fr_core.specs.Shapes.{parts_of}
use Rattle.fr_core.proofs.Folds.{part_nests_less}
use Rattle.fr_core.proofs.PartLists.{within_parts}
use Rattle.fr_core.proofs.text.+core_into.Goals as goal

pub core_into-requires : goal.core_into-requires
core_into-requires t c = (omega (arith, part_nests_less c.args.e.now _ _ c.in-Some.ensures.value), tt)

pub loop-part-smaller : goal.loop-part-smaller
loop-part-smaller t c = omega (arith, within_parts (parts_of c.args.e.now) c.loop-part.number c.in-Some.part.now c.in-Some.ensures.value)
