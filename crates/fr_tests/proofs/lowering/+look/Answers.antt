use Rattle.std.proofs.Common.{arith}
use Rattle.fr_core.specs.Sites.{parts}
use Rattle.fr_core.proofs.PartLists.{within_parts}
use Rattle.fr_tests.proofs.lowering.+look.Goals as goal

pub loop-part-smaller : goal.loop-part-smaller
loop-part-smaller t c = omega (arith, within_parts (parts c.args.e.now) c.loop-part.number c.in-Some.part.now c.in-Some.ensures.value)
