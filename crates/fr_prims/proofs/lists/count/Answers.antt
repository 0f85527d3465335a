use Rattle.std.proofs.Common.{◌∙◌, ap, arith, pos, w64}
use Rattle.std.proofs.lemmas.Int.{to_z_pos}
use Rattle.fr_value.specs.Data.{length_small}
use Rattle.fr_prims.proofs.lists.count.Goals as goal

pub overflow_cast-result : goal.overflow_cast-result
overflow_cast-result c = omega (arith, c.size.ensures.value, c.size.ensures.small, length_small c.args.list.now)

pub returns : goal.returns
returns c = to_z_pos w64 c.len.result (omega (arith, c.len.ensures, c.size.ensures.value, c.size.ensures.small, length_small c.args.list.now)) ∙ ap pos c.len.ensures
