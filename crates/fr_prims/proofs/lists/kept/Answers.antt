use Rattle.std.proofs.Common.{sym, arith}
use Rattle.fr_prims.proofs.Limits.{answer_few}
use Rattle.fr_prims.proofs.lists.kept.Goals as goal

pub returns : goal.returns
returns c = sym (answer_few c.args.list (omega (arith, c.size.ensures.value, c.size.ensures.small), omega (arith, c.depth.ensures.value, c.depth.ensures.small)))
