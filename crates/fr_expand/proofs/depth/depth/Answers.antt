use Rattle.std.proofs.Common.{min, sym, ap, ◌∙◌}
use Rattle.fr_expand.proofs.Nested.{nests}
use Rattle.fr_expand.specs.Depths.{count_end}
use Rattle.fr_expand.proofs.depth.depth.Goals as goal

pub returns : goal.returns
returns c = λ globals scope. c.depth_of.ensures ∙ ap (min count_end) (sym (nests globals c.args.expr.now scope))
