use Rattle.std.specs.Prelude.{◌+◌, ◌-◌}
use Rattle.fr_meaning.specs.Evaluation.{most_levels}
use Rattle.fr_meaning.proofs.Locality.{named_variables_decide}
use Rattle.fr_meaning.proofs.Prefixes.{parts_split, items_split}
use Rattle.fr_meaning.proofs.laws.evaluation_is_local.Goals as goal

pub returns : goal.returns
returns c = record { variables = λ w nest. named_variables_decide (most_levels + 1 - nest) w; parts = parts_split; items = items_split }
