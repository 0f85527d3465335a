use Rattle.fr_build.proofs.Choice.{choice_grows, choice_part}
use Rattle.fr_build.proofs.laws.what_is_built_grows.Goals as goal

pub returns-clause-grows : goal.returns-clause-grows
returns-clause-grows c = choice_grows

pub returns-clause-part : goal.returns-clause-part
returns-clause-part c = choice_part
