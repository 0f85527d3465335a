use Rattle.fr_graph.proofs.Valued.{built_valued}
use Rattle.fr_graph.proofs.laws.what_is_built_has_a_value.Goals as goal

pub returns : goal.returns
returns c = built_valued
