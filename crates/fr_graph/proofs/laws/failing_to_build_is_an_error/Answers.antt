use Rattle.fr_graph.proofs.Building.{failure_afresh}
use Rattle.fr_graph.proofs.laws.failing_to_build_is_an_error.Goals as goal

pub returns : goal.returns
returns c = failure_afresh
