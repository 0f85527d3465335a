use Rattle.fr_way.proofs.Computed.{computed_keeps}
use Rattle.fr_way.proofs.laws.instants_go_on.Goals as goal

pub returns : goal.returns
returns c = computed_keeps
