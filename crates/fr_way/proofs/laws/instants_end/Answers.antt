use Rattle.fr_way.proofs.Ended.{ended_well}
use Rattle.fr_way.proofs.laws.instants_end.Goals as goal

pub returns : goal.returns
returns c = ended_well
