use Rattle.fr_start.proofs.Built.{ground_is}
use Rattle.fr_start.proofs.laws.a_body_can_be_built_behind_sources.Goals as goal

pub returns : goal.returns
returns c = ground_is
