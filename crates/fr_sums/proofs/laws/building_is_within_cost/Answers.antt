use Rattle.fr_sums.proofs.Builds.{body_builds}
use Rattle.fr_sums.proofs.laws.building_is_within_cost.Goals as goal

pub returns : goal.returns
returns c = record { within = body_builds }
