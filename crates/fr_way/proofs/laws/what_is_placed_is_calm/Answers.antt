use Rattle.fr_way.proofs.Calm.{plan_calm, place_calm}
use Rattle.fr_way.proofs.laws.what_is_placed_is_calm.Goals as goal

pub returns-clause-kernels : goal.returns-clause-kernels
returns-clause-kernels c = plan_calm

pub returns-clause-placed : goal.returns-clause-placed
returns-clause-placed c = place_calm
