use Rattle.fr_way.proofs.Used.{used_shape, used_rebuilt}
use Rattle.fr_way.proofs.laws.members_stay_used.Goals as goal

pub returns-clause-shape : goal.returns-clause-shape
returns-clause-shape c = used_shape

pub returns-clause-rebuilt : goal.returns-clause-rebuilt
returns-clause-rebuilt c = used_rebuilt
