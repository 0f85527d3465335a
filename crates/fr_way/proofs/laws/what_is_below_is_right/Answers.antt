use Rattle.fr_way.proofs.Fronts.{front_known, end_known}
use Rattle.fr_way.proofs.laws.what_is_below_is_right.Goals as goal

pub returns-clause-front : goal.returns-clause-front
returns-clause-front c = front_known

pub returns-clause-all : goal.returns-clause-all
returns-clause-all c = end_known
