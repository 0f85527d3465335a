use Rattle.fr_meaning.proofs.Made.{go_by_same}
use Rattle.fr_meaning.proofs.laws.visits_go_by_what_they_use.Goals as goal

pub returns : goal.returns
returns c = go_by_same
