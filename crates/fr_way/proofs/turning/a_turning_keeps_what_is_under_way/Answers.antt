use Rattle.fr_way.proofs.Rebuilt.{rebuilt_keeps}
use Rattle.fr_way.proofs.Turn.{turned}
use Rattle.fr_way.proofs.turning.a_turning_keeps_what_is_under_way.Goals as goal

pub returns-clause-rebuilds : goal.returns-clause-rebuilds
returns-clause-rebuilds c = turned

pub returns-clause-keeps : goal.returns-clause-keeps
returns-clause-keeps c = rebuilt_keeps
