use Rattle.fr_way.proofs.Loop.{closed_first, closed_further}
use Rattle.fr_way.proofs.looping.what_has_closed_is_afresh.Goals as goal

pub returns-clause-first : goal.returns-clause-first
returns-clause-first c = λ pr p is ms numbers sources old at latched next lowered none o t. closed_first p is ms numbers sources old at latched next o t pr lowered none

pub returns-clause-further : goal.returns-clause-further
returns-clause-further c = λ pr p is ms numbers sources old at latched next k lowered has stood o t. closed_further p is ms numbers sources old at latched next o t pr k lowered has stood
