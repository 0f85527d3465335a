use Rattle.fr_way.proofs.Loop.{on_its_way_built, on_its_way_started, on_its_way_computed, on_its_way_turned, closed_well, closed_whole}
use Rattle.fr_way.proofs.looping.instants_keep_what_their_loop_needs.Goals as goal

pub returns-clause-first : goal.returns-clause-first
returns-clause-first c = on_its_way_built

pub returns-clause-further : goal.returns-clause-further
returns-clause-further c = on_its_way_started

pub returns-clause-computed : goal.returns-clause-computed
returns-clause-computed c = on_its_way_computed

pub returns-clause-turned : goal.returns-clause-turned
returns-clause-turned c = on_its_way_turned

pub returns-clause-closed : goal.returns-clause-closed
returns-clause-closed c = closed_whole

pub returns-clause-goes : goal.returns-clause-goes
returns-clause-goes c = λ p is ms numbers sources old at latched next o t. (closed_well p is ms numbers sources old at latched next o t).goes
