use Rattle.fr_graph.proofs.Items.{first_afresh, instant_afresh}
use Rattle.fr_graph.proofs.laws.instants_are_afresh.Goals as goal

pub returns-clause-first : goal.returns-clause-first
returns-clause-first c = first_afresh

pub returns-clause-further : goal.returns-clause-further
returns-clause-further c = instant_afresh
