use Rattle.fr_start.proofs.Nodes.{each_has_node, no_other_source, others_added, results_unread, taken_lives}
use Rattle.fr_start.proofs.Framed.{none_chosen}
use Rattle.fr_start.proofs.Built.{is_built, are_used}
use Rattle.fr_start.proofs.laws.what_a_body_begins_with.Goals as goal

pub returns-clause-built : goal.returns-clause-built
returns-clause-built c = λ p is many old at new added none b. is_built p is many at new added b old none

pub returns-clause-used : goal.returns-clause-used
returns-clause-used c = are_used

pub returns-clause-awaits : goal.returns-clause-awaits
returns-clause-awaits c = taken_lives

pub returns-clause-sources : goal.returns-clause-sources
returns-clause-sources c = each_has_node

pub returns-clause-no_more : goal.returns-clause-no_more
returns-clause-no_more c = no_other_source

pub returns-clause-others : goal.returns-clause-others
returns-clause-others c = others_added

pub returns-clause-unread : goal.returns-clause-unread
returns-clause-unread c = results_unread

pub returns-clause-unchosen : goal.returns-clause-unchosen
returns-clause-unchosen c = none_chosen
