use Rattle.fr_way.proofs.Middle.{ends_not_computed, left_clear, part_lives, result_lives}
use Rattle.fr_way.proofs.turning.each_step_of_a_turning_can_be_made.Goals as goal

pub returns-clause-not_computed : goal.returns-clause-not_computed
returns-clause-not_computed c = ends_not_computed

pub returns-clause-clear : goal.returns-clause-clear
returns-clause-clear c = left_clear

pub returns-clause-part : goal.returns-clause-part
returns-clause-part c = part_lives

pub returns-clause-result : goal.returns-clause-result
returns-clause-result c = result_lives
