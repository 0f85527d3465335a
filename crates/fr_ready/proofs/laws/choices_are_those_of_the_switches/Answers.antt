use Rattle.fr_ready.proofs.Switches.{plan_matches, body_matches}
use Rattle.fr_ready.proofs.laws.choices_are_those_of_the_switches.Goals as goal

pub returns-clause-plan : goal.returns-clause-plan
returns-clause-plan c = plan_matches

pub returns-clause-items : goal.returns-clause-items
returns-clause-items c = body_matches
