use Rattle.fr_ready.proofs.Ready.{plan_lowered, plan_ready, body_ready}
use Rattle.fr_ready.proofs.laws.what_is_lowered_can_be_built.Goals as goal

pub returns-clause-lowered : goal.returns-clause-lowered
returns-clause-lowered c = plan_lowered

pub returns-clause-plan : goal.returns-clause-plan
returns-clause-plan c = plan_ready

pub returns-clause-items : goal.returns-clause-items
returns-clause-items c = body_ready
