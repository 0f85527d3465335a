use Rattle.fr_way.proofs.TurnOrder.{computed_dead, turn_dead}
use Rattle.fr_way.proofs.turning.what_awaits_burial_is_levelled.Goals as goal

pub returns-clause-computed : goal.returns-clause-computed
returns-clause-computed c = λ p sources old at next m dead c. computed_dead p sources old at next m c dead

pub returns-clause-turned : goal.returns-clause-turned
returns-clause-turned c = λ p is ms sources old at t1 t2 t3 t4 t5 next w u dead t. turn_dead p is ms sources old at t1 t2 t3 t4 t5 next w u t dead
