use Rattle.fr_way.proofs.TurnOrder.{levelled_but, turn_ordered, result_above}
use Rattle.fr_way.proofs.turning.heights_can_be_raised.Goals as goal

pub returns-clause-levelled : goal.returns-clause-levelled
returns-clause-levelled c = λ p is ms sources old at t1 t2 t3 t4 w u dead t. levelled_but p is ms sources old at t1 t2 t3 t4 w u t dead

pub returns-clause-ordered : goal.returns-clause-ordered
returns-clause-ordered c = λ p is ms sources old at t1 t2 t3 t4 w numbers u dead t few. turn_ordered p is ms sources old at t1 t2 t3 t4 w u t dead numbers few

pub returns-clause-result : goal.returns-clause-result
returns-clause-result c = λ p is ms sources old at t1 t2 t3 t4 w u dead t. result_above p is ms sources old at t1 t2 t3 t4 w u t dead
