use Rattle.fr_way.proofs.Buried.{unburied, framed_buried, nodes_buried, settled_buried, used_buried, cells_buried, goes_to_buried, goes_from_buried, ended_buried}
use Rattle.fr_way.proofs.BuriedTrees.{stands_buried, afresh_buried}
use Rattle.fr_way.proofs.looping.burying_changes_nothing_that_lives.Goals as goal

pub returns-clause-back : goal.returns-clause-back
returns-clause-back c = unburied

pub returns-clause-framed : goal.returns-clause-framed
returns-clause-framed c = λ old new height heights b. framed_buried old new b height heights

pub returns-clause-nodes : goal.returns-clause-nodes
returns-clause-nodes c = λ old new height p is ms b f. nodes_buried old new b height f p is ms

pub returns-clause-settled : goal.returns-clause-settled
returns-clause-settled c = λ old new height p sources before b f. settled_buried old new b height f p sources before

pub returns-clause-used : goal.returns-clause-used
returns-clause-used c = λ old new p is ms b. used_buried old new b p is ms

pub returns-clause-stands : goal.returns-clause-stands
returns-clause-stands c = λ old new p is ms k b has. stands_buried old new p is ms b has k

pub returns-clause-afresh : goal.returns-clause-afresh
returns-clause-afresh c = λ old new pr p is ms sources k b has. afresh_buried old new p is ms b has pr sources k

pub returns-clause-cells : goal.returns-clause-cells
returns-clause-cells c = λ old new m b. cells_buried old new b m

pub returns-clause-goes_to : goal.returns-clause-goes_to
returns-clause-goes_to c = λ was old new before b. goes_to_buried old new b was before

pub returns-clause-goes_from : goal.returns-clause-goes_from
returns-clause-goes_from c = λ old new next before b. goes_from_buried old new b next before

pub returns-clause-ended : goal.returns-clause-ended
returns-clause-ended c = λ p is ms sources was old new height heights b. ended_buried old new b p is ms sources was height heights
