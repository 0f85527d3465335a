use Rattle.std.proofs.Common.{ap}
use Rattle.fr_store.specs.Nodes.{Stored}
use Rattle.fr_tests.proofs.ChainLaws.{chain_new}
use Rattle.fr_tests.proofs.nests.tell_chain.Goals as goal

pub add_node-requires-clause-chain : goal.add_node-requires-clause-chain
add_node-requires-clause-chain c = chain_new c.in_ok-eras.eras c.new-store.result c.in_ok-eras.ensures (ap (λ (s : Stored). s.nodes) c.new-store.ensures)
