use Rattle.std.proofs.Common.{ap}
use Rattle.fr_store.specs.Nodes.{number_of}
use Rattle.fr_store.proofs.Lists.{in_none}
use Rattle.fr_store.proofs.wiring.link_one.Goals as goal

pub push_back-requires-clause-list : goal.push_back-requires-clause-list
push_back-requires-clause-list c = c.requires.list _ (ap number_of c.in-Some.is)

pub push_back-requires-clause-alone : goal.push_back-requires-clause-alone
push_back-requires-clause-alone c = in_none c.args.links.now.lists c.args.edge c.requires.idle
