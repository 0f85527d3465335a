use Rattle.fr_tests.proofs.ChainLaws.{empty_right, lifted_levelled, lifted_live, lifted_mild, lifted_ordered, lifted_there}
use Rattle.fr_queue.specs.Tree.{heights_in}
use Rattle.fr_tests.proofs.chains.lift_first.Goals as goal

pub lift-requires : goal.lift-requires
lift-requires c = c.requires.chain.dense 0 c.requires.some

pub raise_from-requires-clause-live : goal.raise_from-requires-clause-live
raise_from-requires-clause-live c =
    lifted_there c.args.eras.now c.args.store.now c.lift.new.self c.args.height c.requires.chain c.requires.some c.lift.ensures

pub raise_from-requires-clause-there : goal.raise_from-requires-clause-there
raise_from-requires-clause-there c =
    lifted_live c.args.eras.now c.args.store.now c.lift.new.self c.args.height c.requires.chain c.requires.some c.lift.ensures

pub raise_from-requires-clause-mild : goal.raise_from-requires-clause-mild
raise_from-requires-clause-mild c =
    lifted_mild c.args.eras.now c.args.store.now c.lift.new.self c.args.height c.requires.chain c.requires.some c.lift.ensures c.requires.mild

pub raise_from-requires-clause-queue : goal.raise_from-requires-clause-queue
raise_from-requires-clause-queue c = empty_right (heights_in c.args.agenda.now) c.lift.new.self c.requires.empty

pub raise_from-requires-clause-levelled : goal.raise_from-requires-clause-levelled
raise_from-requires-clause-levelled c =
    lifted_levelled c.args.eras.now c.args.store.now c.lift.new.self c.args.height c.requires.chain c.requires.some c.lift.ensures

pub raise_from-requires-clause-ordered : goal.raise_from-requires-clause-ordered
raise_from-requires-clause-ordered c =
    lifted_ordered c.args.eras.now c.args.store.now c.lift.new.self c.args.height c.requires.chain c.requires.some c.lift.ensures
