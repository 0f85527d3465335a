use Rattle.std.proofs.Common.{length}
use Rattle.std.proofs.lemmas.Iterator.Consumers.{YieldsList-from_first, YieldsList-turn}
use Rattle.fr_eras.specs.Lives.{members}
use Rattle.fr_eras.specs.Order.{nodes_of}
use Rattle.fr_world.proofs.Listed.{next_stored}
use Rattle.fr_world.proofs.parts.list_late_members.Goals as goal

pub node-requires : goal.node-requires
node-requires c =
    let all = nodes_of (members c.args.eras.now c.args.era.0) in
    let turn = YieldsList-turn (YieldsList-from_first (λ x. x) (λ it. it) all cc) c.loop-id.yielded _ c.loop-id.yielded_by _ _ c.in-Some.id c.in-Some.is c.next.ensures.steps in
    next_stored c.args.store.now c.args.eras.now c.args.era.0 (length c.loop-id.yielded) c.in-Some.id c.requires.there turn.0 turn.1
