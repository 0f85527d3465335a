use Rattle.std.proofs.Common.{◌<◌, length, sym, subst}
use Rattle.fr_links.specs.Lists.{Linked, list_at}
use Rattle.fr_eras.specs.Kept.{Moving}
use Rattle.fr_eras.proofs.Moves.{comes_nearer, first_stands_somewhere, goes_on}
use Rattle.fr_eras.proofs.Places.{none_first}
use Rattle.fr_eras.proofs.ending.move_members.Goals as goal

pub move_to-requires-clause-item : goal.move_to-requires-clause-item
move_to-requires-clause-item c =
    first_stands_somewhere c.loop-node.links.lists c.args.list c.in-Some.node c.loop-node.invariant.apart c.in-Some.ensures

pub loop-node-smaller : goal.loop-node-smaller
loop-node-smaller c =
    subst (λ (k : Linked). length (list_at k.lists c.args.list) < length (list_at c.loop-node.links.lists c.args.list)) (sym c.move_to.ensures)
    (comes_nearer c.args.links.now.lists c.loop-node.links.lists c.args.list c.in-Some.node c.loop-node.invariant c.in-Some.ensures c.requires.other c.requires.grave)

pub loop-node-preserved : goal.loop-node-preserved
loop-node-preserved c =
    subst (λ (k : Linked). Moving c.args.links.now.lists k.lists c.args.list) (sym c.move_to.ensures)
    (goes_on c.args.links.now.lists c.loop-node.links.lists c.args.list c.in-Some.node c.loop-node.invariant c.in-Some.ensures c.requires.other c.requires.grave)

pub returns-clause-empty : goal.returns-clause-empty
returns-clause-empty c = none_first (list_at c.loop-node.links.lists c.args.list) c.in_default.ensures
