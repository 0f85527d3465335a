use Rattle.std.proofs.Common.{◌<◌, ◌^◌, length, sym, subst, arith}
use Rattle.fr_links.specs.Lists.{Linked, list_at}
use Rattle.fr_eras.specs.Burial.{Burying}
use Rattle.fr_eras.proofs.Burials.{burying_begins, burying_empties, burying_gives_up, burying_goes_on, cleared_here, grave_shrinks, item_small, still_there}
use Rattle.fr_eras.proofs.Moves.{first_stands_somewhere}
use Rattle.fr_eras.proofs.burial.bury_all.Goals as goal

pub loop-item-init : goal.loop-item-init
loop-item-init c = burying_begins c.args.links.now.lists c.args.store.now c.requires.apart

pub overflow_cast-node : goal.overflow_cast-node
overflow_cast-node c =
    let small : c.in-Some.item < 2 ^ 32 =
    item_small c.args.links.now.lists c.loop-item.links.lists c.args.store.now c.loop-item.store c.in-Some.item c.loop-item.invariant c.in-Some.ensures c.requires.apart c.requires.live in
    omega arith

pub clear-requires : goal.clear-requires
clear-requires c = still_there c.args.links.now.lists c.loop-item.links.lists c.args.store.now c.loop-item.store c.in-Some.item c.loop-item.invariant c.in-Some.ensures c.requires.apart c.requires.live

pub give_up-requires : goal.give_up-requires
give_up-requires c =
    cleared_here c.args.links.now.lists c.loop-item.links.lists c.args.store.now c.loop-item.store c.in-Some.item c.loop-item.invariant c.in-Some.ensures c.requires.apart c.requires.live
    c.clear.new.self c.clear.ensures

pub unlink-requires : goal.unlink-requires
unlink-requires c = first_stands_somewhere c.loop-item.links.lists 0 c.in-Some.item c.loop-item.invariant.apart c.in-Some.ensures

pub loop-item-smaller : goal.loop-item-smaller
loop-item-smaller c =
    subst (λ (k : Linked). length (list_at k.lists 0) < length (list_at c.loop-item.links.lists 0)) (sym c.unlink.ensures)
    (grave_shrinks c.args.links.now.lists c.loop-item.links.lists c.args.store.now c.loop-item.store c.in-Some.item c.loop-item.invariant c.in-Some.ensures c.requires.apart c.requires.live)

pub loop-item-preserved : goal.loop-item-preserved
loop-item-preserved c =
    subst (λ (k : Linked). Burying c.args.links.now.lists k.lists c.args.store.now c.give_up.new.self) (sym c.unlink.ensures)
    (burying_goes_on c.args.links.now.lists c.loop-item.links.lists c.args.store.now c.loop-item.store c.in-Some.item c.loop-item.invariant c.in-Some.ensures c.requires.apart c.requires.live
    c.clear.new.self c.clear.ensures c.give_up.new.self c.give_up.ensures)

pub returns-clause-empties : goal.returns-clause-empties
returns-clause-empties c = burying_empties c.args.links.now.lists c.loop-item.links.lists c.args.store.now c.loop-item.store c.loop-item.invariant c.in_default.ensures

pub returns-clause-gives_up : goal.returns-clause-gives_up
returns-clause-gives_up c = burying_gives_up c.args.links.now.lists c.loop-item.links.lists c.args.store.now c.loop-item.store c.loop-item.invariant c.in_default.ensures
