use Rattle.fr_links.proofs.Calls.{front_before_bound, front_kept, front_last_bound, front_not_before, front_not_last, front_puts, front_seen}
use Rattle.fr_links.proofs.Opened.{even, fits_item, fits_list, has_item_place, has_list_place}
use Rattle.fr_links.proofs.links.Links.push_front.Goals as goal

pub list_place-ring-requires : goal.list_place-ring-requires
list_place-ring-requires c = fits_list c.self.inside c.self.invariant c.args.self.now c.self.view_is c.args.list c.requires.list

pub next-first-requires : goal.next-first-requires
next-first-requires c =
    has_list_place c.self.inside c.self.invariant c.args.self.now c.self.view_is c.args.list c.list_place-ring.result c.requires.list c.list_place-ring.ensures

pub item_place-requires : goal.item_place-requires
item_place-requires c = fits_item c.self.inside c.self.invariant c.args.self.now c.self.view_is c.args.item c.requires.item

pub put_before-requires-clause-place : goal.put_before-requires-clause-place
put_before-requires-clause-place c =
    has_item_place c.self.inside c.self.invariant c.args.self.now c.self.view_is c.args.item c.item_place.result c.requires.item c.item_place.ensures

pub put_before-requires-clause-item : goal.put_before-requires-clause-item
put_before-requires-clause-item c = even c.args.item c.item_place.result c.item_place.ensures

pub put_before-requires-clause-before : goal.put_before-requires-clause-before
put_before-requires-clause-before c =
    front_before_bound c.self.inside.places c.self.inside.lists c.self.inside.items c.self.invariant c.args.self.now c.self.view_is
    c.args.list c.list_place-ring.result c.next-first.result c.requires.list c.list_place-ring.ensures c.next-first.ensures

pub put_before-requires-clause-last : goal.put_before-requires-clause-last
put_before-requires-clause-last c =
    front_last_bound c.self.inside.places c.self.inside.lists c.self.inside.items c.self.invariant c.args.self.now c.self.view_is
    c.args.list c.list_place-ring.result c.next-first.result c.requires.list c.list_place-ring.ensures c.next-first.ensures

pub put_before-requires-clause-not_before : goal.put_before-requires-clause-not_before
put_before-requires-clause-not_before c =
    front_not_before c.self.inside.places c.self.inside.lists c.self.inside.items c.self.invariant c.args.self.now c.self.view_is
    c.args.list c.list_place-ring.result c.next-first.result c.requires.list c.list_place-ring.ensures c.next-first.ensures
    c.args.item c.item_place.result c.requires.alone c.item_place.ensures

pub put_before-requires-clause-not_last : goal.put_before-requires-clause-not_last
put_before-requires-clause-not_last c =
    front_not_last c.self.inside.places c.self.inside.lists c.self.inside.items c.self.invariant c.args.self.now c.self.view_is
    c.args.list c.list_place-ring.result c.next-first.result c.requires.list c.list_place-ring.ensures c.next-first.ensures
    c.args.item c.item_place.result c.requires.alone c.item_place.ensures

pub invariant_of-self : goal.invariant_of-self
invariant_of-self c =
    front_kept c.self.inside.places c.self.inside.lists c.self.inside.items c.self.invariant c.args.self.now c.self.view_is
    c.put_before.new.self c.args.list c.args.item c.item_place.result c.list_place-ring.result c.requires.list c.requires.item
    c.requires.alone c.item_place.ensures c.list_place-ring.ensures
    (front_puts c.self.inside.places c.self.inside.lists c.self.inside.items c.self.invariant c.args.self.now c.self.view_is
    c.args.list c.list_place-ring.result c.next-first.result c.requires.list c.list_place-ring.ensures c.next-first.ensures
    c.put_before.new.self c.item_place.result c.put_before.ensures)

pub returns : goal.returns
returns c =
    front_seen c.self.inside.places c.self.inside.lists c.self.inside.items c.self.invariant c.args.self.now c.self.view_is
    c.put_before.new.self c.args.list c.args.item c.item_place.result c.list_place-ring.result c.requires.list c.requires.item
    c.requires.alone c.item_place.ensures c.list_place-ring.ensures
    (front_puts c.self.inside.places c.self.inside.lists c.self.inside.items c.self.invariant c.args.self.now c.self.view_is
    c.args.list c.list_place-ring.result c.next-first.result c.requires.list c.list_place-ring.ensures c.next-first.ensures
    c.put_before.new.self c.item_place.result c.put_before.ensures)
