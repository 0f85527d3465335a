use Rattle.fr_links.proofs.Calls.{mid_last_bound, mid_not_last, moved_kept, moved_seen}
use Rattle.fr_links.proofs.Opened.{even, fits_list, fits_standing, has_list_place, has_place_after, has_place_before, has_standing_place, still_has}
use Rattle.fr_links.proofs.links.Links.move_to.Goals as goal

pub item_place-place-requires : goal.item_place-place-requires
item_place-place-requires c = fits_standing c.self.inside c.self.invariant c.args.self.now c.self.view_is c.args.item c.requires.item

pub list_place-ring-requires : goal.list_place-ring-requires
list_place-ring-requires c = fits_list c.self.inside c.self.invariant c.args.self.now c.self.view_is c.args.list c.requires.list

pub take_out-requires-clause-place : goal.take_out-requires-clause-place
take_out-requires-clause-place c =
    has_standing_place c.self.inside c.self.invariant c.args.self.now c.self.view_is c.args.item c.item_place-place.result c.requires.item c.item_place-place.ensures

pub take_out-requires-clause-item : goal.take_out-requires-clause-item
take_out-requires-clause-item c = even c.args.item c.item_place-place.result c.item_place-place.ensures

pub take_out-requires-clause-next : goal.take_out-requires-clause-next
take_out-requires-clause-next c =
    has_place_after c.self.inside c.self.invariant c.args.self.now c.self.view_is c.args.item c.item_place-place.result c.requires.item c.item_place-place.ensures

pub take_out-requires-clause-previous : goal.take_out-requires-clause-previous
take_out-requires-clause-previous c =
    has_place_before c.self.inside c.self.invariant c.args.self.now c.self.view_is c.args.item c.item_place-place.result c.requires.item c.item_place-place.ensures

pub put_before-requires-clause-place : goal.put_before-requires-clause-place
put_before-requires-clause-place c =
    still_has c.self.inside.places c.take_out.new.self c.item_place-place.result c.item_place-place.result c.take_out.ensures
    (has_standing_place c.self.inside c.self.invariant c.args.self.now c.self.view_is c.args.item c.item_place-place.result c.requires.item c.item_place-place.ensures)

pub put_before-requires-clause-item : goal.put_before-requires-clause-item
put_before-requires-clause-item c = even c.args.item c.item_place-place.result c.item_place-place.ensures

pub put_before-requires-clause-before : goal.put_before-requires-clause-before
put_before-requires-clause-before c =
    still_has c.self.inside.places c.take_out.new.self c.item_place-place.result c.list_place-ring.result c.take_out.ensures
    (has_list_place c.self.inside c.self.invariant c.args.self.now c.self.view_is c.args.list c.list_place-ring.result c.requires.list c.list_place-ring.ensures)

pub put_before-requires-clause-last : goal.put_before-requires-clause-last
put_before-requires-clause-last c =
    mid_last_bound c.self.inside.places c.self.inside.lists c.self.inside.items c.self.invariant c.args.self.now c.self.view_is
    c.take_out.new.self c.args.item c.item_place-place.result c.args.list c.list_place-ring.result c.requires.item
    c.item_place-place.ensures c.take_out.ensures c.requires.list c.list_place-ring.ensures

pub put_before-requires-clause-not_last : goal.put_before-requires-clause-not_last
put_before-requires-clause-not_last c =
    mid_not_last c.self.inside.places c.self.inside.lists c.self.inside.items c.self.invariant c.args.self.now c.self.view_is
    c.take_out.new.self c.args.item c.item_place-place.result c.args.list c.list_place-ring.result c.requires.item
    c.item_place-place.ensures c.take_out.ensures c.requires.list c.list_place-ring.ensures

pub invariant_of-self : goal.invariant_of-self
invariant_of-self c =
    moved_kept c.self.inside.places c.self.inside.lists c.self.inside.items c.self.invariant c.args.self.now c.self.view_is
    c.take_out.new.self c.args.item c.item_place-place.result c.args.list c.list_place-ring.result c.requires.item
    c.item_place-place.ensures c.take_out.ensures c.requires.list c.list_place-ring.ensures
    c.put_before.new.self c.put_before.ensures

pub returns : goal.returns
returns c =
    moved_seen c.self.inside.places c.self.inside.lists c.self.inside.items c.self.invariant c.args.self.now c.self.view_is
    c.take_out.new.self c.args.item c.item_place-place.result c.args.list c.list_place-ring.result c.requires.item
    c.item_place-place.ensures c.take_out.ensures c.requires.list c.list_place-ring.ensures
    c.put_before.new.self c.put_before.ensures
