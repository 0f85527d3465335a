use Rattle.fr_links.proofs.Calls.{back_kept, back_seen}
use Rattle.fr_links.proofs.Opened.{even, fits_item, fits_list, has_item_place, has_last_place, has_list_place, not_the_last}
use Rattle.fr_links.proofs.links.Links.push_back.Goals as goal

pub list_place-ring-requires : goal.list_place-ring-requires
list_place-ring-requires c = fits_list c.self.inside c.self.invariant c.args.self.now c.self.view_is c.args.list c.requires.list

pub item_place-requires : goal.item_place-requires
item_place-requires c = fits_item c.self.inside c.self.invariant c.args.self.now c.self.view_is c.args.item c.requires.item

pub put_before-requires-clause-place : goal.put_before-requires-clause-place
put_before-requires-clause-place c =
    has_item_place c.self.inside c.self.invariant c.args.self.now c.self.view_is c.args.item c.item_place.result c.requires.item c.item_place.ensures

pub put_before-requires-clause-item : goal.put_before-requires-clause-item
put_before-requires-clause-item c = even c.args.item c.item_place.result c.item_place.ensures

pub put_before-requires-clause-before : goal.put_before-requires-clause-before
put_before-requires-clause-before c =
    has_list_place c.self.inside c.self.invariant c.args.self.now c.self.view_is c.args.list c.list_place-ring.result c.requires.list c.list_place-ring.ensures

pub put_before-requires-clause-last : goal.put_before-requires-clause-last
put_before-requires-clause-last c =
    has_last_place c.self.inside c.self.invariant c.args.self.now c.self.view_is c.args.list c.list_place-ring.result c.requires.list c.list_place-ring.ensures

pub put_before-requires-clause-not_last : goal.put_before-requires-clause-not_last
put_before-requires-clause-not_last c =
    not_the_last c.self.inside c.self.invariant c.args.self.now c.self.view_is c.args.list c.args.item c.item_place.result c.list_place-ring.result
    c.requires.alone c.item_place.ensures c.list_place-ring.ensures

pub invariant_of-self : goal.invariant_of-self
invariant_of-self c =
    back_kept c.self.inside.places c.self.inside.lists c.self.inside.items c.self.invariant c.args.self.now c.self.view_is
    c.put_before.new.self c.args.list c.args.item c.item_place.result c.list_place-ring.result c.requires.list c.requires.item
    c.requires.alone c.item_place.ensures c.list_place-ring.ensures c.put_before.ensures

pub returns : goal.returns
returns c =
    back_seen c.self.inside.places c.self.inside.lists c.self.inside.items c.self.invariant c.args.self.now c.self.view_is
    c.put_before.new.self c.args.list c.args.item c.item_place.result c.list_place-ring.result c.requires.list c.requires.item
    c.requires.alone c.item_place.ensures c.list_place-ring.ensures c.put_before.ensures
