use Rattle.fr_links.proofs.Calls.{unlink_kept, unlink_seen}
use Rattle.fr_links.proofs.Opened.{even, fits_standing, has_place_after, has_place_before, has_standing_place}
use Rattle.fr_links.proofs.links.Links.unlink.Goals as goal

pub item_place-requires : goal.item_place-requires
item_place-requires c = fits_standing c.self.inside c.self.invariant c.args.self.now c.self.view_is c.args.item c.requires

pub take_out-requires-clause-place : goal.take_out-requires-clause-place
take_out-requires-clause-place c =
    has_standing_place c.self.inside c.self.invariant c.args.self.now c.self.view_is c.args.item c.item_place.result c.requires c.item_place.ensures

pub take_out-requires-clause-item : goal.take_out-requires-clause-item
take_out-requires-clause-item c = even c.args.item c.item_place.result c.item_place.ensures

pub take_out-requires-clause-next : goal.take_out-requires-clause-next
take_out-requires-clause-next c =
    has_place_after c.self.inside c.self.invariant c.args.self.now c.self.view_is c.args.item c.item_place.result c.requires c.item_place.ensures

pub take_out-requires-clause-previous : goal.take_out-requires-clause-previous
take_out-requires-clause-previous c =
    has_place_before c.self.inside c.self.invariant c.args.self.now c.self.view_is c.args.item c.item_place.result c.requires c.item_place.ensures

pub invariant_of-self : goal.invariant_of-self
invariant_of-self c =
    unlink_kept c.self.inside.places c.self.inside.lists c.self.inside.items c.self.invariant c.args.self.now c.self.view_is
    c.take_out.new.self c.args.item c.item_place.result c.requires c.item_place.ensures c.take_out.ensures

pub returns : goal.returns
returns c =
    unlink_seen c.self.inside.places c.self.inside.lists c.self.inside.items c.self.invariant c.args.self.now c.self.view_is
    c.take_out.new.self c.args.item c.item_place.result c.requires c.item_place.ensures c.take_out.ensures
