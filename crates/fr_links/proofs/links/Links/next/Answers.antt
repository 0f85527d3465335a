use Rattle.fr_links.proofs.Calls.{next_seen}
use Rattle.fr_links.proofs.Opened.{standing_in_items, standing_kept}
use Rattle.fr_links.proofs.links.Links.next.Goals as goal

pub index-place-requires : goal.index-place-requires
index-place-requires c = standing_in_items c.self.inside c.self.invariant c.args.self.now c.self.view_is c.args.item c.requires

pub returns : goal.returns
returns c =
    next_seen c.self.inside.places c.self.inside.lists c.self.inside.items c.self.invariant c.args.self.now c.self.view_is
    c.args.item c.index-place.result.now c.number_unless.result
    (standing_kept c.self.inside c.self.invariant c.args.self.now c.self.view_is c.args.item c.requires)
    c.index-place.ensures c.number_unless.ensures.none c.number_unless.ensures.some
