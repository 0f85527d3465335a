use Rattle.fr_links.proofs.Calls.{first_beyond, first_seen}
use Rattle.fr_links.proofs.Opened.{list_place_below}
use Rattle.fr_links.proofs.links.Links.first.Goals as goal

pub returns-then-list-self : goal.returns-then-list-self
returns-then-list-self c =
    first_beyond c.self.inside.places c.self.inside.lists c.self.inside.items c.self.invariant c.args.self.now c.self.view_is c.args.list
    c.if-list-self.true

pub next-requires : goal.next-requires
next-requires c =
    list_place_below c.self.inside c.self.invariant c.args.self.now c.self.view_is c.args.list c.list_place-ring.result c.if-list-self.false
    c.list_place-ring.ensures

pub returns : goal.returns
returns c =
    first_seen c.self.inside.places c.self.inside.lists c.self.inside.items c.self.invariant c.args.self.now c.self.view_is
    c.args.list c.list_place-ring.result c.next.result c.number_unless.result c.list_place-ring.ensures c.next.ensures
    c.number_unless.ensures.none c.number_unless.ensures.some
