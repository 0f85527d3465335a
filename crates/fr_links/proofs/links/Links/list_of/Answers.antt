use Rattle.std.proofs.Common.{sym, ◌∙◌}
use Rattle.fr_links.proofs.Calls.{list_of_beyond, list_of_seen, only_list}
use Rattle.fr_links.proofs.Opened.{kept_below}
use Rattle.fr_links.proofs.links.Links.list_of.Goals as goal

pub returns-then-item-self-clause-value : goal.returns-then-item-self-clause-value
returns-then-item-self-clause-value c =
    sym (list_of_beyond c.self.inside.places c.self.inside.lists c.self.inside.items c.self.invariant c.args.self.now c.self.view_is
    c.args.item c.if-item-self.true)

pub returns-then-item-self-clause-only : goal.returns-then-item-self-clause-only
returns-then-item-self-clause-only c =
    λ list stands.
    sym (list_of_beyond c.self.inside.places c.self.inside.lists c.self.inside.items c.self.invariant c.args.self.now c.self.view_is
    c.args.item c.if-item-self.true)
    ∙ only_list c.self.inside.places c.self.inside.lists c.self.inside.items c.self.invariant c.args.self.now c.self.view_is
    c.args.item list stands

pub returns-clause-value : goal.returns-clause-value
returns-clause-value c =
    list_of_seen c.self.inside.places c.self.inside.lists c.self.inside.items c.self.invariant c.args.self.now c.self.view_is
    c.args.item c.item_place-place.result c.index.result.now c.number_unless.result c.item_place-place.ensures
    (kept_below c.self.inside c.self.invariant c.args.self.now c.self.view_is c.args.item c.if-item-self.false)
    c.index.ensures c.number_unless.ensures.none c.number_unless.ensures.some

pub returns-clause-only : goal.returns-clause-only
returns-clause-only c =
    λ list stands.
    list_of_seen c.self.inside.places c.self.inside.lists c.self.inside.items c.self.invariant c.args.self.now c.self.view_is
    c.args.item c.item_place-place.result c.index.result.now c.number_unless.result c.item_place-place.ensures
    (kept_below c.self.inside c.self.invariant c.args.self.now c.self.view_is c.args.item c.if-item-self.false)
    c.index.ensures c.number_unless.ensures.none c.number_unless.ensures.some
    ∙ only_list c.self.inside.places c.self.inside.lists c.self.inside.items c.self.invariant c.args.self.now c.self.view_is
    c.args.item list stands
