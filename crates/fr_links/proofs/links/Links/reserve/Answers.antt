use Rattle.std.proofs.Common.{arith}
use Rattle.fr_links.proofs.Calls.{reserve_kept, reserve_seen}
use Rattle.fr_links.proofs.links.Links.reserve.Goals as goal

pub invariant_of-self : goal.invariant_of-self
invariant_of-self c =
    reserve_kept c.self.inside.places c.self.inside.lists c.self.inside.items c.self.invariant c.args.self.now c.self.view_is
    c.grow.new.self c.self.inside.lists c.self.inside.items (omega arith) (omega arith) c.grow.ensures.grows.same
    (omega (arith, c.self.invariant.for_lists, c.grow.ensures.grows.lists)) (omega (arith, c.self.invariant.for_items, c.grow.ensures.grows.items))
    c.grow.ensures.grows.few_lists c.grow.ensures.grows.few_items

pub invariant_of-self-2 : goal.invariant_of-self-2
invariant_of-self-2 c =
    reserve_kept c.self.inside.places c.self.inside.lists c.self.inside.items c.self.invariant c.args.self.now c.self.view_is
    c.grow.new.self c.max-lists.result c.max-items.result (omega arith) (omega arith) c.grow.ensures.grows.same
    (omega (arith, c.in_ok-grow.ensures.lists)) (omega (arith, c.in_ok-grow.ensures.items))
    c.grow.ensures.grows.few_lists c.grow.ensures.grows.few_items

pub returns-clause-lists : goal.returns-clause-lists
returns-clause-lists c =
    reserve_seen c.self.inside.places c.self.inside.lists c.self.inside.items c.self.invariant c.args.self.now c.self.view_is
    c.grow.new.self c.max-lists.result c.max-items.result (omega arith) (omega arith) c.grow.ensures.grows.same
    c.args.lists c.max-lists.ensures
