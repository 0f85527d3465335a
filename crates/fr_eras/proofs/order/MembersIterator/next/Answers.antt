use Rattle.std.proofs.Common.{◌<◌, ◌^◌, length, sym, ap, ◌∙◌, arith, rules}
use Rattle.fr_links.specs.Lists.{list_at}
use Rattle.fr_eras.specs.Order.{from_here, nodes_of}
use Rattle.fr_eras.proofs.Moves.{stands_somewhere}
use Rattle.fr_eras.proofs.Places.{goes_over, next_stands}
use Rattle.fr_eras.proofs.order.MembersIterator.next.Goals as goal

pub next-self-inside-requires : goal.next-self-inside-requires
next-self-inside-requires c =
    stands_somewhere c.self.inside.links.now.lists c.self.inside.list c.in_ok-item.item c.self.invariant.apart (c.self.invariant.stands c.in_ok-item.item c.in_ok-item.was)

pub overflow_cast-result : goal.overflow_cast-result
overflow_cast-result c =
    let small : c.in_ok-item.item < 2 ^ 32 =
    c.self.invariant.apart.small c.self.inside.list c.in_ok-item.item (c.self.invariant.stands c.in_ok-item.item c.in_ok-item.was) in
    omega arith

pub invariant_of-self : goal.invariant_of-self
invariant_of-self c = record {
  apart = c.self.invariant.apart;
  stands = λ other e.
      next_stands (list_at c.self.inside.links.now.lists c.self.inside.list) c.in_ok-item.item c.next-self-inside.result
      (c.self.invariant.stands c.in_ok-item.item c.in_ok-item.was) (c.next-self-inside.ensures c.self.inside.list) other e;
}

pub returns-clause-steps : goal.returns-clause-steps
returns-clause-steps c =
    sym c.self.view_is ∙ ap (λ at. nodes_of (from_here (list_at c.self.inside.links.now.lists c.self.inside.list) at)) c.in_ok-item.was
    ∙ ap nodes_of
    (goes_over (list_at c.self.inside.links.now.lists c.self.inside.list) c.in_ok-item.item c.next-self-inside.result
    (c.self.invariant.apart.once c.self.inside.list)
    (c.self.invariant.stands c.in_ok-item.item c.in_ok-item.was) (c.next-self-inside.ensures c.self.inside.list))

pub returns-clause-goes : goal.returns-clause-goes
returns-clause-goes c =
    let step =
    sym c.self.view_is ∙ ap (λ at. nodes_of (from_here (list_at c.self.inside.links.now.lists c.self.inside.list) at)) c.in_ok-item.was
    ∙ ap nodes_of
    (goes_over (list_at c.self.inside.links.now.lists c.self.inside.list) c.in_ok-item.item c.next-self-inside.result
    (c.self.invariant.apart.once c.self.inside.list)
    (c.self.invariant.stands c.in_ok-item.item c.in_ok-item.was) (c.next-self-inside.ensures c.self.inside.list)) in
    let shorter = ap length step in
    search rules
