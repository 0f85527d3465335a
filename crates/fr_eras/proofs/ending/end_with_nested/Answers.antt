use Rattle.std.proofs.Common.{ℕ, ◌-◌, ◌<◌, ◌^◌, Option, sym, ap, ◌∙◌, subst, arith, slice_get}
use Rattle.fr_links.specs.Lists.{list_at}
use Rattle.fr_eras.specs.Kept.{Killing, lives_of}
use Rattle.fr_eras.proofs.Kills.{killed, killing_begins, killing_goes_on, leaves, nearer, node_small, stands_now}
use Rattle.fr_eras.proofs.Places.{place_in}
use Rattle.fr_eras.proofs.ending.end_with_nested.Goals as goal

pub loop-at-init : goal.loop-at-init
loop-at-init g c = record {
  killing =
      killing_begins (lives_of c.args.links.now.lists c.args.begun.now.items) (lives_of c.end_era.new.links.lists c.end_era.new.begun.items)
      (g.A.Agenda.queued c.args.agenda.now) c.args.era c.first-at.result c.end_era.ensures.ends c.end_era.ensures.lives c.end_era.ensures.came
      (c.first-at.ensures ∙ ap (λ (n : ℕ). slice_get (list_at c.args.links.now.lists n) 0) c.list_of_era.ensures);
  room = λ n h e. e;
}

pub overflow_cast-node : goal.overflow_cast-node
overflow_cast-node g c =
    let small : c.in-Some.node < 2 ^ 32 = node_small (lives_of c.args.links.now.lists c.args.begun.now.items) (lives_of c.loop-at.links.lists c.loop-at.begun.items) (g.A.Agenda.queued c.args.agenda.now)
    (g.A.Agenda.queued c.loop-at.agenda) c.args.era c.in-Some.node (subst (λ (o : Option ℕ). Killing (lives_of c.args.links.now.lists c.args.begun.now.items) (lives_of c.loop-at.links.lists c.loop-at.begun.items)
    (g.A.Agenda.queued c.args.agenda.now) (g.A.Agenda.queued c.loop-at.agenda) c.args.era o) c.in-Some.is c.loop-at.invariant.killing) in
    omega arith

pub overflow_add-node : goal.overflow_add-node
overflow_add-node g c =
    let small : c.in-Some.node < 2 ^ 32 = node_small (lives_of c.args.links.now.lists c.args.begun.now.items) (lives_of c.loop-at.links.lists c.loop-at.begun.items) (g.A.Agenda.queued c.args.agenda.now)
    (g.A.Agenda.queued c.loop-at.agenda) c.args.era c.in-Some.node (subst (λ (o : Option ℕ). Killing (lives_of c.args.links.now.lists c.args.begun.now.items) (lives_of c.loop-at.links.lists c.loop-at.begun.items)
    (g.A.Agenda.queued c.args.agenda.now) (g.A.Agenda.queued c.loop-at.agenda) c.args.era o) c.in-Some.is c.loop-at.invariant.killing) in
    omega arith

pub end_era-requires-in-Some-clause-small : goal.end_era-requires-in-Some-clause-small
end_era-requires-in-Some-clause-small g c =
    let small : c.in-Some.node < 2 ^ 32 = node_small (lives_of c.args.links.now.lists c.args.begun.now.items) (lives_of c.loop-at.links.lists c.loop-at.begun.items) (g.A.Agenda.queued c.args.agenda.now)
    (g.A.Agenda.queued c.loop-at.agenda) c.args.era c.in-Some.node (subst (λ (o : Option ℕ). Killing (lives_of c.args.links.now.lists c.args.begun.now.items) (lives_of c.loop-at.links.lists c.loop-at.begun.items)
    (g.A.Agenda.queued c.args.agenda.now) (g.A.Agenda.queued c.loop-at.agenda) c.args.era o) c.in-Some.is c.loop-at.invariant.killing) in
    omega arith

pub next-at-requires : goal.next-at-requires
next-at-requires g c =
    stands_now (lives_of c.args.links.now.lists c.args.begun.now.items) (lives_of c.loop-at.links.lists c.loop-at.begun.items) (g.A.Agenda.queued c.args.agenda.now)
    (g.A.Agenda.queued c.loop-at.agenda) c.args.era c.in-Some.node (subst (λ (o : Option ℕ). Killing (lives_of c.args.links.now.lists c.args.begun.now.items) (lives_of c.loop-at.links.lists c.loop-at.begun.items)
    (g.A.Agenda.queued c.args.agenda.now) (g.A.Agenda.queued c.loop-at.agenda) c.args.era o) c.in-Some.is c.loop-at.invariant.killing)
    (lives_of c.end_era-in-Some.new.links.lists c.end_era-in-Some.new.begun.items) c.end_era-in-Some.ensures.ends c.end_era-in-Some.ensures.lives c.end_era-in-Some.ensures.came

pub loop-at-smaller : goal.loop-at-smaller
loop-at-smaller g c =
    subst (λ (o : Option ℕ). 2 ^ 32 - place_in (list_at c.end_era-in-Some.new.links.lists 0) c.next-at.result < 2 ^ 32 - place_in (list_at c.loop-at.links.lists 0) o)
    (sym c.in-Some.is)
    (
    nearer (lives_of c.args.links.now.lists c.args.begun.now.items) (lives_of c.loop-at.links.lists c.loop-at.begun.items) (g.A.Agenda.queued c.args.agenda.now)
    (g.A.Agenda.queued c.loop-at.agenda) c.args.era c.in-Some.node (subst (λ (o : Option ℕ). Killing (lives_of c.args.links.now.lists c.args.begun.now.items) (lives_of c.loop-at.links.lists c.loop-at.begun.items)
    (g.A.Agenda.queued c.args.agenda.now) (g.A.Agenda.queued c.loop-at.agenda) c.args.era o) c.in-Some.is c.loop-at.invariant.killing)
    (lives_of c.end_era-in-Some.new.links.lists c.end_era-in-Some.new.begun.items) c.end_era-in-Some.ensures.ends c.end_era-in-Some.ensures.lives c.end_era-in-Some.ensures.came
    c.next-at.result c.next-at.ensures)

pub loop-at-preserved : goal.loop-at-preserved
loop-at-preserved g c = record {
  killing =
      killing_goes_on (lives_of c.args.links.now.lists c.args.begun.now.items) (lives_of c.loop-at.links.lists c.loop-at.begun.items) (g.A.Agenda.queued c.args.agenda.now)
      (g.A.Agenda.queued c.loop-at.agenda) c.args.era c.in-Some.node (subst (λ (o : Option ℕ). Killing (lives_of c.args.links.now.lists c.args.begun.now.items) (lives_of c.loop-at.links.lists c.loop-at.begun.items)
      (g.A.Agenda.queued c.args.agenda.now) (g.A.Agenda.queued c.loop-at.agenda) c.args.era o) c.in-Some.is c.loop-at.invariant.killing)
      (lives_of c.end_era-in-Some.new.links.lists c.end_era-in-Some.new.begun.items) c.end_era-in-Some.ensures.ends c.end_era-in-Some.ensures.lives c.end_era-in-Some.ensures.came
      c.next-at.result c.next-at.ensures (g.A.Agenda.queued c.drop_node.new.self) c.drop_node.ensures.out;
  room = λ n h e. c.drop_node.ensures.keeps_room n h (c.loop-at.invariant.room n h e);
}

pub returns-clause-killed : goal.returns-clause-killed
returns-clause-killed g c = killed (lives_of c.args.links.now.lists c.args.begun.now.items) (lives_of c.loop-at.links.lists c.loop-at.begun.items) (g.A.Agenda.queued c.args.agenda.now)
    (g.A.Agenda.queued c.loop-at.agenda) c.args.era (subst (λ (o : Option ℕ). Killing (lives_of c.args.links.now.lists c.args.begun.now.items) (lives_of c.loop-at.links.lists c.loop-at.begun.items)
    (g.A.Agenda.queued c.args.agenda.now) (g.A.Agenda.queued c.loop-at.agenda) c.args.era o) c.in_default.is c.loop-at.invariant.killing)

pub returns-clause-queue : goal.returns-clause-queue
returns-clause-queue g c = leaves (lives_of c.args.links.now.lists c.args.begun.now.items) (lives_of c.loop-at.links.lists c.loop-at.begun.items) (g.A.Agenda.queued c.args.agenda.now)
    (g.A.Agenda.queued c.loop-at.agenda) c.args.era (subst (λ (o : Option ℕ). Killing (lives_of c.args.links.now.lists c.args.begun.now.items) (lives_of c.loop-at.links.lists c.loop-at.begun.items)
    (g.A.Agenda.queued c.args.agenda.now) (g.A.Agenda.queued c.loop-at.agenda) c.args.era o) c.in_default.is c.loop-at.invariant.killing)
