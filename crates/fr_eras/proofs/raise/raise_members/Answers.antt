use Rattle.std.proofs.Common.{◌+◌, ◌<◌, ◌^◌, ℕ, ap, ◌∙◌, arith, slice_get}
use Rattle.std.specs.Result.{IsOk}
use Rattle.fr_links.specs.Lists.{list_at}
use Rattle.fr_eras.specs.Lives.{eras_in}
use Rattle.fr_eras.proofs.Joining.{item_stands, item_there, joining_begins, joining_ends, joining_goes_on, joining_nearer, joining_wants}
use Rattle.fr_eras.proofs.Moves.{stands_somewhere}
use Rattle.fr_eras.proofs.Only.{follows_right}
use Rattle.fr_eras.proofs.raise.raise_members.Goals as goal

pub loop-next-init : goal.loop-next-init
loop-next-init g c =
    joining_begins (eras_in c.args.links.now.lists) c.args.lower.0 c.args.store.now (g.A.Agenda.queued c.args.agenda.now) (g.A.Agenda.room c.args.agenda.now) c.args.work.now c.first-next.result c.requires.queue
    (c.first-next.ensures ∙ ap (λ (n : ℕ). slice_get (list_at c.args.links.now.lists n) 0) c.list_of_era.ensures)

pub overflow_cast-member : goal.overflow_cast-member
overflow_cast-member g c =
    let small : c.in-Some.member < 2 ^ 32 = c.requires.apart.small (c.args.lower.0 + 1 + 1) c.in-Some.member (item_stands (eras_in c.args.links.now.lists) c.args.lower.0 c.args.store.now
    c.loop-next.store (g.A.Agenda.queued c.args.agenda.now) (g.A.Agenda.queued c.loop-next.agenda) (g.A.Agenda.room c.args.agenda.now)
    (g.A.Agenda.room c.loop-next.agenda) c.args.work.now c.loop-next.work c.loop-next.next c.in-Some.member c.loop-next.invariant c.in-Some.is c.requires.live) in
    omega arith

pub raise_one-requires-clause-upper : goal.raise_one-requires-clause-upper
raise_one-requires-clause-upper g c = item_there (eras_in c.args.links.now.lists) c.args.lower.0 c.args.store.now
    c.loop-next.store (g.A.Agenda.queued c.args.agenda.now) (g.A.Agenda.queued c.loop-next.agenda) (g.A.Agenda.room c.args.agenda.now)
    (g.A.Agenda.room c.loop-next.agenda) c.args.work.now c.loop-next.work c.loop-next.next c.in-Some.member c.loop-next.invariant c.in-Some.is c.requires.live

pub raise_one-requires-clause-queue : goal.raise_one-requires-clause-queue
raise_one-requires-clause-queue g c = follows_right c.loop-next.store (g.A.Agenda.queued c.args.agenda.now) (g.A.Agenda.queued c.loop-next.agenda) c.loop-next.invariant.advances.queue

pub returns-in_err-raise_one-clause-in_room : goal.returns-in_err-raise_one-clause-in_room
returns-in_err-raise_one-clause-in_room g c =
    joining_wants (eras_in c.args.links.now.lists) c.args.lower.0 c.args.store.now
    c.loop-next.store (g.A.Agenda.queued c.args.agenda.now) (g.A.Agenda.queued c.loop-next.agenda) (g.A.Agenda.room c.args.agenda.now)
    (g.A.Agenda.room c.loop-next.agenda) c.args.work.now c.loop-next.work c.loop-next.next c.in-Some.member c.loop-next.invariant c.in-Some.is c.requires.live
    (IsOk c.from_residual.result) (λ has fits. (let never = c.in_err-raise_one.ensures.in_room has fits in cc))

pub next-next-requires : goal.next-next-requires
next-next-requires g c = stands_somewhere c.args.links.now.lists (c.args.lower.0 + 1 + 1) c.in-Some.member c.requires.apart (item_stands (eras_in c.args.links.now.lists) c.args.lower.0 c.args.store.now
    c.loop-next.store (g.A.Agenda.queued c.args.agenda.now) (g.A.Agenda.queued c.loop-next.agenda) (g.A.Agenda.room c.args.agenda.now)
    (g.A.Agenda.room c.loop-next.agenda) c.args.work.now c.loop-next.work c.loop-next.next c.in-Some.member c.loop-next.invariant c.in-Some.is c.requires.live)

pub loop-next-smaller : goal.loop-next-smaller
loop-next-smaller g c =
    joining_nearer (eras_in c.args.links.now.lists) c.args.lower.0 c.args.store.now
    c.loop-next.store (g.A.Agenda.queued c.args.agenda.now) (g.A.Agenda.queued c.loop-next.agenda) (g.A.Agenda.room c.args.agenda.now)
    (g.A.Agenda.room c.loop-next.agenda) c.args.work.now c.loop-next.work c.loop-next.next c.in-Some.member c.loop-next.invariant c.in-Some.is c.requires.live
    (c.requires.apart.once (c.args.lower.0 + 1 + 1)) c.next-next.result (c.next-next.ensures (c.args.lower.0 + 1 + 1))

pub loop-next-preserved : goal.loop-next-preserved
loop-next-preserved g c =
    joining_goes_on (eras_in c.args.links.now.lists) c.args.lower.0 c.args.store.now
    c.loop-next.store (g.A.Agenda.queued c.args.agenda.now) (g.A.Agenda.queued c.loop-next.agenda) (g.A.Agenda.room c.args.agenda.now)
    (g.A.Agenda.room c.loop-next.agenda) c.args.work.now c.loop-next.work c.loop-next.next c.in-Some.member c.loop-next.invariant c.in-Some.is c.requires.live
    (c.requires.apart.once (c.args.lower.0 + 1 + 1)) c.next-next.result (c.next-next.ensures (c.args.lower.0 + 1 + 1))
    c.raise_one.new.store (g.A.Agenda.queued c.raise_one.new.agenda) (g.A.Agenda.room c.raise_one.new.agenda) c.raise_one.new.work
    c.raise_one.ensures.keeps c.in_ok-raise_one.ensures.lifts c.in_ok-raise_one.ensures.queue

pub returns-clause-advances : goal.returns-clause-advances
returns-clause-advances g c =
    joining_ends (eras_in c.args.links.now.lists) c.args.lower.0 c.args.store.now
    c.loop-next.store (g.A.Agenda.queued c.args.agenda.now) (g.A.Agenda.queued c.loop-next.agenda) (g.A.Agenda.room c.args.agenda.now)
    (g.A.Agenda.room c.loop-next.agenda) c.args.work.now c.loop-next.work c.loop-next.next c.loop-next.invariant c.in_default.is
