use Rattle.std.specs.Result.{IsOk}
use Rattle.fr_eras.specs.Lives.{eras_in}
use Rattle.fr_eras.proofs.Reading.{found, next_edge, next_on, reading_begins, reading_ends, reading_goes_on, reading_nearer, reading_wants, stands_at, upper_there}
use Rattle.fr_eras.proofs.Rising.{keeps_then}
use Rattle.fr_eras.proofs.raise.raise_readers.Goals as goal

pub loop-edge-init : goal.loop-edge-init
loop-edge-init g c =
    reading_begins (eras_in c.args.links.now.lists) c.args.lower.0 c.args.store.now c.first_dependent-edge.ensures.exact
    (g.A.Agenda.queued c.args.agenda.now) (g.A.Agenda.room c.args.agenda.now) c.args.work.now c.first_dependent-edge.result c.requires.queue c.first_dependent-edge.ensures.first

pub raise_one-requires-clause-upper : goal.raise_one-requires-clause-upper
raise_one-requires-clause-upper g c =
    upper_there (eras_in c.args.links.now.lists) c.args.lower.0 c.args.store.now c.first_dependent-edge.ensures.exact
    c.loop-edge.store (g.A.Agenda.queued c.args.agenda.now) (g.A.Agenda.queued c.loop-edge.agenda) (g.A.Agenda.room c.args.agenda.now)
    (g.A.Agenda.room c.loop-edge.agenda) c.args.work.now c.loop-edge.work c.loop-edge.edge c.in-Some.at c.loop-edge.invariant c.in-Some.is
    c.edge_node.result.0 (c.edge_node.ensures c.args.lower.0 c.loop-edge.invariant.place (found (eras_in c.args.links.now.lists) c.args.lower.0 c.args.store.now c.first_dependent-edge.ensures.exact
    c.loop-edge.store (g.A.Agenda.queued c.args.agenda.now) (g.A.Agenda.queued c.loop-edge.agenda) (g.A.Agenda.room c.args.agenda.now)
    (g.A.Agenda.room c.loop-edge.agenda) c.args.work.now c.loop-edge.work c.loop-edge.edge c.in-Some.at c.loop-edge.invariant c.in-Some.is).0 (stands_at (eras_in c.args.links.now.lists) c.args.lower.0 c.args.store.now c.first_dependent-edge.ensures.exact
    c.loop-edge.store (g.A.Agenda.queued c.args.agenda.now) (g.A.Agenda.queued c.loop-edge.agenda) (g.A.Agenda.room c.args.agenda.now)
    (g.A.Agenda.room c.loop-edge.agenda) c.args.work.now c.loop-edge.work c.loop-edge.edge c.in-Some.at c.loop-edge.invariant c.in-Some.is))

pub returns-in_err-raise_one-clause-keeps : goal.returns-in_err-raise_one-clause-keeps
returns-in_err-raise_one-clause-keeps g c =
    keeps_then c.args.store.now c.loop-edge.store c.raise_one.new.store (g.A.Agenda.room c.args.agenda.now) (g.A.Agenda.room c.loop-edge.agenda) (g.A.Agenda.room c.raise_one.new.agenda)
    c.args.work.now c.loop-edge.work c.raise_one.new.work c.loop-edge.invariant.keeps c.raise_one.ensures.keeps

pub returns-in_err-raise_one-clause-in_room : goal.returns-in_err-raise_one-clause-in_room
returns-in_err-raise_one-clause-in_room g c =
    reading_wants (eras_in c.args.links.now.lists) c.args.lower.0 c.args.store.now c.first_dependent-edge.ensures.exact
    c.loop-edge.store (g.A.Agenda.queued c.args.agenda.now) (g.A.Agenda.queued c.loop-edge.agenda) (g.A.Agenda.room c.args.agenda.now)
    (g.A.Agenda.room c.loop-edge.agenda) c.args.work.now c.loop-edge.work c.loop-edge.edge c.in-Some.at c.loop-edge.invariant c.in-Some.is
    c.edge_node.result.0 (c.edge_node.ensures c.args.lower.0 c.loop-edge.invariant.place (found (eras_in c.args.links.now.lists) c.args.lower.0 c.args.store.now c.first_dependent-edge.ensures.exact
    c.loop-edge.store (g.A.Agenda.queued c.args.agenda.now) (g.A.Agenda.queued c.loop-edge.agenda) (g.A.Agenda.room c.args.agenda.now)
    (g.A.Agenda.room c.loop-edge.agenda) c.args.work.now c.loop-edge.work c.loop-edge.edge c.in-Some.at c.loop-edge.invariant c.in-Some.is).0 (stands_at (eras_in c.args.links.now.lists) c.args.lower.0 c.args.store.now c.first_dependent-edge.ensures.exact
    c.loop-edge.store (g.A.Agenda.queued c.args.agenda.now) (g.A.Agenda.queued c.loop-edge.agenda) (g.A.Agenda.room c.args.agenda.now)
    (g.A.Agenda.room c.loop-edge.agenda) c.args.work.now c.loop-edge.work c.loop-edge.edge c.in-Some.at c.loop-edge.invariant c.in-Some.is))
    (IsOk c.from_residual.result) (λ has fits. (let never = c.in_err-raise_one.ensures.in_room has fits in cc))

pub loop-edge-smaller : goal.loop-edge-smaller
loop-edge-smaller g c =
    reading_nearer (eras_in c.args.links.now.lists) c.args.lower.0 c.args.store.now c.first_dependent-edge.ensures.exact
    c.loop-edge.store (g.A.Agenda.queued c.args.agenda.now) (g.A.Agenda.queued c.loop-edge.agenda) (g.A.Agenda.room c.args.agenda.now)
    (g.A.Agenda.room c.loop-edge.agenda) c.args.work.now c.loop-edge.work c.loop-edge.edge c.in-Some.at c.loop-edge.invariant c.in-Some.is
    c.next_dependent-edge.result (next_on c.loop-edge.store c.raise_one.new.store c.in-Some.at c.next_dependent-edge.result c.raise_one.ensures.keeps.only.dependents c.next_dependent-edge.ensures)

pub loop-edge-preserved : goal.loop-edge-preserved
loop-edge-preserved g c =
    reading_goes_on (eras_in c.args.links.now.lists) c.args.lower.0 c.args.store.now c.first_dependent-edge.ensures.exact
    c.loop-edge.store (g.A.Agenda.queued c.args.agenda.now) (g.A.Agenda.queued c.loop-edge.agenda) (g.A.Agenda.room c.args.agenda.now)
    (g.A.Agenda.room c.loop-edge.agenda) c.args.work.now c.loop-edge.work c.loop-edge.edge c.in-Some.at c.loop-edge.invariant c.in-Some.is
    c.edge_node.result.0 (c.edge_node.ensures c.args.lower.0 c.loop-edge.invariant.place (found (eras_in c.args.links.now.lists) c.args.lower.0 c.args.store.now c.first_dependent-edge.ensures.exact
    c.loop-edge.store (g.A.Agenda.queued c.args.agenda.now) (g.A.Agenda.queued c.loop-edge.agenda) (g.A.Agenda.room c.args.agenda.now)
    (g.A.Agenda.room c.loop-edge.agenda) c.args.work.now c.loop-edge.work c.loop-edge.edge c.in-Some.at c.loop-edge.invariant c.in-Some.is).0 (stands_at (eras_in c.args.links.now.lists) c.args.lower.0 c.args.store.now c.first_dependent-edge.ensures.exact
    c.loop-edge.store (g.A.Agenda.queued c.args.agenda.now) (g.A.Agenda.queued c.loop-edge.agenda) (g.A.Agenda.room c.args.agenda.now)
    (g.A.Agenda.room c.loop-edge.agenda) c.args.work.now c.loop-edge.work c.loop-edge.edge c.in-Some.at c.loop-edge.invariant c.in-Some.is))
    c.raise_one.new.store (g.A.Agenda.queued c.raise_one.new.agenda) (g.A.Agenda.room c.raise_one.new.agenda) c.raise_one.new.work c.next_dependent-edge.result
    (next_edge (eras_in c.args.links.now.lists) c.args.lower.0 c.args.store.now c.first_dependent-edge.ensures.exact
    c.loop-edge.store (g.A.Agenda.queued c.args.agenda.now) (g.A.Agenda.queued c.loop-edge.agenda) (g.A.Agenda.room c.args.agenda.now)
    (g.A.Agenda.room c.loop-edge.agenda) c.args.work.now c.loop-edge.work c.loop-edge.edge c.in-Some.at c.loop-edge.invariant c.in-Some.is
    c.next_dependent-edge.result (next_on c.loop-edge.store c.raise_one.new.store c.in-Some.at c.next_dependent-edge.result c.raise_one.ensures.keeps.only.dependents c.next_dependent-edge.ensures))
    c.raise_one.ensures.keeps c.in_ok-raise_one.ensures.lifts c.in_ok-raise_one.ensures.queue

pub returns-clause-advances : goal.returns-clause-advances
returns-clause-advances g c =
    reading_ends (eras_in c.args.links.now.lists) c.args.lower.0 c.args.store.now c.first_dependent-edge.ensures.exact
    c.loop-edge.store (g.A.Agenda.queued c.args.agenda.now) (g.A.Agenda.queued c.loop-edge.agenda) (g.A.Agenda.room c.args.agenda.now)
    (g.A.Agenda.room c.loop-edge.agenda) c.args.work.now c.loop-edge.work c.loop-edge.edge c.loop-edge.invariant c.in_default.is
