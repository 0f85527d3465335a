use Rattle.std.proofs.Common.{◌≡◌, ◌≤◌, ℕ, List, false, true, refl, ap, ◌∙◌, subst}
use Rattle.std.specs.Result.{IsOk}
use Rattle.fr_eras.specs.Lives.{eras_in}
use Rattle.fr_eras.specs.Raise.{noted}
use Rattle.fr_eras.proofs.Whole.{few_nodes, risen_begins, risen_ends, risen_goes_on, risen_less, risen_takes, risen_wants}
use Rattle.fr_eras.proofs.raise.raise_all.Goals as goal

never : {A : Type 0} → false ≡ true → A
never e = cc

pub loop-item-init : goal.loop-item-init
loop-item-init g c =
    risen_begins (eras_in c.args.links.now.lists) c.args.id.0 c.args.store.now (g.A.Agenda.queued c.args.agenda.now) (g.A.Agenda.room c.args.agenda.now) c.args.work.now c.note.new.self
    c.requires.queue c.requires.there (c.in_ok-note.ensures.nodes ∙ ap (λ (w : List ℕ). noted w c.args.id.0) c.clear.ensures.nodes)
    (subst (λ (n : ℕ). n ≤ c.note.new.self.room) c.clear.ensures.room c.note.ensures.more)

pub raise_above-requires-clause-goes_on : goal.raise_above-requires-clause-goes_on
raise_above-requires-clause-goes_on g c =
    risen_takes (eras_in c.args.links.now.lists) c.args.id.0 c.args.store.now c.requires.live c.requires.mild (few_nodes c.args.store.now c.count-nodes.result c.count-nodes.ensures.value c.count-nodes.ensures.below c.count-nodes.ensures.limit) c.requires.levelled c.requires.ordered
    c.loop-item.store (g.A.Agenda.queued c.args.agenda.now) (g.A.Agenda.queued c.loop-item.agenda) (g.A.Agenda.room c.args.agenda.now) (g.A.Agenda.room c.loop-item.agenda) c.args.work.now c.loop-item.work c.loop-item.invariant
    c.in-Some.item c.take.new.self c.in-Some.ensures.taken c.take.ensures.room

pub loop-item-smaller : goal.loop-item-smaller
loop-item-smaller g c =
    risen_less (eras_in c.args.links.now.lists) c.args.id.0 c.args.store.now c.requires.live c.requires.mild (few_nodes c.args.store.now c.count-nodes.result c.count-nodes.ensures.value c.count-nodes.ensures.below c.count-nodes.ensures.limit) c.requires.levelled c.requires.ordered
    c.loop-item.store (g.A.Agenda.queued c.args.agenda.now) (g.A.Agenda.queued c.loop-item.agenda) (g.A.Agenda.room c.args.agenda.now) (g.A.Agenda.room c.loop-item.agenda) c.args.work.now c.loop-item.work c.loop-item.invariant
    c.in-Some.item c.take.new.self c.in-Some.ensures.taken c.take.ensures.room
    c.raise_above.new.store (g.A.Agenda.queued c.raise_above.new.agenda) (g.A.Agenda.room c.raise_above.new.agenda) c.raise_above.new.work c.raise_above.ensures.keeps c.in_ok-raise_above.ensures.advances

pub loop-item-preserved : goal.loop-item-preserved
loop-item-preserved g c =
    risen_goes_on (eras_in c.args.links.now.lists) c.args.id.0 c.args.store.now c.requires.live c.requires.mild (few_nodes c.args.store.now c.count-nodes.result c.count-nodes.ensures.value c.count-nodes.ensures.below c.count-nodes.ensures.limit) c.requires.levelled c.requires.ordered
    c.loop-item.store (g.A.Agenda.queued c.args.agenda.now) (g.A.Agenda.queued c.loop-item.agenda) (g.A.Agenda.room c.args.agenda.now) (g.A.Agenda.room c.loop-item.agenda) c.args.work.now c.loop-item.work c.loop-item.invariant
    c.in-Some.item c.take.new.self c.in-Some.ensures.taken c.take.ensures.room
    c.raise_above.new.store (g.A.Agenda.queued c.raise_above.new.agenda) (g.A.Agenda.room c.raise_above.new.agenda) c.raise_above.new.work c.raise_above.ensures.keeps c.in_ok-raise_above.ensures.advances

pub returns-in_err-raise_above-clause-in_room : goal.returns-in_err-raise_above-clause-in_room
returns-in_err-raise_above-clause-in_room g c =
    risen_wants (eras_in c.args.links.now.lists) c.args.id.0 c.args.store.now c.requires.live c.requires.mild (few_nodes c.args.store.now c.count-nodes.result c.count-nodes.ensures.value c.count-nodes.ensures.below c.count-nodes.ensures.limit) c.requires.levelled c.requires.ordered
    c.loop-item.store (g.A.Agenda.queued c.args.agenda.now) (g.A.Agenda.queued c.loop-item.agenda) (g.A.Agenda.room c.args.agenda.now) (g.A.Agenda.room c.loop-item.agenda) c.args.work.now c.loop-item.work c.loop-item.invariant
    c.in-Some.item c.take.new.self c.in-Some.ensures.taken c.take.ensures.room
    (IsOk c.from_residual-in_err-raise_above.result) (λ base only r has. never (c.in_err-raise_above.ensures.in_room base only r has))

pub returns-clause-raised : goal.returns-clause-raised
returns-clause-raised g c =
    risen_ends (eras_in c.args.links.now.lists) c.args.id.0 c.args.store.now c.requires.live c.requires.mild (few_nodes c.args.store.now c.count-nodes.result c.count-nodes.ensures.value c.count-nodes.ensures.below c.count-nodes.ensures.limit) c.requires.levelled c.requires.ordered
    c.loop-item.store (g.A.Agenda.queued c.args.agenda.now) (g.A.Agenda.queued c.loop-item.agenda) (g.A.Agenda.room c.args.agenda.now) (g.A.Agenda.room c.loop-item.agenda) c.args.work.now c.loop-item.work c.loop-item.invariant (c.in_default.ensures.none refl)
