use Rattle.std.proofs.Common.{◌≡◌, ℕ, ◌+◌, ◌≤◌, inr, sym, ap, ◌∙◌, arith}
use Rattle.fr_eras.specs.Heights.{height_at}
use Rattle.fr_eras.proofs.Only.{follows_requeued, height_is, lifted_here, lifted_other, only_lifted}
use Rattle.fr_eras.proofs.raise.raise_one.Goals as goal

pub returns-in_err-raise_queued-clause-keeps : goal.returns-in_err-raise_queued-clause-keeps
returns-in_err-raise_queued-clause-keeps g c = record {
  only = only_lifted c.args.store.now c.lift.new.self c.args.upper.0 (c.node.result.now.height + 1) c.node-2.result.now c.node-2.ensures (c.lift.ensures c.node-2.result.now c.node-2.ensures);
  stays = c.raise_queued.ensures.keeps_room;
  more = omega arith;
}

pub returns-in_err-note-clause-keeps : goal.returns-in_err-note-clause-keeps
returns-in_err-note-clause-keeps g c = record {
  only = only_lifted c.args.store.now c.lift.new.self c.args.upper.0 (c.node.result.now.height + 1) c.node-2.result.now c.node-2.ensures (c.lift.ensures c.node-2.result.now c.node-2.ensures);
  stays = c.raise_queued.ensures.keeps_room;
  more = c.note.ensures.more;
}

pub returns-clause-keeps : goal.returns-clause-keeps
returns-clause-keeps g c = record {
  only = only_lifted c.args.store.now c.lift.new.self c.args.upper.0 (c.node.result.now.height + 1) c.node-2.result.now c.node-2.ensures (c.lift.ensures c.node-2.result.now c.node-2.ensures);
  stays = c.raise_queued.ensures.keeps_room;
  more = c.note.ensures.more;
}

pub returns-clause-lifts : goal.returns-clause-lifts
returns-clause-lifts g c =
    let lower : height_at c.args.store.now c.args.lower.0 ≡ c.node.result.now.height = height_is c.args.store.now c.args.lower.0 c.node.result.now c.node.ensures in
    let upper : height_at c.args.store.now c.args.upper.0 ≡ c.node-2.result.now.height = height_is c.args.store.now c.args.upper.0 c.node-2.result.now c.node-2.ensures in
    let le : c.node-2.result.now.height ≤ c.node.result.now.height = c.if-node-height.false in
    record {
      others = lifted_other c.args.store.now c.lift.new.self c.args.upper.0 (c.node.result.now.height + 1) c.node-2.result.now c.node-2.ensures (c.lift.ensures c.node-2.result.now c.node-2.ensures);
      how = inr (omega arith, lifted_here c.args.store.now c.lift.new.self c.args.upper.0 (c.node.result.now.height + 1) c.node-2.result.now c.node-2.ensures (c.lift.ensures c.node-2.result.now c.node-2.ensures) ∙ ap (λ (n : ℕ). n + 1) (sym lower), c.in_ok-note.ensures.nodes);
    }

pub returns-clause-queue : goal.returns-clause-queue
returns-clause-queue g c =
    follows_requeued c.args.store.now c.lift.new.self c.args.upper.0 (c.node.result.now.height + 1) c.node-2.result.now c.node-2.ensures (c.lift.ensures c.node-2.result.now c.node-2.ensures)
    (g.A.Agenda.queued c.args.agenda.now) (g.A.Agenda.queued c.raise_queued.new.agenda) c.requires.queue c.in_ok-raise_queued.ensures.ok
