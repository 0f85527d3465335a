use Rattle.std.proofs.Common.{◌∙◌}
use Rattle.std.proofs.lemmas.Result.{err_from_is_err_and}
use Rattle.fr_store.specs.Nodes.{most_nodes}
use Rattle.fr_engine.proofs.Turned.{live_at, lives_taken, can_renew, result_there, lead_at, led_lives, few_of, queue_of, turned_by, turn_stops}
use Rattle.fr_engine.proofs.turning.turn.Goals as goal

pub set-requires : goal.set-requires
set-requires g c = λ s. live_at (g.N.Nodes.way c.args.nodes.now) c.is_sound.ensures (g.C.Choices.sites c.args.choices.now) s c.args.watch.0 (lives_taken _ _ _ _ _ _ _ _ _ _ _ c.requires.1.1.1)

pub result_of-id-requires-clause-there : goal.result_of-id-requires-clause-there
result_of-id-requires-clause-there g c = λ s. (c.set.ensures.writes s).shape.live c.args.watch.0
    ∙ live_at (g.N.Nodes.way c.args.nodes.now) c.is_sound.ensures (g.C.Choices.sites c.args.choices.now) s c.args.watch.0 (lives_taken _ _ _ _ _ _ _ _ _ _ _ c.requires.1.1.1)

pub result_of-id-requires-clause-result : goal.result_of-id-requires-clause-result
result_of-id-requires-clause-result g c = (g.C.Choices.sites c.args.choices.now, result_there _ _ _ _ _ _ _ _ _ _ _ _ c.requires.1.1.1 (c.set.ensures.writes (g.C.Choices.sites c.args.choices.now)))

pub renew-requires : goal.renew-requires
renew-requires g c = can_renew _ _ _ _ _ _ _ _ _ _ _ _ c.requires.1.1.1 (c.set.ensures.writes (g.C.Choices.sites c.args.choices.now))

pub lead-requires : goal.lead-requires
lead-requires g c =
    let s = g.C.Choices.sites c.args.choices.now in
    let way = g.N.Nodes.way c.renew.new.nodes in (
      s,
      (
        c.requires.1.1.1.takes.height,
        lead_at _ _ _ _ _ _ _ _ _ _ _ _ c.requires.1.1.1 (c.set.ensures.writes s) _ _ _ _ c.in_ok-part.ensures.renews c.result_of-id.result.0 (c.result_of-id.ensures s)
            most_nodes (few_of way c.is_sound-3.ensures s) (c.is_sound-3.ensures.taken s) (queue_of way c.is_sound-3.ensures s),
      ),
    )

pub queue-requires : goal.queue-requires
queue-requires g c = λ any.
    let s = g.C.Choices.sites c.args.choices.now in
    let way = g.N.Nodes.way c.renew.new.nodes in
    let can = lead_at _ _ _ _ _ _ _ _ _ _ _ _ c.requires.1.1.1 (c.set.ensures.writes s) _ _ _ _ c.in_ok-part.ensures.renews c.result_of-id.result.0 (c.result_of-id.ensures s)
    most_nodes (few_of way c.is_sound-3.ensures s) (c.is_sound-3.ensures.taken s) (queue_of way c.is_sound-3.ensures s) in
    live_at (g.N.Nodes.way c.lead.new.nodes) c.is_sound-4.ensures s any c.result_of-id.result.0 (led_lives _ _ _ _ _ can (c.in_ok-lead.ensures s _ can))

pub returns-clause-turned : goal.returns-clause-turned
returns-clause-turned g c = λ t sources at turns.
    let s = g.C.Choices.sites c.args.choices.now in
    let way = g.N.Nodes.way c.renew.new.nodes in
    turned_by _ _ _ _ _ _ _ _ _ _ _ _ turns (c.set.ensures.writes s) _ _ _ _ c.in_ok-part.ensures.renews c.result_of-id.result.0 (c.result_of-id.ensures s)
    most_nodes (few_of way c.is_sound-3.ensures s) (c.is_sound-3.ensures.taken s) (queue_of way c.is_sound-3.ensures s)
    (g.N.Nodes.way c.lead.new.nodes s) (g.N.Nodes.way c.queue.new.self s) (λ k can. c.in_ok-lead.ensures s k can) (c.in_ok-queue.ensures.queues s)

pub returns-in_err-part-clause-stops : goal.returns-in_err-part-clause-stops
returns-in_err-part-clause-stops g c =
    let s = g.C.Choices.sites c.args.choices.now in
    let p = err_from_is_err_and c.from_residual.result c.from_residual.ensures.1 in
    rw (p.1, p.2) (turn_stops (g.C.Choices.can c.args.choices.now) (g.C.Choices.plan c.args.choices.now) (g.C.Choices.many c.args.choices.now) _ _ _ _ _ c.args.holds c.in_err-part.field-0.0 (c.set.ensures.writes s) c.in_err-part.ensures.stops)
