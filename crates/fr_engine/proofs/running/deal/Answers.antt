use Rattle.std.proofs.lemmas.Result.{err_from_is_err_and}
use Rattle.fr_engine.proofs.Turned.{live_at}
use Rattle.fr_engine.proofs.Dealing.{lives_there, key_there, can_turn, turn_steps, settle_steps, deal_stops}
use Rattle.fr_engine.proofs.running.deal.Goals as goal

pub turning_key-requires-clause-there : goal.turning_key-requires-clause-there
turning_key-requires-clause-there g c = λ s. let d = c.requires.1.1 in
    live_at (g.N.Nodes.way c.args.nodes.now) c.is_sound.ensures (g.C.Choices.sites c.args.choices.now) s c.args.id.0 (lives_there _ _ _ _ _ _ _ _ _ _ d.way d.takes)

pub settle-requires : goal.settle-requires
settle-requires g c = λ s. let d = c.requires.1.1 in
    live_at (g.N.Nodes.way c.args.nodes.now) c.is_sound.ensures (g.C.Choices.sites c.args.choices.now) s c.args.id.0 (lives_there _ _ _ _ _ _ _ _ _ _ d.way d.takes)

pub turning_key-requires-clause-key : goal.turning_key-requires-clause-key
turning_key-requires-clause-key g c = let d = c.requires.1.1 in
    (g.C.Choices.sites c.args.choices.now, key_there _ _ _ _ _ _ _ _ _ _ d.way d.takes _ _ _ d.computed)

pub turn-requires : goal.turn-requires
turn-requires g c = let d = c.requires.1.1 in (
  c.requires.0,
  (
    c.args.sources.now,
    (
      c.requires.1.0,
      can_turn _ _ _ _ _ _ _ _ _ _ d.way d.takes _ _ _ d.computed c.in-Some.holds (c.in-Some.ensures (g.C.Choices.sites c.args.choices.now)),
    ),
  ),
)

pub returns-in_err-turn-in-Some-clause-stops : goal.returns-in_err-turn-in-Some-clause-stops
returns-in_err-turn-in-Some-clause-stops g c =
    let s = g.C.Choices.sites c.args.choices.now in
    let p = err_from_is_err_and c.from_residual-in_err-turn-in-Some.result c.from_residual-in_err-turn-in-Some.ensures.1 in
    rw (p.1, p.2) (deal_stops (g.C.Choices.can c.args.choices.now) (g.C.Choices.plan c.args.choices.now) (g.C.Choices.many c.args.choices.now) c.args.sources.now (g.N.Nodes.way c.args.nodes.now s) c.args.id.0 c.args.notes.now c.args.late.now.items c.args.computed c.in-Some.holds (c.in-Some.ensures s) c.in_err-turn-in-Some.field-0.0 c.in_err-turn-in-Some.ensures.stops)

pub returns-in_ok-turn-in-Some-clause-steps : goal.returns-in_ok-turn-in-Some-clause-steps
returns-in_ok-turn-in-Some-clause-steps g c = λ t at d.
    let s = g.C.Choices.sites c.args.choices.now in
    turn_steps (g.C.Choices.can c.args.choices.now) (g.C.Choices.plan c.args.choices.now) (g.C.Choices.many c.args.choices.now) c.args.sources.now t at (g.N.Nodes.way c.args.nodes.now s) c.args.id.0 c.args.notes.now c.args.late.now.items d.way d.takes c.args.computed d.before d.after d.computed
    (g.N.Nodes.way c.turn.new.nodes s) c.note_change.new.notes c.turn.new.late.items c.in_ok-note_change-in-Some.ensures
    (c.in_ok-turn-in-Some.ensures.turned t c.args.sources.now at (can_turn (g.C.Choices.can c.args.choices.now) (g.C.Choices.plan c.args.choices.now) (g.C.Choices.many c.args.choices.now) c.args.sources.now t at (g.N.Nodes.way c.args.nodes.now s) c.args.id.0 c.args.notes.now c.args.late.now.items d.way d.takes c.args.computed d.before d.after d.computed c.in-Some.holds (c.in-Some.ensures s)))

pub returns-in_ok-settle-in-None-clause-steps : goal.returns-in_ok-settle-in-None-clause-steps
returns-in_ok-settle-in-None-clause-steps g c = λ t at d.
    let s = g.C.Choices.sites c.args.choices.now in
    settle_steps (g.C.Choices.can c.args.choices.now) (g.C.Choices.plan c.args.choices.now) (g.C.Choices.many c.args.choices.now) c.args.sources.now t at (g.N.Nodes.way c.args.nodes.now s) c.args.id.0 c.args.notes.now c.args.late.now.items d.way d.takes c.args.computed d.before d.after d.computed
    (c.in-None.ensures s) (g.N.Nodes.way c.settle.new.nodes s) c.settle.new.notes (c.in_ok-settle-in-None.ensures.settles s) (c.in_ok-settle-in-None.ensures.noted s)
