use Rattle.std.proofs.Common.{subst, sym}
use Rattle.fr_engine.specs.declared.stops.RunStop.{RunStop}
use Rattle.fr_engine.specs.Instant.{ErrsOnceRun}
use Rattle.fr_engine.specs.Stops.{StopsWhere}
use Rattle.fr_engine.proofs.Instants.{has_passed, run_laters, end_stops}
use Rattle.fr_engine.proofs.instant.close_instant.Goals as goal

pub end_instant-requires-clause-empty : goal.end_instant-requires-clause-empty
end_instant-requires-clause-empty g c = (g.C.Choices.sites c.args.choices.now, c.requires.1.empty)

pub end_instant-requires-clause-late : goal.end_instant-requires-clause-late
end_instant-requires-clause-late g c = (g.C.Choices.sites c.args.choices.now, c.requires.1.way.listed.taken)

pub end_instant-requires-clause-wakes : goal.end_instant-requires-clause-wakes
end_instant-requires-clause-wakes g c = (g.C.Choices.sites c.args.choices.now, c.requires.1.way.noted.wakes_taken)

pub end_instant-requires-clause-laters : goal.end_instant-requires-clause-laters
end_instant-requires-clause-laters g c =
    let s = g.C.Choices.sites c.args.choices.now in
    (s, run_laters (g.C.Choices.can c.args.choices.now) (g.C.Choices.plan c.args.choices.now) (g.C.Choices.many c.args.choices.now) c.args.sources.now c.requires.0 (g.N.Nodes.way c.args.nodes.now s) c.args.notes.now c.args.late.now.items c.requires.1)

pub returns-in-Ok-clause-passes : goal.returns-in-Ok-clause-passes
returns-in-Ok-clause-passes g c = λ t r.
    let s = g.C.Choices.sites c.args.choices.now in
    has_passed (g.C.Choices.can c.args.choices.now) (g.C.Choices.plan c.args.choices.now) (g.C.Choices.many c.args.choices.now) c.args.sources.now t (g.N.Nodes.way c.args.nodes.now s) (g.N.Nodes.way c.end_instant.new.nodes s)
    c.args.notes.now c.end_instant.new.notes c.args.late.now.items c.end_instant.new.late.items r (c.is_sound.ensures.small s)
    (c.in-Ok.ensures.ends s (g.C.Choices.plan c.args.choices.now) t.items t.members c.args.sources.now t.old r.way.under r.empty r.way.noted r.way.listed)

pub returns-in-Err-clause-stops : goal.returns-in-Err-clause-stops
returns-in-Err-clause-stops g c =
    let s = g.C.Choices.sites c.args.choices.now in
    subst (λ (why : RunStop). StopsWhere why (ErrsOnceRun (g.C.Choices.can c.args.choices.now) (g.C.Choices.plan c.args.choices.now) (g.C.Choices.many c.args.choices.now) c.args.sources.now (g.N.Nodes.way c.args.nodes.now s) c.args.notes.now c.args.late.now.items)) (sym c.stop_at_end.ensures)
    (end_stops (g.C.Choices.can c.args.choices.now) (g.C.Choices.plan c.args.choices.now) (g.C.Choices.many c.args.choices.now) c.args.sources.now (g.N.Nodes.way c.args.nodes.now s) c.args.notes.now c.args.late.now.items c.in-Err.stop (c.in-Err.ensures.refused s))
