use Rattle.std.proofs.Common.{inl}
use Rattle.std.proofs.lemmas.Result.{err_from_is_err_and}
use Rattle.fr_engine.specs.declared.stops.RunStop.{RunStop}
use Rattle.fr_engine.specs.Instant.{ErrsOnceRun, ErrsOnceUnderWay}
use Rattle.fr_engine.specs.Moment.{Moment}
use Rattle.fr_engine.specs.Running.{ErrsOnTheWay, IsOnItsWay}
use Rattle.fr_engine.specs.Stops.{StopsWhere}
use Rattle.fr_engine.proofs.Ended.{on_err}
use Rattle.fr_engine.proofs.Settled.{on_ok}
use Rattle.fr_engine.proofs.Instants.{stops_on}
use Rattle.fr_engine.proofs.instant.pass.Goals as goal

pub close_instant-requires : goal.close_instant-requires
close_instant-requires g c = (c.requires.0, c.in_ok-run.ensures.runs c.requires.0 c.requires.1)

pub returns-in_err-run-clause-stops : goal.returns-in_err-run-clause-stops
returns-in_err-run-clause-stops g c =
    let s = g.C.Choices.sites c.args.choices.now in
    let p = err_from_is_err_and c.from_residual.result c.from_residual.ensures.1 in
    rw (p.1, p.2) (stops_on
    ((t : Moment) → IsOnItsWay (g.C.Choices.can c.args.choices.now) (g.C.Choices.plan c.args.choices.now) (g.C.Choices.many c.args.choices.now) c.args.sources.now t (g.N.Nodes.way c.args.nodes.now s) c.args.notes.now c.args.late.now.items → ErrsOnTheWay (g.C.Choices.plan c.args.choices.now) c.args.sources.now t)
    (ErrsOnceUnderWay (g.C.Choices.can c.args.choices.now) (g.C.Choices.plan c.args.choices.now) (g.C.Choices.many c.args.choices.now) c.args.sources.now (g.N.Nodes.way c.args.nodes.now s) c.args.notes.now c.args.late.now.items)
    c.in_err-run.field-0.0 (λ f t o. inl (f t o)) c.in_err-run.ensures.stops)

pub returns-clause-passes : goal.returns-clause-passes
returns-clause-passes g c = on_ok c.close_instant.result (λ f t o. f t (c.in_ok-run.ensures.runs t o)) c.close_instant.ensures.passes

pub returns-clause-stops : goal.returns-clause-stops
returns-clause-stops g c =
    let s = g.C.Choices.sites c.args.choices.now in
    let Late : Type 0 = ErrsOnceRun (g.C.Choices.can c.args.choices.now) (g.C.Choices.plan c.args.choices.now) (g.C.Choices.many c.args.choices.now) c.args.sources.now (g.N.Nodes.way c.run.new.nodes s) c.run.new.notes c.run.new.late.items in
    let Whole : Type 0 = ErrsOnceUnderWay (g.C.Choices.can c.args.choices.now) (g.C.Choices.plan c.args.choices.now) (g.C.Choices.many c.args.choices.now) c.args.sources.now (g.N.Nodes.way c.args.nodes.now s) c.args.notes.now c.args.late.now.items in
    on_err c.close_instant.result (λ (why : RunStop). StopsWhere why Late) (λ (why : RunStop). StopsWhere why Whole)
    (λ why h. stops_on Late Whole why (λ f t o. f t (c.in_ok-run.ensures.runs t o)) h) c.close_instant.ensures.stops
