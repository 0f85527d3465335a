use Rattle.std.proofs.Common.{refl}
use Rattle.std.proofs.lemmas.Result.{err_from_is_err_and}
use Rattle.fr_store.specs.Nodes.{most_nodes}
use Rattle.fr_engine.proofs.Counting.{undone_falls}
use Rattle.fr_engine.proofs.Dealing.{none_taken, run_stops, number_small}
use Rattle.fr_engine.proofs.running.run.Goals as goal

pub returns-in_default-clause-runs : goal.returns-in_default-clause-runs
returns-in_default-clause-runs g c = λ t o.
    let s = g.C.Choices.sites c.args.choices.now in
    none_taken (g.C.Choices.can c.args.choices.now) (g.C.Choices.plan c.args.choices.now) (g.C.Choices.many c.args.choices.now) c.args.sources.now t (g.N.Nodes.way c.taking.nodes s) (g.N.Nodes.way c.take.new.self s) c.taking.notes c.taking.late.items (c.in_default.ensures.none refl s) (c.taking.invariant.from t o)

pub taking-smaller : goal.taking-smaller
taking-smaller g c =
    let s = g.C.Choices.sites c.args.choices.now in
    let tk = c.in-Some.ensures.taken s in
    let stepped = c.in_ok-step.ensures.steps c.taking.invariant.is.0 (g.N.Nodes.way c.taking.nodes s) c.taking.invariant.is.1 tk in
    undone_falls most_nodes (g.N.Nodes.way c.taking.nodes s) (g.N.Nodes.way c.step.new.nodes s) c.in-Some.id.0
    (number_small (g.N.Nodes.way c.taking.nodes) c.is_sound.ensures s (g.N.Nodes.way c.take.new.self s) c.in-Some.id.0 tk) stepped.advances

pub taking-preserved : goal.taking-preserved
taking-preserved g c =
    let s = g.C.Choices.sites c.args.choices.now in
    let tk = c.in-Some.ensures.taken s in
    let steps = c.in_ok-step.ensures.steps in
    record {
      is = (c.taking.invariant.is.0, (steps c.taking.invariant.is.0 (g.N.Nodes.way c.taking.nodes s) c.taking.invariant.is.1 tk).goes_on);
      from = λ t o. (steps t (g.N.Nodes.way c.taking.nodes s) (c.taking.invariant.from t o) tk).goes_on;
    }

pub returns-in_err-step-clause-stops : goal.returns-in_err-step-clause-stops
returns-in_err-step-clause-stops g c =
    let s = g.C.Choices.sites c.args.choices.now in
    let p = err_from_is_err_and c.from_residual.result c.from_residual.ensures.1 in
    rw (p.1, p.2) (run_stops (g.C.Choices.can c.args.choices.now) (g.C.Choices.plan c.args.choices.now) (g.C.Choices.many c.args.choices.now) c.args.sources.now (g.N.Nodes.way c.args.nodes.now s) (g.N.Nodes.way c.taking.nodes s) (g.N.Nodes.way c.take.new.self s) c.in-Some.id.0 c.args.notes.now c.taking.notes c.args.late.now.items c.taking.late.items
    c.taking.invariant (c.in-Some.ensures.taken s) c.in_err-step.field-0.0 c.in_err-step.ensures.stops)
