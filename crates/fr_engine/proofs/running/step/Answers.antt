use Rattle.std.proofs.Common.{subst, sym}
use Rattle.std.proofs.lemmas.Result.{err_from_is_err_and}
use Rattle.fr_kernel.specs.Kernels.{Kernels}
use Rattle.fr_engine.specs.declared.stops.RunStop.{RunStop}
use Rattle.fr_engine.specs.Moment.{Moment}
use Rattle.fr_engine.specs.Rules.{Computed}
use Rattle.fr_engine.specs.Running.{ErrsOnTheWay, IsOnItsWay}
use Rattle.fr_engine.specs.Stops.{StopsWhere}
use Rattle.fr_nodes.specs.Signals.{TakesOut}
use Rattle.fr_way.specs.Way.{Way}
use Rattle.fr_engine.proofs.Turned.{live_at}
use Rattle.fr_engine.proofs.Dealing.{lives_there, inputs_there, kernels_there, step_stops, compute_errs}
use Rattle.fr_engine.proofs.running.step.Goals as goal

pub compute-requires-clause-there : goal.compute-requires-clause-there
compute-requires-clause-there g c = λ any. let s = g.C.Choices.sites c.args.choices.now in let o = c.requires.1.1.0 in let tk = c.requires.1.1.1 in
    live_at (g.N.Nodes.way c.args.nodes.now) c.is_sound.ensures s any c.args.id.0 (lives_there _ _ _ _ _ _ _ _ _ _ o tk)

pub compute-requires-clause-inputs : goal.compute-requires-clause-inputs
compute-requires-clause-inputs g c = let s = g.C.Choices.sites c.args.choices.now in let o = c.requires.1.1.0 in let tk = c.requires.1.1.1 in (s, inputs_there _ _ _ _ _ _ _ _ _ _ o tk)

pub compute-requires-clause-kernels : goal.compute-requires-clause-kernels
compute-requires-clause-kernels g c = let s = g.C.Choices.sites c.args.choices.now in let o = c.requires.1.1.0 in let tk = c.requires.1.1.1 in (s, kernels_there _ _ _ _ _ _ _ _ _ _ o tk c.table-table.result.now c.table-table.ensures)

pub deal-requires : goal.deal-requires
deal-requires g c = let s = g.C.Choices.sites c.args.choices.now in let o = c.requires.1.1.0 in let tk = c.requires.1.1.1 in (
  c.requires.0,
  (
    c.requires.1.0,
    record {
      way = o;
      takes = tk;
      before = c.args.fuel.now.left;
      after = c.compute.new.fuel.left;
      computed = subst (λ (k : Kernels). Computed c.in-Ok.computed c.args.fuel.now.left c.compute.new.fuel.left k c.args.sources.now (g.N.Nodes.way c.args.nodes.now s) c.args.id.0) c.table-table.ensures (c.in-Ok.ensures s);
    },
  ),
)

pub returns-in_err-deal-in-Ok-clause-stops : goal.returns-in_err-deal-in-Ok-clause-stops
returns-in_err-deal-in-Ok-clause-stops g c =
    let s = g.C.Choices.sites c.args.choices.now in
    let p = err_from_is_err_and c.from_residual.result c.from_residual.ensures.1 in
    rw (p.1, p.2) (step_stops (g.C.Choices.can c.args.choices.now) (g.C.Choices.plan c.args.choices.now) (g.C.Choices.many c.args.choices.now) c.args.sources.now (g.N.Nodes.way c.args.nodes.now s) c.args.id.0 c.args.notes.now c.args.late.now.items c.in-Ok.computed c.args.fuel.now.left c.compute.new.fuel.left
    (subst (λ (k : Kernels). Computed c.in-Ok.computed c.args.fuel.now.left c.compute.new.fuel.left k c.args.sources.now (g.N.Nodes.way c.args.nodes.now s) c.args.id.0) c.table-table.ensures (c.in-Ok.ensures s))
    c.in_err-deal-in-Ok.field-0.0 c.in_err-deal-in-Ok.ensures.stops)

pub returns-in-Err-clause-stops : goal.returns-in-Err-clause-stops
returns-in-Err-clause-stops g c =
    let s = g.C.Choices.sites c.args.choices.now in
    subst (λ (why : RunStop). StopsWhere why ((t : Moment) (at : Way) → IsOnItsWay (g.C.Choices.can c.args.choices.now) (g.C.Choices.plan c.args.choices.now) (g.C.Choices.many c.args.choices.now) c.args.sources.now t at c.args.notes.now c.args.late.now.items → TakesOut at (g.N.Nodes.way c.args.nodes.now s) c.args.id.0 → ErrsOnTheWay (g.C.Choices.plan c.args.choices.now) c.args.sources.now t)) (sym c.stop_of.ensures)
    (compute_errs (g.C.Choices.can c.args.choices.now) (g.C.Choices.plan c.args.choices.now) (g.C.Choices.many c.args.choices.now) c.args.sources.now (g.N.Nodes.way c.args.nodes.now s) c.args.id.0 c.args.notes.now c.args.late.now.items c.in-Err.stop c.args.fuel.now.left c.compute.new.fuel.left c.table-table.result.now c.table-table.ensures (c.in-Err.ensures s))

pub returns-in_ok-deal-in-Ok-clause-steps : goal.returns-in_ok-deal-in-Ok-clause-steps
returns-in_ok-deal-in-Ok-clause-steps g c = λ t at o tk.
    let s = g.C.Choices.sites c.args.choices.now in
    c.in_ok-deal-in-Ok.ensures.steps t at (record {
      way = o;
      takes = tk;
      before = c.args.fuel.now.left;
      after = c.compute.new.fuel.left;
      computed = subst (λ (k : Kernels). Computed c.in-Ok.computed c.args.fuel.now.left c.compute.new.fuel.left k c.args.sources.now (g.N.Nodes.way c.args.nodes.now s) c.args.id.0) c.table-table.ensures (c.in-Ok.ensures s);
    })
