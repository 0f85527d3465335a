use Rattle.std.proofs.Common.{◌≡◌, ◌-◌, ℕ, subst, sym, ◌∙◌, Option, Some, None}
use Rattle.fr_meaning.specs.Cells.{Cell}
use Rattle.fr_meaning.specs.Evaluation.{most_levels}
use Rattle.fr_forms.specs.Lent.{earlier}
use Rattle.fr_graph.specs.Graph.{Work, work_line}
use Rattle.fr_events.specs.Works.{graph_work, cell_at}
use Rattle.fr_events.specs.Steps.{StepRan}
use Rattle.fr_events.proofs.stepping.step.Goals as goal

pub returns-in-None : goal.returns-in-None
returns-in-None c = λ w e. absurd (let n : Path (Option Work) None (Some w) = c.in-None.ensures ∙ e in cc)

pub returns-in-Some : goal.returns-in-Some
returns-in-Some c = λ w e.
    let t = c.args.table.now in
    let own = graph_work c.in-Some.work in
    let levels = most_levels - c.args.nest in
    let same : own ≡ w = (let p : Path (Option Work) (Some own) (Some w) = c.in-Some.ensures ∙ e in cc) in
    subst (λ (v : Work). StepRan c.step_work.result c.args.fuel.now.left c.step_work.new.fuel.left (work_line t levels v (cell_at c.args.cell) c.args.inputs.now)) same
    (subst (λ (o : Option Cell). StepRan c.step_work.result c.args.fuel.now.left c.step_work.new.fuel.left (work_line t levels own o c.args.inputs.now)) c.lent_cell.ensures
    (subst (λ (n : ℕ). StepRan c.step_work.result c.args.fuel.now.left c.step_work.new.fuel.left (work_line t n own (earlier c.lent_cell.result) c.args.inputs.now)) c.levels_below.ensures c.step_work.ensures))

pub step_work-requires-clause-kernel : goal.step_work-requires-clause-kernel
step_work-requires-clause-kernel c = c.requires.kernel (graph_work c.in-Some.work) (sym c.in-Some.ensures)
