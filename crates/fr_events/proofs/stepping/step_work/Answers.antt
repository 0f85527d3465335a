use Rattle.std.proofs.Common.{subst, sym}
use Rattle.fr_forms.specs.Lent.{earlier}
use Rattle.fr_graph.specs.Graph.{work_line}
use Rattle.fr_events.specs.declared.works.NodeWork.{NodeWork}
use Rattle.fr_events.specs.Works.{graph_work}
use Rattle.fr_events.specs.Steps.{StepRan}
use Rattle.fr_events.proofs.stepping.step_work.Goals as goal

pub returns-in-Loops : goal.returns-in-Loops
returns-in-Loops c =
    subst (λ (w : NodeWork). StepRan c.step_loop.result c.args.fuel.now.left c.step_loop.new.fuel.left (work_line c.args.table.now c.args.levels (graph_work w) (earlier c.args.cell) c.args.inputs.now))
    (sym c.in-Loops.is) (c.step_loop.ensures (earlier c.args.cell))

pub returns-in-Runs : goal.returns-in-Runs
returns-in-Runs c =
    subst (λ (w : NodeWork). StepRan c.step_kernel.result c.args.fuel.now.left c.step_kernel.new.fuel.left (work_line c.args.table.now c.args.levels (graph_work w) (earlier c.args.cell) c.args.inputs.now))
    (sym c.in-Runs.is) (c.step_kernel.ensures (earlier c.args.cell))

pub returns-in-Feeds : goal.returns-in-Feeds
returns-in-Feeds c =
    subst (λ (w : NodeWork). StepRan c.step_feeds.result c.args.fuel.now.left c.args.fuel.now.left (work_line c.args.table.now c.args.levels (graph_work w) (earlier c.args.cell) c.args.inputs.now))
    (sym c.in-Feeds.is) (c.step_feeds.ensures c.args.fuel.now.left c.args.table.now c.args.levels)
