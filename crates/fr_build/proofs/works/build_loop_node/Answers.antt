use Rattle.std.proofs.Common.{ap, ◌∙◌, subst, List, IfErr}
use Rattle.fr_graph.specs.Graph.{Part, loops}
use Rattle.fr_nodes.specs.Kinds.{parts_of}
use Rattle.fr_build.specs.Ready.{plan_of}
use Rattle.fr_build.specs.Builds.{WorkStops}
use Rattle.std.proofs.Common.{◌≡◌, ◌+◌, IfOk}
use Rattle.fr_sums.specs.Spent.{build_work}
use Rattle.fr_build.specs.Stops.{CostsMore}
use Rattle.fr_build.proofs.Told.{plain_stops, plain_paid, plain_fuel}
use Rattle.fr_build.proofs.works.build_loop_node.Goals as goal

pub returns-clause-stops : goal.returns-clause-stops
returns-clause-stops g c =
    let planned = c.args.setting.now.plan.now in
    let below = c.args.setting.now.below in
    let work = loops c.args.looped c.args.body.0 in
    subst (λ (ps : List Part). IfErr c.plain_work.result (λ stop. WorkStops planned below work ps stop)) (ap parts_of c.as_slice.ensures ∙ c.in_ok-inputs.ensures)
    (plain_stops planned below (parts_of c.as_slice.result.now) c.loop_kind-kind.result work c.plain_work.result c.loop_kind-kind.ensures c.plain_work.ensures.stops)

pub returns-clause-paid : goal.returns-clause-paid
returns-clause-paid g c =
    let planned = c.args.setting.now.plan.now in
    let below = c.args.setting.now.below in
    let work = loops c.args.looped c.args.body.0 in
    subst (λ (ps : List Part). IfOk c.plain_work.result (λ held. c.plain_work.new.runner.fuel.left + build_work (plan_of planned) below work ps ≡ c.args.runner.now.fuel.left)) (ap parts_of c.as_slice.ensures ∙ c.in_ok-inputs.ensures)
    (plain_paid planned below (parts_of c.as_slice.result.now) c.loop_kind-kind.result work c.plain_work.result c.args.runner.now.fuel.left c.plain_work.new.runner.fuel.left c.loop_kind-kind.ensures c.plain_work.ensures.paid)

pub returns-clause-fuel : goal.returns-clause-fuel
returns-clause-fuel g c =
    let planned = c.args.setting.now.plan.now in
    let below = c.args.setting.now.below in
    let work = loops c.args.looped c.args.body.0 in
    subst (λ (ps : List Part). IfErr c.plain_work.result (λ stop. CostsMore stop c.args.runner.now.fuel.left (build_work (plan_of planned) below work ps))) (ap parts_of c.as_slice.ensures ∙ c.in_ok-inputs.ensures)
    (plain_fuel planned below (parts_of c.as_slice.result.now) c.loop_kind-kind.result work c.plain_work.result c.args.runner.now.fuel.left c.loop_kind-kind.ensures c.plain_work.ensures.fuel)
