use Rattle.std.proofs.Common.{◌++◌, ap, subst, List, IfErr, refl}
use Rattle.fr_value.specs.declared.now.Held.{Held}
use Rattle.fr_store.specs.declared.node.Code.TheVariants.{Kern}
use Rattle.fr_store.specs.declared.node.NodeKind.TheVariants.{Kernel}
use Rattle.fr_graph.specs.Graph.{Part, runs}
use Rattle.fr_graph.specs.Walk.{slot_parts}
use Rattle.fr_nodes.specs.Kinds.{parts_of}
use Rattle.fr_build.specs.Ready.{plan_of}
use Rattle.fr_build.specs.Builds.{WorkStops}
use Rattle.std.proofs.Common.{◌≡◌, ◌+◌, IfOk}
use Rattle.fr_sums.specs.Spent.{build_work}
use Rattle.fr_build.specs.Stops.{CostsMore}
use Rattle.fr_build.proofs.Told.{plain_stops, plain_paid, plain_fuel}
use Rattle.fr_build.proofs.works.build_region.Goals as goal

pub returns-clause-stops : goal.returns-clause-stops
returns-clause-stops g c =
    let planned = c.args.setting.now.plan.now in
    let below = c.args.setting.now.below in
    let work = runs c.args.id.0 in
    let slots = slot_parts (plan_of planned) (parts_of c.args.env.now) c.args.slots.now in
    subst (λ (ps : List Part). IfErr c.plain_work.result (λ stop. WorkStops planned below work ps stop))
    (ap (λ (hs : List Held). parts_of hs ++ slots) c.new.ensures)
    (subst (λ (ps : List Part). IfErr c.plain_work.result (λ stop. WorkStops planned below work ps stop)) c.in_ok-inputs.ensures
    (subst (λ (hs : List Held). IfErr c.plain_work.result (λ stop. WorkStops planned below work (parts_of hs) stop)) c.as_slice.ensures
    (plain_stops planned below (parts_of c.as_slice.result.now) (Kernel (Kern c.args.id)) work c.plain_work.result refl c.plain_work.ensures.stops)))

pub returns-clause-paid : goal.returns-clause-paid
returns-clause-paid g c =
    let planned = c.args.setting.now.plan.now in
    let below = c.args.setting.now.below in
    let work = runs c.args.id.0 in
    let slots = slot_parts (plan_of planned) (parts_of c.args.env.now) c.args.slots.now in
    subst (λ (ps : List Part). IfOk c.plain_work.result (λ held. c.plain_work.new.runner.fuel.left + build_work (plan_of planned) below work ps ≡ c.args.runner.now.fuel.left))
    (ap (λ (hs : List Held). parts_of hs ++ slots) c.new.ensures)
    (subst (λ (ps : List Part). IfOk c.plain_work.result (λ held. c.plain_work.new.runner.fuel.left + build_work (plan_of planned) below work ps ≡ c.args.runner.now.fuel.left)) c.in_ok-inputs.ensures
    (subst (λ (hs : List Held). IfOk c.plain_work.result (λ held. c.plain_work.new.runner.fuel.left + build_work (plan_of planned) below work (parts_of hs) ≡ c.args.runner.now.fuel.left)) c.as_slice.ensures
    (plain_paid planned below (parts_of c.as_slice.result.now) (Kernel (Kern c.args.id)) work c.plain_work.result c.args.runner.now.fuel.left c.plain_work.new.runner.fuel.left refl c.plain_work.ensures.paid)))

pub returns-clause-fuel : goal.returns-clause-fuel
returns-clause-fuel g c =
    let planned = c.args.setting.now.plan.now in
    let below = c.args.setting.now.below in
    let work = runs c.args.id.0 in
    let slots = slot_parts (plan_of planned) (parts_of c.args.env.now) c.args.slots.now in
    subst (λ (ps : List Part). IfErr c.plain_work.result (λ stop. CostsMore stop c.args.runner.now.fuel.left (build_work (plan_of planned) below work ps)))
    (ap (λ (hs : List Held). parts_of hs ++ slots) c.new.ensures)
    (subst (λ (ps : List Part). IfErr c.plain_work.result (λ stop. CostsMore stop c.args.runner.now.fuel.left (build_work (plan_of planned) below work ps))) c.in_ok-inputs.ensures
    (subst (λ (hs : List Held). IfErr c.plain_work.result (λ stop. CostsMore stop c.args.runner.now.fuel.left (build_work (plan_of planned) below work (parts_of hs)))) c.as_slice.ensures
    (plain_fuel planned below (parts_of c.as_slice.result.now) (Kernel (Kern c.args.id)) work c.plain_work.result c.args.runner.now.fuel.left refl c.plain_work.ensures.fuel)))
