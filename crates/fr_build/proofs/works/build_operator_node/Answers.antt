use Rattle.std.proofs.Common.{◌++◌, ◌&&◌, Bool, [], length, ap, sym, ◌∙◌, append-nil, arith, take, Option, None}
use Rattle.std.specs.Option.{option_map, option_copied}
use Rattle.fr_value.specs.declared.now.Held.{Held}
use Rattle.fr_core.specs.declared.core_form.Operator.{Operator}
use Rattle.fr_graph.specs.Graph.{operates, is_plain}
use Rattle.fr_graph.specs.Walk.{all_steady}
use Rattle.fr_graph.specs.Wired.{inputs_of, later_of}
use Rattle.fr_nodes.specs.Kinds.{part_of, parts_of}
use Rattle.fr_build.specs.Works.{behind_of}
use Rattle.fr_build.proofs.Told.{plain_told, plain_stops, plain_paid, plain_fuel, node_told, node_stops, node_paid, node_fuel}
use Rattle.fr_build.proofs.Varying.{got, delay_two, delay_one, delay_scope, delay_scope_e, delay_inputs, part_at, other_varies, other_inputs}
use Rattle.fr_build.proofs.works.build_operator_node.Goals as goal

pub returns-in-Prim-clause-builds : goal.returns-in-Prim-clause-builds
returns-in-Prim-clause-builds g c =
    plain_told c.args.setting.now.plan.now c.args.setting.now.below (parts_of c.args.parts.now) c.operator_kind-kind.result (operates c.args.operator) c.plain_work.result
    (g.N.Nodes.way c.args.nodes.now) (g.N.Nodes.way c.plain_work.new.nodes) c.args.setting.now.era.0 c.operator_kind-kind.ensures c.plain_work.ensures.builds

pub returns-in-Prim-clause-stops : goal.returns-in-Prim-clause-stops
returns-in-Prim-clause-stops g c =
    plain_stops c.args.setting.now.plan.now c.args.setting.now.below (parts_of c.args.parts.now) c.operator_kind-kind.result (operates c.args.operator) c.plain_work.result c.operator_kind-kind.ensures
    c.plain_work.ensures.stops

pub returns-in-Delay-clause-builds : goal.returns-in-Delay-clause-builds
returns-in-Delay-clause-builds g c =
    let hs = c.args.parts.now in
    let ps = parts_of hs in
    let look = c.get.ensures.lookup in
    let two = delay_two c.args.operator (length hs) c.in-Delay.is c.requires.takes in
    let last = got hs 1 c.get.result (omega arith) look.2 look.1 in
    node_told c.args.setting.now.plan.now c.args.setting.now.below ps c.operator_kind-kind.result (operates c.args.operator) c.varying_work.result
    (g.N.Nodes.way c.args.nodes.now) (g.N.Nodes.way c.varying_work.new.nodes) c.args.setting.now.era.0 c.operator_kind-kind.ensures
    (parts_of (take 1 hs) ++ behind_of c.get.result) (parts_of (take 1 hs)) (option_map part_of (option_copied c.get.result))
    (ap (λ (o : Operator). is_plain (operates o) && all_steady ps) c.in-Delay.is)
    (delay_scope hs (option_copied c.get.result) two last)
    (delay_inputs hs ∙ ap (λ (o : Operator). inputs_of (operates o) ps) (sym c.in-Delay.is))
    (ap (λ (o : Option Held). option_map part_of o) last ∙ (part_at hs 1 ∙ ap (λ (o : Operator). later_of (operates o) ps) (sym c.in-Delay.is)))
    c.varying_work.ensures.builds

pub returns-in-DelayE-clause-builds : goal.returns-in-DelayE-clause-builds
returns-in-DelayE-clause-builds g c =
    let hs = c.args.parts.now in
    let ps = parts_of hs in
    let last = c.first.ensures.value in
    node_told c.args.setting.now.plan.now c.args.setting.now.below ps c.operator_kind-kind.result (operates c.args.operator) c.varying_work-in-DelayE.result
    (g.N.Nodes.way c.args.nodes.now) (g.N.Nodes.way c.varying_work-in-DelayE.new.nodes) c.args.setting.now.era.0 c.operator_kind-kind.ensures
    (behind_of c.first.result) [] (option_map part_of (option_copied c.first.result))
    (ap (λ (o : Operator). is_plain (operates o) && all_steady ps) c.in-DelayE.is)
    (delay_scope_e hs (option_copied c.first.result) (delay_one c.args.operator (length hs) c.in-DelayE.is c.requires.takes) last)
    (ap (λ (o : Operator). inputs_of (operates o) ps) (sym c.in-DelayE.is))
    (ap (λ (o : Option Held). option_map part_of o) last ∙ (part_at hs 0 ∙ ap (λ (o : Operator). later_of (operates o) ps) (sym c.in-DelayE.is)))
    c.varying_work-in-DelayE.ensures.builds

pub returns-in_default : goal.returns-in_default
returns-in_default g c =
    let planned = c.args.setting.now.plan.now in
    let below = c.args.setting.now.below in
    let ps = parts_of c.args.parts.now in
    let varies = ap (λ (b : Bool). b && all_steady ps) (other_varies c.args.operator ps c.in_default.not-Prim c.in_default.not-Delay c.in_default.not-DelayE) in
    let reads = other_inputs c.args.operator ps c.in_default.not-Prim c.in_default.not-Delay c.in_default.not-DelayE in
    record {
      builds = node_told planned below ps c.operator_kind-kind.result (operates c.args.operator) c.varying_work-in_default.result
          (g.N.Nodes.way c.args.nodes.now) (g.N.Nodes.way c.varying_work-in_default.new.nodes) c.args.setting.now.era.0 c.operator_kind-kind.ensures
          (ps ++ behind_of None) ps None
          varies
          (append-nil ps) reads.0 reads.1 c.varying_work-in_default.ensures.builds;
      eras = c.varying_work-in_default.ensures.eras;
      stops = node_stops planned below ps c.operator_kind-kind.result (operates c.args.operator) c.varying_work-in_default.result c.varying_work-in_default.ensures.stops;
      paid = node_paid planned below ps c.operator_kind-kind.result (operates c.args.operator) c.varying_work-in_default.result c.args.runner.now.fuel.left varies;
      fuel = node_fuel planned below ps c.operator_kind-kind.result (operates c.args.operator) c.varying_work-in_default.result c.args.runner.now.fuel.left varies c.varying_work-in_default.ensures.fuel;
    }

pub returns-in-Prim-clause-paid : goal.returns-in-Prim-clause-paid
returns-in-Prim-clause-paid g c =
    plain_paid c.args.setting.now.plan.now c.args.setting.now.below (parts_of c.args.parts.now) c.operator_kind-kind.result (operates c.args.operator) c.plain_work.result
    c.args.runner.now.fuel.left c.plain_work.new.runner.fuel.left c.operator_kind-kind.ensures c.plain_work.ensures.paid

pub returns-in-Prim-clause-fuel : goal.returns-in-Prim-clause-fuel
returns-in-Prim-clause-fuel g c =
    plain_fuel c.args.setting.now.plan.now c.args.setting.now.below (parts_of c.args.parts.now) c.operator_kind-kind.result (operates c.args.operator) c.plain_work.result
    c.args.runner.now.fuel.left c.operator_kind-kind.ensures c.plain_work.ensures.fuel

pub returns-in-Delay-clause-paid : goal.returns-in-Delay-clause-paid
returns-in-Delay-clause-paid g c =
    let ps = parts_of c.args.parts.now in
    node_paid c.args.setting.now.plan.now c.args.setting.now.below ps c.operator_kind-kind.result (operates c.args.operator) c.varying_work.result c.args.runner.now.fuel.left
    (ap (λ (o : Operator). is_plain (operates o) && all_steady ps) c.in-Delay.is)

pub returns-in-Delay-clause-fuel : goal.returns-in-Delay-clause-fuel
returns-in-Delay-clause-fuel g c =
    let ps = parts_of c.args.parts.now in
    node_fuel c.args.setting.now.plan.now c.args.setting.now.below ps c.operator_kind-kind.result (operates c.args.operator) c.varying_work.result c.args.runner.now.fuel.left
    (ap (λ (o : Operator). is_plain (operates o) && all_steady ps) c.in-Delay.is) c.varying_work.ensures.fuel

pub returns-in-DelayE-clause-paid : goal.returns-in-DelayE-clause-paid
returns-in-DelayE-clause-paid g c =
    let ps = parts_of c.args.parts.now in
    node_paid c.args.setting.now.plan.now c.args.setting.now.below ps c.operator_kind-kind.result (operates c.args.operator) c.varying_work-in-DelayE.result c.args.runner.now.fuel.left
    (ap (λ (o : Operator). is_plain (operates o) && all_steady ps) c.in-DelayE.is)

pub returns-in-DelayE-clause-fuel : goal.returns-in-DelayE-clause-fuel
returns-in-DelayE-clause-fuel g c =
    let ps = parts_of c.args.parts.now in
    node_fuel c.args.setting.now.plan.now c.args.setting.now.below ps c.operator_kind-kind.result (operates c.args.operator) c.varying_work-in-DelayE.result c.args.runner.now.fuel.left
    (ap (λ (o : Operator). is_plain (operates o) && all_steady ps) c.in-DelayE.is) c.varying_work-in-DelayE.ensures.fuel
