-- What each function of the walk comes to.
use Rattle.std.proofs.Common.{◌≡◌, ℕ, suc, ◌-◌, ◌<◌, ◌≤◌, true, List, [], ◌∷◌, ◌++◌, length, take, slice_get, Some, refl, ap, sym, ◌∙◌, subst, arith, lit<}
use Rattle.fr_value.specs.declared.value.Value.{Value}
use Rattle.fr_value.specs.declared.now.Held.{Held}
use Rattle.fr_value.specs.declared.now.Held.TheVariants.{Steady, Signal}
use Rattle.fr_value.specs.declared.now.Bad.TheVariants.{Deep, Arity}
use Rattle.fr_core.specs.Shapes.{operator_takes}
use Rattle.fr_core.specs.declared.lowered.Low.{out-Low}
use Rattle.fr_core.specs.declared.lowered.Low.TheVariants as low
use Rattle.fr_core.specs.declared.lowered.Low.TheOpen.{Low-F}
use Rattle.fr_core.specs.declared.lowered.Slot.{Slot}
use Rattle.fr_graph.specs.Graph.{operates, handles, loops}
use Rattle.fr_graph.specs.Walk.{slot_parts}
use Rattle.fr_nodes.specs.Kinds.{Sites, part_of, parts_of}
use Rattle.fr_nodes.specs.Makes.{AreThere, MakesSwitch, Ties}
use Rattle.fr_build.specs.Ready.{plan_of, IsReady, AreSlotsIn}
use Rattle.fr_build.specs.Builds.{ExprStops, WorkStops, BuildsWork, MayBuild, ExprMade, ExprOutcome, PartsMade}
use Rattle.fr_build.specs.declared.stops.BuildStop.TheVariants as stop
use Rattle.fr_build.proofs.Stopped.{deep_stop, let_parts_stop, test_stop, args_stop, arity_stop, operator_parts_stop, handler_parts_stop, loop_parts_stop, init_stop}
use Rattle.fr_build.proofs.Outcomes.{expr_out, expr_made, parts_out, expr_same, outer_fits, no_body, let_first, let_then, let_done, let_body_out, call_first, call_then, call_done, call_body_out, operator_first, operator_ground, operator_fits, operator_done, operator_out}
use Rattle.fr_build.proofs.Endings.{item_at, step_may, one_less, if_first, chosen_may_build, chosen_done, chosen_out, test_lives, scope_lives, switch_done, part_may, part_next, part_out, parts_ground, parts_all, parts_none, handler_first, loop_first, names_in, handler_kernel, loop_kernel, region_kernel, slotted_there, handler_done, loop_done, handler_out, loop_out, region_there, region_outcome, literal_done, variable_done, source_done, feed_first, base_there, feed_then, feed_out, name_lives, feed_done}
use Rattle.fr_build.proofs.building.+build.Goals as goal

pub build_let-build_parts-requires : goal.build_let-build_parts-requires
build_let-build_parts-requires g t c =
    λ κs h. (omega (arith, c.decreases), (h, let_first c.args.setting.now.plan.now c.args.setting.now.below c.args.setting.now.era.0 c.args.env.now c.args.env.now (g.N.Nodes.way c.args.nodes.now) (g.N.Nodes.way c.args.nodes.now) (g.N.Nodes.has_era c.args.nodes.now) (g.N.Nodes.has_era c.args.nodes.now) (low.Let c.args.exprs.now c.args.body.now) c.args.exprs.now c.args.body.now (low.outs-Let c.args.exprs.now c.args.body.now) c.requires))

pub build_let-returns-in_err-parts : goal.build_let-returns-in_err-parts
build_let-returns-in_err-parts g t c =
    expr_out c.args.setting.now.plan.now c.args.setting.now.era.0 (suc c.args.setting.now.below) (low.Let c.args.exprs.now c.args.body.now) c.args.env.now c.build_parts.new.env (g.N.Nodes.way c.args.nodes.now) (g.N.Nodes.way c.build_parts.new.nodes) (g.N.Nodes.has_era c.args.nodes.now) (g.N.Nodes.has_era c.build_parts.new.nodes) c.from_residual.result c.in_err-parts.field-0.0 c.from_residual.ensures.1
    (let_parts_stop c.args.setting.now.plan.now c.args.setting.now.below (parts_of c.args.env.now) c.in_err-parts.field-0.0 (low.Let c.args.exprs.now c.args.body.now) c.args.exprs.now c.args.body.now (low.outs-Let c.args.exprs.now c.args.body.now) c.in_err-parts.ensures)

pub build_let-returns-in_err-append : goal.build_let-returns-in_err-append
build_let-returns-in_err-append g t c =
    expr_out c.args.setting.now.plan.now c.args.setting.now.era.0 (suc c.args.setting.now.below) (low.Let c.args.exprs.now c.args.body.now) c.args.env.now c.append.new.self (g.N.Nodes.way c.args.nodes.now) (g.N.Nodes.way c.build_parts.new.nodes) (g.N.Nodes.has_era c.args.nodes.now) (g.N.Nodes.has_era c.build_parts.new.nodes) c.from_residual-in_err-append.result (stop.Memory c.in_err-append.field-0.0) c.from_residual-in_err-append.ensures.1
    (tt)

pub build_let-build_expr-requires : goal.build_let-build_expr-requires
build_let-build_expr-requires g t c =
    λ κs h. (omega (arith, c.decreases), (h, let_then c.args.setting.now.plan.now c.args.setting.now.below c.args.setting.now.era.0 c.args.env.now c.build_parts.new.env (g.N.Nodes.way c.args.nodes.now) (g.N.Nodes.way c.build_parts.new.nodes) (g.N.Nodes.has_era c.args.nodes.now) (g.N.Nodes.has_era c.build_parts.new.nodes) (low.Let c.args.exprs.now c.args.body.now) c.args.exprs.now c.args.body.now c.in_ok-parts.parts c.append.new.self (low.outs-Let c.args.exprs.now c.args.body.now) c.requires c.in_ok-parts.ensures c.in_ok-append.ensures))

pub build_let-returns-in_err-held : goal.build_let-returns-in_err-held
build_let-returns-in_err-held g t c =
    expr_out c.args.setting.now.plan.now c.args.setting.now.era.0 (suc c.args.setting.now.below) (low.Let c.args.exprs.now c.args.body.now) c.args.env.now c.build_expr.new.env (g.N.Nodes.way c.args.nodes.now) (g.N.Nodes.way c.build_expr.new.nodes) (g.N.Nodes.has_era c.args.nodes.now) (g.N.Nodes.has_era c.build_expr.new.nodes) c.from_residual-in_err-held.result c.in_err-held.field-0.0 c.from_residual-in_err-held.ensures.1
    (let_body_out c.args.setting.now.plan.now c.args.setting.now.below c.args.setting.now.era.0 c.args.env.now c.build_parts.new.env (g.N.Nodes.way c.args.nodes.now) (g.N.Nodes.way c.build_parts.new.nodes) (g.N.Nodes.has_era c.args.nodes.now) (g.N.Nodes.has_era c.build_parts.new.nodes) (low.Let c.args.exprs.now c.args.body.now) c.args.exprs.now c.args.body.now c.in_ok-parts.parts c.append.new.self c.in_err-held.field-0.0 (low.outs-Let c.args.exprs.now c.args.body.now) c.in_ok-parts.ensures c.in_ok-append.ensures c.in_err-held.ensures)

pub build_let-cut-requires : goal.build_let-cut-requires
build_let-cut-requires g t c =
    outer_fits c.len-outer.result c.build_parts.new.env c.in_ok-parts.parts c.append.new.self c.build_expr.new.env c.len-outer.ensures c.in_ok-append.ensures c.in_ok-held.ensures.env

pub build_let-returns : goal.build_let-returns
build_let-returns g t c =
    let_done c.args.setting.now.plan.now c.args.setting.now.below c.args.setting.now.era.0 c.args.env.now c.build_parts.new.env (g.N.Nodes.way c.args.nodes.now) (g.N.Nodes.way c.build_parts.new.nodes) (g.N.Nodes.has_era c.args.nodes.now) (g.N.Nodes.has_era c.build_parts.new.nodes) (low.Let c.args.exprs.now c.args.body.now) c.args.exprs.now c.args.body.now c.in_ok-parts.parts c.append.new.self c.build_expr.new.env c.cut.new.env (g.N.Nodes.way c.build_expr.new.nodes) (g.N.Nodes.has_era c.build_expr.new.nodes) c.in_ok-held.held c.len-outer.result (low.outs-Let c.args.exprs.now c.args.body.now) c.requires c.in_ok-parts.ensures c.in_ok-append.ensures c.in_ok-held.ensures c.len-outer.ensures c.cut.ensures

pub build_call-build_parts-requires : goal.build_call-build_parts-requires
build_call-build_parts-requires g t c =
    λ κs h. (omega (arith, c.decreases), (h, call_first c.args.setting.now.plan.now c.args.setting.now.below c.args.setting.now.era.0 c.args.env.now c.args.env.now (g.N.Nodes.way c.args.nodes.now) (g.N.Nodes.way c.args.nodes.now) (g.N.Nodes.has_era c.args.nodes.now) (g.N.Nodes.has_era c.args.nodes.now) (low.Apply c.args.function c.args.args.now) c.args.function c.args.args.now (low.outs-Apply c.args.function c.args.args.now) c.requires))

pub build_call-returns-in_err-parts : goal.build_call-returns-in_err-parts
build_call-returns-in_err-parts g t c =
    expr_out c.args.setting.now.plan.now c.args.setting.now.era.0 (suc c.args.setting.now.below) (low.Apply c.args.function c.args.args.now) c.args.env.now c.build_parts.new.env (g.N.Nodes.way c.args.nodes.now) (g.N.Nodes.way c.build_parts.new.nodes) (g.N.Nodes.has_era c.args.nodes.now) (g.N.Nodes.has_era c.build_parts.new.nodes) c.from_residual.result c.in_err-parts.field-0.0 c.from_residual.ensures.1
    (args_stop c.args.setting.now.plan.now c.args.setting.now.below (parts_of c.args.env.now) c.in_err-parts.field-0.0 (low.Apply c.args.function c.args.args.now) c.args.function c.args.args.now (low.outs-Apply c.args.function c.args.args.now) c.in_err-parts.ensures)

pub build_call-returns-in_default : goal.build_call-returns-in_default
build_call-returns-in_default g t c =
    arity_stop c.args.setting.now.plan.now c.args.setting.now.below (parts_of c.args.env.now) (stop.Bad Arity) (low.Apply c.args.function c.args.args.now) c.args.function c.args.args.now [] (low.outs-Apply c.args.function c.args.args.now) (no_body c.body.result _ c.in_default.is c.body.ensures)

pub build_call-same-parts : goal.build_call-same-parts
build_call-same-parts g t c =
    refl

pub build_call-build_expr-requires : goal.build_call-build_expr-requires
build_call-build_expr-requires g t c =
    λ κs h. (omega (arith, c.decreases), (h, call_then c.args.setting.now.plan.now c.args.setting.now.below c.args.setting.now.era.0 c.args.env.now c.build_parts.new.env (g.N.Nodes.way c.args.nodes.now) (g.N.Nodes.way c.build_parts.new.nodes) (g.N.Nodes.has_era c.args.nodes.now) (g.N.Nodes.has_era c.build_parts.new.nodes) (low.Apply c.args.function c.args.args.now) c.args.function c.args.args.now c.in-Some.body.now c.in_ok-parts.parts (low.outs-Apply c.args.function c.args.args.now) c.requires c.in_ok-parts.ensures (sym c.in-Some.ensures)))

pub build_call-returns-in_err-held : goal.build_call-returns-in_err-held
build_call-returns-in_err-held g t c =
    expr_out c.args.setting.now.plan.now c.args.setting.now.era.0 (suc c.args.setting.now.below) (low.Apply c.args.function c.args.args.now) c.args.env.now c.build_parts.new.env (g.N.Nodes.way c.args.nodes.now) (g.N.Nodes.way c.build_expr.new.nodes) (g.N.Nodes.has_era c.args.nodes.now) (g.N.Nodes.has_era c.build_expr.new.nodes) c.from_residual-in_err-held.result c.in_err-held.field-0.0 c.from_residual-in_err-held.ensures.1
    (call_body_out c.args.setting.now.plan.now c.args.setting.now.below c.args.setting.now.era.0 c.args.env.now c.build_parts.new.env (g.N.Nodes.way c.args.nodes.now) (g.N.Nodes.way c.build_parts.new.nodes) (g.N.Nodes.has_era c.args.nodes.now) (g.N.Nodes.has_era c.build_parts.new.nodes) (low.Apply c.args.function c.args.args.now) c.args.function c.args.args.now c.in-Some.body.now c.in_ok-parts.parts c.in_err-held.field-0.0 (low.outs-Apply c.args.function c.args.args.now) c.in_ok-parts.ensures (sym c.in-Some.ensures) c.in_err-held.ensures)

pub build_call-returns : goal.build_call-returns
build_call-returns g t c =
    call_done c.args.setting.now.plan.now c.args.setting.now.below c.args.setting.now.era.0 c.args.env.now c.build_parts.new.env (g.N.Nodes.way c.args.nodes.now) (g.N.Nodes.way c.build_parts.new.nodes) (g.N.Nodes.has_era c.args.nodes.now) (g.N.Nodes.has_era c.build_parts.new.nodes) (low.Apply c.args.function c.args.args.now) c.args.function c.args.args.now c.in-Some.body.now c.in_ok-parts.parts c.build_expr.new.env (g.N.Nodes.way c.build_expr.new.nodes) (g.N.Nodes.has_era c.build_expr.new.nodes) c.in_ok-held.held (low.outs-Apply c.args.function c.args.args.now) c.requires c.in_ok-parts.ensures (sym c.in-Some.ensures) c.in_ok-held.ensures

pub build_operator-build_parts-requires : goal.build_operator-build_parts-requires
build_operator-build_parts-requires g t c =
    λ κs h. (omega (arith, c.decreases), (h, operator_first c.args.setting.now.plan.now c.args.setting.now.below c.args.setting.now.era.0 c.args.env.now c.args.env.now (g.N.Nodes.way c.args.nodes.now) (g.N.Nodes.way c.args.nodes.now) (g.N.Nodes.has_era c.args.nodes.now) (g.N.Nodes.has_era c.args.nodes.now) (low.Operator c.args.operator c.args.exprs.now) c.args.operator c.args.exprs.now (low.outs-Operator c.args.operator c.args.exprs.now) c.requires))

pub build_operator-returns-in_err-parts : goal.build_operator-returns-in_err-parts
build_operator-returns-in_err-parts g t c =
    expr_out c.args.setting.now.plan.now c.args.setting.now.era.0 (suc c.args.setting.now.below) (low.Operator c.args.operator c.args.exprs.now) c.args.env.now c.build_parts.new.env (g.N.Nodes.way c.args.nodes.now) (g.N.Nodes.way c.build_parts.new.nodes) (g.N.Nodes.has_era c.args.nodes.now) (g.N.Nodes.has_era c.build_parts.new.nodes) c.from_residual.result c.in_err-parts.field-0.0 c.from_residual.ensures.1
    (operator_parts_stop c.args.setting.now.plan.now c.args.setting.now.below (parts_of c.args.env.now) c.in_err-parts.field-0.0 (low.Operator c.args.operator c.args.exprs.now) c.args.operator c.args.exprs.now (low.outs-Operator c.args.operator c.args.exprs.now) c.in_err-parts.ensures)

pub build_operator-build_operator_node-requires-clause-below : goal.build_operator-build_operator_node-requires-clause-below
build_operator-build_operator_node-requires-clause-below g t c =
    c.requires.levels

pub build_operator-build_operator_node-requires-clause-plan : goal.build_operator-build_operator_node-requires-clause-plan
build_operator-build_operator_node-requires-clause-plan g t c =
    c.requires.plan

pub build_operator-build_operator_node-requires-clause-era : goal.build_operator-build_operator_node-requires-clause-era
build_operator-build_operator_node-requires-clause-era g t c =
    (operator_ground c.args.setting.now.plan.now c.args.setting.now.below c.args.setting.now.era.0 c.args.env.now c.build_parts.new.env (g.N.Nodes.way c.args.nodes.now) (g.N.Nodes.way c.build_parts.new.nodes) (g.N.Nodes.has_era c.args.nodes.now) (g.N.Nodes.has_era c.build_parts.new.nodes) (low.Operator c.args.operator c.args.exprs.now) c.args.operator c.args.exprs.now c.in_ok-parts.parts c.requires c.in_ok-parts.ensures).era

pub build_operator-build_operator_node-requires-clause-taken : goal.build_operator-build_operator_node-requires-clause-taken
build_operator-build_operator_node-requires-clause-taken g t c =
    (operator_ground c.args.setting.now.plan.now c.args.setting.now.below c.args.setting.now.era.0 c.args.env.now c.build_parts.new.env (g.N.Nodes.way c.args.nodes.now) (g.N.Nodes.way c.build_parts.new.nodes) (g.N.Nodes.has_era c.args.nodes.now) (g.N.Nodes.has_era c.build_parts.new.nodes) (low.Operator c.args.operator c.args.exprs.now) c.args.operator c.args.exprs.now c.in_ok-parts.parts c.requires c.in_ok-parts.ensures).taken

pub build_operator-build_operator_node-requires-clause-there : goal.build_operator-build_operator_node-requires-clause-there
build_operator-build_operator_node-requires-clause-there g t c =
    subst (λ (l : List Held). (sites : Sites) → AreThere ((g.N.Nodes.way c.build_parts.new.nodes) sites) (parts_of l)) (sym c.as_slice.ensures) (operator_ground c.args.setting.now.plan.now c.args.setting.now.below c.args.setting.now.era.0 c.args.env.now c.build_parts.new.env (g.N.Nodes.way c.args.nodes.now) (g.N.Nodes.way c.build_parts.new.nodes) (g.N.Nodes.has_era c.args.nodes.now) (g.N.Nodes.has_era c.build_parts.new.nodes) (low.Operator c.args.operator c.args.exprs.now) c.args.operator c.args.exprs.now c.in_ok-parts.parts c.requires c.in_ok-parts.ensures).scope

pub build_operator-build_operator_node-requires-clause-takes : goal.build_operator-build_operator_node-requires-clause-takes
build_operator-build_operator_node-requires-clause-takes g t c =
    subst (λ (l : List Held). operator_takes c.args.operator (length l) ≡ true) (sym c.as_slice.ensures) (operator_fits c.args.setting.now.plan.now c.args.setting.now.below c.args.setting.now.era.0 c.args.env.now c.build_parts.new.env (g.N.Nodes.way c.args.nodes.now) (g.N.Nodes.way c.build_parts.new.nodes) (g.N.Nodes.has_era c.args.nodes.now) (g.N.Nodes.has_era c.build_parts.new.nodes) (low.Operator c.args.operator c.args.exprs.now) c.args.operator c.args.exprs.now c.in_ok-parts.parts (low.outs-Operator c.args.operator c.args.exprs.now) c.requires c.in_ok-parts.ensures)

pub build_operator-returns-in_err-held : goal.build_operator-returns-in_err-held
build_operator-returns-in_err-held g t c =
    expr_out c.args.setting.now.plan.now c.args.setting.now.era.0 (suc c.args.setting.now.below) (low.Operator c.args.operator c.args.exprs.now) c.args.env.now c.build_parts.new.env (g.N.Nodes.way c.args.nodes.now) (g.N.Nodes.way c.build_operator_node.new.nodes) (g.N.Nodes.has_era c.args.nodes.now) (g.N.Nodes.has_era c.build_operator_node.new.nodes) c.from_residual-in_err-held.result c.in_err-held.field-0.0 c.from_residual-in_err-held.ensures.1
    (operator_out c.args.setting.now.plan.now c.args.setting.now.below c.args.setting.now.era.0 c.args.env.now c.build_parts.new.env (g.N.Nodes.way c.args.nodes.now) (g.N.Nodes.way c.build_parts.new.nodes) (g.N.Nodes.has_era c.args.nodes.now) (g.N.Nodes.has_era c.build_parts.new.nodes) (low.Operator c.args.operator c.args.exprs.now) c.args.operator c.args.exprs.now c.in_ok-parts.parts c.in_err-held.field-0.0 (low.outs-Operator c.args.operator c.args.exprs.now) c.in_ok-parts.ensures (subst (λ (l : List Held). WorkStops c.args.setting.now.plan.now c.args.setting.now.below (operates c.args.operator) (parts_of l) c.in_err-held.field-0.0) c.as_slice.ensures c.in_err-held.ensures.stops))

pub build_operator-returns : goal.build_operator-returns
build_operator-returns g t c =
    operator_done c.args.setting.now.plan.now c.args.setting.now.below c.args.setting.now.era.0 c.args.env.now c.build_parts.new.env (g.N.Nodes.way c.args.nodes.now) (g.N.Nodes.way c.build_parts.new.nodes) (g.N.Nodes.has_era c.args.nodes.now) (g.N.Nodes.has_era c.build_parts.new.nodes) (low.Operator c.args.operator c.args.exprs.now) c.args.operator c.args.exprs.now c.in_ok-parts.parts (g.N.Nodes.way c.build_operator_node.new.nodes) (g.N.Nodes.has_era c.build_operator_node.new.nodes) c.in_ok-held.held (low.outs-Operator c.args.operator c.args.exprs.now) c.requires c.in_ok-parts.ensures c.in_ok-held.ensures.eras
    (subst (λ (l : List Held). (sites : Sites) → BuildsWork ((g.N.Nodes.way c.build_parts.new.nodes) sites) ((g.N.Nodes.way c.build_operator_node.new.nodes) sites) c.args.setting.now.plan.now c.args.setting.now.era.0 c.args.setting.now.below (operates c.args.operator) (parts_of l) (part_of c.in_ok-held.held)) c.as_slice.ensures c.in_ok-held.ensures.builds)

pub build_handler-build_parts-requires : goal.build_handler-build_parts-requires
build_handler-build_parts-requires g t c =
    λ κs h. (omega (arith, c.decreases), (h, handler_first c.args.setting.now.plan.now c.args.setting.now.below c.args.setting.now.era.0 c.args.env.now c.args.env.now (g.N.Nodes.way c.args.nodes.now) (g.N.Nodes.way c.args.nodes.now) (g.N.Nodes.has_era c.args.nodes.now) (g.N.Nodes.has_era c.args.nodes.now) (low.Handler c.args.handler c.args.exprs.now c.args.body c.args.slots.now) c.args.handler c.args.exprs.now c.args.body c.args.slots.now (low.outs-Handler c.args.handler c.args.exprs.now c.args.body c.args.slots.now) c.requires))

pub build_handler-returns-in_err-parts : goal.build_handler-returns-in_err-parts
build_handler-returns-in_err-parts g t c =
    expr_out c.args.setting.now.plan.now c.args.setting.now.era.0 (suc c.args.setting.now.below) (low.Handler c.args.handler c.args.exprs.now c.args.body c.args.slots.now) c.args.env.now c.build_parts.new.env (g.N.Nodes.way c.args.nodes.now) (g.N.Nodes.way c.build_parts.new.nodes) (g.N.Nodes.has_era c.args.nodes.now) (g.N.Nodes.has_era c.build_parts.new.nodes) c.from_residual.result c.in_err-parts.field-0.0 c.from_residual.ensures.1
    (handler_parts_stop c.args.setting.now.plan.now c.args.setting.now.below (parts_of c.args.env.now) c.in_err-parts.field-0.0 (low.Handler c.args.handler c.args.exprs.now c.args.body c.args.slots.now) c.args.handler c.args.exprs.now c.args.body c.args.slots.now (low.outs-Handler c.args.handler c.args.exprs.now c.args.body c.args.slots.now) c.in_err-parts.ensures)

pub build_handler-build_handler_node-requires-clause-below : goal.build_handler-build_handler_node-requires-clause-below
build_handler-build_handler_node-requires-clause-below g t c =
    c.requires.levels

pub build_handler-build_handler_node-requires-clause-plan : goal.build_handler-build_handler_node-requires-clause-plan
build_handler-build_handler_node-requires-clause-plan g t c =
    c.requires.plan

pub build_handler-build_handler_node-requires-clause-era : goal.build_handler-build_handler_node-requires-clause-era
build_handler-build_handler_node-requires-clause-era g t c =
    (parts_ground c.args.setting.now.plan.now c.args.setting.now.below c.args.setting.now.era.0 c.args.env.now c.build_parts.new.env (g.N.Nodes.way c.args.nodes.now) (g.N.Nodes.way c.build_parts.new.nodes) (g.N.Nodes.has_era c.args.nodes.now) (g.N.Nodes.has_era c.build_parts.new.nodes) (low.Handler c.args.handler c.args.exprs.now c.args.body c.args.slots.now) c.args.exprs.now c.in_ok-parts.parts c.requires c.in_ok-parts.ensures).era

pub build_handler-build_handler_node-requires-clause-taken : goal.build_handler-build_handler_node-requires-clause-taken
build_handler-build_handler_node-requires-clause-taken g t c =
    (parts_ground c.args.setting.now.plan.now c.args.setting.now.below c.args.setting.now.era.0 c.args.env.now c.build_parts.new.env (g.N.Nodes.way c.args.nodes.now) (g.N.Nodes.way c.build_parts.new.nodes) (g.N.Nodes.has_era c.args.nodes.now) (g.N.Nodes.has_era c.build_parts.new.nodes) (low.Handler c.args.handler c.args.exprs.now c.args.body c.args.slots.now) c.args.exprs.now c.in_ok-parts.parts c.requires c.in_ok-parts.ensures).taken

pub build_handler-build_handler_node-requires-clause-there : goal.build_handler-build_handler_node-requires-clause-there
build_handler-build_handler_node-requires-clause-there g t c =
    subst (λ (l : List Held). (sites : Sites) → AreThere ((g.N.Nodes.way c.build_parts.new.nodes) sites) (parts_of c.in_ok-parts.parts ++ slot_parts (plan_of c.args.setting.now.plan.now) (parts_of l) c.args.slots.now)) (sym c.as_slice.ensures) (slotted_there c.args.setting.now.plan.now c.args.setting.now.below c.args.setting.now.era.0 c.args.env.now c.build_parts.new.env (g.N.Nodes.way c.args.nodes.now) (g.N.Nodes.way c.build_parts.new.nodes) (g.N.Nodes.has_era c.args.nodes.now) (g.N.Nodes.has_era c.build_parts.new.nodes) c.args.exprs.now c.in_ok-parts.parts c.args.slots.now (names_in c.args.setting.now.plan.now c.args.setting.now.below c.args.setting.now.era.0 c.args.env.now c.build_parts.new.env (g.N.Nodes.way c.args.nodes.now) (g.N.Nodes.way c.build_parts.new.nodes) (g.N.Nodes.has_era c.args.nodes.now) (g.N.Nodes.has_era c.build_parts.new.nodes) (low.Handler c.args.handler c.args.exprs.now c.args.body c.args.slots.now) (Low-F.Handler c.args.handler c.args.exprs.now c.args.body c.args.slots.now) (low.outs-Handler c.args.handler c.args.exprs.now c.args.body c.args.slots.now) c.requires.fits) c.requires.ground c.in_ok-parts.ensures)

pub build_handler-build_handler_node-requires-clause-slots : goal.build_handler-build_handler_node-requires-clause-slots
build_handler-build_handler_node-requires-clause-slots g t c =
    subst (λ (l : List Held). AreSlotsIn (length l) c.args.setting.now.plan.now.sources c.args.slots.now) (sym (c.as_slice.ensures ∙ c.in_ok-parts.ensures.env)) (names_in c.args.setting.now.plan.now c.args.setting.now.below c.args.setting.now.era.0 c.args.env.now c.build_parts.new.env (g.N.Nodes.way c.args.nodes.now) (g.N.Nodes.way c.build_parts.new.nodes) (g.N.Nodes.has_era c.args.nodes.now) (g.N.Nodes.has_era c.build_parts.new.nodes) (low.Handler c.args.handler c.args.exprs.now c.args.body c.args.slots.now) (Low-F.Handler c.args.handler c.args.exprs.now c.args.body c.args.slots.now) (low.outs-Handler c.args.handler c.args.exprs.now c.args.body c.args.slots.now) c.requires.fits)

pub build_handler-build_handler_node-requires-clause-kernel : goal.build_handler-build_handler_node-requires-clause-kernel
build_handler-build_handler_node-requires-clause-kernel g t c =
    handler_kernel c.args.setting.now.plan.now c.args.setting.now.below c.args.setting.now.era.0 c.args.env.now c.build_parts.new.env (g.N.Nodes.way c.args.nodes.now) (g.N.Nodes.way c.build_parts.new.nodes) (g.N.Nodes.has_era c.args.nodes.now) (g.N.Nodes.has_era c.build_parts.new.nodes) (low.Handler c.args.handler c.args.exprs.now c.args.body c.args.slots.now) c.args.handler c.args.exprs.now c.args.body c.args.slots.now (low.outs-Handler c.args.handler c.args.exprs.now c.args.body c.args.slots.now) c.requires.fits

pub build_handler-returns-in_err-held : goal.build_handler-returns-in_err-held
build_handler-returns-in_err-held g t c =
    expr_out c.args.setting.now.plan.now c.args.setting.now.era.0 (suc c.args.setting.now.below) (low.Handler c.args.handler c.args.exprs.now c.args.body c.args.slots.now) c.args.env.now c.build_parts.new.env (g.N.Nodes.way c.args.nodes.now) (g.N.Nodes.way c.build_handler_node.new.nodes) (g.N.Nodes.has_era c.args.nodes.now) (g.N.Nodes.has_era c.build_handler_node.new.nodes) c.from_residual-in_err-held.result c.in_err-held.field-0.0 c.from_residual-in_err-held.ensures.1
    (handler_out c.args.setting.now.plan.now c.args.setting.now.below c.args.setting.now.era.0 c.args.env.now c.build_parts.new.env (g.N.Nodes.way c.args.nodes.now) (g.N.Nodes.way c.build_parts.new.nodes) (g.N.Nodes.has_era c.args.nodes.now) (g.N.Nodes.has_era c.build_parts.new.nodes) (low.Handler c.args.handler c.args.exprs.now c.args.body c.args.slots.now) c.args.handler c.args.exprs.now c.args.body c.args.slots.now c.in_ok-parts.parts c.in_err-held.field-0.0 (low.outs-Handler c.args.handler c.args.exprs.now c.args.body c.args.slots.now) c.in_ok-parts.ensures (subst (λ (l : List Held). WorkStops c.args.setting.now.plan.now c.args.setting.now.below (handles c.args.handler c.args.body.0) (parts_of c.in_ok-parts.parts ++ slot_parts (plan_of c.args.setting.now.plan.now) (parts_of l) c.args.slots.now) c.in_err-held.field-0.0) c.as_slice.ensures c.in_err-held.ensures.stops))

pub build_handler-returns : goal.build_handler-returns
build_handler-returns g t c =
    handler_done c.args.setting.now.plan.now c.args.setting.now.below c.args.setting.now.era.0 c.args.env.now c.build_parts.new.env (g.N.Nodes.way c.args.nodes.now) (g.N.Nodes.way c.build_parts.new.nodes) (g.N.Nodes.has_era c.args.nodes.now) (g.N.Nodes.has_era c.build_parts.new.nodes) (low.Handler c.args.handler c.args.exprs.now c.args.body c.args.slots.now) c.args.handler c.args.exprs.now c.args.body c.args.slots.now c.in_ok-parts.parts (g.N.Nodes.way c.build_handler_node.new.nodes) (g.N.Nodes.has_era c.build_handler_node.new.nodes) c.in_ok-held.held (low.outs-Handler c.args.handler c.args.exprs.now c.args.body c.args.slots.now) c.requires c.in_ok-parts.ensures c.in_ok-held.ensures.eras
    (subst (λ (l : List Held). (sites : Sites) → BuildsWork ((g.N.Nodes.way c.build_parts.new.nodes) sites) ((g.N.Nodes.way c.build_handler_node.new.nodes) sites) c.args.setting.now.plan.now c.args.setting.now.era.0 c.args.setting.now.below (handles c.args.handler c.args.body.0) (parts_of c.in_ok-parts.parts ++ slot_parts (plan_of c.args.setting.now.plan.now) (parts_of l) c.args.slots.now) (part_of c.in_ok-held.held)) c.as_slice.ensures c.in_ok-held.ensures.builds)

pub build_loop-build_parts-requires : goal.build_loop-build_parts-requires
build_loop-build_parts-requires g t c =
    λ κs h. (omega (arith, c.decreases), (h, loop_first c.args.setting.now.plan.now c.args.setting.now.below c.args.setting.now.era.0 c.args.env.now c.args.env.now (g.N.Nodes.way c.args.nodes.now) (g.N.Nodes.way c.args.nodes.now) (g.N.Nodes.has_era c.args.nodes.now) (g.N.Nodes.has_era c.args.nodes.now) (low.Loop c.args.looped c.args.exprs.now c.args.body c.args.slots.now) c.args.looped c.args.exprs.now c.args.body c.args.slots.now (low.outs-Loop c.args.looped c.args.exprs.now c.args.body c.args.slots.now) c.requires))

pub build_loop-returns-in_err-parts : goal.build_loop-returns-in_err-parts
build_loop-returns-in_err-parts g t c =
    expr_out c.args.setting.now.plan.now c.args.setting.now.era.0 (suc c.args.setting.now.below) (low.Loop c.args.looped c.args.exprs.now c.args.body c.args.slots.now) c.args.env.now c.build_parts.new.env (g.N.Nodes.way c.args.nodes.now) (g.N.Nodes.way c.build_parts.new.nodes) (g.N.Nodes.has_era c.args.nodes.now) (g.N.Nodes.has_era c.build_parts.new.nodes) c.from_residual.result c.in_err-parts.field-0.0 c.from_residual.ensures.1
    (loop_parts_stop c.args.setting.now.plan.now c.args.setting.now.below (parts_of c.args.env.now) c.in_err-parts.field-0.0 (low.Loop c.args.looped c.args.exprs.now c.args.body c.args.slots.now) c.args.looped c.args.exprs.now c.args.body c.args.slots.now (low.outs-Loop c.args.looped c.args.exprs.now c.args.body c.args.slots.now) c.in_err-parts.ensures)

pub build_loop-build_loop_node-requires-clause-below : goal.build_loop-build_loop_node-requires-clause-below
build_loop-build_loop_node-requires-clause-below g t c =
    c.requires.levels

pub build_loop-build_loop_node-requires-clause-plan : goal.build_loop-build_loop_node-requires-clause-plan
build_loop-build_loop_node-requires-clause-plan g t c =
    c.requires.plan

pub build_loop-build_loop_node-requires-clause-era : goal.build_loop-build_loop_node-requires-clause-era
build_loop-build_loop_node-requires-clause-era g t c =
    (parts_ground c.args.setting.now.plan.now c.args.setting.now.below c.args.setting.now.era.0 c.args.env.now c.build_parts.new.env (g.N.Nodes.way c.args.nodes.now) (g.N.Nodes.way c.build_parts.new.nodes) (g.N.Nodes.has_era c.args.nodes.now) (g.N.Nodes.has_era c.build_parts.new.nodes) (low.Loop c.args.looped c.args.exprs.now c.args.body c.args.slots.now) c.args.exprs.now c.in_ok-parts.parts c.requires c.in_ok-parts.ensures).era

pub build_loop-build_loop_node-requires-clause-taken : goal.build_loop-build_loop_node-requires-clause-taken
build_loop-build_loop_node-requires-clause-taken g t c =
    (parts_ground c.args.setting.now.plan.now c.args.setting.now.below c.args.setting.now.era.0 c.args.env.now c.build_parts.new.env (g.N.Nodes.way c.args.nodes.now) (g.N.Nodes.way c.build_parts.new.nodes) (g.N.Nodes.has_era c.args.nodes.now) (g.N.Nodes.has_era c.build_parts.new.nodes) (low.Loop c.args.looped c.args.exprs.now c.args.body c.args.slots.now) c.args.exprs.now c.in_ok-parts.parts c.requires c.in_ok-parts.ensures).taken

pub build_loop-build_loop_node-requires-clause-there : goal.build_loop-build_loop_node-requires-clause-there
build_loop-build_loop_node-requires-clause-there g t c =
    subst (λ (l : List Held). (sites : Sites) → AreThere ((g.N.Nodes.way c.build_parts.new.nodes) sites) (parts_of c.in_ok-parts.parts ++ slot_parts (plan_of c.args.setting.now.plan.now) (parts_of l) c.args.slots.now)) (sym c.as_slice-scope.ensures) (slotted_there c.args.setting.now.plan.now c.args.setting.now.below c.args.setting.now.era.0 c.args.env.now c.build_parts.new.env (g.N.Nodes.way c.args.nodes.now) (g.N.Nodes.way c.build_parts.new.nodes) (g.N.Nodes.has_era c.args.nodes.now) (g.N.Nodes.has_era c.build_parts.new.nodes) c.args.exprs.now c.in_ok-parts.parts c.args.slots.now (names_in c.args.setting.now.plan.now c.args.setting.now.below c.args.setting.now.era.0 c.args.env.now c.build_parts.new.env (g.N.Nodes.way c.args.nodes.now) (g.N.Nodes.way c.build_parts.new.nodes) (g.N.Nodes.has_era c.args.nodes.now) (g.N.Nodes.has_era c.build_parts.new.nodes) (low.Loop c.args.looped c.args.exprs.now c.args.body c.args.slots.now) (Low-F.Loop c.args.looped c.args.exprs.now c.args.body c.args.slots.now) (low.outs-Loop c.args.looped c.args.exprs.now c.args.body c.args.slots.now) c.requires.fits) c.requires.ground c.in_ok-parts.ensures)

pub build_loop-build_loop_node-requires-clause-slots : goal.build_loop-build_loop_node-requires-clause-slots
build_loop-build_loop_node-requires-clause-slots g t c =
    subst (λ (l : List Held). AreSlotsIn (length l) c.args.setting.now.plan.now.sources c.args.slots.now) (sym (c.as_slice-scope.ensures ∙ c.in_ok-parts.ensures.env)) (names_in c.args.setting.now.plan.now c.args.setting.now.below c.args.setting.now.era.0 c.args.env.now c.build_parts.new.env (g.N.Nodes.way c.args.nodes.now) (g.N.Nodes.way c.build_parts.new.nodes) (g.N.Nodes.has_era c.args.nodes.now) (g.N.Nodes.has_era c.build_parts.new.nodes) (low.Loop c.args.looped c.args.exprs.now c.args.body c.args.slots.now) (Low-F.Loop c.args.looped c.args.exprs.now c.args.body c.args.slots.now) (low.outs-Loop c.args.looped c.args.exprs.now c.args.body c.args.slots.now) c.requires.fits)

pub build_loop-build_loop_node-requires-clause-kernel : goal.build_loop-build_loop_node-requires-clause-kernel
build_loop-build_loop_node-requires-clause-kernel g t c =
    loop_kernel c.args.setting.now.plan.now c.args.setting.now.below c.args.setting.now.era.0 c.args.env.now c.build_parts.new.env (g.N.Nodes.way c.args.nodes.now) (g.N.Nodes.way c.build_parts.new.nodes) (g.N.Nodes.has_era c.args.nodes.now) (g.N.Nodes.has_era c.build_parts.new.nodes) (low.Loop c.args.looped c.args.exprs.now c.args.body c.args.slots.now) c.args.looped c.args.exprs.now c.args.body c.args.slots.now (low.outs-Loop c.args.looped c.args.exprs.now c.args.body c.args.slots.now) c.requires.fits

pub build_loop-returns-in_err-held : goal.build_loop-returns-in_err-held
build_loop-returns-in_err-held g t c =
    expr_out c.args.setting.now.plan.now c.args.setting.now.era.0 (suc c.args.setting.now.below) (low.Loop c.args.looped c.args.exprs.now c.args.body c.args.slots.now) c.args.env.now c.build_parts.new.env (g.N.Nodes.way c.args.nodes.now) (g.N.Nodes.way c.build_loop_node.new.nodes) (g.N.Nodes.has_era c.args.nodes.now) (g.N.Nodes.has_era c.build_loop_node.new.nodes) c.from_residual-in_err-held.result c.in_err-held.field-0.0 c.from_residual-in_err-held.ensures.1
    (loop_out c.args.setting.now.plan.now c.args.setting.now.below c.args.setting.now.era.0 c.args.env.now c.build_parts.new.env (g.N.Nodes.way c.args.nodes.now) (g.N.Nodes.way c.build_parts.new.nodes) (g.N.Nodes.has_era c.args.nodes.now) (g.N.Nodes.has_era c.build_parts.new.nodes) (low.Loop c.args.looped c.args.exprs.now c.args.body c.args.slots.now) c.args.looped c.args.exprs.now c.args.body c.args.slots.now c.in_ok-parts.parts c.in_err-held.field-0.0 (low.outs-Loop c.args.looped c.args.exprs.now c.args.body c.args.slots.now) c.in_ok-parts.ensures (subst (λ (l : List Held). WorkStops c.args.setting.now.plan.now c.args.setting.now.below (loops c.args.looped c.args.body.0) (parts_of c.in_ok-parts.parts ++ slot_parts (plan_of c.args.setting.now.plan.now) (parts_of l) c.args.slots.now) c.in_err-held.field-0.0) c.as_slice-scope.ensures c.in_err-held.ensures.stops))

pub build_loop-returns : goal.build_loop-returns
build_loop-returns g t c =
    loop_done c.args.setting.now.plan.now c.args.setting.now.below c.args.setting.now.era.0 c.args.env.now c.build_parts.new.env (g.N.Nodes.way c.args.nodes.now) (g.N.Nodes.way c.build_parts.new.nodes) (g.N.Nodes.has_era c.args.nodes.now) (g.N.Nodes.has_era c.build_parts.new.nodes) (low.Loop c.args.looped c.args.exprs.now c.args.body c.args.slots.now) c.args.looped c.args.exprs.now c.args.body c.args.slots.now c.in_ok-parts.parts (g.N.Nodes.way c.build_loop_node.new.nodes) (g.N.Nodes.has_era c.build_loop_node.new.nodes) c.in_ok-held.held (low.outs-Loop c.args.looped c.args.exprs.now c.args.body c.args.slots.now) c.requires c.in_ok-parts.ensures c.in_ok-held.ensures.eras
    (subst (λ (l : List Held). (sites : Sites) → BuildsWork ((g.N.Nodes.way c.build_parts.new.nodes) sites) ((g.N.Nodes.way c.build_loop_node.new.nodes) sites) c.args.setting.now.plan.now c.args.setting.now.era.0 c.args.setting.now.below (loops c.args.looped c.args.body.0) (parts_of c.in_ok-parts.parts ++ slot_parts (plan_of c.args.setting.now.plan.now) (parts_of l) c.args.slots.now) (part_of c.in_ok-held.held)) c.as_slice-scope.ensures c.in_ok-held.ensures.builds)

pub build_if-build_expr-requires : goal.build_if-build_expr-requires
build_if-build_expr-requires g t c =
    λ κs h. (omega (arith, c.decreases), (h, if_first c.args.setting.now.plan.now c.args.setting.now.below c.args.setting.now.era.0 c.args.env.now c.args.env.now (g.N.Nodes.way c.args.nodes.now) (g.N.Nodes.way c.args.nodes.now) (g.N.Nodes.has_era c.args.nodes.now) (g.N.Nodes.has_era c.args.nodes.now) (low.If c.args.site c.args.test.now c.args.yes.now c.args.no.now) c.args.site c.args.test.now c.args.yes.now c.args.no.now (low.outs-If c.args.site c.args.test.now c.args.yes.now c.args.no.now) c.requires))

pub build_if-returns-in_err-value : goal.build_if-returns-in_err-value
build_if-returns-in_err-value g t c =
    expr_out c.args.setting.now.plan.now c.args.setting.now.era.0 (suc c.args.setting.now.below) (low.If c.args.site c.args.test.now c.args.yes.now c.args.no.now) c.args.env.now c.build_expr.new.env (g.N.Nodes.way c.args.nodes.now) (g.N.Nodes.way c.build_expr.new.nodes) (g.N.Nodes.has_era c.args.nodes.now) (g.N.Nodes.has_era c.build_expr.new.nodes) c.from_residual.result c.in_err-value.field-0.0 c.from_residual.ensures.1
    (test_stop c.args.setting.now.plan.now c.args.setting.now.below (parts_of c.args.env.now) c.in_err-value.field-0.0 (low.If c.args.site c.args.test.now c.args.yes.now c.args.no.now) c.args.site c.args.test.now c.args.yes.now c.args.no.now (low.outs-If c.args.site c.args.test.now c.args.yes.now c.args.no.now) c.in_err-value.ensures)

pub build_if-build_expr-requires-in-Steady : goal.build_if-build_expr-requires-in-Steady
build_if-build_expr-requires-in-Steady g t c =
    λ κs h. (omega (arith, c.decreases), (h, chosen_may_build c.args.setting.now.plan.now c.args.setting.now.below c.args.setting.now.era.0 c.args.env.now c.build_expr.new.env (g.N.Nodes.way c.args.nodes.now) (g.N.Nodes.way c.build_expr.new.nodes) (g.N.Nodes.has_era c.args.nodes.now) (g.N.Nodes.has_era c.build_expr.new.nodes) (low.If c.args.site c.args.test.now c.args.yes.now c.args.no.now) c.args.site c.args.test.now c.args.yes.now c.args.no.now c.choice-chosen.result.now c.in-Steady.value (low.outs-If c.args.site c.args.test.now c.args.yes.now c.args.no.now) c.requires (subst (ExprMade c.args.setting.now.plan.now c.args.setting.now.era.0 c.args.setting.now.below c.args.test.now c.args.env.now c.build_expr.new.env (g.N.Nodes.way c.args.nodes.now) (g.N.Nodes.way c.build_expr.new.nodes) (g.N.Nodes.has_era c.args.nodes.now) (g.N.Nodes.has_era c.build_expr.new.nodes)) c.in-Steady.is c.in_ok-value.ensures) c.choice-chosen.ensures))

pub build_if-returns-in_err-held-in-Steady : goal.build_if-returns-in_err-held-in-Steady
build_if-returns-in_err-held-in-Steady g t c =
    expr_out c.args.setting.now.plan.now c.args.setting.now.era.0 (suc c.args.setting.now.below) (low.If c.args.site c.args.test.now c.args.yes.now c.args.no.now) c.args.env.now c.build_expr-in-Steady.new.env (g.N.Nodes.way c.args.nodes.now) (g.N.Nodes.way c.build_expr-in-Steady.new.nodes) (g.N.Nodes.has_era c.args.nodes.now) (g.N.Nodes.has_era c.build_expr-in-Steady.new.nodes) c.from_residual-in_err-held-in-Steady.result c.in_err-held-in-Steady.field-0.0 c.from_residual-in_err-held-in-Steady.ensures.1
    (chosen_out c.args.setting.now.plan.now c.args.setting.now.below c.args.setting.now.era.0 c.args.env.now c.build_expr.new.env (g.N.Nodes.way c.args.nodes.now) (g.N.Nodes.way c.build_expr.new.nodes) (g.N.Nodes.has_era c.args.nodes.now) (g.N.Nodes.has_era c.build_expr.new.nodes) (low.If c.args.site c.args.test.now c.args.yes.now c.args.no.now) c.args.site c.args.test.now c.args.yes.now c.args.no.now c.choice-chosen.result.now c.in-Steady.value c.in_err-held-in-Steady.field-0.0 (low.outs-If c.args.site c.args.test.now c.args.yes.now c.args.no.now) (subst (ExprMade c.args.setting.now.plan.now c.args.setting.now.era.0 c.args.setting.now.below c.args.test.now c.args.env.now c.build_expr.new.env (g.N.Nodes.way c.args.nodes.now) (g.N.Nodes.way c.build_expr.new.nodes) (g.N.Nodes.has_era c.args.nodes.now) (g.N.Nodes.has_era c.build_expr.new.nodes)) c.in-Steady.is c.in_ok-value.ensures) c.choice-chosen.ensures c.in_err-held-in-Steady.ensures)

pub build_if-returns-in_ok-held-in-Steady : goal.build_if-returns-in_ok-held-in-Steady
build_if-returns-in_ok-held-in-Steady g t c =
    chosen_done c.args.setting.now.plan.now c.args.setting.now.below c.args.setting.now.era.0 c.args.env.now c.build_expr.new.env (g.N.Nodes.way c.args.nodes.now) (g.N.Nodes.way c.build_expr.new.nodes) (g.N.Nodes.has_era c.args.nodes.now) (g.N.Nodes.has_era c.build_expr.new.nodes) (low.If c.args.site c.args.test.now c.args.yes.now c.args.no.now) c.args.site c.args.test.now c.args.yes.now c.args.no.now c.choice-chosen.result.now c.in-Steady.value c.build_expr-in-Steady.new.env (g.N.Nodes.way c.build_expr-in-Steady.new.nodes) (g.N.Nodes.has_era c.build_expr-in-Steady.new.nodes) c.in_ok-held-in-Steady.held (low.outs-If c.args.site c.args.test.now c.args.yes.now c.args.no.now) c.requires (subst (ExprMade c.args.setting.now.plan.now c.args.setting.now.era.0 c.args.setting.now.below c.args.test.now c.args.env.now c.build_expr.new.env (g.N.Nodes.way c.args.nodes.now) (g.N.Nodes.way c.build_expr.new.nodes) (g.N.Nodes.has_era c.args.nodes.now) (g.N.Nodes.has_era c.build_expr.new.nodes)) c.in-Steady.is c.in_ok-value.ensures) c.choice-chosen.ensures c.in_ok-held-in-Steady.ensures

pub build_if-overflow_sub-nest : goal.build_if-overflow_sub-nest
build_if-overflow_sub-nest g t c =
    c.requires.levels

pub build_if-make_switch-requires-clause-era : goal.build_if-make_switch-requires-clause-era
build_if-make_switch-requires-clause-era g t c =
    ((subst (ExprMade c.args.setting.now.plan.now c.args.setting.now.era.0 c.args.setting.now.below c.args.test.now c.args.env.now c.build_expr.new.env (g.N.Nodes.way c.args.nodes.now) (g.N.Nodes.way c.build_expr.new.nodes) (g.N.Nodes.has_era c.args.nodes.now) (g.N.Nodes.has_era c.build_expr.new.nodes)) c.in-Signal.is c.in_ok-value.ensures)).eras c.args.setting.now.era.0 ∙ c.requires.ground.era

pub build_if-make_switch-requires-clause-there : goal.build_if-make_switch-requires-clause-there
build_if-make_switch-requires-clause-there g t c =
    test_lives c.args.setting.now.plan.now c.args.setting.now.below c.args.setting.now.era.0 c.args.env.now c.build_expr.new.env (g.N.Nodes.way c.args.nodes.now) (g.N.Nodes.way c.build_expr.new.nodes) (g.N.Nodes.has_era c.args.nodes.now) (g.N.Nodes.has_era c.build_expr.new.nodes) c.args.test.now c.in-Signal.id c.requires.ground (subst (ExprMade c.args.setting.now.plan.now c.args.setting.now.era.0 c.args.setting.now.below c.args.test.now c.args.env.now c.build_expr.new.env (g.N.Nodes.way c.args.nodes.now) (g.N.Nodes.way c.build_expr.new.nodes) (g.N.Nodes.has_era c.args.nodes.now) (g.N.Nodes.has_era c.build_expr.new.nodes)) c.in-Signal.is c.in_ok-value.ensures)

pub build_if-make_switch-requires-clause-env : goal.build_if-make_switch-requires-clause-env
build_if-make_switch-requires-clause-env g t c =
    subst (λ (l : List Held). (sites : Sites) → AreThere ((g.N.Nodes.way c.build_expr.new.nodes) sites) (parts_of l)) (sym c.as_slice.ensures) (scope_lives c.args.setting.now.plan.now c.args.setting.now.below c.args.setting.now.era.0 c.args.env.now c.build_expr.new.env (g.N.Nodes.way c.args.nodes.now) (g.N.Nodes.way c.build_expr.new.nodes) (g.N.Nodes.has_era c.args.nodes.now) (g.N.Nodes.has_era c.build_expr.new.nodes) c.args.test.now (Signal c.in-Signal.id) c.requires.ground (subst (ExprMade c.args.setting.now.plan.now c.args.setting.now.era.0 c.args.setting.now.below c.args.test.now c.args.env.now c.build_expr.new.env (g.N.Nodes.way c.args.nodes.now) (g.N.Nodes.way c.build_expr.new.nodes) (g.N.Nodes.has_era c.args.nodes.now) (g.N.Nodes.has_era c.build_expr.new.nodes)) c.in-Signal.is c.in_ok-value.ensures))

pub build_if-make_switch-requires-clause-nest : goal.build_if-make_switch-requires-clause-nest
build_if-make_switch-requires-clause-nest g t c =
    omega arith

pub build_if-returns-in_err-made-in-Signal : goal.build_if-returns-in_err-made-in-Signal
build_if-returns-in_err-made-in-Signal g t c =
    expr_made c.args.setting.now.plan.now c.args.setting.now.era.0 (suc c.args.setting.now.below) (low.If c.args.site c.args.test.now c.args.yes.now c.args.no.now) c.args.env.now c.build_expr.new.env (g.N.Nodes.way c.args.nodes.now) (g.N.Nodes.way c.make_switch.new.self) (g.N.Nodes.has_era c.args.nodes.now) (g.N.Nodes.has_era c.make_switch.new.self) c.from_residual-in_err-made-in-Signal.result c.in_err-made-in-Signal.field-0.0 c.from_residual-in_err-made-in-Signal.ensures.1

pub build_if-returns-in_ok-made-in-Signal : goal.build_if-returns-in_ok-made-in-Signal
build_if-returns-in_ok-made-in-Signal g t c =
    let le : c.args.setting.now.below ≤ 2000 = c.requires.levels in
    switch_done c.args.setting.now.plan.now c.args.setting.now.below c.args.setting.now.era.0 c.args.env.now c.build_expr.new.env (g.N.Nodes.way c.args.nodes.now) (g.N.Nodes.way c.build_expr.new.nodes) (g.N.Nodes.has_era c.args.nodes.now) (g.N.Nodes.has_era c.build_expr.new.nodes) (low.If c.args.site c.args.test.now c.args.yes.now c.args.no.now) c.args.site c.args.test.now c.args.yes.now c.args.no.now c.in-Signal.id c.in_ok-made-in-Signal.made.watch c.in_ok-made-in-Signal.made.result (2000 - (2000 - c.args.setting.now.below)) (g.N.Nodes.way c.make_switch.new.self) (g.N.Nodes.has_era c.make_switch.new.self) (low.outs-If c.args.site c.args.test.now c.args.yes.now c.args.no.now) (omega arith) c.requires (subst (ExprMade c.args.setting.now.plan.now c.args.setting.now.era.0 c.args.setting.now.below c.args.test.now c.args.env.now c.build_expr.new.env (g.N.Nodes.way c.args.nodes.now) (g.N.Nodes.way c.build_expr.new.nodes) (g.N.Nodes.has_era c.args.nodes.now) (g.N.Nodes.has_era c.build_expr.new.nodes)) c.in-Signal.is c.in_ok-value.ensures) c.in_ok-made-in-Signal.ensures.eras
    (subst (λ (l : List Held). (sites : Sites) → MakesSwitch ((g.N.Nodes.way c.build_expr.new.nodes) sites) ((g.N.Nodes.way c.make_switch.new.self) sites) c.in_ok-made-in-Signal.made.watch.0 c.in_ok-made-in-Signal.made.result.0 c.args.setting.now.era.0 (2000 - (2000 - c.args.setting.now.below)) (sites c.args.site.0).yes (sites c.args.site.0).no (parts_of l) c.in-Signal.id.0) c.as_slice.ensures c.in_ok-made-in-Signal.ensures.makes)

pub build_parts-build_expr-requires : goal.build_parts-build_expr-requires
build_parts-build_expr-requires g t c =
    λ κs h. (omega (arith, c.decreases), (h, part_may c.args.setting.now.plan.now c.args.setting.now.below c.args.setting.now.era.0 c.args.env.now c.loop-expr.env (g.N.Nodes.way c.args.nodes.now) (g.N.Nodes.way c.loop-expr.nodes) (g.N.Nodes.has_era c.args.nodes.now) (g.N.Nodes.has_era c.loop-expr.nodes) c.args.exprs.now c.loop-expr.expr-index c.expr-item.result c.loop-expr.parts c.requires (item_at c.args.exprs.now c.loop-expr.expr-index c.expr-item.result c.loop-expr-test.true ∙ ap Some (sym c.expr-item.is)) c.loop-expr.invariant))

pub build_parts-returns-in_err-part : goal.build_parts-returns-in_err-part
build_parts-returns-in_err-part g t c =
    parts_out c.args.setting.now.plan.now c.args.setting.now.era.0 c.args.setting.now.below c.args.exprs.now c.args.env.now c.build_expr.new.env (g.N.Nodes.way c.args.nodes.now) (g.N.Nodes.way c.build_expr.new.nodes) (g.N.Nodes.has_era c.args.nodes.now) (g.N.Nodes.has_era c.build_expr.new.nodes) c.from_residual.result c.in_err-part.field-0.0 c.from_residual.ensures.1
    (part_out c.args.setting.now.plan.now c.args.setting.now.below c.args.setting.now.era.0 c.args.env.now c.loop-expr.env (g.N.Nodes.way c.args.nodes.now) (g.N.Nodes.way c.loop-expr.nodes) (g.N.Nodes.has_era c.args.nodes.now) (g.N.Nodes.has_era c.loop-expr.nodes) c.args.exprs.now c.loop-expr.expr-index c.expr-item.result c.loop-expr.parts c.in_err-part.field-0.0 (item_at c.args.exprs.now c.loop-expr.expr-index c.expr-item.result c.loop-expr-test.true ∙ ap Some (sym c.expr-item.is)) c.loop-expr.invariant c.in_err-part.ensures)

pub build_parts-same-parts : goal.build_parts-same-parts
build_parts-same-parts g t c =
    refl

pub build_parts-returns-in_err-push : goal.build_parts-returns-in_err-push
build_parts-returns-in_err-push g t c =
    parts_out c.args.setting.now.plan.now c.args.setting.now.era.0 c.args.setting.now.below c.args.exprs.now c.args.env.now c.build_expr.new.env (g.N.Nodes.way c.args.nodes.now) (g.N.Nodes.way c.build_expr.new.nodes) (g.N.Nodes.has_era c.args.nodes.now) (g.N.Nodes.has_era c.build_expr.new.nodes) c.from_residual-in_err-push.result (stop.Memory c.in_err-push.field-0.0) c.from_residual-in_err-push.ensures.1
    (tt)

pub build_parts-same-parts-in-loop-expr : goal.build_parts-same-parts-in-loop-expr
build_parts-same-parts-in-loop-expr g t c =
    refl

pub build_parts-loop-expr-smaller : goal.build_parts-loop-expr-smaller
build_parts-loop-expr-smaller g t c =
    let lt = c.loop-expr-test.true in omega arith

pub build_parts-loop-expr-init : goal.build_parts-loop-expr-init
build_parts-loop-expr-init g t c =
    subst (λ (ps : List Held). PartsMade c.args.setting.now.plan.now c.args.setting.now.era.0 c.args.setting.now.below (take 0 c.args.exprs.now) c.args.env.now c.args.env.now (g.N.Nodes.way c.args.nodes.now) (g.N.Nodes.way c.args.nodes.now) (g.N.Nodes.has_era c.args.nodes.now) (g.N.Nodes.has_era c.args.nodes.now) ps) (sym c.new-parts.ensures) (parts_none c.args.setting.now.plan.now c.args.setting.now.below c.args.setting.now.era.0 c.args.env.now c.args.env.now (g.N.Nodes.way c.args.nodes.now) (g.N.Nodes.way c.args.nodes.now) (g.N.Nodes.has_era c.args.nodes.now) (g.N.Nodes.has_era c.args.nodes.now) c.args.exprs.now c.requires.ground)

pub build_parts-loop-expr-preserved : goal.build_parts-loop-expr-preserved
build_parts-loop-expr-preserved g t c =
    part_next c.args.setting.now.plan.now c.args.setting.now.below c.args.setting.now.era.0 c.args.env.now c.loop-expr.env (g.N.Nodes.way c.args.nodes.now) (g.N.Nodes.way c.loop-expr.nodes) (g.N.Nodes.has_era c.args.nodes.now) (g.N.Nodes.has_era c.loop-expr.nodes) c.args.exprs.now c.loop-expr.expr-index c.expr-item.result c.loop-expr.parts c.push.new.self c.build_expr.new.env (g.N.Nodes.way c.build_expr.new.nodes) (g.N.Nodes.has_era c.build_expr.new.nodes) c.in_ok-part.part c.requires (item_at c.args.exprs.now c.loop-expr.expr-index c.expr-item.result c.loop-expr-test.true ∙ ap Some (sym c.expr-item.is)) c.loop-expr.invariant c.in_ok-part.ensures c.in_ok-push.ensures.ok

pub build_parts-returns : goal.build_parts-returns
build_parts-returns g t c =
    parts_all c.args.setting.now.plan.now c.args.setting.now.below c.args.setting.now.era.0 c.args.env.now c.loop-expr.env (g.N.Nodes.way c.args.nodes.now) (g.N.Nodes.way c.loop-expr.nodes) (g.N.Nodes.has_era c.args.nodes.now) (g.N.Nodes.has_era c.loop-expr.nodes) c.args.exprs.now c.loop-expr.expr-index c.loop-expr.parts c.loop-expr-test.false c.loop-expr.invariant

pub build_feedback-build_expr-requires : goal.build_feedback-build_expr-requires
build_feedback-build_expr-requires g t c =
    λ κs h. (omega (arith, c.decreases), (h, feed_first c.args.setting.now.plan.now c.args.setting.now.below c.args.setting.now.era.0 c.args.env.now c.args.env.now (g.N.Nodes.way c.args.nodes.now) (g.N.Nodes.way c.args.nodes.now) (g.N.Nodes.has_era c.args.nodes.now) (g.N.Nodes.has_era c.args.nodes.now) (low.Feedback c.args.init.now c.args.body.now) c.args.init.now c.args.body.now (low.outs-Feedback c.args.init.now c.args.body.now) c.requires))

pub build_feedback-returns-in_err-first : goal.build_feedback-returns-in_err-first
build_feedback-returns-in_err-first g t c =
    expr_out c.args.setting.now.plan.now c.args.setting.now.era.0 (suc c.args.setting.now.below) (low.Feedback c.args.init.now c.args.body.now) c.args.env.now c.build_expr.new.env (g.N.Nodes.way c.args.nodes.now) (g.N.Nodes.way c.build_expr.new.nodes) (g.N.Nodes.has_era c.args.nodes.now) (g.N.Nodes.has_era c.build_expr.new.nodes) c.from_residual.result c.in_err-first.field-0.0 c.from_residual.ensures.1
    (init_stop c.args.setting.now.plan.now c.args.setting.now.below (parts_of c.args.env.now) c.in_err-first.field-0.0 (low.Feedback c.args.init.now c.args.body.now) c.args.init.now c.args.body.now (low.outs-Feedback c.args.init.now c.args.body.now) c.in_err-first.ensures)

pub build_feedback-overflow_sub-nest : goal.build_feedback-overflow_sub-nest
build_feedback-overflow_sub-nest g t c =
    c.requires.levels

pub build_feedback-shared_whole_as_slice-make : goal.build_feedback-shared_whole_as_slice-make
build_feedback-shared_whole_as_slice-make g t c =
    lit< tt

pub build_feedback-make-requires-clause-work : goal.build_feedback-make-requires-clause-work
build_feedback-make-requires-clause-work g t c =
    refl

pub build_feedback-make-requires-clause-era : goal.build_feedback-make-requires-clause-era
build_feedback-make-requires-clause-era g t c =
    c.in_ok-first.ensures.eras c.args.setting.now.era.0 ∙ c.requires.ground.era

pub build_feedback-make-requires-clause-there : goal.build_feedback-make-requires-clause-there
build_feedback-make-requires-clause-there g t c =
    base_there c.args.setting.now.plan.now c.args.setting.now.below c.args.setting.now.era.0 c.args.env.now c.build_expr.new.env (g.N.Nodes.way c.args.nodes.now) (g.N.Nodes.way c.build_expr.new.nodes) (g.N.Nodes.has_era c.args.nodes.now) (g.N.Nodes.has_era c.build_expr.new.nodes) c.args.init.now c.in_ok-first.first c.requires.ground c.in_ok-first.ensures

pub build_feedback-make-requires-clause-nest : goal.build_feedback-make-requires-clause-nest
build_feedback-make-requires-clause-nest g t c =
    omega arith

pub build_feedback-array_drop-requires : goal.build_feedback-array_drop-requires
build_feedback-array_drop-requires g t c =
    lit< tt

pub build_feedback-array_drop-requires-2 : goal.build_feedback-array_drop-requires-2
build_feedback-array_drop-requires-2 g t c =
    lit< tt

pub build_feedback-returns-in_err-name : goal.build_feedback-returns-in_err-name
build_feedback-returns-in_err-name g t c =
    expr_made c.args.setting.now.plan.now c.args.setting.now.era.0 (suc c.args.setting.now.below) (low.Feedback c.args.init.now c.args.body.now) c.args.env.now c.build_expr.new.env (g.N.Nodes.way c.args.nodes.now) (g.N.Nodes.way c.make.new.self) (g.N.Nodes.has_era c.args.nodes.now) (g.N.Nodes.has_era c.make.new.self) c.from_residual-in_err-name.result c.in_err-name.field-0.0 c.from_residual-in_err-name.ensures.1

pub build_feedback-returns-in_err-push : goal.build_feedback-returns-in_err-push
build_feedback-returns-in_err-push g t c =
    expr_out c.args.setting.now.plan.now c.args.setting.now.era.0 (suc c.args.setting.now.below) (low.Feedback c.args.init.now c.args.body.now) c.args.env.now c.push.new.self (g.N.Nodes.way c.args.nodes.now) (g.N.Nodes.way c.make.new.self) (g.N.Nodes.has_era c.args.nodes.now) (g.N.Nodes.has_era c.make.new.self) c.from_residual-in_err-push.result (stop.Memory c.in_err-push.field-0.0) c.from_residual-in_err-push.ensures.1
    (tt)

pub build_feedback-build_expr-requires-2 : goal.build_feedback-build_expr-requires-2
build_feedback-build_expr-requires-2 g t c =
    let le : c.args.setting.now.below ≤ 2000 = c.requires.levels in
    λ κs h. (omega (arith, c.decreases), (h, feed_then c.args.setting.now.plan.now c.args.setting.now.below c.args.setting.now.era.0 c.args.env.now c.build_expr.new.env (g.N.Nodes.way c.args.nodes.now) (g.N.Nodes.way c.build_expr.new.nodes) (g.N.Nodes.has_era c.args.nodes.now) (g.N.Nodes.has_era c.build_expr.new.nodes) (low.Feedback c.args.init.now c.args.body.now) c.args.init.now c.args.body.now c.in_ok-first.first c.in_ok-name.name (2000 - (2000 - c.args.setting.now.below)) (low.outs-Feedback c.args.init.now c.args.body.now) c.requires c.in_ok-first.ensures (g.N.Nodes.way c.make.new.self) (g.N.Nodes.has_era c.make.new.self) c.in_ok-name.ensures.eras (omega arith) c.in_ok-name.ensures.makes c.push.new.self c.in_ok-push.ensures.ok))

pub build_feedback-returns-in_err-held : goal.build_feedback-returns-in_err-held
build_feedback-returns-in_err-held g t c =
    let le : c.args.setting.now.below ≤ 2000 = c.requires.levels in
    expr_out c.args.setting.now.plan.now c.args.setting.now.era.0 (suc c.args.setting.now.below) (low.Feedback c.args.init.now c.args.body.now) c.args.env.now c.build_expr-2.new.env (g.N.Nodes.way c.args.nodes.now) (g.N.Nodes.way c.build_expr-2.new.nodes) (g.N.Nodes.has_era c.args.nodes.now) (g.N.Nodes.has_era c.build_expr-2.new.nodes) c.from_residual-in_err-held.result c.in_err-held.field-0.0 c.from_residual-in_err-held.ensures.1
    (feed_out c.args.setting.now.plan.now c.args.setting.now.below c.args.setting.now.era.0 c.args.env.now c.build_expr.new.env (g.N.Nodes.way c.args.nodes.now) (g.N.Nodes.way c.build_expr.new.nodes) (g.N.Nodes.has_era c.args.nodes.now) (g.N.Nodes.has_era c.build_expr.new.nodes) (low.Feedback c.args.init.now c.args.body.now) c.args.init.now c.args.body.now c.in_ok-first.first c.in_ok-name.name (2000 - (2000 - c.args.setting.now.below)) (low.outs-Feedback c.args.init.now c.args.body.now) c.requires c.in_ok-first.ensures (g.N.Nodes.way c.make.new.self) (g.N.Nodes.has_era c.make.new.self) c.in_ok-name.ensures.eras (omega arith) c.in_ok-name.ensures.makes c.push.new.self c.in_ok-push.ensures.ok c.in_err-held.field-0.0 c.in_err-held.ensures)

pub build_feedback-cut-requires : goal.build_feedback-cut-requires
build_feedback-cut-requires g t c =
    outer_fits c.len-outer.result c.build_expr.new.env (Signal c.in_ok-name.name ∷ []) c.push.new.self c.build_expr-2.new.env c.len-outer.ensures c.in_ok-push.ensures.ok c.in_ok-held.ensures.env

pub build_feedback-returns-in_err-last : goal.build_feedback-returns-in_err-last
build_feedback-returns-in_err-last g t c =
    expr_out c.args.setting.now.plan.now c.args.setting.now.era.0 (suc c.args.setting.now.below) (low.Feedback c.args.init.now c.args.body.now) c.args.env.now c.cut.new.env (g.N.Nodes.way c.args.nodes.now) (g.N.Nodes.way c.build_expr-2.new.nodes) (g.N.Nodes.has_era c.args.nodes.now) (g.N.Nodes.has_era c.build_expr-2.new.nodes) c.from_residual-in_err-last.result (stop.Memory c.in_err-last.field-0.0) c.from_residual-in_err-last.ensures.1
    (tt)

pub build_feedback-tie-requires : goal.build_feedback-tie-requires
build_feedback-tie-requires g t c =
    let le : c.args.setting.now.below ≤ 2000 = c.requires.levels in
    record { there = name_lives c.args.setting.now.plan.now c.args.setting.now.below c.args.setting.now.era.0 c.args.env.now c.build_expr.new.env (g.N.Nodes.way c.args.nodes.now) (g.N.Nodes.way c.build_expr.new.nodes) (g.N.Nodes.has_era c.args.nodes.now) (g.N.Nodes.has_era c.build_expr.new.nodes) (low.Feedback c.args.init.now c.args.body.now) c.args.init.now c.args.body.now c.in_ok-first.first c.in_ok-name.name (2000 - (2000 - c.args.setting.now.below)) (low.outs-Feedback c.args.init.now c.args.body.now) c.requires c.in_ok-first.ensures (g.N.Nodes.way c.make.new.self) (g.N.Nodes.has_era c.make.new.self) c.in_ok-name.ensures.eras (omega arith) c.in_ok-name.ensures.makes c.push.new.self c.in_ok-push.ensures.ok c.build_expr-2.new.env (g.N.Nodes.way c.build_expr-2.new.nodes) (g.N.Nodes.has_era c.build_expr-2.new.nodes) c.in_ok-held.held c.in_ok-held.ensures }

pub build_feedback-returns : goal.build_feedback-returns
build_feedback-returns g t c =
    let le : c.args.setting.now.below ≤ 2000 = c.requires.levels in
    feed_done c.args.setting.now.plan.now c.args.setting.now.below c.args.setting.now.era.0 c.args.env.now c.build_expr.new.env (g.N.Nodes.way c.args.nodes.now) (g.N.Nodes.way c.build_expr.new.nodes) (g.N.Nodes.has_era c.args.nodes.now) (g.N.Nodes.has_era c.build_expr.new.nodes) (low.Feedback c.args.init.now c.args.body.now) c.args.init.now c.args.body.now c.in_ok-first.first c.in_ok-name.name (2000 - (2000 - c.args.setting.now.below)) (low.outs-Feedback c.args.init.now c.args.body.now) c.requires c.in_ok-first.ensures (g.N.Nodes.way c.make.new.self) (g.N.Nodes.has_era c.make.new.self) c.in_ok-name.ensures.eras (omega arith) c.in_ok-name.ensures.makes c.push.new.self c.in_ok-push.ensures.ok c.build_expr-2.new.env c.cut.new.env (g.N.Nodes.way c.build_expr-2.new.nodes) (g.N.Nodes.way c.tie.new.self) (g.N.Nodes.has_era c.build_expr-2.new.nodes) (g.N.Nodes.has_era c.tie.new.self) c.in_ok-held.held c.len-outer.result c.in_ok-held.ensures c.len-outer.ensures c.cut.ensures c.tie.ensures.eras
    (subst (λ (h : Held). (sites : Sites) → Ties ((g.N.Nodes.way c.build_expr-2.new.nodes) sites) ((g.N.Nodes.way c.tie.new.self) sites) c.in_ok-name.name.0 (part_of h)) c.in_ok-last.ensures c.tie.ensures.ties)

pub build_expr-returns-then-setting-eq0 : goal.build_expr-returns-then-setting-eq0
build_expr-returns-then-setting-eq0 g t c =
    subst (λ (k : ℕ). ExprStops c.args.setting.now.plan.now k c.args.expr.now (parts_of c.args.env.now) (stop.Bad Deep)) (sym c.if-setting-eq0.true) (deep_stop c.args.setting.now.plan.now c.args.expr.now (parts_of c.args.env.now) (stop.Bad Deep))

pub build_expr-overflow_sub-inner : goal.build_expr-overflow_sub-inner
build_expr-overflow_sub-inner g t c =
    omega arith

pub build_expr-returns-in_err-share-in-Lit : goal.build_expr-returns-in_err-share-in-Lit
build_expr-returns-in_err-share-in-Lit g t c =
    expr_out c.args.setting.now.plan.now c.args.setting.now.era.0 c.args.setting.now.below c.args.expr.now c.args.env.now c.args.env.now (g.N.Nodes.way c.args.nodes.now) (g.N.Nodes.way c.args.nodes.now) (g.N.Nodes.has_era c.args.nodes.now) (g.N.Nodes.has_era c.args.nodes.now) c.from_residual.result (stop.Memory c.in_err-share-in-Lit.field-0.0) c.from_residual.ensures.1 tt

pub build_expr-returns-in_err-build_variable-in-Var : goal.build_expr-returns-in_err-build_variable-in-Var
build_expr-returns-in_err-build_variable-in-Var g t c =
    expr_out c.args.setting.now.plan.now c.args.setting.now.era.0 c.args.setting.now.below c.args.expr.now c.args.env.now c.args.env.now (g.N.Nodes.way c.args.nodes.now) (g.N.Nodes.way c.args.nodes.now) (g.N.Nodes.has_era c.args.nodes.now) (g.N.Nodes.has_era c.args.nodes.now) c.from_residual-in_err-build_variable-in-Var.result (stop.Memory c.in_err-build_variable-in-Var.field-0.0) c.from_residual-in_err-build_variable-in-Var.ensures.1 tt

pub build_expr-build_variable-requires : goal.build_expr-build_variable-requires
build_expr-build_variable-requires g t c =
    subst (λ (l : List Held). c.in-Var.id.0 < length l) (sym c.as_slice.ensures) (names_in c.args.setting.now.plan.now (c.args.setting.now.below - 1) c.args.setting.now.era.0 c.args.env.now c.args.env.now (g.N.Nodes.way c.args.nodes.now) (g.N.Nodes.way c.args.nodes.now) (g.N.Nodes.has_era c.args.nodes.now) (g.N.Nodes.has_era c.args.nodes.now) c.args.expr.now (Low-F.Var c.in-Var.id) (ap out-Low c.in-Var.is ∙ low.outs-Var c.in-Var.id) c.requires.fits)

pub build_expr-returns-in_ok-share-in-Lit : goal.build_expr-returns-in_ok-share-in-Lit
build_expr-returns-in_ok-share-in-Lit g t c =
    subst (λ (k : ℕ). ExprMade c.args.setting.now.plan.now c.args.setting.now.era.0 k c.args.expr.now c.args.env.now c.args.env.now (g.N.Nodes.way c.args.nodes.now) (g.N.Nodes.way c.args.nodes.now) (g.N.Nodes.has_era c.args.nodes.now) (g.N.Nodes.has_era c.args.nodes.now) (Steady c.in_ok-share-in-Lit.field-0)) (one_less c.args.setting.now.below c.if-setting-eq0.false)
    (subst (λ (v : Value). ExprMade c.args.setting.now.plan.now c.args.setting.now.era.0 (suc (c.args.setting.now.below - 1)) c.args.expr.now c.args.env.now c.args.env.now (g.N.Nodes.way c.args.nodes.now) (g.N.Nodes.way c.args.nodes.now) (g.N.Nodes.has_era c.args.nodes.now) (g.N.Nodes.has_era c.args.nodes.now) (Steady v)) (sym c.in_ok-share-in-Lit.ensures) (literal_done c.args.setting.now.plan.now (c.args.setting.now.below - 1) c.args.setting.now.era.0 c.args.env.now c.args.env.now (g.N.Nodes.way c.args.nodes.now) (g.N.Nodes.way c.args.nodes.now) (g.N.Nodes.has_era c.args.nodes.now) (g.N.Nodes.has_era c.args.nodes.now) c.args.expr.now c.in-Lit.value (ap out-Low c.in-Lit.is ∙ low.outs-Lit c.in-Lit.value) (subst (λ (k : ℕ). MayBuild 2001 c.args.setting.now.plan.now k c.args.setting.now.era.0 (g.N.Nodes.way c.args.nodes.now) (g.N.Nodes.has_era c.args.nodes.now) (parts_of c.args.env.now) (IsReady c.args.setting.now.plan.now (length c.args.env.now) c.args.expr.now)) (sym (one_less c.args.setting.now.below c.if-setting-eq0.false)) c.requires)))

pub build_expr-returns-in_ok-build_variable-in-Var : goal.build_expr-returns-in_ok-build_variable-in-Var
build_expr-returns-in_ok-build_variable-in-Var g t c =
    subst (λ (k : ℕ). ExprMade c.args.setting.now.plan.now c.args.setting.now.era.0 k c.args.expr.now c.args.env.now c.args.env.now (g.N.Nodes.way c.args.nodes.now) (g.N.Nodes.way c.args.nodes.now) (g.N.Nodes.has_era c.args.nodes.now) (g.N.Nodes.has_era c.args.nodes.now) c.in_ok-build_variable-in-Var.field-0) (one_less c.args.setting.now.below c.if-setting-eq0.false)
    (variable_done c.args.setting.now.plan.now (c.args.setting.now.below - 1) c.args.setting.now.era.0 c.args.env.now c.args.env.now (g.N.Nodes.way c.args.nodes.now) (g.N.Nodes.way c.args.nodes.now) (g.N.Nodes.has_era c.args.nodes.now) (g.N.Nodes.has_era c.args.nodes.now) c.args.expr.now c.in-Var.id c.in_ok-build_variable-in-Var.field-0 (ap out-Low c.in-Var.is ∙ low.outs-Var c.in-Var.id) (subst (λ (k : ℕ). MayBuild 2001 c.args.setting.now.plan.now k c.args.setting.now.era.0 (g.N.Nodes.way c.args.nodes.now) (g.N.Nodes.has_era c.args.nodes.now) (parts_of c.args.env.now) (IsReady c.args.setting.now.plan.now (length c.args.env.now) c.args.expr.now)) (sym (one_less c.args.setting.now.below c.if-setting-eq0.false)) c.requires) (subst (λ (l : List Held). slice_get (parts_of l) c.in-Var.id.0 ≡ Some (part_of c.in_ok-build_variable-in-Var.field-0)) c.as_slice.ensures c.in_ok-build_variable-in-Var.ensures))

pub build_expr-returns-in-Source : goal.build_expr-returns-in-Source
build_expr-returns-in-Source g t c =
    subst (λ (k : ℕ). ExprMade c.args.setting.now.plan.now c.args.setting.now.era.0 k c.args.expr.now c.args.env.now c.args.env.now (g.N.Nodes.way c.args.nodes.now) (g.N.Nodes.way c.args.nodes.now) (g.N.Nodes.has_era c.args.nodes.now) (g.N.Nodes.has_era c.args.nodes.now) (Signal (record { 0 = c.in-Source.id.0 }))) (one_less c.args.setting.now.below c.if-setting-eq0.false)
    (source_done c.args.setting.now.plan.now (c.args.setting.now.below - 1) c.args.setting.now.era.0 c.args.env.now c.args.env.now (g.N.Nodes.way c.args.nodes.now) (g.N.Nodes.way c.args.nodes.now) (g.N.Nodes.has_era c.args.nodes.now) (g.N.Nodes.has_era c.args.nodes.now) c.args.expr.now c.in-Source.id (record { 0 = c.in-Source.id.0 }) (ap out-Low c.in-Source.is ∙ low.outs-Source c.in-Source.id) refl (subst (λ (k : ℕ). MayBuild 2001 c.args.setting.now.plan.now k c.args.setting.now.era.0 (g.N.Nodes.way c.args.nodes.now) (g.N.Nodes.has_era c.args.nodes.now) (parts_of c.args.env.now) (IsReady c.args.setting.now.plan.now (length c.args.env.now) c.args.expr.now)) (sym (one_less c.args.setting.now.below c.if-setting-eq0.false)) c.requires))

pub build_expr-build_let-requires : goal.build_expr-build_let-requires
build_expr-build_let-requires g t c =
    let same : c.args.expr.now ≡ (low.Let c.as_slice-in-Let.result.now c.get.result.now) = rw (c.as_slice-in-Let.ensures, c.get.ensures) c.in-Let.is in
    λ κs h. (omega (arith, c.decreases), (h, step_may c.args.setting.now.plan.now c.args.setting.now.below c.args.setting.now.era.0 (length c.args.env.now) (g.N.Nodes.way c.args.nodes.now) (g.N.Nodes.has_era c.args.nodes.now) (parts_of c.args.env.now) c.args.expr.now (low.Let c.as_slice-in-Let.result.now c.get.result.now) c.if-setting-eq0.false same c.requires))

pub build_expr-returns-in-Let : goal.build_expr-returns-in-Let
build_expr-returns-in-Let g t c =
    let same : c.args.expr.now ≡ (low.Let c.as_slice-in-Let.result.now c.get.result.now) = rw (c.as_slice-in-Let.ensures, c.get.ensures) c.in-Let.is in
    expr_same c.args.setting.now.plan.now c.args.setting.now.era.0 (suc (c.args.setting.now.below - 1)) c.args.setting.now.below (low.Let c.as_slice-in-Let.result.now c.get.result.now) c.args.expr.now c.args.env.now c.build_let.new.env (g.N.Nodes.way c.args.nodes.now) (g.N.Nodes.way c.build_let.new.nodes) (g.N.Nodes.has_era c.args.nodes.now) (g.N.Nodes.has_era c.build_let.new.nodes) c.build_let.result (one_less c.args.setting.now.below c.if-setting-eq0.false) (sym same) c.build_let.ensures

pub build_expr-build_if-requires : goal.build_expr-build_if-requires
build_expr-build_if-requires g t c =
    let same : c.args.expr.now ≡ (low.If c.in-If.site c.get-in-If.result.now c.get-in-If-2.result.now c.get-in-If-3.result.now) = rw (c.get-in-If.ensures, c.get-in-If-2.ensures, c.get-in-If-3.ensures) c.in-If.is in
    λ κs h. (omega (arith, c.decreases), (h, step_may c.args.setting.now.plan.now c.args.setting.now.below c.args.setting.now.era.0 (length c.args.env.now) (g.N.Nodes.way c.args.nodes.now) (g.N.Nodes.has_era c.args.nodes.now) (parts_of c.args.env.now) c.args.expr.now (low.If c.in-If.site c.get-in-If.result.now c.get-in-If-2.result.now c.get-in-If-3.result.now) c.if-setting-eq0.false same c.requires))

pub build_expr-returns-in-If : goal.build_expr-returns-in-If
build_expr-returns-in-If g t c =
    let same : c.args.expr.now ≡ (low.If c.in-If.site c.get-in-If.result.now c.get-in-If-2.result.now c.get-in-If-3.result.now) = rw (c.get-in-If.ensures, c.get-in-If-2.ensures, c.get-in-If-3.ensures) c.in-If.is in
    expr_same c.args.setting.now.plan.now c.args.setting.now.era.0 (suc (c.args.setting.now.below - 1)) c.args.setting.now.below (low.If c.in-If.site c.get-in-If.result.now c.get-in-If-2.result.now c.get-in-If-3.result.now) c.args.expr.now c.args.env.now c.build_if.new.env (g.N.Nodes.way c.args.nodes.now) (g.N.Nodes.way c.build_if.new.nodes) (g.N.Nodes.has_era c.args.nodes.now) (g.N.Nodes.has_era c.build_if.new.nodes) c.build_if.result (one_less c.args.setting.now.below c.if-setting-eq0.false) (sym same) c.build_if.ensures

pub build_expr-build_call-requires : goal.build_expr-build_call-requires
build_expr-build_call-requires g t c =
    let same : c.args.expr.now ≡ (low.Apply c.in-Apply.id c.as_slice-in-Apply.result.now) = rw (c.as_slice-in-Apply.ensures) c.in-Apply.is in
    λ κs h. (omega (arith, c.decreases), (h, step_may c.args.setting.now.plan.now c.args.setting.now.below c.args.setting.now.era.0 (length c.args.env.now) (g.N.Nodes.way c.args.nodes.now) (g.N.Nodes.has_era c.args.nodes.now) (parts_of c.args.env.now) c.args.expr.now (low.Apply c.in-Apply.id c.as_slice-in-Apply.result.now) c.if-setting-eq0.false same c.requires))

pub build_expr-returns-in-Apply : goal.build_expr-returns-in-Apply
build_expr-returns-in-Apply g t c =
    let same : c.args.expr.now ≡ (low.Apply c.in-Apply.id c.as_slice-in-Apply.result.now) = rw (c.as_slice-in-Apply.ensures) c.in-Apply.is in
    expr_same c.args.setting.now.plan.now c.args.setting.now.era.0 (suc (c.args.setting.now.below - 1)) c.args.setting.now.below (low.Apply c.in-Apply.id c.as_slice-in-Apply.result.now) c.args.expr.now c.args.env.now c.build_call.new.env (g.N.Nodes.way c.args.nodes.now) (g.N.Nodes.way c.build_call.new.nodes) (g.N.Nodes.has_era c.args.nodes.now) (g.N.Nodes.has_era c.build_call.new.nodes) c.build_call.result (one_less c.args.setting.now.below c.if-setting-eq0.false) (sym same) c.build_call.ensures

pub build_expr-build_operator-requires : goal.build_expr-build_operator-requires
build_expr-build_operator-requires g t c =
    let same : c.args.expr.now ≡ (low.Operator c.in-Operator.operator c.as_slice-in-Operator.result.now) = rw (c.as_slice-in-Operator.ensures) c.in-Operator.is in
    λ κs h. (omega (arith, c.decreases), (h, step_may c.args.setting.now.plan.now c.args.setting.now.below c.args.setting.now.era.0 (length c.args.env.now) (g.N.Nodes.way c.args.nodes.now) (g.N.Nodes.has_era c.args.nodes.now) (parts_of c.args.env.now) c.args.expr.now (low.Operator c.in-Operator.operator c.as_slice-in-Operator.result.now) c.if-setting-eq0.false same c.requires))

pub build_expr-returns-in-Operator : goal.build_expr-returns-in-Operator
build_expr-returns-in-Operator g t c =
    let same : c.args.expr.now ≡ (low.Operator c.in-Operator.operator c.as_slice-in-Operator.result.now) = rw (c.as_slice-in-Operator.ensures) c.in-Operator.is in
    expr_same c.args.setting.now.plan.now c.args.setting.now.era.0 (suc (c.args.setting.now.below - 1)) c.args.setting.now.below (low.Operator c.in-Operator.operator c.as_slice-in-Operator.result.now) c.args.expr.now c.args.env.now c.build_operator.new.env (g.N.Nodes.way c.args.nodes.now) (g.N.Nodes.way c.build_operator.new.nodes) (g.N.Nodes.has_era c.args.nodes.now) (g.N.Nodes.has_era c.build_operator.new.nodes) c.build_operator.result (one_less c.args.setting.now.below c.if-setting-eq0.false) (sym same) c.build_operator.ensures

pub build_expr-build_handler-requires : goal.build_expr-build_handler-requires
build_expr-build_handler-requires g t c =
    let same : c.args.expr.now ≡ (low.Handler c.in-Handler.handler c.as_slice-in-Handler.result.now c.in-Handler.body c.as_slice-in-Handler-2.result.now) = rw (c.as_slice-in-Handler.ensures, c.as_slice-in-Handler-2.ensures) c.in-Handler.is in
    λ κs h. (omega (arith, c.decreases), (h, step_may c.args.setting.now.plan.now c.args.setting.now.below c.args.setting.now.era.0 (length c.args.env.now) (g.N.Nodes.way c.args.nodes.now) (g.N.Nodes.has_era c.args.nodes.now) (parts_of c.args.env.now) c.args.expr.now (low.Handler c.in-Handler.handler c.as_slice-in-Handler.result.now c.in-Handler.body c.as_slice-in-Handler-2.result.now) c.if-setting-eq0.false same c.requires))

pub build_expr-returns-in-Handler : goal.build_expr-returns-in-Handler
build_expr-returns-in-Handler g t c =
    let same : c.args.expr.now ≡ (low.Handler c.in-Handler.handler c.as_slice-in-Handler.result.now c.in-Handler.body c.as_slice-in-Handler-2.result.now) = rw (c.as_slice-in-Handler.ensures, c.as_slice-in-Handler-2.ensures) c.in-Handler.is in
    expr_same c.args.setting.now.plan.now c.args.setting.now.era.0 (suc (c.args.setting.now.below - 1)) c.args.setting.now.below (low.Handler c.in-Handler.handler c.as_slice-in-Handler.result.now c.in-Handler.body c.as_slice-in-Handler-2.result.now) c.args.expr.now c.args.env.now c.build_handler.new.env (g.N.Nodes.way c.args.nodes.now) (g.N.Nodes.way c.build_handler.new.nodes) (g.N.Nodes.has_era c.args.nodes.now) (g.N.Nodes.has_era c.build_handler.new.nodes) c.build_handler.result (one_less c.args.setting.now.below c.if-setting-eq0.false) (sym same) c.build_handler.ensures

pub build_expr-build_loop-requires : goal.build_expr-build_loop-requires
build_expr-build_loop-requires g t c =
    let same : c.args.expr.now ≡ (low.Loop c.in-Loop.looped c.as_slice-in-Loop.result.now c.in-Loop.body c.as_slice-in-Loop-2.result.now) = rw (c.as_slice-in-Loop.ensures, c.as_slice-in-Loop-2.ensures) c.in-Loop.is in
    λ κs h. (omega (arith, c.decreases), (h, step_may c.args.setting.now.plan.now c.args.setting.now.below c.args.setting.now.era.0 (length c.args.env.now) (g.N.Nodes.way c.args.nodes.now) (g.N.Nodes.has_era c.args.nodes.now) (parts_of c.args.env.now) c.args.expr.now (low.Loop c.in-Loop.looped c.as_slice-in-Loop.result.now c.in-Loop.body c.as_slice-in-Loop-2.result.now) c.if-setting-eq0.false same c.requires))

pub build_expr-returns-in-Loop : goal.build_expr-returns-in-Loop
build_expr-returns-in-Loop g t c =
    let same : c.args.expr.now ≡ (low.Loop c.in-Loop.looped c.as_slice-in-Loop.result.now c.in-Loop.body c.as_slice-in-Loop-2.result.now) = rw (c.as_slice-in-Loop.ensures, c.as_slice-in-Loop-2.ensures) c.in-Loop.is in
    expr_same c.args.setting.now.plan.now c.args.setting.now.era.0 (suc (c.args.setting.now.below - 1)) c.args.setting.now.below (low.Loop c.in-Loop.looped c.as_slice-in-Loop.result.now c.in-Loop.body c.as_slice-in-Loop-2.result.now) c.args.expr.now c.args.env.now c.build_loop.new.env (g.N.Nodes.way c.args.nodes.now) (g.N.Nodes.way c.build_loop.new.nodes) (g.N.Nodes.has_era c.args.nodes.now) (g.N.Nodes.has_era c.build_loop.new.nodes) c.build_loop.result (one_less c.args.setting.now.below c.if-setting-eq0.false) (sym same) c.build_loop.ensures

pub build_expr-build_feedback-requires : goal.build_expr-build_feedback-requires
build_expr-build_feedback-requires g t c =
    let same : c.args.expr.now ≡ (low.Feedback c.get-in-Feedback.result.now c.get-in-Feedback-2.result.now) = rw (c.get-in-Feedback.ensures, c.get-in-Feedback-2.ensures) c.in-Feedback.is in
    λ κs h. (omega (arith, c.decreases), (h, step_may c.args.setting.now.plan.now c.args.setting.now.below c.args.setting.now.era.0 (length c.args.env.now) (g.N.Nodes.way c.args.nodes.now) (g.N.Nodes.has_era c.args.nodes.now) (parts_of c.args.env.now) c.args.expr.now (low.Feedback c.get-in-Feedback.result.now c.get-in-Feedback-2.result.now) c.if-setting-eq0.false same c.requires))

pub build_expr-returns-in-Feedback : goal.build_expr-returns-in-Feedback
build_expr-returns-in-Feedback g t c =
    let same : c.args.expr.now ≡ (low.Feedback c.get-in-Feedback.result.now c.get-in-Feedback-2.result.now) = rw (c.get-in-Feedback.ensures, c.get-in-Feedback-2.ensures) c.in-Feedback.is in
    expr_same c.args.setting.now.plan.now c.args.setting.now.era.0 (suc (c.args.setting.now.below - 1)) c.args.setting.now.below (low.Feedback c.get-in-Feedback.result.now c.get-in-Feedback-2.result.now) c.args.expr.now c.args.env.now c.build_feedback.new.env (g.N.Nodes.way c.args.nodes.now) (g.N.Nodes.way c.build_feedback.new.nodes) (g.N.Nodes.has_era c.args.nodes.now) (g.N.Nodes.has_era c.build_feedback.new.nodes) c.build_feedback.result (one_less c.args.setting.now.below c.if-setting-eq0.false) (sym same) c.build_feedback.ensures

pub build_expr-build_region-requires-clause-below : goal.build_expr-build_region-requires-clause-below
build_expr-build_region-requires-clause-below g t c =
    let le = c.requires.levels in omega arith

pub build_expr-build_region-requires-clause-plan : goal.build_expr-build_region-requires-clause-plan
build_expr-build_region-requires-clause-plan g t c =
    c.requires.plan

pub build_expr-build_region-requires-clause-era : goal.build_expr-build_region-requires-clause-era
build_expr-build_region-requires-clause-era g t c =
    c.requires.ground.era

pub build_expr-build_region-requires-clause-taken : goal.build_expr-build_region-requires-clause-taken
build_expr-build_region-requires-clause-taken g t c =
    c.requires.ground.taken

pub build_expr-build_region-requires-clause-there : goal.build_expr-build_region-requires-clause-there
build_expr-build_region-requires-clause-there g t c =
    subst (λ (l : List Held). (sites : Sites) → AreThere ((g.N.Nodes.way c.args.nodes.now) sites) (slot_parts (plan_of c.args.setting.now.plan.now) (parts_of l) c.as_slice-in-Collapse-2.result.now)) (sym c.as_slice-in-Collapse.ensures)
    (subst (λ (ss : List Slot). (sites : Sites) → AreThere ((g.N.Nodes.way c.args.nodes.now) sites) (slot_parts (plan_of c.args.setting.now.plan.now) (parts_of c.args.env.now) ss)) (sym c.as_slice-in-Collapse-2.ensures) (region_there c.args.setting.now.plan.now (c.args.setting.now.below - 1) c.args.setting.now.era.0 c.args.env.now c.args.env.now (g.N.Nodes.way c.args.nodes.now) (g.N.Nodes.way c.args.nodes.now) (g.N.Nodes.has_era c.args.nodes.now) (g.N.Nodes.has_era c.args.nodes.now) c.in-Collapse.slots (names_in c.args.setting.now.plan.now (c.args.setting.now.below - 1) c.args.setting.now.era.0 c.args.env.now c.args.env.now (g.N.Nodes.way c.args.nodes.now) (g.N.Nodes.way c.args.nodes.now) (g.N.Nodes.has_era c.args.nodes.now) (g.N.Nodes.has_era c.args.nodes.now) c.args.expr.now (Low-F.Collapse c.in-Collapse.id c.in-Collapse.slots) (ap out-Low c.in-Collapse.is ∙ low.outs-Collapse c.in-Collapse.id c.in-Collapse.slots) c.requires.fits) c.requires.ground))

pub build_expr-build_region-requires-clause-slots : goal.build_expr-build_region-requires-clause-slots
build_expr-build_region-requires-clause-slots g t c =
    subst (λ (l : List Held). AreSlotsIn (length l) c.args.setting.now.plan.now.sources c.as_slice-in-Collapse-2.result.now) (sym c.as_slice-in-Collapse.ensures) (subst (λ (ss : List Slot). AreSlotsIn (length c.args.env.now) c.args.setting.now.plan.now.sources ss) (sym c.as_slice-in-Collapse-2.ensures) (names_in c.args.setting.now.plan.now (c.args.setting.now.below - 1) c.args.setting.now.era.0 c.args.env.now c.args.env.now (g.N.Nodes.way c.args.nodes.now) (g.N.Nodes.way c.args.nodes.now) (g.N.Nodes.has_era c.args.nodes.now) (g.N.Nodes.has_era c.args.nodes.now) c.args.expr.now (Low-F.Collapse c.in-Collapse.id c.in-Collapse.slots) (ap out-Low c.in-Collapse.is ∙ low.outs-Collapse c.in-Collapse.id c.in-Collapse.slots) c.requires.fits))

pub build_expr-build_region-requires-clause-kernel : goal.build_expr-build_region-requires-clause-kernel
build_expr-build_region-requires-clause-kernel g t c =
    region_kernel c.args.setting.now.plan.now (c.args.setting.now.below - 1) c.args.setting.now.era.0 c.args.env.now c.args.env.now (g.N.Nodes.way c.args.nodes.now) (g.N.Nodes.way c.args.nodes.now) (g.N.Nodes.has_era c.args.nodes.now) (g.N.Nodes.has_era c.args.nodes.now) c.args.expr.now c.in-Collapse.id c.in-Collapse.slots (ap out-Low c.in-Collapse.is ∙ low.outs-Collapse c.in-Collapse.id c.in-Collapse.slots) c.requires.fits

pub build_expr-returns-in-Collapse : goal.build_expr-returns-in-Collapse
build_expr-returns-in-Collapse g t c =
    subst (λ (k : ℕ). ExprOutcome c.args.setting.now.plan.now c.args.setting.now.era.0 k c.args.expr.now c.args.env.now c.args.env.now (g.N.Nodes.way c.args.nodes.now) (g.N.Nodes.way c.build_region.new.nodes) (g.N.Nodes.has_era c.args.nodes.now) (g.N.Nodes.has_era c.build_region.new.nodes) c.build_region.result) (one_less c.args.setting.now.below c.if-setting-eq0.false)
    (region_outcome c.args.setting.now.plan.now (c.args.setting.now.below - 1) c.args.setting.now.era.0 c.args.env.now c.args.env.now (g.N.Nodes.way c.args.nodes.now) (g.N.Nodes.way c.build_region.new.nodes) (g.N.Nodes.has_era c.args.nodes.now) (g.N.Nodes.has_era c.build_region.new.nodes) c.args.expr.now c.in-Collapse.id c.in-Collapse.slots c.as_slice-in-Collapse.result.now c.as_slice-in-Collapse-2.result.now c.build_region.result (ap out-Low c.in-Collapse.is ∙ low.outs-Collapse c.in-Collapse.id c.in-Collapse.slots) (subst (λ (k : ℕ). MayBuild 2001 c.args.setting.now.plan.now k c.args.setting.now.era.0 (g.N.Nodes.way c.args.nodes.now) (g.N.Nodes.has_era c.args.nodes.now) (parts_of c.args.env.now) (IsReady c.args.setting.now.plan.now (length c.args.env.now) c.args.expr.now)) (sym (one_less c.args.setting.now.below c.if-setting-eq0.false)) c.requires) c.as_slice-in-Collapse.ensures c.as_slice-in-Collapse-2.ensures c.build_region.ensures.eras c.build_region.ensures.builds c.build_region.ensures.stops)
