use Rattle.std.proofs.Common.{◌∙◌, ◌++◌, ◌∷◌, [], List, ap, sym, subst}
use Rattle.std.proofs.lemmas.Result.{err_from_is_err_and}
use Rattle.fr_value.specs.declared.now.Held.{Held}
use Rattle.fr_build.specs.Items.{ItemsMade}
use Rattle.fr_build.proofs.Body.{define_ready, show_ready, next_ground, define_made, show_made, define_stops, show_stops}
use Rattle.fr_build.proofs.items.build_item.Goals as goal

pub build-requires-clause-ready : goal.build-requires-clause-ready
build-requires-clause-ready g c =
    define_ready c.args.plan.now c.args.item.now (g.N.Nodes.way c.args.nodes.now) (g.N.Nodes.has_era c.args.nodes.now) c.args.env.now c.args.shown.now c.requires c.in-Define.e c.in-Define.is

pub build-requires-clause-ground : goal.build-requires-clause-ground
build-requires-clause-ground g c =
    next_ground c.args.plan.now c.args.item.now (g.N.Nodes.way c.args.nodes.now) (g.N.Nodes.has_era c.args.nodes.now) c.args.env.now c.args.shown.now c.requires

pub returns-in_err-held-in-Define-clause-stops : goal.returns-in_err-held-in-Define-clause-stops
returns-in_err-held-in-Define-clause-stops g c =
    let p = err_from_is_err_and c.from_residual.result c.from_residual.ensures.1 in
    rw (p.1, p.2) (λ next. define_stops c.args.plan.now c.args.item.now (g.N.Nodes.way c.args.nodes.now) (g.N.Nodes.has_era c.args.nodes.now) c.args.env.now c.args.shown.now next c.in-Define.e c.in_err-held-in-Define.field-0.0 c.in-Define.is c.in_err-held-in-Define.ensures.stops)

pub build-requires-in-Show-clause-ready : goal.build-requires-in-Show-clause-ready
build-requires-in-Show-clause-ready g c =
    show_ready c.args.plan.now c.args.item.now (g.N.Nodes.way c.args.nodes.now) (g.N.Nodes.has_era c.args.nodes.now) c.args.env.now c.args.shown.now c.requires c.in-Show.field-0 c.in-Show.e c.in-Show.is

pub build-requires-in-Show-clause-ground : goal.build-requires-in-Show-clause-ground
build-requires-in-Show-clause-ground g c =
    next_ground c.args.plan.now c.args.item.now (g.N.Nodes.way c.args.nodes.now) (g.N.Nodes.has_era c.args.nodes.now) c.args.env.now c.args.shown.now c.requires

pub returns-in_err-held-in-Show-clause-stops : goal.returns-in_err-held-in-Show-clause-stops
returns-in_err-held-in-Show-clause-stops g c =
    let p = err_from_is_err_and c.from_residual-in_err-held-in-Show.result c.from_residual-in_err-held-in-Show.ensures.1 in
    rw (p.1, p.2) (λ next. show_stops c.args.plan.now c.args.item.now (g.N.Nodes.way c.args.nodes.now) (g.N.Nodes.has_era c.args.nodes.now) c.args.env.now c.args.shown.now next c.in-Show.field-0 c.in-Show.e c.in_err-held-in-Show.field-0.0 c.in-Show.is c.in_err-held-in-Show.ensures.stops)

pub returns-in_ok-push-in-Define-clause-made : goal.returns-in_ok-push-in-Define-clause-made
returns-in_ok-push-in-Define-clause-made g c = λ next.
    let held = c.in_ok-held-in-Define.held in
    define_made c.args.plan.now c.args.item.now (g.N.Nodes.way c.args.nodes.now) (g.N.Nodes.has_era c.args.nodes.now) c.args.env.now c.args.shown.now next c.in-Define.e held c.push.new.self (g.N.Nodes.way c.build.new.nodes) (g.N.Nodes.has_era c.build.new.nodes)
    c.in-Define.is c.in_ok-held-in-Define.ensures.eras c.in_ok-held-in-Define.ensures.builds (c.in_ok-push-in-Define.ensures.ok ∙ ap (λ (l : List Held). l ++ held ∷ []) c.in_ok-held-in-Define.ensures.env)

pub returns-in_ok-push-in-Show-clause-made : goal.returns-in_ok-push-in-Show-clause-made
returns-in_ok-push-in-Show-clause-made g c = λ next.
    let held = c.in_ok-held-in-Show.held in
    let last = g.N.Nodes.way c.build-in-Show.new.nodes in
    let ends = g.N.Nodes.has_era c.build-in-Show.new.nodes in
    subst (λ (l : List Held). ItemsMade c.args.plan.now (next.done ++ c.args.item.now ∷ []) next.was last next.had ends l c.push-in-Show.new.self) (sym c.in_ok-held-in-Show.ensures.env)
    (show_made c.args.plan.now c.args.item.now (g.N.Nodes.way c.args.nodes.now) (g.N.Nodes.has_era c.args.nodes.now) c.args.env.now c.args.shown.now next c.in-Show.field-0 c.in-Show.e held c.push-in-Show.new.self last ends
    c.in-Show.is c.in_ok-held-in-Show.ensures.eras c.in_ok-held-in-Show.ensures.builds c.in_ok-push-in-Show.ensures.ok)
