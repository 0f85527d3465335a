use Rattle.std.proofs.Common.{◌∙◌, List, [], take, Some, ap, sym, subst}
use Rattle.std.proofs.lemmas.Result.{err_from_is_err_and}
use Rattle.fr_value.specs.declared.now.Held.{Held}
use Rattle.fr_build.specs.Items.{MayBuildItems, ItemsMade}
use Rattle.fr_build.proofs.Body.{item_at, stands_next, one_further, stops_all, all_made, none_made}
use Rattle.fr_build.proofs.items.build_items.Goals as goal

pub loop-item-init : goal.loop-item-init
loop-item-init g c =
    let made = ItemsMade c.args.plan.now (take 0 c.args.items.now) (g.N.Nodes.way c.args.nodes.now) (g.N.Nodes.way c.args.nodes.now) (g.N.Nodes.has_era c.args.nodes.now) (g.N.Nodes.has_era c.args.nodes.now) in
    subst (λ (l : List Held). made l c.new-shown.result) (sym c.new-env.ensures)
    (subst (λ (l : List Held). made [] l) (sym c.new-shown.ensures) (none_made c.args.plan.now c.args.items.now (g.N.Nodes.way c.args.nodes.now) (g.N.Nodes.has_era c.args.nodes.now) (record { plan = c.requires.plan; ready = c.requires.ready; ground = c.requires.ground })))

pub build_item-requires : goal.build_item-requires
build_item-requires g c =
    let may : MayBuildItems c.args.plan.now c.args.items.now (g.N.Nodes.way c.args.nodes.now) (g.N.Nodes.has_era c.args.nodes.now) = record { plan = c.requires.plan; ready = c.requires.ready; ground = c.requires.ground } in
    stands_next c.args.plan.now c.args.items.now (g.N.Nodes.way c.args.nodes.now) (g.N.Nodes.way c.loop-item.nodes) (g.N.Nodes.has_era c.args.nodes.now) (g.N.Nodes.has_era c.loop-item.nodes) c.loop-item.env c.loop-item.shown may c.loop-item.item-index c.item-item.result (item_at c.args.items.now c.loop-item.item-index c.item-item.result c.loop-item-test.true ∙ ap Some (sym c.item-item.is)) c.loop-item.invariant

pub returns-in_err-build_item-clause-stops : goal.returns-in_err-build_item-clause-stops
returns-in_err-build_item-clause-stops g c =
    let may : MayBuildItems c.args.plan.now c.args.items.now (g.N.Nodes.way c.args.nodes.now) (g.N.Nodes.has_era c.args.nodes.now) = record { plan = c.requires.plan; ready = c.requires.ready; ground = c.requires.ground } in
    let found = item_at c.args.items.now c.loop-item.item-index c.item-item.result c.loop-item-test.true ∙ ap Some (sym c.item-item.is) in
    let p = err_from_is_err_and c.from_residual.result c.from_residual.ensures.1 in
    rw (p.1, p.2) (stops_all c.args.plan.now c.args.items.now (g.N.Nodes.way c.args.nodes.now) (g.N.Nodes.way c.loop-item.nodes) (g.N.Nodes.has_era c.args.nodes.now) (g.N.Nodes.has_era c.loop-item.nodes) c.loop-item.env c.loop-item.shown may c.loop-item.item-index c.item-item.result c.in_err-build_item.field-0.0 found c.loop-item.invariant
    c.in_err-build_item.ensures.stops)

pub loop-item-preserved : goal.loop-item-preserved
loop-item-preserved g c =
    let may : MayBuildItems c.args.plan.now c.args.items.now (g.N.Nodes.way c.args.nodes.now) (g.N.Nodes.has_era c.args.nodes.now) = record { plan = c.requires.plan; ready = c.requires.ready; ground = c.requires.ground } in
    let found = item_at c.args.items.now c.loop-item.item-index c.item-item.result c.loop-item-test.true ∙ ap Some (sym c.item-item.is) in
    one_further c.args.plan.now c.args.items.now (g.N.Nodes.way c.args.nodes.now) (g.N.Nodes.way c.loop-item.nodes) (g.N.Nodes.has_era c.args.nodes.now) (g.N.Nodes.has_era c.loop-item.nodes) c.loop-item.env c.loop-item.shown may c.loop-item.item-index c.item-item.result (g.N.Nodes.way c.build_item.new.nodes) (g.N.Nodes.has_era c.build_item.new.nodes) c.build_item.new.env c.build_item.new.shown found c.loop-item.invariant
    c.in_ok-build_item.ensures.made

pub returns-clause-builds : goal.returns-clause-builds
returns-clause-builds g c =
    let may : MayBuildItems c.args.plan.now c.args.items.now (g.N.Nodes.way c.args.nodes.now) (g.N.Nodes.has_era c.args.nodes.now) = record { plan = c.requires.plan; ready = c.requires.ready; ground = c.requires.ground } in
    all_made c.args.plan.now c.args.items.now (g.N.Nodes.way c.args.nodes.now) (g.N.Nodes.way c.loop-item.nodes) (g.N.Nodes.has_era c.args.nodes.now) (g.N.Nodes.has_era c.loop-item.nodes) c.loop-item.env c.loop-item.shown may c.loop-item.item-index c.loop-item-test.false c.loop-item.invariant

pub returns-clause-eras : goal.returns-clause-eras
returns-clause-eras g c =
    c.loop-item.invariant.eras
