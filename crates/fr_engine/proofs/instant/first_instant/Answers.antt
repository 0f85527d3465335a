use Rattle.fr_core.specs.declared.kept.Kept.TheVariants as kept
use Rattle.fr_store.specs.Nodes.{most_nodes}
use Rattle.fr_engine.specs.declared.stops.RunStop.{RunStop}
use Rattle.fr_engine.specs.Instant.{BodyErrs, ErrsAtFirst, ErrsOnceUnderWay}
use Rattle.fr_engine.specs.Moment.{Moment}
use Rattle.fr_engine.specs.Stops.{StopsWhere}
use Rattle.fr_engine.proofs.Ended.{on_err}
use Rattle.fr_engine.proofs.Settled.{on_ok}
use Rattle.fr_engine.proofs.Instants.{built_on_its_way, errs_by, passed_rests, passed_way, stops_on}
use Rattle.fr_engine.proofs.instant.first_instant.Goals as goal

pub pass-requires : goal.pass-requires
pass-requires g c =
    let b = c.requires.built.1.1.1 in (
      record { items = c.requires.built.0; members = c.requires.built.1.0; old = c.requires.built.1.1.0 },
      built_on_its_way _ _ _ _ _ _ _ _ _ _
          (c.instants_keep_what_their_loop_needs.ensures.first _ _ _ most_nodes c.args.sources.now _ _ b.built b.used b.awaits (c.is_sound.ensures.small (g.C.Choices.sites c.args.choices.now)))
          b c.requires.many c.requires.clear,
    )

pub returns-clause-rests : goal.returns-clause-rests
returns-clause-rests g c = on_ok c.pass.result
    (λ passes is ms old b.
    let s = g.C.Choices.sites c.args.choices.now in
    let p = g.C.Choices.plan c.args.choices.now in
    let u = c.instants_keep_what_their_loop_needs.ensures.first p is ms most_nodes c.args.sources.now old (g.N.Nodes.way c.args.nodes.now s) b.built b.used b.awaits (c.is_sound.ensures.small s) in
    let t : Moment = record { items = is; members = ms; old = old } in
    let h = passes t (built_on_its_way (g.C.Choices.can c.args.choices.now) p (g.C.Choices.many c.args.choices.now) is ms c.args.sources.now old (g.N.Nodes.way c.args.nodes.now s) c.args.notes.now c.args.late.now.items u b c.requires.many c.requires.clear) in
    passed_rests (g.C.Choices.can c.args.choices.now) p (g.C.Choices.many c.args.choices.now) c.args.sources.now t (g.N.Nodes.way c.pass.new.nodes s) c.pass.new.notes c.pass.new.late.items h c.requires.many
    (c.instants_keep_what_their_loop_needs.ensures.closed p is ms most_nodes c.args.sources.now old h.at h.ends.latched.graph (g.N.Nodes.way c.pass.new.nodes s)
    (passed_way (g.C.Choices.can c.args.choices.now) p (g.C.Choices.many c.args.choices.now) c.args.sources.now t (g.N.Nodes.way c.pass.new.nodes s) c.pass.new.notes c.pass.new.late.items h) h.ends.closes))
    c.pass.ensures.passes

pub returns-clause-afresh : goal.returns-clause-afresh
returns-clause-afresh g c = on_ok c.pass.result
    (λ passes is ms old pr b lowered.
    let s = g.C.Choices.sites c.args.choices.now in
    let p = g.C.Choices.plan c.args.choices.now in
    let u = c.instants_keep_what_their_loop_needs.ensures.first p is ms most_nodes c.args.sources.now old (g.N.Nodes.way c.args.nodes.now s) b.built b.used b.awaits (c.is_sound.ensures.small s) in
    let t : Moment = record { items = is; members = ms; old = old } in
    let h = passes t (built_on_its_way (g.C.Choices.can c.args.choices.now) p (g.C.Choices.many c.args.choices.now) is ms c.args.sources.now old (g.N.Nodes.way c.args.nodes.now s) c.args.notes.now c.args.late.now.items u b c.requires.many c.requires.clear) in
    c.what_has_closed_is_afresh.ensures.first pr p is ms most_nodes c.args.sources.now old h.at h.ends.latched.graph (g.N.Nodes.way c.pass.new.nodes s) lowered b.built.empty
    (passed_way (g.C.Choices.can c.args.choices.now) p (g.C.Choices.many c.args.choices.now) c.args.sources.now t (g.N.Nodes.way c.pass.new.nodes s) c.pass.new.notes c.pass.new.late.items h) h.ends.closes)
    c.pass.ensures.passes

pub returns-clause-errs : goal.returns-clause-errs
returns-clause-errs g c =
    let s = g.C.Choices.sites c.args.choices.now in
    let can = g.C.Choices.can c.args.choices.now in
    let p = g.C.Choices.plan c.args.choices.now in
    let many = g.C.Choices.many c.args.choices.now in
    let sources = c.args.sources.now in
    let at = g.N.Nodes.way c.args.nodes.now s in
    let On : Type 0 = ErrsOnceUnderWay can p many sources at c.args.notes.now c.args.late.now.items in
    let Errs : Type 0 = ErrsAtFirst can p many sources at c.args.late.now.items in
    on_err c.pass.result (λ (why : RunStop). StopsWhere why On) (λ (why : RunStop). StopsWhere why Errs)
    (λ why stops. stops_on On Errs why
    (λ f is ms old pr b lowered.
    let u = c.instants_keep_what_their_loop_needs.ensures.first p is ms most_nodes sources old at b.built b.used b.awaits (c.is_sound.ensures.small s) in
    let t : Moment = record { items = is; members = ms; old = old } in
    errs_by p sources t (BodyErrs pr sources kept.Nothing)
    (λ way m h under used least errs. c.errors_on_the_way_are_those_of_evaluating_afresh.ensures.first pr p is ms sources old way m h lowered b.built.empty under used least errs)
    (λ way m under used empty errs. c.errors_at_the_end_are_those_of_evaluating_afresh.ensures.first pr p is ms sources old way m lowered b.built.empty under used empty errs)
    (f t (built_on_its_way can p many is ms sources old at c.args.notes.now c.args.late.now.items u b c.requires.many c.requires.clear)))
    stops)
    c.pass.ensures.stops
