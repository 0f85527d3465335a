use Rattle.std.proofs.Common.{subst, sym}
use Rattle.fr_store.specs.Nodes.{most_nodes}
use Rattle.fr_engine.specs.declared.stops.RunStop.{RunStop}
use Rattle.fr_engine.specs.Beginning.{AreLive}
use Rattle.fr_engine.specs.Instant.{BodyErrs, ErrsFurther, ErrsOnceUnderWay}
use Rattle.fr_engine.specs.Moment.{Moment}
use Rattle.fr_engine.specs.Stops.{StopsWhere}
use Rattle.fr_engine.proofs.Ended.{on_err}
use Rattle.fr_engine.proofs.Settled.{on_ok}
use Rattle.fr_engine.proofs.Instants.{errs_by, passed_rests, passed_way, rest_all_live, rest_few, rest_on_its_way, rest_starts, stops_on}
use Rattle.fr_engine.proofs.instant.further_instant.Goals as goal

pub start-requires-clause-few : goal.start-requires-clause-few
start-requires-clause-few g c = rest_few _ _ _ _ _ _ _ _ _ _ _ c.requires.rest.1.1.1.1 c.requires.many

pub start-requires-clause-there : goal.start-requires-clause-there
start-requires-clause-there g c =
    (g.C.Choices.sites c.args.choices.now, rest_all_live _ _ _ _ _ _ _ _ _ _ _ c.requires.rest.1.1.1.1 c.requires.many)

pub start-requires-clause-late_live : goal.start-requires-clause-late_live
start-requires-clause-late_live g c =
    let s = g.C.Choices.sites c.args.choices.now in
    (s, subst (AreLive (g.N.Nodes.way c.args.nodes.now s).graph) (sym c.as_slice.ensures.value) c.requires.rest.1.1.1.1.late_live)

pub pass-requires : goal.pass-requires
pass-requires g c =
    let s = g.C.Choices.sites c.args.choices.now in
    let can = g.C.Choices.can c.args.choices.now in
    let p = g.C.Choices.plan c.args.choices.now in
    let many = g.C.Choices.many c.args.choices.now in
    let sources = c.args.sources.now in
    let rest = g.N.Nodes.way c.args.nodes.now s in
    let at = g.N.Nodes.way c.start.new.nodes s in
    let wakes = c.args.notes.now.wakes.items in
    let late = c.args.late.now.items in
    let is = c.requires.rest.0 in
    let ms = c.requires.rest.1.0 in
    let was = c.requires.rest.1.1.0 in
    let before = c.requires.rest.1.1.1.0 in
    let r = c.requires.rest.1.1.1.1 in
    let st = rest_starts can p many is ms sources was before rest at wakes late c.as_slice.result.now r c.requires.many c.as_slice.ensures.value (c.in_ok-start.ensures.starts s) in
    let u = c.instants_keep_what_their_loop_needs.ensures.further p is ms most_nodes sources was before rest at r.whole st in
    let t : Moment = record { items = is; members = ms; old = rest.graph } in
    let o = rest_on_its_way can p many is ms sources was before rest at wakes late r st c.start.new.notes u c.requires.many c.in_ok-start.ensures.clear in
    (t, o)

pub returns-clause-rests : goal.returns-clause-rests
returns-clause-rests g c =
    let s = g.C.Choices.sites c.args.choices.now in
    let can = g.C.Choices.can c.args.choices.now in
    let p = g.C.Choices.plan c.args.choices.now in
    let many = g.C.Choices.many c.args.choices.now in
    let sources = c.args.sources.now in
    let rest = g.N.Nodes.way c.args.nodes.now s in
    let at = g.N.Nodes.way c.start.new.nodes s in
    let wakes = c.args.notes.now.wakes.items in
    let late = c.args.late.now.items in
    let new = g.N.Nodes.way c.pass.new.nodes s in
    let notes = c.pass.new.notes in
    let left = c.pass.new.late.items in
    on_ok c.pass.result
    (λ passes is ms was before r.
    let st = rest_starts can p many is ms sources was before rest at wakes late c.as_slice.result.now r c.requires.many c.as_slice.ensures.value (c.in_ok-start.ensures.starts s) in
    let u = c.instants_keep_what_their_loop_needs.ensures.further p is ms most_nodes sources was before rest at r.whole st in
    let t : Moment = record { items = is; members = ms; old = rest.graph } in
    let o = rest_on_its_way can p many is ms sources was before rest at wakes late r st c.start.new.notes u c.requires.many c.in_ok-start.ensures.clear in
    let h = passes t o in
    passed_rests can p many sources t new notes left h c.requires.many
    (c.instants_keep_what_their_loop_needs.ensures.closed p is ms most_nodes sources rest.graph h.at h.ends.latched.graph new (passed_way can p many sources t new notes left h) h.ends.closes))
    c.pass.ensures.passes

pub returns-clause-afresh : goal.returns-clause-afresh
returns-clause-afresh g c =
    let s = g.C.Choices.sites c.args.choices.now in
    let can = g.C.Choices.can c.args.choices.now in
    let p = g.C.Choices.plan c.args.choices.now in
    let many = g.C.Choices.many c.args.choices.now in
    let sources = c.args.sources.now in
    let rest = g.N.Nodes.way c.args.nodes.now s in
    let at = g.N.Nodes.way c.start.new.nodes s in
    let wakes = c.args.notes.now.wakes.items in
    let late = c.args.late.now.items in
    let new = g.N.Nodes.way c.pass.new.nodes s in
    let notes = c.pass.new.notes in
    let left = c.pass.new.late.items in
    on_ok c.pass.result
    (λ passes is ms was before pr k r lowered stood.
    let st = rest_starts can p many is ms sources was before rest at wakes late c.as_slice.result.now r c.requires.many c.as_slice.ensures.value (c.in_ok-start.ensures.starts s) in
    let u = c.instants_keep_what_their_loop_needs.ensures.further p is ms most_nodes sources was before rest at r.whole st in
    let t : Moment = record { items = is; members = ms; old = rest.graph } in
    let o = rest_on_its_way can p many is ms sources was before rest at wakes late r st c.start.new.notes u c.requires.many c.in_ok-start.ensures.clear in
    let h = passes t o in
    c.what_has_closed_is_afresh.ensures.further pr p is ms most_nodes sources rest.graph h.at h.ends.latched.graph new k lowered r.whole.nodes stood (passed_way can p many sources t new notes left h) h.ends.closes)
    c.pass.ensures.passes

pub returns-clause-unchanged : goal.returns-clause-unchanged
returns-clause-unchanged g c =
    let s = g.C.Choices.sites c.args.choices.now in
    let can = g.C.Choices.can c.args.choices.now in
    let p = g.C.Choices.plan c.args.choices.now in
    let many = g.C.Choices.many c.args.choices.now in
    let sources = c.args.sources.now in
    let rest = g.N.Nodes.way c.args.nodes.now s in
    let at = g.N.Nodes.way c.start.new.nodes s in
    let wakes = c.args.notes.now.wakes.items in
    let late = c.args.late.now.items in
    let is = c.requires.rest.0 in
    let ms = c.requires.rest.1.0 in
    let was = c.requires.rest.1.1.0 in
    let before = c.requires.rest.1.1.1.0 in
    let r = c.requires.rest.1.1.1.1 in
    let st = rest_starts can p many is ms sources was before rest at wakes late c.as_slice.result.now r c.requires.many c.as_slice.ensures.value (c.in_ok-start.ensures.starts s) in
    let u = c.instants_keep_what_their_loop_needs.ensures.further p is ms most_nodes sources was before rest at r.whole st in
    let t : Moment = record { items = is; members = ms; old = rest.graph } in
    let o = rest_on_its_way can p many is ms sources was before rest at wakes late r st c.start.new.notes u c.requires.many c.in_ok-start.ensures.clear in
    on_ok c.pass.result (λ passes. (passes t o).ends.unchanged) c.pass.ensures.passes

pub returns-clause-differ : goal.returns-clause-differ
returns-clause-differ g c =
    let s = g.C.Choices.sites c.args.choices.now in
    let can = g.C.Choices.can c.args.choices.now in
    let p = g.C.Choices.plan c.args.choices.now in
    let many = g.C.Choices.many c.args.choices.now in
    let sources = c.args.sources.now in
    let rest = g.N.Nodes.way c.args.nodes.now s in
    let at = g.N.Nodes.way c.start.new.nodes s in
    let wakes = c.args.notes.now.wakes.items in
    let late = c.args.late.now.items in
    let is = c.requires.rest.0 in
    let ms = c.requires.rest.1.0 in
    let was = c.requires.rest.1.1.0 in
    let before = c.requires.rest.1.1.1.0 in
    let r = c.requires.rest.1.1.1.1 in
    let st = rest_starts can p many is ms sources was before rest at wakes late c.as_slice.result.now r c.requires.many c.as_slice.ensures.value (c.in_ok-start.ensures.starts s) in
    let u = c.instants_keep_what_their_loop_needs.ensures.further p is ms most_nodes sources was before rest at r.whole st in
    let t : Moment = record { items = is; members = ms; old = rest.graph } in
    let o = rest_on_its_way can p many is ms sources was before rest at wakes late r st c.start.new.notes u c.requires.many c.in_ok-start.ensures.clear in
    on_ok c.pass.result (λ passes. (passes t o).ends.differ) c.pass.ensures.passes

pub returns-clause-goes : goal.returns-clause-goes
returns-clause-goes g c =
    let s = g.C.Choices.sites c.args.choices.now in
    let can = g.C.Choices.can c.args.choices.now in
    let p = g.C.Choices.plan c.args.choices.now in
    let many = g.C.Choices.many c.args.choices.now in
    let sources = c.args.sources.now in
    let rest = g.N.Nodes.way c.args.nodes.now s in
    let at = g.N.Nodes.way c.start.new.nodes s in
    let wakes = c.args.notes.now.wakes.items in
    let late = c.args.late.now.items in
    let is = c.requires.rest.0 in
    let ms = c.requires.rest.1.0 in
    let was = c.requires.rest.1.1.0 in
    let before = c.requires.rest.1.1.1.0 in
    let r = c.requires.rest.1.1.1.1 in
    let st = rest_starts can p many is ms sources was before rest at wakes late c.as_slice.result.now r c.requires.many c.as_slice.ensures.value (c.in_ok-start.ensures.starts s) in
    let u = c.instants_keep_what_their_loop_needs.ensures.further p is ms most_nodes sources was before rest at r.whole st in
    let t : Moment = record { items = is; members = ms; old = rest.graph } in
    let o = rest_on_its_way can p many is ms sources was before rest at wakes late r st c.start.new.notes u c.requires.many c.in_ok-start.ensures.clear in
    let new = g.N.Nodes.way c.pass.new.nodes s in
    let notes = c.pass.new.notes in
    let left = c.pass.new.late.items in
    on_ok c.pass.result
    (λ passes.
    let h = passes t o in
    c.instants_keep_what_their_loop_needs.ensures.goes p is ms most_nodes sources rest.graph h.at h.ends.latched.graph new (passed_way can p many sources t new notes left h) h.ends.closes)
    c.pass.ensures.passes

pub returns-clause-silent : goal.returns-clause-silent
returns-clause-silent g c =
    let s = g.C.Choices.sites c.args.choices.now in
    let can = g.C.Choices.can c.args.choices.now in
    let p = g.C.Choices.plan c.args.choices.now in
    let many = g.C.Choices.many c.args.choices.now in
    let sources = c.args.sources.now in
    let rest = g.N.Nodes.way c.args.nodes.now s in
    let at = g.N.Nodes.way c.start.new.nodes s in
    let wakes = c.args.notes.now.wakes.items in
    let late = c.args.late.now.items in
    let is = c.requires.rest.0 in
    let ms = c.requires.rest.1.0 in
    let was = c.requires.rest.1.1.0 in
    let before = c.requires.rest.1.1.1.0 in
    let r = c.requires.rest.1.1.1.1 in
    let st = rest_starts can p many is ms sources was before rest at wakes late c.as_slice.result.now r c.requires.many c.as_slice.ensures.value (c.in_ok-start.ensures.starts s) in
    let u = c.instants_keep_what_their_loop_needs.ensures.further p is ms most_nodes sources was before rest at r.whole st in
    let t : Moment = record { items = is; members = ms; old = rest.graph } in
    let o = rest_on_its_way can p many is ms sources was before rest at wakes late r st c.start.new.notes u c.requires.many c.in_ok-start.ensures.clear in
    on_ok c.pass.result (λ passes. (passes t o).ends.rests.occurring) c.pass.ensures.passes

pub returns-clause-errs : goal.returns-clause-errs
returns-clause-errs g c =
    let s = g.C.Choices.sites c.args.choices.now in
    let can = g.C.Choices.can c.args.choices.now in
    let p = g.C.Choices.plan c.args.choices.now in
    let many = g.C.Choices.many c.args.choices.now in
    let sources = c.args.sources.now in
    let rest = g.N.Nodes.way c.args.nodes.now s in
    let at = g.N.Nodes.way c.start.new.nodes s in
    let wakes = c.args.notes.now.wakes.items in
    let late = c.args.late.now.items in
    let On : Type 0 = ErrsOnceUnderWay can p many sources at c.start.new.notes late in
    let Errs : Type 0 = ErrsFurther can p many sources rest wakes late in
    on_err c.pass.result (λ (why : RunStop). StopsWhere why On) (λ (why : RunStop). StopsWhere why Errs)
    (λ why stops. stops_on On Errs why
    (λ f is ms was before pr k r lowered stood.
    let st = rest_starts can p many is ms sources was before rest at wakes late c.as_slice.result.now r c.requires.many c.as_slice.ensures.value (c.in_ok-start.ensures.starts s) in
    let u = c.instants_keep_what_their_loop_needs.ensures.further p is ms most_nodes sources was before rest at r.whole st in
    let t : Moment = record { items = is; members = ms; old = rest.graph } in
    let o = rest_on_its_way can p many is ms sources was before rest at wakes late r st c.start.new.notes u c.requires.many c.in_ok-start.ensures.clear in
    errs_by p sources t (BodyErrs pr sources k)
    (λ way m h under used least errs. c.errors_on_the_way_are_those_of_evaluating_afresh.ensures.further pr p is ms sources rest.graph way m h k lowered r.whole.nodes stood under used least errs)
    (λ way m under used empty errs. c.errors_at_the_end_are_those_of_evaluating_afresh.ensures.further pr p is ms sources rest.graph way m k lowered r.whole.nodes stood under used empty errs)
    (f t o))
    stops)
    c.pass.ensures.stops
