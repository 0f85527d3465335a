use Rattle.std.proofs.Common.{List, subst}
use Rattle.std.proofs.lemmas.Result.{err_from_is_err_and}
use Rattle.fr_value.specs.declared.now.Now.{Now}
use Rattle.fr_core.specs.declared.kept.Kept.TheVariants as kept
use Rattle.fr_graph.specs.Items.{IsAfresh}
use Rattle.fr_way.specs.Way.{cell_in}
use Rattle.fr_nodes.specs.Kinds.{parts_of}
use Rattle.fr_engine.specs.Instant.{AtRest, BodyErrs}
use Rattle.fr_world.specs.World.{no_way}
use Rattle.fr_runtime.proofs.Ends.{stops_map}
use Rattle.fr_runtime.proofs.Starts.{comes_first, errs_first}
use Rattle.fr_runtime.proofs.starting.first.Goals as goal

pub returns-in_err-first_instant-clause-err : goal.returns-in_err-first_instant-clause-err
returns-in_err-first_instant-clause-err g c =
    let up = c.requires.up in
    let pr = c.args.program.now in
    let e = err_from_is_err_and c.from_residual-in_err-first_instant.result c.from_residual-in_err-first_instant.ensures.1 in
    rw (e.1, e.2) (stops_map c.in_err-first_instant.field-0.0 _ _ (λ told.
    errs_first pr c.in_ok-sources.sources c.in_ok-sources.ensures
    (subst (λ (xs : List Now). BodyErrs pr xs kept.Nothing) c.values.ensures (told up.items up.up.members no_way.graph pr up.up.built up.lowered))) c.in_err-first_instant.ensures.errs)

pub returns-clause-ok : goal.returns-clause-ok
returns-clause-ok g c =
    let up = c.requires.up in
    let pr = c.args.program.now in
    let can = g.C.Choices.can c.args.choices.now in
    let p = g.C.Choices.plan c.args.choices.now in
    let many = g.C.Choices.many c.args.choices.now in
    let new = g.N.Nodes.way c.first_instant.new.nodes (g.C.Choices.sites c.args.choices.now) in
    let waking = c.first_instant.new.notes.wakes.items in
    let later = c.first_instant.new.late.items in
    comes_first can pr p many c.in_ok-sources.sources (parts_of c.args.parts) waking later no_way.graph new up.items up.up.members c.in_ok-sources.ensures up.counted up.lowered
    (subst (λ (xs : List Now). AtRest can p many up.items up.up.members xs (cell_in no_way.graph) new waking later) c.values.ensures (c.in_ok-first_instant.ensures.rests up.items up.up.members no_way.graph up.up.built))
    (subst (λ (xs : List Now). IsAfresh new.graph pr p up.items up.up.members xs kept.Nothing) c.values.ensures (c.in_ok-first_instant.ensures.afresh up.items up.up.members no_way.graph pr up.up.built up.lowered))
    up.up.parts_are
