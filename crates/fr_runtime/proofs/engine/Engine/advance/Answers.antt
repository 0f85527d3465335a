use Rattle.std.proofs.Common.{List, subst}
use Rattle.fr_value.specs.declared.now.Now.{Now}
use Rattle.fr_graph.specs.Items.{IsAfresh}
use Rattle.fr_way.specs.Way.{cell_in}
use Rattle.fr_nodes.specs.Kinds.{parts_of}
use Rattle.fr_engine.specs.Instant.{AtRest, BodyErrs}
use Rattle.fr_runtime.proofs.Ends.{on_two, err_map, stops_map}
use Rattle.fr_runtime.proofs.States.{comes, errs}
use Rattle.fr_runtime.proofs.engine.Engine.advance.Goals as goal

pub returns-clause-ok : goal.returns-clause-ok
returns-clause-ok g c =
    let can = g.C.Choices.can c.args.choices.now in
    let p = g.C.Choices.plan c.args.choices.now in
    let many = g.C.Choices.many c.args.choices.now in
    let sites = g.C.Choices.sites c.args.choices.now in
    let at = g.N.Nodes.way c.args.self.now.nodes sites in
    let new = g.N.Nodes.way c.further_instant.new.nodes sites in
    let waking = c.further_instant.new.notes.wakes.items in
    let later = c.further_instant.new.late.items in
    on_two c.further_instant.result _ _ _ (λ rests afresh pr s st.
    comes can pr p many c.args.self.now.sources c.advance.new.self (parts_of c.args.self.now.parts) c.args.self.now.notes.wakes.items c.args.self.now.late.items waking later at new s c.args.inputs.now st
    (c.in_ok-advance.ensures.values pr s.values st.inputs st.fed)
    (subst (λ (xs : List Now). AtRest can p many st.items st.members xs (cell_in at.graph) new waking later) c.values.ensures (rests st.items st.members c.args.self.now.sources.values.items st.before st.rests))
    (subst (λ (xs : List Now). IsAfresh new.graph pr p st.items st.members xs s.kept) c.values.ensures (afresh st.items st.members c.args.self.now.sources.values.items st.before pr s.kept st.rests st.lowered st.stands)))
    c.further_instant.ensures.rests c.further_instant.ensures.afresh

pub returns-clause-err : goal.returns-clause-err
returns-clause-err g c =
    err_map c.further_instant.result _ _ (λ stop h.
    stops_map stop _ _ (λ told pr s st.
    errs pr c.advance.new.self s c.args.inputs.now (c.in_ok-advance.ensures.values pr s.values st.inputs st.fed)
    (subst (λ (xs : List Now). BodyErrs pr xs s.kept) c.values.ensures (told st.items st.members c.args.self.now.sources.values.items st.before pr s.kept st.rests st.lowered st.stands))) h)
    c.further_instant.ensures.errs
