use Rattle.std.proofs.Common.{◌∙◌, refl, subst, false, List, None}
use Rattle.fr_meaning.specs.Words.{Seen}
use Rattle.fr_nodes.specs.Kinds.{part_of, parts_of}
use Rattle.fr_build.specs.Works.{AreSteadyValues, IsLineValue}
use Rattle.fr_build.proofs.Made.{builds_made}
use Rattle.std.proofs.Common.{arith}
use Rattle.fr_build.proofs.Lines.{plain_by, plain_inputs, plain_later, builds_value, builds_node, node_cost, value_cost}
use Rattle.fr_build.proofs.works.plain_work.Goals as goal

pub returns-in_default-clause-builds : goal.returns-in_default-clause-builds
returns-in_default-clause-builds g c = λ sites w e.
    let ps = parts_of c.args.inputs.now in
    let plain = c.requires.plain w e in
    let varies = subst (AreSteadyValues ps) c.in_default.is c.in_ok-values.ensures in
    let at = g.N.Nodes.way c.args.nodes.now sites in
    let new = g.N.Nodes.way c.make.new.self sites in
    builds_node at new c.args.setting.now.plan.now c.args.setting.now.era.0 c.args.setting.now.below w ps ps ps None _ (plain_by w ps false plain varies) refl (plain_inputs w ps plain) (plain_later w ps plain)
    (builds_made at new sites c.in_ok-id.id.0 c.args.setting.now.era.0 c.args.setting.now.below c.args.kind w c.args.inputs.now c.requires.below e (c.requires.taken sites) (c.requires.there sites) (c.in_ok-id.ensures.makes sites))

pub returns-clause-builds : goal.returns-clause-builds
returns-clause-builds g c = λ sites w e.
    let ps = parts_of c.args.inputs.now in
    let planned = c.args.setting.now.plan.now in
    let steady = subst (AreSteadyValues ps) c.in-Some.is c.in_ok-values.ensures in
    let value = subst (λ (vs : List Seen). IsLineValue planned c.args.setting.now.below w vs (part_of c.in_ok-held.held)) (c.as_slice.ensures ∙ steady.1) (c.in_ok-held.ensures.value w e) in
    builds_value (g.N.Nodes.way c.args.nodes.now sites) planned c.args.setting.now.era.0 c.args.setting.now.below w ps (part_of c.in_ok-held.held) (c.requires.taken sites) (c.requires.plain w e) steady.0 value

pub returns-in_default-clause-paid : goal.returns-in_default-clause-paid
returns-in_default-clause-paid g c = λ w e.
    let ps = parts_of c.args.inputs.now in
    let varies = subst (AreSteadyValues ps) c.in_default.is c.in_ok-values.ensures in
    let none = node_cost c.args.setting.now.plan.now c.args.setting.now.below w ps (plain_by w ps false (c.requires.plain w e) varies) in
    omega arith

pub returns-clause-paid : goal.returns-clause-paid
returns-clause-paid g c = λ w e.
    let ps = parts_of c.args.inputs.now in
    let planned = c.args.setting.now.plan.now in
    let steady = subst (AreSteadyValues ps) c.in-Some.is c.in_ok-values.ensures in
    let cost = value_cost planned c.args.setting.now.below w ps c.as_slice.result.now (c.requires.plain w e) steady.0 (c.as_slice.ensures ∙ steady.1) in
    let paid = c.in_ok-held.ensures.paid w e in
    omega arith
