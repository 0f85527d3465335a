use Rattle.std.proofs.Common.{ap, ◌∙◌, append-nil, refl, None}
use Rattle.fr_graph.specs.Graph.{handles}
use Rattle.fr_nodes.specs.Kinds.{parts_of}
use Rattle.fr_build.specs.Works.{inputs_with, behind_of}
use Rattle.std.proofs.Common.{◌++◌}
use Rattle.fr_build.proofs.Told.{node_told}
use Rattle.fr_build.proofs.works.build_handler_node.Goals as goal

pub returns-clause-builds : goal.returns-clause-builds
returns-clause-builds g c =
    let planned = c.args.setting.now.plan.now in
    let ps = parts_of c.as_slice.result.now in
    let same = ap parts_of c.as_slice.ensures ∙ c.in_ok-inputs.ensures in
    node_told planned c.args.setting.now.below (inputs_with planned c.args.env.now c.args.parts c.args.slots.now) c.handler_kind-kind.result (handles c.args.handler c.args.body.0) c.varying_work.result
    (g.N.Nodes.way c.args.nodes.now) (g.N.Nodes.way c.varying_work.new.nodes) c.args.setting.now.era.0 c.handler_kind-kind.ensures
    (ps ++ behind_of None) ps None refl (append-nil ps ∙ same) same refl c.varying_work.ensures.builds
