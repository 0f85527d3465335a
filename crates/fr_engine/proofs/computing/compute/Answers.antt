use Rattle.std.proofs.Common.{◌∙◌, sym, subst, List, MatchResult}
use Rattle.fr_value.specs.declared.now.Now.{Now}
use Rattle.fr_events.specs.declared.lines.Stepped.{Stepped}
use Rattle.fr_kernel.specs.Answers.{IsWant}
use Rattle.fr_graph.specs.Graph.{Part}
use Rattle.fr_nodes.specs.Kinds.{Sites, parts_of}
use Rattle.fr_engine.specs.Rules.{only_of, WatchComes, GivesPassed}
use Rattle.fr_engine.proofs.Inputs.{node_there}
use Rattle.fr_engine.proofs.Comes.{computed_or, worked_comes, watched_comes, passed_comes, line_of_node, alone_gives, alone_at, kind_worked, kind_watched, kind_passed}
use Rattle.fr_engine.proofs.computing.compute.Goals as goal

pub worked-requires-clause-there : goal.worked-requires-clause-there
worked-requires-clause-there g c = node_there (g.N.Nodes.way c.args.nodes.now) c.args.id.0 c.node-node.result.now c.is_sound.ensures c.node-node.ensures c.requires.inputs

pub watched-requires : goal.watched-requires
watched-requires g c = node_there (g.N.Nodes.way c.args.nodes.now) c.args.id.0 c.node-node.result.now c.is_sound.ensures c.node-node.ensures c.requires.inputs

pub passed_value-requires : goal.passed_value-requires
passed_value-requires g c = node_there (g.N.Nodes.way c.args.nodes.now) c.args.id.0 c.node-node.result.now c.is_sound.ensures c.node-node.ensures c.requires.inputs

pub returns-in-Worked : goal.returns-in-Worked
returns-in-Worked g c = λ sites.
    let at = g.N.Nodes.way c.args.nodes.now sites in
    let m = c.args.id.0 in
    let n = c.node-node.result.now in
    let is = c.node-node.ensures sites in
    let k = kind_worked sites m n.kind (sym c.in-Worked.ensures) in
    computed_or c.worked.result c.args.fuel.now.left c.worked.new.fuel.left c.args.table.now c.args.sources.now at m
    (worked_comes c.worked.result c.args.fuel.now.left c.worked.new.fuel.left at.graph c.args.table.now c.args.sources.now m (at.graph.kind m) k.0 (at.graph.inputs m) (is.kind ∙ k.2)
    (line_of_node c.worked.result c.args.fuel.now.left c.worked.new.fuel.left sites at c.args.table.now m n k.0 is (c.worked.ensures sites k.0 k.1)))

pub returns-in-Watched : goal.returns-in-Watched
returns-in-Watched g c = λ sites.
    let at = g.N.Nodes.way c.args.nodes.now sites in
    let m = c.args.id.0 in
    let n = c.node-node.result.now in
    let is = c.node-node.ensures sites in
    let k = kind_watched sites m n.kind (sym c.in-Watched.ensures) in
    computed_or c.watched.result c.args.fuel.now.left c.args.fuel.now.left c.args.table.now c.args.sources.now at m
    (watched_comes c.watched.result c.args.fuel.now.left at.graph c.args.table.now c.args.sources.now m (at.graph.kind m) k.0 k.1 k.2 (at.graph.inputs m) (is.kind ∙ k.3)
    (subst (λ (ins : List Part). WatchComes c.watched.result at.graph (only_of ins)) (sym is.inputs) (c.watched.ensures sites)))

pub returns-in-Passed : goal.returns-in-Passed
returns-in-Passed g c = λ sites.
    let at = g.N.Nodes.way c.args.nodes.now sites in
    let m = c.args.id.0 in
    let n = c.node-node.result.now in
    let is = c.node-node.ensures sites in
    let gives : Sites → Now → Type 0 = λ s now. GivesPassed (g.N.Nodes.way c.args.nodes.now s).graph (only_of (parts_of n.inputs)) now in
    computed_or c.alone.result c.args.fuel.now.left c.args.fuel.now.left c.args.table.now c.args.sources.now at m
    (passed_comes c.alone.result c.args.fuel.now.left at.graph c.args.table.now c.args.sources.now m (at.graph.kind m) (at.graph.inputs m) (is.kind ∙ kind_passed sites m n.kind (sym c.in-Passed.ensures))
    (subst (λ (ins : List Part). MatchResult c.alone.result (λ (s : Stepped). GivesPassed at.graph (only_of ins) s.value) IsWant) (sym is.inputs)
    (alone_at c.alone.result gives (alone_gives c.passed_value.result c.alone.result (λ now. (s : Sites) → gives s now) c.passed_value.ensures c.alone.ensures) sites)))
