use Rattle.std.proofs.Common.{◌≡◌, ◌∙◌, ℕ, true, subst}
use Rattle.fr_engine.proofs.keys.has_chosen.Goals as goal

pub node-requires : goal.node-requires
node-requires g c = λ s.
    let first = c.requires.result.0 in
    let r = c.result_of-result.result.0 in
    (c.is_sound.ensures.alike first s).live r
    ∙ subst (λ (m : ℕ). (g.N.Nodes.way c.args.nodes.now first).graph.live m ≡ true) (c.result_of-result.ensures first) c.requires.result.1
