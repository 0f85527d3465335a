use Rattle.std.proofs.Common.{◌∙◌, length}
use Rattle.fr_engine.proofs.Settled.{on_ok}
use Rattle.fr_engine.proofs.Begun.{all_live, are_live, all_on, alive_on, starts}
use Rattle.fr_engine.proofs.beginning.begin_instant.Goals as goal

pub wake_sources-requires-clause-there : goal.wake_sources-requires-clause-there
wake_sources-requires-clause-there g c = λ sites.
    all_on (length c.args.sources.now) (g.N.Nodes.way c.args.nodes.now sites).graph (g.N.Nodes.way c.begin.new.self sites).graph (c.in_ok-begin.ensures.begins sites).graph
    (all_live (g.N.Nodes.way c.args.nodes.now) (length c.args.sources.now) c.is_sound.ensures c.requires.there sites)

pub wake_listed-requires : goal.wake_listed-requires
wake_listed-requires g c = λ sites.
    alive_on (g.N.Nodes.way c.args.nodes.now sites).graph (g.N.Nodes.way c.wake_sources.new.nodes sites).graph c.args.wakes.now
    ((c.in_ok-wake_sources.ensures.woken sites).woken.same.graph ∙ (c.in_ok-begin.ensures.begins sites).graph)
    (are_live (g.N.Nodes.way c.args.nodes.now) c.args.wakes.now c.is_sound.ensures c.requires.wakes_live sites)

pub wake_kept-requires : goal.wake_kept-requires
wake_kept-requires g c = λ sites.
    alive_on (g.N.Nodes.way c.args.nodes.now sites).graph (g.N.Nodes.way c.wake_listed.new.nodes sites).graph c.args.late.now
    ((c.in_ok-wake_listed.ensures.woken sites).woken.same.graph ∙ (c.in_ok-wake_sources.ensures.woken sites).woken.same.graph ∙ (c.in_ok-begin.ensures.begins sites).graph)
    (are_live (g.N.Nodes.way c.args.nodes.now) c.args.late.now c.is_sound.ensures c.requires.late_live sites)

pub returns-clause-starts : goal.returns-clause-starts
returns-clause-starts g c = on_ok c.wake_kept.result
    (λ kept sites have rest.
    starts c.args.sources.now c.args.wakes.now c.args.late.now (g.N.Nodes.way c.args.nodes.now sites) (g.N.Nodes.way c.begin.new.self sites) (g.N.Nodes.way c.wake_sources.new.nodes sites)
    (g.N.Nodes.way c.wake_listed.new.nodes sites) (g.N.Nodes.way c.wake_kept.new.nodes sites) (c.is_sound.ensures.taken sites) have rest
    (c.in_ok-begin.ensures.begins sites) (c.in_ok-wake_sources.ensures.woken sites) (c.in_ok-wake_listed.ensures.woken sites) (kept sites))
    c.wake_kept.ensures.woken
