use Rattle.std.proofs.Common.{◌∙◌}
use Rattle.fr_engine.proofs.Begun.{sources_more}
use Rattle.fr_engine.proofs.beginning.wake_sources.Goals as goal

pub loop-place-preserved : goal.loop-place-preserved
loop-place-preserved g c = record {
  woken = λ sites. sources_more (g.N.Nodes.way c.args.nodes.now sites) (g.N.Nodes.way c.loop-place.nodes sites) (g.N.Nodes.way c.wake_source.new.nodes sites) c.args.sources.now c.loop-place.place
      (c.loop-place.invariant.woken sites) (c.in_ok-wake_source.ensures.woken sites) (c.in_ok-wake_source.ensures.queued sites);
  eras = λ x. c.wake_source.ensures.eras x ∙ c.loop-place.invariant.eras x;
}
