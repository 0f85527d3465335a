use Rattle.std.proofs.Common.{◌∙◌, List, subst, sym, slice_index_or, take, refl}
use Rattle.fr_value.specs.declared.ids.NodeId.{NodeId}
use Rattle.fr_engine.specs.Beginning.{ListedWoken}
use Rattle.fr_engine.proofs.Latches.{named_at, take_next}
use Rattle.fr_engine.proofs.Begun.{live_on, listed_more}
use Rattle.fr_engine.proofs.beginning.wake_listed.Goals as goal

pub queue_if-requires : goal.queue_if-requires
queue_if-requires g c = λ sites.
    let first : NodeId = record { 0 = 0 } in
    let id = slice_index_or c.args.wakes.now c.loop-id.id-index first in
    live_on (g.N.Nodes.way c.args.nodes.now sites) (g.N.Nodes.way c.loop-id.nodes sites) (c.loop-id.invariant.woken sites).woken id.0
    (c.requires sites id.0 (named_at c.args.wakes.now c.loop-id.id-index first c.loop-id-test.true))

pub loop-id-preserved : goal.loop-id-preserved
loop-id-preserved g c = record {
  woken = λ sites.
      let first : NodeId = record { 0 = 0 } in
      let id = slice_index_or c.args.wakes.now c.loop-id.id-index first in
      subst (λ (ids : List NodeId). ListedWoken (g.N.Nodes.way c.args.nodes.now sites) (g.N.Nodes.way c.queue_if.new.nodes sites) ids) (sym (take_next c.args.wakes.now c.loop-id.id-index first c.loop-id-test.true))
      (listed_more (g.N.Nodes.way c.args.nodes.now sites) (g.N.Nodes.way c.loop-id.nodes sites) (g.N.Nodes.way c.queue_if.new.nodes sites) (take c.loop-id.id-index c.args.wakes.now) id
      (c.loop-id.invariant.woken sites) (c.in_ok-queue_if.ensures.woken sites) (c.in_ok-queue_if.ensures.queued refl sites));
  eras = λ x. c.queue_if.ensures.eras x ∙ c.loop-id.invariant.eras x;
}
