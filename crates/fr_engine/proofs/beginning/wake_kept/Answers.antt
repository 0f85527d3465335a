use Rattle.std.proofs.Common.{◌∙◌, List, subst, sym, slice_index_or, take}
use Rattle.fr_value.specs.declared.ids.NodeId.{NodeId}
use Rattle.fr_engine.specs.Beginning.{KeptWoken}
use Rattle.fr_engine.proofs.Latches.{named_at, take_next}
use Rattle.fr_engine.proofs.Begun.{live_on, kept_more}
use Rattle.fr_engine.proofs.beginning.wake_kept.Goals as goal

pub wake_late-requires : goal.wake_late-requires
wake_late-requires g c = λ sites.
    let first : NodeId = record { 0 = 0 } in
    let id = slice_index_or c.args.late.now c.loop-id.id-index first in
    live_on (g.N.Nodes.way c.args.nodes.now sites) (g.N.Nodes.way c.loop-id.nodes sites) (c.loop-id.invariant.woken sites).woken id.0
    (c.requires sites id.0 (named_at c.args.late.now c.loop-id.id-index first c.loop-id-test.true))

pub loop-id-preserved : goal.loop-id-preserved
loop-id-preserved g c = record {
  woken = λ sites.
      let first : NodeId = record { 0 = 0 } in
      let id = slice_index_or c.args.late.now c.loop-id.id-index first in
      subst (λ (ids : List NodeId). KeptWoken (g.N.Nodes.way c.args.nodes.now sites) (g.N.Nodes.way c.wake_late.new.nodes sites) ids) (sym (take_next c.args.late.now c.loop-id.id-index first c.loop-id-test.true))
      (kept_more (g.N.Nodes.way c.args.nodes.now sites) (g.N.Nodes.way c.loop-id.nodes sites) (g.N.Nodes.way c.wake_late.new.nodes sites) (take c.loop-id.id-index c.args.late.now) id
      (c.loop-id.invariant.woken sites) (c.in_ok-wake_late.ensures.woken sites) (c.in_ok-wake_late.ensures.queued sites));
  eras = λ x. c.wake_late.ensures.eras x ∙ c.loop-id.invariant.eras x;
}
