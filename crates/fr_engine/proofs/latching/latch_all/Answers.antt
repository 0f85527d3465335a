use Rattle.std.proofs.Common.{◌∙◌, List, subst, sym, slice_index_or, take}
use Rattle.fr_value.specs.declared.ids.NodeId.{NodeId}
use Rattle.fr_engine.specs.Latching.{Latched}
use Rattle.fr_engine.proofs.Latches.{named_at, take_next, latched_more, all_taken, all_laters, laters_on}
use Rattle.fr_engine.proofs.latching.latch_all.Goals as goal

pub latch_one-requires-clause-taken : goal.latch_one-requires-clause-taken
latch_one-requires-clause-taken g c = λ sites.
    let first : NodeId = record { 0 = 0 } in
    let id = slice_index_or c.args.late.now c.loop-id.id-index first in
    (c.loop-id.invariant.latched sites).taken id.0 ∙ all_taken (g.N.Nodes.way c.args.nodes.now) c.args.late.now c.is_sound.ensures c.requires.taken sites id.0 (named_at c.args.late.now c.loop-id.id-index first c.loop-id-test.true)

pub latch_one-requires-clause-laters : goal.latch_one-requires-clause-laters
latch_one-requires-clause-laters g c = λ sites.
    laters_on (g.N.Nodes.way c.args.nodes.now sites).graph (g.N.Nodes.way c.loop-id.nodes sites).graph (c.loop-id.invariant.latched sites).shape
    (all_laters (g.N.Nodes.way c.args.nodes.now) c.is_sound.ensures c.requires.laters sites)

pub loop-id-preserved : goal.loop-id-preserved
loop-id-preserved g c = record {
  latched = λ sites.
      let first : NodeId = record { 0 = 0 } in
      let id = slice_index_or c.args.late.now c.loop-id.id-index first in
      subst (λ (ids : List NodeId). Latched (g.N.Nodes.way c.args.nodes.now sites) (g.N.Nodes.way c.latch_one.new.nodes sites) ids) (sym (take_next c.args.late.now c.loop-id.id-index first c.loop-id-test.true))
      (latched_more (g.N.Nodes.way c.args.nodes.now sites) (g.N.Nodes.way c.loop-id.nodes sites) (g.N.Nodes.way c.latch_one.new.nodes sites) (take c.loop-id.id-index c.args.late.now) id
      (c.loop-id.invariant.latched sites) (c.in_ok-latch_one.ensures.latched sites));
  eras = λ x. c.latch_one.ensures.eras x ∙ c.loop-id.invariant.eras x;
}
