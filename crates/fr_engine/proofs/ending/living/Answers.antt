use Rattle.std.proofs.Common.{List, subst, sym, slice_index_or, take}
use Rattle.fr_value.specs.declared.ids.NodeId.{NodeId}
use Rattle.fr_engine.specs.Ending.{AreLiving}
use Rattle.fr_engine.proofs.Latches.{named_at, take_next}
use Rattle.fr_engine.proofs.Ended.{living_more}
use Rattle.fr_engine.proofs.ending.living.Goals as goal

pub lives-requires : goal.lives-requires
lives-requires g c = λ sites.
    let first : NodeId = record { 0 = 0 } in
    c.requires sites (slice_index_or c.args.ids.now c.loop-id.id-index first).0 (named_at c.args.ids.now c.loop-id.id-index first c.loop-id-test.true)

pub loop-id-preserved : goal.loop-id-preserved
loop-id-preserved g c = λ sites.
    let first : NodeId = record { 0 = 0 } in
    let id = slice_index_or c.args.ids.now c.loop-id.id-index first in
    subst (λ (ids : List NodeId). AreLiving (g.N.Nodes.way c.args.nodes.now sites).graph ids c.note.new.ids.items) (sym (take_next c.args.ids.now c.loop-id.id-index first c.loop-id-test.true))
    (living_more (g.N.Nodes.way c.args.nodes.now sites).graph (take c.loop-id.id-index c.args.ids.now) c.loop-id.living.items c.note.new.ids.items id c.lives.result (c.lives.ensures sites)
    (c.loop-id.invariant sites) c.in_ok-note.ensures)
