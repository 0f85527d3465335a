use Rattle.std.proofs.Common.{List, subst, sym}
use Rattle.fr_value.specs.declared.ids.NodeId.{NodeId}
use Rattle.fr_engine.specs.Notes.{AreTaken}
use Rattle.fr_engine.proofs.Latches.{all_taken}
use Rattle.fr_engine.proofs.ending.bury_ended.Goals as goal

pub living-requires : goal.living-requires
living-requires g c = λ sites.
    subst (λ (ids : List NodeId). AreTaken (g.N.Nodes.way c.args.nodes.now sites) ids) (sym c.as_slice.ensures.value)
    (all_taken (g.N.Nodes.way c.args.nodes.now) c.args.late.now.items c.is_sound.ensures c.requires.late sites)

pub living-requires-2 : goal.living-requires-2
living-requires-2 g c = λ sites.
    subst (λ (ids : List NodeId). AreTaken (g.N.Nodes.way c.args.nodes.now sites) ids) (sym c.as_slice-2.ensures.value)
    (all_taken (g.N.Nodes.way c.args.nodes.now) c.args.wakes.now.items c.is_sound.ensures c.requires.wakes sites)
