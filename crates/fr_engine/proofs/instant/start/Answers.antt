use Rattle.std.proofs.Common.{List, subst, sym}
use Rattle.fr_value.specs.declared.ids.NodeId.{NodeId}
use Rattle.fr_engine.specs.Beginning.{AreLive, IsResting}
use Rattle.fr_engine.proofs.instant.start.Goals as goal

pub begin_instant-requires-clause-wakes_live : goal.begin_instant-requires-clause-wakes_live
begin_instant-requires-clause-wakes_live g c =
    let first = c.requires.wakes_live.0 in
    (first, subst (AreLive (g.N.Nodes.way c.args.nodes.now first).graph) (sym c.as_slice.ensures.value) c.requires.wakes_live.1)

pub returns-clause-starts : goal.returns-clause-starts
returns-clause-starts g c = λ sites have rest.
    c.in_ok-begin_instant.ensures.starts sites have
    (subst (λ (ids : List NodeId). IsResting (g.N.Nodes.way c.args.nodes.now sites) ids c.args.late.now) (sym c.as_slice.ensures.value) rest)
