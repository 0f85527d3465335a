use Rattle.std.proofs.Common.{◌∙◌, List, subst, sym}
use Rattle.fr_value.specs.declared.ids.NodeId.{NodeId}
use Rattle.fr_engine.specs.Notes.{AreTaken}
use Rattle.fr_nodes.specs.Kinds.{Sites}
use Rattle.fr_engine.specs.Latching.{IsMemory, LatchRefused, Latched}
use Rattle.fr_engine.proofs.Ended.{on_ok_all, on_err, memory_tells}
use Rattle.fr_engine.proofs.ending.close.Goals as goal

pub latch_all-requires-clause-taken : goal.latch_all-requires-clause-taken
latch_all-requires-clause-taken g c =
    let first = c.requires.late.0 in
    (first, subst (λ (ids : List NodeId). AreTaken (g.N.Nodes.way c.args.nodes.now first) ids) (sym c.as_slice.ensures.value) c.requires.late.1)

pub bury_noted-requires-clause-empty : goal.bury_noted-requires-clause-empty
bury_noted-requires-clause-empty g c =
    (c.requires.empty.0, λ m. (c.in-Ok.ensures.latched c.requires.empty.0).queue m ∙ c.requires.empty.1 m)

pub bury_noted-requires-clause-late : goal.bury_noted-requires-clause-late
bury_noted-requires-clause-late g c =
    (c.requires.late.0, λ m n. (c.in-Ok.ensures.latched c.requires.late.0).taken m ∙ c.requires.late.1 m n)

pub bury_noted-requires-clause-wakes : goal.bury_noted-requires-clause-wakes
bury_noted-requires-clause-wakes g c =
    (c.requires.wakes.0, λ m n. (c.in-Ok.ensures.latched c.requires.wakes.0).taken m ∙ c.requires.wakes.1 m n)

pub returns-in-Ok-clause-closes : goal.returns-in-Ok-clause-closes
returns-in-Ok-clause-closes g c = on_ok_all c.bury_noted.result c.bury_noted.ensures.buries c.bury_noted.ensures.late c.bury_noted.ensures.wakes
    (λ buries late wakes sites. record {
      latched = g.N.Nodes.way c.latch_all.new.nodes sites;
      latches = subst (λ (ids : List NodeId). Latched (g.N.Nodes.way c.args.nodes.now sites) (g.N.Nodes.way c.latch_all.new.nodes sites) ids) c.as_slice.ensures.value (c.in-Ok.ensures.latched sites);
      wakes = wakes sites;
      changed = c.bury_noted.ensures.changed;
      late = late sites;
      buries = buries sites;
    })

pub returns-in-Ok-clause-refused : goal.returns-in-Ok-clause-refused
returns-in-Ok-clause-refused g c = on_err c.bury_noted.result IsMemory
    (λ stop. (sites : Sites) → LatchRefused stop (g.N.Nodes.way c.args.nodes.now sites).graph)
    (λ stop m sites. memory_tells stop (g.N.Nodes.way c.args.nodes.now sites).graph m) c.bury_noted.ensures.stops
