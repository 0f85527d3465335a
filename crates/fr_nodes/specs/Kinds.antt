-- What the nodes that code makes stand for in the graph.
use Rattle.std.specs.Prelude.{ℕ, List, map, Option, Some, None}
use Rattle.fr_value.specs.declared.now.Held.{Held}
use Rattle.fr_value.specs.declared.now.Held.TheVariants.{Steady, Signal}
use Rattle.fr_core.specs.declared.lowered.Low.{Low}
use Rattle.fr_meaning.specs.Words.{plain}
use Rattle.fr_store.specs.declared.node.NodeKind.{NodeKind}
use Rattle.fr_store.specs.declared.node.NodeKind.TheVariants as node
use Rattle.fr_graph.specs.Graph.{Part, steady, signal, Work, Kind, source, works, watch, result}
use Rattle.fr_events.specs.Works.{work_of}

-- the two choices of a switch
pub record Choices : Type 0 where
  pub yes : Low
  pub no : Low

-- the choices at each site of a lowered program
abbrev pub Sites : Type 0
Sites = ℕ → Choices

-- what a held part stands for
abbrev pub part_of : Held → Part
part_of (Steady v) = steady (plain v)
part_of (Signal id) = signal id.0

abbrev pub parts_of : List Held → List Part
parts_of hs = map part_of hs

-- the kind of a node that isn't a work; a source has the number of its node
abbrev pub kind_beside : Sites → ℕ → NodeKind → Kind
kind_beside sites m (node.IfWatch site held) = watch (sites site.0).yes (sites site.0).no (parts_of held)
kind_beside sites m node.Result = result
kind_beside sites m kind = source m

abbrev pub kind_by : Option Work → Kind → Kind
kind_by (Some w) kind = works w
kind_by None kind = kind

-- the kind of a node of this number
abbrev pub kind_of : Sites → ℕ → NodeKind → Kind
kind_of sites m kind = kind_by (work_of kind) (kind_beside sites m kind)
