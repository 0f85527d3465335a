-- What late works take behind the instant.
use Rattle.std.specs.Prelude.{◌≡◌, ℕ, true, List, Option, Some, None, Result, Ok, Err}
use Rattle.fr_value.specs.declared.ids.NodeId.{NodeId}
use Rattle.fr_value.specs.declared.now.Bad.{Bad}
use Rattle.fr_meaning.specs.Cells.{Cell}
use Rattle.fr_store.specs.declared.cell.Cell.{Cell as StoredCell}
use Rattle.fr_graph.specs.Graph.{Part, signal, Work, works, Graph, part_value, is_late}
use Rattle.fr_graph.specs.Known.{latch, IsLatched}
use Rattle.fr_events.specs.Works.{cell_of}
use Rattle.fr_events.specs.declared.latching.LatchStop.{LatchStop}
use Rattle.fr_events.specs.declared.latching.LatchStop.TheVariants as stop
use Rattle.fr_way.specs.Way.{Way}
use Rattle.fr_way.specs.Steps.{SameShape}
use Rattle.fr_engine.specs.Notes.{Named}

-- what live nodes take behind the instant lives
abbrev pub LatersLive : Graph → Type 0
LatersLive g = (m j : ℕ) → g.live m ≡ true → g.later m ≡ Some (signal j) → g.live j ≡ true

-- a node is a late work whose cell takes this part's value
pub record IsLast (g : Graph) (m : ℕ) (w : Work) (last : Part) : Type 0 where
  pub kind : g.kind m ≡ works w
  pub late : is_late w ≡ true
  pub later : g.later m ≡ Some last

-- a late work's cell takes this
pub record TakesLast (g : Graph) (m : ℕ) (taken : Cell) : Type 0 where
  pub work : Work
  pub last : Part
  pub is : IsLast g m work last
  pub takes : latch work (part_value g last) ≡ Ok taken

-- a late work refuses what its cell is to take
pub record RefusesLast (g : Graph) (m : ℕ) : Type 0 where
  pub work : Work
  pub last : Part
  pub bad : Bad
  pub is : IsLast g m work last
  pub refuses : latch work (part_value g last) ≡ Err bad

-- what is told of what a live node's cell takes: nothing, as it is no late work or has no last part; this; or it is refused. Want of memory tells nothing
abbrev pub TakesOr : Result (Option StoredCell) LatchStop → Graph → ℕ → Type 0
TakesOr (Ok None) g m = (w : Work) (last : Part) → IsLast g m w last → ⊥
TakesOr (Ok (Some c)) g m = TakesLast g m (cell_of c)
TakesOr (Err (stop.Memory e)) g m = Unit {0}
TakesOr (Err (stop.Bad b)) g m = RefusesLast g m

-- of these nodes the late works that live have taken the values of their last parts; all else is as it was
pub record Latched (at new : Way) (ids : List NodeId) : Type 0 where
  pub shape : SameShape at.graph new.graph
  pub value : (j : ℕ) → new.graph.value j ≡ at.graph.value j
  pub elsewhere : (j : ℕ) → (Named ids j → ⊥) → new.graph.cell j ≡ at.graph.cell j
  pub others : (j : ℕ) → ((w : Work) → at.graph.kind j ≡ works w → is_late w ≡ true → ⊥) → new.graph.cell j ≡ at.graph.cell j
  pub latched : (j : ℕ) (w : Work) (last : Part) → Named ids j → at.graph.live j ≡ true → IsLast at.graph j w last → IsLatched new.graph j w last
  pub taken : (j : ℕ) → new.taken j ≡ at.taken j
  pub heights : (j : ℕ) → new.height j ≡ at.height j
  pub done : (j : ℕ) → new.done j ≡ at.done j
  pub queue : (j : ℕ) → new.queued j ≡ at.queued j

-- why the late works can't take the values of their last parts: a live one refuses it, or memory is wanting
abbrev pub LatchRefused : LatchStop → Graph → Type 0
LatchRefused (stop.Memory e) g = Unit {0}
LatchRefused (stop.Bad b) g = (m : ℕ) × (g.live m ≡ true) × RefusesLast g m

-- memory is wanting
abbrev pub IsMemory : LatchStop → Type 0
IsMemory (stop.Memory e) = Unit {0}
IsMemory (stop.Bad b) = ⊥
