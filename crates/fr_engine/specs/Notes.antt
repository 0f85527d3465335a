-- What an instant notes of the nodes that it computes.
use Rattle.std.specs.Prelude.{◌≡◌, ◌≢◌, ◌⊎◌, ℕ, Bool, true, false, List, [], ◌∷◌, ◌++◌, Option, Some, Ok, IsSome}
use Rattle.fr_value.specs.declared.ids.NodeId.{NodeId}
use Rattle.fr_value.specs.declared.now.Now.{Now}
use Rattle.fr_meaning.specs.Cells.{Cell}
use Rattle.fr_graph.specs.Graph.{Work, works, Graph, is_late}
use Rattle.fr_graph.specs.Known.{Reads}
use Rattle.fr_way.specs.Way.{Way, occurs_now}
use Rattle.fr_way.specs.Steps.{SameShape}
pub use Rattle.fr_nodes.specs.Listed.{Named}
use Rattle.fr_nodes.specs.Signals.{QueuesReaders}
use Rattle.fr_engine.specs.declared.setting.Notes.{Notes}

-- all that are listed have numbers in use
abbrev pub AreTaken : Way → List NodeId → Type 0
AreTaken at ids = (m : ℕ) → Named ids m → at.taken m ≡ true

-- each live node that occurs is listed or still queued, and so is each whose value isn't the one before the instant; and a live node that is listed was computed, and occurs or hasn't the value before the instant
pub record AreNoted (old : Graph) (at : Way) (wakes changed : List NodeId) : Type 0 where
  pub occurring : (m : ℕ) → at.graph.live m ≡ true → Named wakes m ⊎ (IsSome (at.queued m) ⊎ (occurs_now (at.graph.value m) ≡ false))
  pub other : (m : ℕ) → at.graph.live m ≡ true → old.live m ≡ true → Named changed m ⊎ (IsSome (at.queued m) ⊎ (at.graph.value m ≡ old.value m))
  pub occur : (m : ℕ) → Named wakes m → at.graph.live m ≡ true → (at.done m ≡ true) × (occurs_now (at.graph.value m) ≡ true)
  pub differ : (m : ℕ) → Named changed m → at.graph.live m ≡ true → (at.done m ≡ true) × (old.live m ≡ true → at.graph.value m ≢ old.value m)
  pub wakes_taken : AreTaken at wakes
  pub changed_taken : AreTaken at changed

-- each live late work is listed, and all that are listed have numbers in use
pub record AreLate (at : Way) (ids : List NodeId) : Type 0 where
  pub listed : (m : ℕ) (w : Work) → at.graph.live m ≡ true → at.graph.kind m ≡ works w → is_late w ≡ true → Named ids m
  pub taken : AreTaken at ids

-- the readers of a node are queued, or nothing is done
abbrev pub Wakes : Bool → Way → Way → ℕ → Type 0
Wakes true at new m = QueuesReaders at new m
Wakes false at new m = new ≡ at

-- a node has this value and this cell and counts as computed, and what reads it is queued unless its value stayed and doesn't occur; all else is as it was
pub record Settles (at new : Way) (m : ℕ) (now : Now) (next : Option Cell) : Type 0 where
  pub shape : SameShape at.graph new.graph
  pub value_here : new.graph.value m ≡ Ok now
  pub value : (j : ℕ) → j ≢ m → new.graph.value j ≡ at.graph.value j
  pub cell_here : new.graph.cell m ≡ next
  pub cell : (j : ℕ) → j ≢ m → new.graph.cell j ≡ at.graph.cell j
  pub taken : (j : ℕ) → new.taken j ≡ at.taken j
  pub heights : (j : ℕ) → new.height j ≡ at.height j
  pub done_here : new.done m ≡ true
  pub done : (j : ℕ) → j ≢ m → new.done j ≡ at.done j
  pub queue : (j : ℕ) → (new.queued j ≡ at.queued j) ⊎ ((at.graph.live j ≡ true) × Reads m (at.graph.inputs j) × (new.queued j ≡ Some (at.height j)))
  pub readers : (j : ℕ) → at.graph.live j ≡ true → Reads m (at.graph.inputs j) → (new.queued j ≡ Some (at.height j)) ⊎ ((at.graph.value m ≡ Ok now) × (occurs_now (Ok now) ≡ false))

-- what was noted of a node: it is listed among those that occur unless it doesn't, and among those that have another value unless its value stayed, and only then
pub record NotesNode (at : Way) (m : ℕ) (now : Now) (old new : Notes) : Type 0 where
  pub wakes : (j : ℕ) → Named old.wakes.items j → Named new.wakes.items j
  pub changed : (j : ℕ) → Named old.changed.items j → Named new.changed.items j
  pub occurs : Named new.wakes.items m ⊎ (occurs_now (Ok now) ≡ false)
  pub differs : Named new.changed.items m ⊎ (at.graph.value m ≡ Ok now)
  pub occurs_only : Named new.wakes.items m → Named old.wakes.items m ⊎ (occurs_now (Ok now) ≡ true)
  pub differs_only : Named new.changed.items m → Named old.changed.items m ⊎ (at.graph.value m ≢ Ok now)
  pub wakes_only : (j : ℕ) → Named new.wakes.items j → (j ≡ m) ⊎ Named old.wakes.items j
  pub changed_only : (j : ℕ) → Named new.changed.items j → (j ≡ m) ⊎ Named old.changed.items j

-- a node was listed behind the others, or nothing was
abbrev pub Lists : Bool → List NodeId → List NodeId → ℕ → Type 0
Lists true old new m = new ≡ old ++ record { 0 = m } ∷ []
Lists false old new m = new ≡ old
