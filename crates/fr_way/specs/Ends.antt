-- Where an instant begins, and where it ends.
use Rattle.std.specs.Prelude.{◌≡◌, ◌⊎◌, ℕ, true, false, List, [], Option, Some, None, IsSome, Err, Ok, slice_get}
use Rattle.fr_value.specs.declared.now.Now.{Now}
use Rattle.fr_value.specs.declared.now.Bad.TheVariants.{Deep}
use Rattle.fr_meaning.specs.Words.{Seen, plain, occurs}
use Rattle.fr_meaning.specs.Cells.{Cell, datum, payload}
use Rattle.fr_core.specs.declared.lowered.LowItem.{LowItem}
use Rattle.fr_graph.specs.Graph.{Part, Work, source, works, Graph, is_late}
use Rattle.fr_graph.specs.Walk.{Plan}
use Rattle.fr_graph.specs.Wired.{Wired}
use Rattle.fr_graph.specs.Known.{IsLatched}
use Rattle.fr_graph.specs.Items.{body_walk, ItemsStand, HasNodes, IsSettled}
use Rattle.fr_graph.specs.Goes.{Goes, IsEmpty}
use Rattle.fr_way.specs.Frame.{IsFramed}
use Rattle.fr_way.specs.Way.{Way, cell_in, occurs_now}
use Rattle.fr_way.specs.Steps.{SameShape}

-- what a late work shows of its cell
abbrev pub shown_of : Option Cell → Seen
shown_of (Some (datum v)) = plain v
shown_of (Some (payload o)) = occurs o
shown_of None = Err Deep

-- the graph is built, over a graph without nodes: every node is in the program's era, has no cell and is queued
pub record IsBuilt (p : Plan) (is : List LowItem) (ms : List ℕ) (old : Graph) (at : Way) : Type 0 where
  pub empty : IsEmpty old
  pub frame : IsFramed at.graph at.height
  pub items : ItemsStand (body_walk p) (Wired at.graph p 0 2000) [] is ms
  pub era : (m : ℕ) → at.graph.live m ≡ true → at.graph.era m ≡ 0
  pub cell : (m : ℕ) → at.graph.live m ≡ true → at.graph.cell m ≡ None
  pub done : (m : ℕ) → at.graph.live m ≡ true → at.done m ≡ false
  pub queued : (m : ℕ) → at.graph.live m ≡ true → at.queued m ≡ Some (at.height m)
  pub no_other : (m : ℕ) → at.graph.live m ≡ false → at.queued m ≡ None
  pub taken : (m : ℕ) → at.graph.live m ≡ true → at.taken m ≡ true

-- a further instant begins: nothing is computed, and queued are at least the sources whose values change, the nodes that occurred, and the late works that show another value than they kept
pub record Begins (sources : List Now) (old : Graph) (at : Way) : Type 0 where
  pub graph : at.graph ≡ old
  pub done : (m : ℕ) → at.done m ≡ false
  pub taken : (m : ℕ) → old.live m ≡ true → at.taken m ≡ true
  pub queue : (m h : ℕ) → at.queued m ≡ Some h → (old.live m ≡ true) × (h ≡ at.height m)
  pub set : (m s : ℕ) → old.live m ≡ true → old.kind m ≡ source s → IsSome (at.queued m) ⊎ ((now : Now) × (slice_get sources s ≡ Some now) × (old.value m ≡ Ok now))
  pub occurred : (m : ℕ) → old.live m ≡ true → IsSome (at.queued m) ⊎ (occurs_now (old.value m) ≡ false)
  pub kept : (m : ℕ) (w : Work) → old.live m ≡ true → old.kind m ≡ works w → is_late w ≡ true → IsSome (at.queued m) ⊎ (shown_of (old.cell m) ≡ old.value m)

-- the late works have taken the values of their last parts; all else is as it was
pub record Takes (at new : Graph) : Type 0 where
  pub shape : SameShape at new
  pub value : (m : ℕ) → new.value m ≡ at.value m
  pub others : (m : ℕ) → ((w : Work) → at.kind m ≡ works w → is_late w ≡ true → ⊥) → new.cell m ≡ at.cell m
  pub latched : (m : ℕ) (w : Work) (last : Part) → at.live m ≡ true → at.kind m ≡ works w → is_late w ≡ true → at.later m ≡ Some last → IsLatched new m w last

-- an instant has ended: its nodes and eras stand, every node obeys its rule over the cells before the instant, cells and eras went as an instant may let them go, and the graph is framed
pub record HasEndedWell (p : Plan) (is : List LowItem) (ms : List ℕ) (sources : List Now) (old new : Graph) (height : ℕ → ℕ) : Type 0 where
  pub settled : IsSettled new p sources (cell_in old)
  pub has : HasNodes new p is ms
  pub goes : Goes old new (cell_in old)
  pub frame : IsFramed new height
