-- What the steps of an instant do to a graph under way.
use Rattle.std.specs.Prelude.{◌≡◌, ◌≢◌, ◌⊎◌, ℕ, suc, ◌-◌, ◌<◌, ◌≤◌, Bool, true, false, List, [], ◌∷◌, Option, Some, None, Ok}
use Rattle.std.specs.Option.{option_map}
use Rattle.fr_value.specs.declared.now.Now.{Now}
use Rattle.fr_meaning.specs.Cells.{Cell}
use Rattle.fr_meaning.specs.Evaluation.{most_levels}
use Rattle.fr_queue.specs.Queue.{IsEmpty}
use Rattle.fr_store.specs.declared.node.Node.{Node}
use Rattle.fr_store.specs.Nodes.{most_nodes}
use Rattle.fr_events.specs.Works.{cell_of}
use Rattle.fr_graph.specs.Known.{Reads}
use Rattle.fr_way.specs.Frame.{is_watch}
use Rattle.fr_way.specs.Order.{IsOver}
use Rattle.fr_way.specs.Steps.{IsLeast, SameShape}
use Rattle.fr_way.specs.Turns.{IsSame}
use Rattle.fr_way.specs.Way.{Way}
use Rattle.fr_nodes.specs.Kinds.{Sites, kind_of, part_of, parts_of}

-- the graph is as it was, and so are heights, the numbers in use and what was computed
pub record SameNodes (at new : Way) : Type 0 where
  pub graph : new.graph ≡ at.graph
  pub taken : (m : ℕ) → new.taken m ≡ at.taken m
  pub heights : (m : ℕ) → new.height m ≡ at.height m
  pub done : (m : ℕ) → new.done m ≡ at.done m

-- nothing counts as computed; all else is as it was
pub record IsAnew (at new : Way) : Type 0 where
  pub graph : new.graph ≡ at.graph
  pub taken : (m : ℕ) → new.taken m ≡ at.taken m
  pub heights : (m : ℕ) → new.height m ≡ at.height m
  pub done : (m : ℕ) → new.done m ≡ false
  pub queue : (m : ℕ) → new.queued m ≡ at.queued m

-- a queued node of least height is queued no more; all else is as it was
pub record TakesOut (at new : Way) (m : ℕ) : Type 0 where
  pub same : SameNodes at new
  pub height : ℕ
  pub least : IsLeast at m height
  pub out : new.queued m ≡ None
  pub queue : (j : ℕ) → j ≢ m → new.queued j ≡ at.queued j

-- nothing was queued, and nothing is; all else is as it was
pub record TakesNone (at new : Way) : Type 0 where
  pub same : SameNodes at new
  pub was_empty : IsEmpty at.queued
  pub empty : IsEmpty new.queued

-- a stored node is what the graph has at a number
pub record IsNodeOf (sites : Sites) (at : Way) (m : ℕ) (n : Node) : Type 0 where
  pub kind : at.graph.kind m ≡ kind_of sites m n.kind
  pub inputs : at.graph.inputs m ≡ parts_of n.inputs
  pub later : at.graph.later m ≡ option_map part_of n.source
  pub value : at.graph.value m ≡ Ok n.value
  pub cell : at.graph.cell m ≡ option_map cell_of n.cell
  pub nest : n.nest ≤ most_levels
  pub level : at.graph.level m ≡ most_levels - n.nest
  pub era : at.graph.era m ≡ n.era.0

-- a node has this value and this cell and counts as computed; all else is as it was
pub record Writes (at new : Way) (m : ℕ) (now : Now) (next : Option Cell) : Type 0 where
  pub shape : SameShape at.graph new.graph
  pub value_here : new.graph.value m ≡ Ok now
  pub value : (j : ℕ) → j ≢ m → new.graph.value j ≡ at.graph.value j
  pub cell_here : new.graph.cell m ≡ next
  pub cell : (j : ℕ) → j ≢ m → new.graph.cell j ≡ at.graph.cell j
  pub taken : (j : ℕ) → new.taken j ≡ at.taken j
  pub heights : (j : ℕ) → new.height j ≡ at.height j
  pub done_here : new.done m ≡ true
  pub done : (j : ℕ) → j ≢ m → new.done j ≡ at.done j
  pub queue : (j : ℕ) → new.queued j ≡ at.queued j

-- each live node that reads this one is queued at its height; all else is as it was
pub record QueuesReaders (at new : Way) (m : ℕ) : Type 0 where
  pub same : SameNodes at new
  pub readers : (j : ℕ) → at.graph.live j ≡ true → Reads m (at.graph.inputs j) → new.queued j ≡ Some (at.height j)
  pub others : (j : ℕ) → (at.graph.live j ≡ false) ⊎ (Reads m (at.graph.inputs j) → ⊥) → new.queued j ≡ at.queued j

-- a node has another cell; all else is as it was
pub record Latches (at new : Way) (m : ℕ) (last : Cell) : Type 0 where
  pub shape : SameShape at.graph new.graph
  pub value : (j : ℕ) → new.graph.value j ≡ at.graph.value j
  pub here : new.graph.cell m ≡ Some last
  pub cell : (j : ℕ) → j ≢ m → new.graph.cell j ≡ at.graph.cell j
  pub taken : (j : ℕ) → new.taken j ≡ at.taken j
  pub heights : (j : ℕ) → new.height j ≡ at.height j
  pub done : (j : ℕ) → new.done j ≡ at.done j
  pub queue : (j : ℕ) → new.queued j ≡ at.queued j

-- heights rose until every edge leads upwards, and those in the agenda with them; what is low stays, where only what is high stood too low above this node
pub record RaisesFrom (at new : Way) (from : ℕ) : Type 0 where
  pub graph : new.graph ≡ at.graph
  pub taken : (m : ℕ) → new.taken m ≡ at.taken m
  pub done : (m : ℕ) → new.done m ≡ at.done m
  pub levelled : (a b : ℕ) → IsOver at a b → new.height a < new.height b
  pub no_lower : (m : ℕ) → at.height m ≤ new.height m
  pub low : (h : ℕ) → ((b : ℕ) → IsOver at from b → at.height b ≤ at.height from → h < at.height b) → (m : ℕ) → at.height m ≤ h → new.height m ≡ at.height m
  pub queue : (m : ℕ) → new.queued m ≡ option_map (λ k. new.height m) (at.queued m)

-- only the numbers of live nodes are in use; all that lives is as it was
pub record BuriesAll (at new : Way) : Type 0 where
  pub live : (m : ℕ) → new.graph.live m ≡ at.graph.live m
  pub taken : (m : ℕ) → new.taken m ≡ at.graph.live m
  pub same : (m : ℕ) → at.graph.live m ≡ true → IsSame at new m
  pub height : (m : ℕ) → at.graph.live m ≡ true → new.height m ≡ at.height m
  pub queue : (m : ℕ) → new.queued m ≡ at.queued m
  pub members : (x : ℕ) → new.graph.members x ≡ at.graph.members x
  pub result_of : (m : ℕ) → at.graph.live m ≡ true → new.graph.result_of m ≡ at.graph.result_of m

-- two graphs under way have the same but for the kinds of watches
pub record AreAlike (at other : Way) : Type 0 where
  pub live : (m : ℕ) → other.graph.live m ≡ at.graph.live m
  pub inputs : (m : ℕ) → other.graph.inputs m ≡ at.graph.inputs m
  pub later : (m : ℕ) → other.graph.later m ≡ at.graph.later m
  pub value : (m : ℕ) → other.graph.value m ≡ at.graph.value m
  pub cell : (m : ℕ) → other.graph.cell m ≡ at.graph.cell m
  pub level : (m : ℕ) → other.graph.level m ≡ at.graph.level m
  pub era : (m : ℕ) → other.graph.era m ≡ at.graph.era m
  pub members : (x : ℕ) → other.graph.members x ≡ at.graph.members x
  pub result_of : (m : ℕ) → other.graph.result_of m ≡ at.graph.result_of m
  pub watches : (m : ℕ) → is_watch (other.graph.kind m) ≡ is_watch (at.graph.kind m)
  pub kinds : (m : ℕ) → is_watch (at.graph.kind m) ≡ false → other.graph.kind m ≡ at.graph.kind m
  pub taken : (m : ℕ) → other.taken m ≡ at.taken m
  pub heights : (m : ℕ) → other.height m ≡ at.height m
  pub done : (m : ℕ) → other.done m ≡ at.done m
  pub queue : (m : ℕ) → other.queued m ≡ at.queued m

-- what holds of every graph under way: only the kinds of watches depend on the choices at sites, live nodes are in use, what is queued is in use and stands at its height, and the numbers in use are small
pub record IsSound (way : Sites → Way) : Type 0 where
  pub alike : (a b : Sites) → AreAlike (way a) (way b)
  pub taken : (s : Sites) (m : ℕ) → (way s).graph.live m ≡ true → (way s).taken m ≡ true
  pub queued : (s : Sites) (m h : ℕ) → (way s).queued m ≡ Some h → ((way s).taken m ≡ true) × (h ≡ (way s).height m)
  pub small : (s : Sites) (m : ℕ) → (way s).taken m ≡ true → m < most_nodes

-- a node lives
abbrev pub Lives : (Sites → Way) → ℕ → Type 0
Lives way m = (s : Sites) → (way s).graph.live m ≡ true
