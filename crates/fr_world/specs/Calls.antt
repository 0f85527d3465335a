-- What each call makes of a store, eras and an agenda.
use Rattle.std.specs.Prelude.{◌≡◌, ◌≢◌, ◌⊎◌, ℕ, ◌<◌, ◌≤◌, List, [], length, take, filter, Bool, true, false, nat_eq, Option, Some, None}
use Rattle.fr_links.specs.Lists.{has_item}
use Rattle.fr_queue.specs.Queue.{Queued, Same, Sets}
use Rattle.fr_value.specs.declared.ids.NodeId.{NodeId}
use Rattle.fr_store.specs.declared.node.Node.{Node}
use Rattle.fr_store.specs.Nodes.{Edge, Stored, Makes, dependents_at, edge_number, has_reader, node_at}
use Rattle.fr_eras.specs.Heights.{height_at}
use Rattle.fr_eras.specs.Lives.{Lives, IsAlone, JoinsEra, Killed, LeavesQueue, Under, is_era}
use Rattle.fr_events.specs.Works.{work_of, is_late_in}
use Rattle.fr_graph.specs.Graph.{source}
use Rattle.fr_nodes.specs.Kinds.{Sites}
use Rattle.fr_way.specs.Way.{Way}
use Rattle.fr_world.specs.World.{is_live, way_of}

-- a node was put into the store, into its era as the last member, and into the agenda at its height
pub record Adds (s t : Stored) (l k : Lives) (q r : Queued) (m x : ℕ) (n : Node) : Type 0 where
  pub makes : Makes s t m n
  pub alone : IsAlone l m
  pub joins : JoinsEra l k x m
  pub queues : Sets q r m (Some n.height)

-- a node is queued at its height, if it lives; all else is as it was
pub record QueuesOne (s : Stored) (l : Lives) (q r : Queued) (m : ℕ) : Type 0 where
  pub here : is_live s l m ≡ true → r m ≡ Some (height_at s m)
  pub others : (j : ℕ) → (j ≢ m) ⊎ (is_live s l j ≡ false) → r j ≡ q j

-- the live readers among these edges are queued at their heights; all else is as it was
pub record QueuesAll (s : Stored) (l : Lives) (q r : Queued) (es : List Edge) : Type 0 where
  pub readers : (j : ℕ) → is_live s l j ≡ true → has_reader es j ≡ true → r j ≡ Some (height_at s j)
  pub others : (j : ℕ) → (is_live s l j ≡ false) ⊎ (has_reader es j ≡ false) → r j ≡ q j

-- as far as the readers of a node have come
pub record Queuing (s : Stored) (l : Lives) (q r : Queued) (m : ℕ) (at : Option ℕ) : Type 0 where
  pub place : ℕ
  pub at_is : at ≡ edge_number (dependents_at s m) place
  pub queues : QueuesAll s l q r (take place (dependents_at s m))

-- whether a stored node takes its last part's value behind the instant
abbrev pub is_late_at : Option Node → Bool
is_late_at None = false
is_late_at (Some n) = is_late_in (work_of n.kind)

-- those of some nodes that do
abbrev pub late_among : Stored → List NodeId → List NodeId
late_among s = filter (λ id. is_late_at (node_at s id.0))

-- an era has ended with all eras in it, and what was in it left the agenda; or there was none, and all is as it was
abbrev pub Ends : Lives → Lives → Queued → Queued → ℕ → Type 0
Ends l k q r x = ((is_era l x ≡ true) × Killed l k x × LeavesQueue (Under l x) q r) ⊎ ((is_era l x ≡ false) × (k ≡ l) × Same q r)

-- the nodes are those of so many sources in order: without inputs, in the era of the program, at height 0, not computed, and queued
pub record HasSources (at : Way) (many : ℕ) : Type 0 where
  pub live : (m : ℕ) → m < many → at.graph.live m ≡ true
  pub taken : (m : ℕ) → m < many → at.taken m ≡ true
  pub kind : (m : ℕ) → m < many → at.graph.kind m ≡ source m
  pub inputs : (m : ℕ) → m < many → at.graph.inputs m ≡ []
  pub later : (m : ℕ) → m < many → at.graph.later m ≡ None
  pub cell : (m : ℕ) → m < many → at.graph.cell m ≡ None
  pub era : (m : ℕ) → m < many → at.graph.era m ≡ 0
  pub height : (m : ℕ) → m < many → at.height m ≡ 0
  pub done : (m : ℕ) → m < many → at.done m ≡ false
  pub queued : (m : ℕ) → m < many → at.queued m ≡ Some 0
  pub member : (m : ℕ) → m < many → has_item (at.graph.members 0) m ≡ true
  pub no_other : (m : ℕ) → many ≤ m → (at.graph.live m ≡ false) × (at.taken m ≡ false) × (at.queued m ≡ None) × (has_item (at.graph.members 0) m ≡ false)
  pub eras : (x : ℕ) → x ≢ 0 → at.graph.members x ≡ []

-- as far as the making of the nodes of sources has come
pub record Sourced (s : Stored) (l : Lives) (q : Queued) (instant : ℕ) (whole : Bool) (many : ℕ) : Type 0 where
  pub has : (sites : Sites) → HasSources (way_of sites s l q instant) many
  pub long : length s.nodes ≡ many
  pub eras : (x : ℕ) → is_era l x ≡ nat_eq x 0
  pub whole_is : whole ≡ true
