-- How a store keeps its nodes and edges.
use Rattle.std.specs.Prelude.{◌≡◌, ◌≢◌, ℕ, ◌+◌, ◌-◌, ◌*◌, ◌/◌, ◌^◌, ◌<◌, ◌≤◌, ◌⊎◌, List, [], length, map, slice_index_or, Option, Some, None, IsSome, true, false, is_some, count_by, vec_capacity}
use Rattle.fr_links.specs.Lists.{has_item, list_at}
use Rattle.fr_links.specs.Rings.{AllDifferent}
use Rattle.fr_value.specs.declared.now.Held.{Held}
use Rattle.slab.specs.Slab.{Slab, get, HasRoomFor}
use Rattle.fr_store.specs.declared.change.Change.{Change}
use Rattle.fr_store.specs.declared.change.Change.TheVariants.{Computed, Latched, Tied, Lifted, Inputs, Cleared}
use Rattle.fr_store.specs.declared.edges.Edges.{Edges}
use Rattle.fr_store.specs.declared.edges.Run.{Run}
use Rattle.fr_store.specs.declared.node.Node.{Node}
use Rattle.fr_store.specs.declared.table.Table.{Table}
use Rattle.fr_store.specs.Nodes.{Edge, Stored, most_nodes, node_in, is_number, signal_at, computed, latched, tied, lifted, cleared}

-- The node with what is written of it.
abbrev pub changed : Change → Node → Node
changed (Computed now cell instant) n = computed n now cell instant
changed (Latched cell) n = latched n cell
changed (Tied source) n = tied n source
changed (Lifted height) n = lifted n height
changed (Inputs inputs) n = record n { inputs = inputs }
changed (Cleared alloc) n = cleared n

-- The node's inputs stay as they are.
abbrev pub KeepsInputs : Change → Type 0
KeepsInputs change = (n : Node) → (changed change n).inputs ≡ n.inputs

-- The key of a number's node, or None where there is none.
abbrev pub key_at : List (Option ℕ) → ℕ → Option ℕ
key_at keys i = slice_index_or keys i None

-- The node at a key, if there is one.
abbrev pub node_under : Slab Node → Option ℕ → Option Node
node_under nodes None = None
node_under nodes (Some key) = get nodes key

-- The node of each number that a table holds.
abbrev pub nodes_of : Table → List (Option Node)
nodes_of t = map (node_under t.nodes) t.keys.items

-- The number that the next node gets: the last that was freed, or a new one.
abbrev pub next_number : Table → ℕ
next_number t = slice_index_or t.free.items (length t.free.items - 1) (length t.keys.items)

-- Each key is one number's and has a node, and the free numbers are listed once each.
pub record IsTable (t : Table) : Type 0 where
  pub few : length t.keys.items ≤ most_nodes
  pub keyed : (i key : ℕ) → key_at t.keys.items i ≡ Some key → IsSome (get t.nodes key)
  pub once : (i j key : ℕ) → key_at t.keys.items i ≡ Some key → key_at t.keys.items j ≡ Some key → i ≡ j
  pub counted : t.count ≡ count_by is_some (nodes_of t)
  pub free : (i : ℕ) → has_item t.free.items i ≡ true → (i < length t.keys.items) × (key_at t.keys.items i ≡ None)
  pub free_once : AllDifferent t.free.items
  pub whole : t.count + length t.free.items ≡ length t.keys.items
  pub room : length t.keys.items ≤ vec_capacity t.free

-- There is memory for one more node.
pub record IsReady (t : Table) : Type 0 where
  pub keys : length t.keys.items + 1 ≤ vec_capacity t.keys
  pub free : length t.keys.items + 1 ≤ vec_capacity t.free
  pub nodes : HasRoomFor t.nodes 1
  pub key : t.nodes.vacant_key < 2 ^ 32

-- The numbers are the same, free or not.
pub record SameNumbers (old new : Table) : Type 0 where
  pub keys : new.keys.items ≡ old.keys.items
  pub free : new.free.items ≡ old.free.items
  pub count : new.count ≡ old.count

-- The same nodes at the same numbers.
pub record SameTable (old new : Table) : Type 0 where
  pub numbers : SameNumbers old new
  pub slots : new.nodes.slots ≡ old.nodes.slots

-- The edges of a number; none where there is no such number.
abbrev pub run_at : List Run → ℕ → Run
run_at runs i = slice_index_or runs i (record { first = 0; room = 0 })

-- The first edge of a number.
abbrev pub first_at : List Run → ℕ → ℕ
first_at runs i = (run_at runs i).first

-- How many edges a number has.
abbrev pub room_at : List Run → ℕ → ℕ
room_at runs i = (run_at runs i).room

-- The number of an edge; each four edges that lie side by side have one.
abbrev pub owner_at : List ℕ → ℕ → ℕ
owner_at owners edge = slice_index_or owners (edge / 4) 0

-- How many edges there are.
abbrev pub edge_count : Edges → ℕ
edge_count e = 4 * length e.owners.items

-- An edge is one of a number's.
pub record IsPlace (runs : List Run) (edge : ℕ) : Type 0 where
  pub number : ℕ
  pub place : ℕ
  pub there : number < length runs
  pub within : place < room_at runs number
  pub same : edge ≡ first_at runs number + place

-- Each edge of a number knows it, and only such edges are in lists.
pub record AreEdges (e : Edges) : Type 0 where
  pub runs : (i : ℕ) → i < length e.runs.items → (4 ≤ room_at e.runs.items i) × (first_at e.runs.items i + room_at e.runs.items i ≤ edge_count e)
  pub owned : (i place : ℕ) → i < length e.runs.items → place < room_at e.runs.items i → owner_at e.owners.items (first_at e.runs.items i + place) ≡ i
  pub inside : (l edge : ℕ) → has_item (list_at e.links.lists l) edge ≡ true → IsPlace e.runs.items edge
  pub lists : length e.runs.items ≤ length e.links.lists
  pub items : edge_count e ≤ e.links.items
  pub small : edge_count e ≤ 2 ^ 31

-- The edges are the same.
pub record SameEdges (old new : Edges) : Type 0 where
  pub runs : new.runs.items ≡ old.runs.items
  pub links : new.links ≡ old.links
  pub owners : (edge : ℕ) → edge < edge_count old → owner_at new.owners.items edge ≡ owner_at old.owners.items edge
  pub more : edge_count old ≤ edge_count new

-- A number has edges for so many places, none of which is in a list, and all else is the same.
pub record Widened (old new : Edges) (number places : ℕ) : Type 0 where
  pub there : number < length new.runs.items
  pub len : ((number < length old.runs.items) × (length new.runs.items ≡ length old.runs.items)) ⊎ ((number ≡ length old.runs.items) × (length new.runs.items ≡ length old.runs.items + 1))
  pub wide : places ≤ room_at new.runs.items number
  pub others : (i : ℕ) → i ≢ number → run_at new.runs.items i ≡ run_at old.runs.items i
  pub lists : (l : ℕ) → list_at new.links.lists l ≡ list_at old.links.lists l
  pub idle : (l place : ℕ) → place < room_at new.runs.items number → has_item (list_at new.links.lists l) (first_at new.runs.items number + place) ≡ false

-- Of these edges each is in the list of what its place names, and all others are where they were.
pub record Wires (old new : List (List ℕ)) (first room : ℕ) (names : ℕ → Option ℕ) : Type 0 where
  pub here : (l place : ℕ) → place < room → has_item (list_at new l) (first + place) ≡ is_number (names place) l
  pub others : (l edge : ℕ) → (edge < first) ⊎ (first + room ≤ edge) → has_item (list_at new l) edge ≡ has_item (list_at old l) edge

-- The edge of a number.
abbrev pub edge_of : List Run → List ℕ → ℕ → Edge
edge_of runs owners edge =
    record { number = edge; node = owner_at owners edge; place = edge - first_at runs (owner_at owners edge) }

-- What contracts see of a store.
abbrev pub stored_in : ℕ → Table → Edges → Stored
stored_in limit table edges =
    record { limit = limit; nodes = nodes_of table; dependents = map (map (edge_of edges.runs.items edges.owners.items)) edges.links.lists }

-- What a node is computed of; nothing where there is no node.
abbrev pub inputs_in : Option Node → List Held
inputs_in None = []
inputs_in (Some n) = n.inputs

-- What the node of a number is computed of; nothing where there is no node.
abbrev pub inputs_at : Table → ℕ → List Held
inputs_at t i = inputs_in (node_in (nodes_of t) i)

-- Each number has edges for all its inputs, and each edge is in the list of what its place names and in no other.
pub record AreListed (e : Edges) (inputs : ℕ → List Held) : Type 0 where
  pub enough : (i : ℕ) → length (inputs i) ≤ room_at e.runs.items i
  pub listed : (l i place : ℕ) → i < length e.runs.items → place < room_at e.runs.items i → has_item (list_at e.links.lists l) (first_at e.runs.items i + place) ≡ is_number (signal_at (inputs i) place) l

-- No more numbers than the limit, edges for each, and these are listed by the nodes' inputs.
pub record IsStore (limit : ℕ) (table : Table) (edges : Edges) : Type 0 where
  pub small : limit ≤ most_nodes
  pub few : length table.keys.items ≤ limit
  pub kept_table : IsTable table
  pub kept_edges : AreEdges edges
  pub runs : length edges.runs.items ≡ length table.keys.items
  pub listed : AreListed edges (inputs_at table)
