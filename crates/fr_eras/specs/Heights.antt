-- Which node stands above which, and what is asked and what becomes of their heights.
use Rattle.std.specs.Prelude.{◌≡◌, ◌≢◌, ℕ, ◌+◌, ◌^◌, ◌<◌, ◌≤◌, List, [], ◌∷◌, length, ◌⊎◌, Option, Some, IsSome, is_some, count_by, true, max, slice_get}
use Rattle.std.specs.Option.{option_map}
use Rattle.fr_links.specs.Lists.{has_item}
use Rattle.fr_queue.specs.Queue.{Queued, Room}
use Rattle.fr_store.specs.declared.node.Node.{Node}
use Rattle.fr_store.specs.Nodes.{Stored, height_in, is_watch, lifted, node_at, reads}
use Rattle.fr_eras.specs.Lives.{Lives, IsMember, Under, grave, members}
use Rattle.fr_eras.specs.Raise.{AreRaised, Edges}

-- Every member of an era and every node in the grave is there.
pub record AreThere (lives : Lives) (store : Stored) : Type 0 where
  pub member : (era node : ℕ) → has_item (members lives era) node ≡ true → IsSome (node_at store node)
  pub buried : (node : ℕ) → has_item (grave lives) node ≡ true → IsSome (node_at store node)

-- No node is stamped later.
abbrev pub IsLatest : Stored → ℕ → Type 0
IsLatest store stamp = (i : ℕ) (n : Node) (other : ℕ) → node_at store i ≡ Some n → n.stamp ≡ Some other → other ≤ stamp

-- No node under an era has the greatest stamp.
abbrev pub AreEarlier : Lives → Stored → ℕ → Type 0
AreEarlier lives store era = (i : ℕ) (n : Node) (stamp : ℕ) → Under lives era i → node_at store i ≡ Some n → n.stamp ≡ Some stamp → IsLatest store stamp → ⊥

-- The height of a node, and 0 where there is none.
abbrev pub height_at : Stored → ℕ → ℕ
height_at store i = height_in (node_at store i)

-- A node is there.
abbrev pub IsLive : Stored → ℕ → Type 0
IsLive store i = IsSome (node_at store i)

-- The greatest height of a node.
abbrev pub top_height : List (Option Node) → ℕ
top_height [] = 0
top_height (n ∷ nodes) = max (height_in n) (top_height nodes)

-- The greatest height that a raising comes to: each node can raise it by one.
abbrev pub greatest_height : Stored → ℕ
greatest_height store = top_height store.nodes + count_by is_some store.nodes

-- A node reads another: it has it among its inputs.
pub record IsReader (store : Stored) (lower upper : ℕ) : Type 0 where
  pub node : Node
  pub here : node_at store upper ≡ Some node
  pub does : reads lower node.inputs ≡ true

-- A node is the result of a watch: the member that was made next after it.
pub record IsResult (store : Stored) (members : ℕ → List ℕ) (watch upper : ℕ) : Type 0 where
  pub node : Node
  pub here : node_at store watch ≡ Some node
  pub watches : is_watch node.kind ≡ true
  pub era : ℕ
  pub place : ℕ
  pub stands : slice_get (members era) place ≡ Some watch
  pub next : slice_get (members era) (place + 1) ≡ Some upper

-- A node is a member of the era that this one owns, or its result.
abbrev pub IsKept : Stored → (ℕ → List ℕ) → Edges
IsKept store members lower upper = (has_item (members (lower + 1)) upper ≡ true) ⊎ IsResult store members lower upper

-- A node stands above another where it reads it, is a member of the era that it owns, or is its result.
abbrev pub IsAbove : Stored → (ℕ → List ℕ) → Edges
IsAbove store members lower upper = IsReader store lower upper ⊎ IsKept store members lower upper

-- Which node stands above which, by the eras and the store.
abbrev pub above : Lives → Stored → Edges
above lives store = IsAbove store (members lives)

-- Every edge is levelled but those from this node.
abbrev pub AreLevelledBut : Edges → (ℕ → ℕ) → ℕ → Type 0
AreLevelledBut edge height id = (a b : ℕ) → edge a b → a ≢ id → height a < height b

-- The ranks rise along each edge: they are an order of dependence.
abbrev pub RisesAlong : Edges → (ℕ → ℕ) → Type 0
RisesAlong edge rank = (a b : ℕ) → edge a b → rank a < rank b

-- No node stands above 2 to the 100th.
abbrev pub AreMild : Stored → Type 0
AreMild store = (i : ℕ) → height_at store i ≤ 2 ^ 100

-- Every node that is queued is queued with its height.
abbrev pub AreQueuedRight : Queued → Stored → Type 0
AreQueuedRight queued store = (i h : ℕ) → queued i ≡ Some h → h ≡ height_at store i

-- The same nodes, but for their heights.
pub record OnlyHeights (old new : Stored) : Type 0 where
  pub limit : new.limit ≡ old.limit
  pub dependents : new.dependents ≡ old.dependents
  pub long : length new.nodes ≡ length old.nodes
  pub each : (i : ℕ) → node_at new i ≡ option_map (λ n. lifted n (height_at new i)) (node_at old i)

-- The same nodes are queued, with the heights that they have now.
abbrev pub QueueFollows : Queued → Queued → Stored → Type 0
QueueFollows old new store = (i : ℕ) → new i ≡ option_map (λ h. height_at store i) (old i)

-- A node that is queued is queued at this height now, and nothing else changed.
pub record Requeues (old new : Queued) (node height : ℕ) : Type 0 where
  pub here : new node ≡ option_map (λ h. height) (old node)
  pub other : (i : ℕ) → i ≢ node → new i ≡ old i

-- There is room in the agenda for every node up to a height.
abbrev pub HasQueueRoom : Room → Stored → ℕ → Type 0
HasQueueRoom room store greatest = (i h : ℕ) → IsSome (node_at store i) → h ≤ greatest → room i h ≡ true

-- Every node is a member of an era or in the grave.
abbrev pub AreListed : Lives → Stored → Type 0
AreListed lives store = (i : ℕ) → IsSome (node_at store i) → IsMember lives i ⊎ (has_item (grave lives) i ≡ true)

-- There is room in the agenda for every node up to a height, and in the list of work for every node.
pub record HasRoomFor (room : Room) (work : ℕ) (store : Stored) (greatest : ℕ) : Type 0 where
  pub queue : HasQueueRoom room store greatest
  pub list : (i : ℕ) → IsSome (node_at store i) → i < work

-- Heights were raised from this node until every edge leads upwards.
abbrev pub RaisesFrom : Lives → Stored → Stored → ℕ → Type 0
RaisesFrom lives old new id = AreRaised (above lives old) (height_at old) (height_at new) (greatest_height old) id

-- There is room in the agenda for all that a raising comes to, and each node is listed, so that the eras have room.
pub record HasRoomToRaise (room : Room) (lives : Lives) (store : Stored) : Type 0 where
  pub queue : HasQueueRoom room store (greatest_height store)
  pub listed : AreListed lives store
