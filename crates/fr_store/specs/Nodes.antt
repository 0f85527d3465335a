-- What contracts see of a store of nodes, and what each call makes of it.
use Rattle.std.specs.Prelude.{◌≡◌, ℕ, ◌+◌, ◌-◌, ◌^◌, ◌<◌, ◌≤◌, List, [], ◌∷◌, ◌++◌, length, replicate, slice_get, slice_index_or, slice_set, Option, Some, None, IsSome, Bool, true, false, max, nat_eq, ◌||◌, ◌&&◌, refl}
use Rattle.std.specs.Option.{option_map}
use Rattle.std.specs.Coded.{Coded, code_by, coded×, coded_ℕ, coded_list, coded_option}
use Rattle.fr_value.specs.declared.ids.EraId.{EraId}
use Rattle.fr_value.specs.declared.ids.NodeId.{NodeId}
use Rattle.fr_value.specs.declared.now.Held.{Held}
use Rattle.fr_value.specs.declared.now.Held.TheVariants.{Steady, Signal}
use Rattle.fr_value.specs.declared.now.Now.{Now}
use Rattle.fr_value.specs.declared.now.Now.TheVariants.{Plain}
use Rattle.fr_value.specs.declared.value.Value.TheVariants as Value
use Rattle.fr_store.specs.declared.cell.Cell.{Cell}
use Rattle.fr_store.specs.declared.node.Node.{Node}
use Rattle.fr_store.specs.declared.node.NodeKind.{NodeKind}
use Rattle.fr_store.specs.declared.node.NodeKind.TheVariants.{IfWatch}
use Rattle.fr_store.specs.contracts.node.Node as node

-- The most nodes that a store is made for.
abbrev pub most_nodes : ℕ
most_nodes = 4194304

-- The greatest height of a floor and of what a new node is computed of.
abbrev pub most_height : ℕ
most_height = 2 ^ 120

-- A place among the inputs of a node, with the number by which the store knows it.
pub record Edge : Type 0 where
  pub number : ℕ
  pub node : ℕ
  pub place : ℕ

-- The node of each number, if there is one; how many there may be; and for each number the places that name it.
pub record Stored : Type 0 where
  pub limit : ℕ
  pub nodes : List (Option Node)
  pub dependents : List (List Edge)

-- How two edges are told apart.
abbrev pub edge_code : Coded Edge
edge_code =
    code_by (ℕ × (ℕ × ℕ)) (coded× coded_ℕ (coded× coded_ℕ coded_ℕ)) (λ e. (e.number, (e.node, e.place)))
    (λ p. record { number = p.0; node = p.1.0; place = p.1.1 }) (λ _. refl)

-- How two stores are told apart.
abbrev pub stored_code : Coded Stored
stored_code =
    code_by (ℕ × (List (Option Node) × List (List Edge)))
    (coded× coded_ℕ (coded× (coded_list (coded_option node.the_row.coded)) (coded_list (coded_list edge_code))))
    (λ s. (s.limit, (s.nodes, s.dependents))) (λ p. record { limit = p.0; nodes = p.1.0; dependents = p.1.1 }) (λ _. refl)

-- The node of a number, if there is one.
abbrev pub node_in : List (Option Node) → ℕ → Option Node
node_in nodes i = slice_index_or nodes i None

-- The node of a number, if there is one.
abbrev pub node_at : Stored → ℕ → Option Node
node_at s i = node_in s.nodes i

-- The places that name a number, in the order of the store's choice.
abbrev pub dependents_at : Stored → ℕ → List Edge
dependents_at s i = slice_index_or s.dependents i []

-- Whether this is a watch.
abbrev pub is_watch : NodeKind → Bool
is_watch (IfWatch site held) = true
is_watch _ = false

-- Whether this is the number.
abbrev pub is_number : Option ℕ → ℕ → Bool
is_number None i = false
is_number (Some j) i = nat_eq j i

-- The number of a node, if there is one.
abbrev pub number_of : Option NodeId → Option ℕ
number_of None = None
number_of (Some id) = Some id.0

-- The node that this part names, if it is a signal.
abbrev pub named : Option Held → Option ℕ
named None = None
named (Some (Steady value)) = None
named (Some (Signal id)) = Some id.0

-- The node that the input at a place names, if there is such an input and it is a signal.
abbrev pub signal_at : List Held → ℕ → Option ℕ
signal_at inputs place = named (slice_get inputs place)

-- Whether one of these inputs names a node.
abbrev pub reads : ℕ → List Held → Bool
reads i [] = false
reads i (input ∷ inputs) = is_number (named (Some input)) i || reads i inputs

-- The height of a node, and 0 where there is none.
abbrev pub height_in : Option Node → ℕ
height_in None = 0
height_in (Some n) = n.height

-- The least height that is at least the floor and above each signal among the inputs.
abbrev pub least_height : List (Option Node) → ℕ → List Held → ℕ
least_height nodes floor [] = floor
least_height nodes floor (Steady value ∷ inputs) = least_height nodes floor inputs
least_height nodes floor (Signal id ∷ inputs) = least_height nodes (max floor (height_in (node_in nodes id.0) + 1)) inputs

-- Each node that these inputs name is there.
abbrev pub AreLive : Stored → List Held → Type 0
AreLive s inputs = (i : ℕ) → reads i inputs ≡ true → IsSome (node_at s i)

-- No node that these inputs name stands above the greatest height.
abbrev pub AreLow : Stored → List Held → Type 0
AreLow s inputs = (i : ℕ) (n : Node) → reads i inputs ≡ true → node_at s i ≡ Some n → n.height ≤ most_height

-- A node as it is made: not yet computed, of the value `#f`, without cell and source.
abbrev pub new_node : NodeKind → List Held → EraId → ℕ → ℕ → ℕ → Node
new_node kind inputs era height nest instant =
    record { kind = kind; inputs = inputs; source = None; value = Plain (Value.Bool false); cell = None; height = height; stamp = None; born = instant; nest = nest; era = era }

-- The node with what was computed at an instant.
abbrev pub computed : Node → Now → Option Cell → ℕ → Node
computed n now cell instant = record n { value = now; cell = cell; stamp = Some instant }

-- The node with another cell.
abbrev pub latched : Node → Cell → Node
latched n cell = record n { cell = Some cell }

-- The node with this as its only input.
abbrev pub rewired : Node → Held → Node
rewired n input = record n { inputs = input ∷ [] }

-- The node with a source.
abbrev pub tied : Node → Held → Node
tied n source = record n { source = Some source }

-- The node at another height.
abbrev pub lifted : Node → ℕ → Node
lifted n height = record n { height = height }

-- The kind without what a watch's place holds.
abbrev pub without_held : NodeKind → NodeKind
without_held (IfWatch site held) = IfWatch site []
without_held kind = kind

-- The node naming no node, with the value `#f`.
abbrev pub cleared : Node → Node
cleared n = record n { kind = without_held n.kind; inputs = []; source = None; value = Plain (Value.Bool false) }

-- The store where this number has this node, or none, and all else is as before.
abbrev pub with_node : Stored → ℕ → Option Node → Stored
with_node s i n = record s { nodes = slice_set s.nodes i n }

-- The nodes with a new one at a number that none had; no number before it is left out.
abbrev pub placed : List (Option Node) → ℕ → Node → List (Option Node)
placed nodes i n = slice_set (nodes ++ replicate (i + 1 - length nodes) None) i (Some n)

-- A node was put at a number below the limit that none had, and every other number has what it had.
pub record Makes (old new : Stored) (i : ℕ) (n : Node) : Type 0 where
  pub limit : new.limit ≡ old.limit
  pub below : i < old.limit
  pub free : node_at old i ≡ None
  pub near : i ≤ length old.nodes
  pub nodes : new.nodes ≡ placed old.nodes i n

-- The same nodes but for this one, and the same limit; what names the node that was may have changed.
pub record Renames (old new : Stored) (i : ℕ) (n : Node) : Type 0 where
  pub limit : new.limit ≡ old.limit
  pub nodes : new.nodes ≡ slice_set old.nodes i (Some n)

-- Whether an edge is this place of this node.
abbrev pub has_edge : List Edge → ℕ → ℕ → Bool
has_edge [] node place = false
has_edge (e ∷ es) node place = (nat_eq e.node node && nat_eq e.place place) || has_edge es node place

-- Whether an edge is a place of this node.
abbrev pub has_reader : List Edge → ℕ → Bool
has_reader [] node = false
has_reader (e ∷ es) node = nat_eq e.node node || has_reader es node

-- These are exactly the places that name a node, and their nodes exactly those that read it.
pub record AreDependents (s : Stored) (i : ℕ) (es : List Edge) : Type 0 where
  pub places : (j place : ℕ) (n : Node) → node_at s j ≡ Some n → has_edge es j place ≡ is_number (signal_at n.inputs place) i
  pub readers : (j : ℕ) (n : Node) → node_at s j ≡ Some n → has_reader es j ≡ reads i n.inputs
  pub live : (j : ℕ) → has_reader es j ≡ true → IsSome (node_at s j)

-- The number of the edge at a place of a list of dependents.
abbrev pub edge_number : List Edge → ℕ → Option ℕ
edge_number es place = option_map (λ e. e.number) (slice_get es place)

-- The edge with a number stands here among the dependents of a node.
pub record StandsAt (s : Stored) (edge i place : ℕ) (e : Edge) : Type 0 where
  pub here : slice_get (dependents_at s i) place ≡ Some e
  pub same : e.number ≡ edge

-- The edge with a number stands somewhere among dependents.
abbrev pub IsEdge : Stored → ℕ → Type 0
IsEdge s edge = (i : ℕ) × (place : ℕ) × (e : Edge) × StandsAt s edge i place e
