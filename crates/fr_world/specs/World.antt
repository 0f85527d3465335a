-- The graph under way that a store, eras and an agenda make.
use Rattle.std.specs.Prelude.{◌≡◌, ℕ, ◌+◌, ◌-◌, ◌^◌, ◌<◌, ◌≤◌, ◌&&◌, not, Bool, true, false, List, [], ◌∷◌, length, Option, Some, None, IsSome, is_some, Ok, Err, nat_eq, cond}
use Rattle.std.specs.Option.{option_map}
use Rattle.fr_value.specs.declared.now.Bad.TheVariants.{Deep}
use Rattle.fr_meaning.specs.Words.{Seen}
use Rattle.fr_meaning.specs.Cells.{Cell}
use Rattle.fr_meaning.specs.Evaluation.{most_levels}
use Rattle.fr_links.specs.Lists.{has_item}
use Rattle.fr_queue.specs.Queue.{Queued}
use Rattle.fr_store.specs.declared.node.Node.{Node}
use Rattle.fr_store.specs.Nodes.{Stored, most_nodes, node_at}
use Rattle.fr_eras.specs.Lives.{Lives, members, grave, is_era}
use Rattle.fr_eras.specs.Heights.{AreQueuedRight, AreThere, height_at}
use Rattle.fr_events.specs.Works.{cell_of}
use Rattle.fr_graph.specs.Graph.{Part, Kind, source, result, Graph}
use Rattle.fr_nodes.specs.Kinds.{Sites, kind_of, part_of, parts_of}
use Rattle.fr_way.specs.Way.{Way}

-- what a number that no node has counts as
abbrev pub kind_at : Sites → ℕ → Option Node → Kind
kind_at sites m None = source m
kind_at sites m (Some n) = kind_of sites m n.kind

abbrev pub inputs_at : Option Node → List Part
inputs_at None = []
inputs_at (Some n) = parts_of n.inputs

abbrev pub later_at : Option Node → Option Part
later_at None = None
later_at (Some n) = option_map part_of n.source

abbrev pub value_at : Option Node → Seen
value_at None = Err Deep
value_at (Some n) = Ok n.value

abbrev pub cell_at : Option Node → Option Cell
cell_at None = None
cell_at (Some n) = option_map cell_of n.cell

abbrev pub level_at : Option Node → ℕ
level_at None = 0
level_at (Some n) = most_levels - n.nest

abbrev pub era_at : Option Node → ℕ
era_at None = 0
era_at (Some n) = n.era.0

abbrev pub is_stamped : ℕ → Option ℕ → Bool
is_stamped k None = false
is_stamped k (Some j) = nat_eq j k

abbrev pub done_at : ℕ → Option Node → Bool
done_at k None = false
done_at k (Some n) = is_stamped k n.stamp

-- the member behind one, or this number where there is none
abbrev pub next_in : ℕ → List ℕ → ℕ → ℕ
next_in other [] m = other
next_in other (x ∷ []) m = other
next_in other (x ∷ y ∷ xs) m = cond (nat_eq x m) y (next_in other (y ∷ xs) m)

-- whether each of these stands here once
abbrev pub are_different : List ℕ → Bool
are_different [] = true
are_different (x ∷ xs) = not (has_item xs x) && are_different xs

-- a node lives where the store has it and it doesn't await burial
abbrev pub is_live : Stored → Lives → ℕ → Bool
is_live s l m = is_some (node_at s m) && not (has_item (grave l) m)

-- the graph of a store and eras
abbrev pub graph_of : Sites → Stored → Lives → Graph
graph_of sites s l = record {
  live = λ m. is_live s l m;
  kind = λ m. kind_at sites m (node_at s m);
  inputs = λ m. inputs_at (node_at s m);
  later = λ m. later_at (node_at s m);
  value = λ m. value_at (node_at s m);
  cell = λ m. cell_at (node_at s m);
  level = λ m. level_at (node_at s m);
  era = λ m. era_at (node_at s m);
  members = members l;
  result_of = λ m. next_in (length s.nodes) (members l (era_at (node_at s m))) m;
}

-- the graph under way at the instant of this number
abbrev pub way_of : Sites → Stored → Lives → Queued → ℕ → Way
way_of sites s l q k = record {
  graph = graph_of sites s l;
  taken = λ m. is_some (node_at s m);
  height = height_at s;
  done = λ m. done_at k (node_at s m);
  queued = q;
}

-- a graph in which no number is in use
abbrev pub no_way : Way
no_way = record {
  graph = record {
    live = λ m. false;
    kind = λ m. result;
    inputs = λ m. [];
    later = λ m. None;
    value = λ m. Err Deep;
    cell = λ m. None;
    level = λ m. 0;
    era = λ m. 0;
    members = λ x. [];
    result_of = λ m. 0;
  };
  taken = λ m. false;
  height = λ m. 0;
  done = λ m. false;
  queued = λ m. None;
}

-- the graph under way of a world that is whole; after an error it counts as empty
abbrev pub way_by : Bool → Way → Way
way_by true at = at
way_by false at = no_way

-- no node stands above this height
abbrev pub AreBelow : Stored → ℕ → Type 0
AreBelow s top = (m : ℕ) → height_at s m ≤ top

-- a node isn't stamped later than this instant, and its expression doesn't stand too deep
pub record IsFit (instant : ℕ) (n : Node) : Type 0 where
  pub early : (k : ℕ) → n.stamp ≡ Some k → k ≤ instant
  pub nest : n.nest ≤ most_levels

-- the members of eras are the live nodes, each once and in its own era; the owners of eras live
pub record AreJoined (s : Stored) (l : Lives) : Type 0 where
  pub there : AreThere l s
  pub once : (x : ℕ) → are_different (members l x) ≡ true
  pub apart : (x m : ℕ) → has_item (members l x) m ≡ true → has_item (grave l) m ≡ false
  pub era : (x m : ℕ) → has_item (members l x) m ≡ true → era_at (node_at s m) ≡ x
  pub listed : (m : ℕ) → is_live s l m ≡ true → has_item (members l (era_at (node_at s m))) m ≡ true
  pub hollow : (x : ℕ) → is_era l x ≡ false → members l x ≡ []
  pub owners : (w : ℕ) → is_era l (w + 1) ≡ true → is_live s l w ≡ true

-- what is queued lives and stands at its height
pub record AreQueued (s : Stored) (l : Lives) (q : Queued) : Type 0 where
  pub live : (m : ℕ) → IsSome (q m) → is_live s l m ≡ true
  pub right : AreQueuedRight q s

-- members, agenda and nodes fit together; numbers are small, and no node stands above the highest, which is low
pub record IsWorld (s : Stored) (l : Lives) (q : Queued) (instant highest : ℕ) : Type 0 where
  pub joined : AreJoined s l
  pub queue : AreQueued s l q
  pub fit : (m : ℕ) (n : Node) → node_at s m ≡ Some n → IsFit instant n
  pub small : (m : ℕ) → IsSome (node_at s m) → m < s.limit
  pub few : s.limit ≤ most_nodes
  pub below : AreBelow s highest
  pub mild : highest ≤ 2 ^ 100
