-- Nodes that are listed.
use Rattle.std.specs.Prelude.{◌≡◌, ◌⊎◌, ℕ, true, List, [], ◌∷◌}
use Rattle.fr_value.specs.declared.ids.NodeId.{NodeId}
use Rattle.fr_links.specs.Lists.{has_item}
use Rattle.fr_graph.specs.Graph.{Work, works, Graph, is_late}

-- a node is among those that are listed
abbrev pub Named : List NodeId → ℕ → Type 0
Named [] m = ⊥
Named (x ∷ xs) m = (x.0 ≡ m) ⊎ Named xs m

-- a member of an era is a late work
pub record IsLateIn (g : Graph) (x m : ℕ) : Type 0 where
  pub member : has_item (g.members x) m ≡ true
  pub work : Work
  pub kind : g.kind m ≡ works work
  pub late : is_late work ≡ true

-- the late works among the members of an era were listed with those that were listed, and nothing else was
pub record ListsLate (g : Graph) (x : ℕ) (listed more : List NodeId) : Type 0 where
  pub kept : (m : ℕ) → Named listed m → Named more m
  pub late : (m : ℕ) → IsLateIn g x m → Named more m
  pub only : (m : ℕ) → Named more m → Named listed m ⊎ IsLateIn g x m
