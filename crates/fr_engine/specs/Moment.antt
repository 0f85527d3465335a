-- An instant of a program.
use Rattle.std.specs.Prelude.{◌≡◌, ℕ, ◌<◌, true, List}
use Rattle.fr_core.specs.declared.lowered.LowItem.{LowItem}
use Rattle.fr_graph.specs.Graph.{source, Graph}

-- an instant of a program: the program's items, their members in the graph, and the graph before the instant
pub record Moment : Type 0 where
  pub items : List LowItem
  pub members : List ℕ
  pub old : Graph

-- each of so many sources has its node
abbrev pub HaveSources : Graph → ℕ → Type 0
HaveSources g many = (s : ℕ) → s < many → (g.live s ≡ true) × (g.kind s ≡ source s)
