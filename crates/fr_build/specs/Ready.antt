-- What building takes for granted of the graph in which it builds.
use Rattle.std.specs.Prelude.{◌≡◌, ℕ, ◌<◌, Bool, true, List}
use Rattle.fr_graph.specs.Graph.{Part, source}
use Rattle.fr_way.specs.Way.{Way}
use Rattle.fr_nodes.specs.Kinds.{Sites}
use Rattle.fr_nodes.specs.Makes.{AreThere}
pub use Rattle.fr_ready.specs.Ready.{Planned, planned_code, plan_of, IsSlotIn, AreSlotsIn, NamesInScope, IsReadyAt, EachEverywhere, IsReady, AreReady, IsPlanReady, HasChoices, Matches, AllMatch, PlanMatches}

-- the numbers of the nodes that live are in use
abbrev pub LiveAreTaken : Way → Type 0
LiveAreTaken at = (m : ℕ) → at.graph.live m ≡ true → at.taken m ≡ true

-- the era is there, the numbers of the nodes that live are in use, and the nodes that the parts in scope name are there, and those of so many sources
pub record IsGround (way : Sites → Way) (has_era : ℕ → Bool) (x : ℕ) (env : List Part) (many : ℕ) : Type 0 where
  pub era : has_era x ≡ true
  pub taken : (sites : Sites) → LiveAreTaken (way sites)
  pub scope : (sites : Sites) → AreThere (way sites) env
  pub sources : (sites : Sites) (s : ℕ) → s < many → ((way sites).graph.live s ≡ true) × ((way sites).graph.kind s ≡ source s)
