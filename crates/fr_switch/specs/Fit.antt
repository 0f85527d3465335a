-- What is so of each node that was built of what is ready.
use Rattle.std.specs.Prelude.{◌≡◌, ℕ, true, List, [], ◌∷◌, length}
use Rattle.fr_core.specs.declared.lowered.Low.{Low}
use Rattle.fr_core.specs.declared.lowered.LowItem.{LowItem}
use Rattle.fr_graph.specs.Graph.{Part, Work, works, watch, Graph}
use Rattle.fr_graph.specs.Wired.{Wired}
use Rattle.fr_graph.specs.Items.{ItemsStand, body_walk}
use Rattle.fr_events.specs.Works.{HasKernel}
use Rattle.fr_way.specs.Frame.{is_watch}
use Rattle.fr_way.specs.Fronts.{AreUsed}
use Rattle.fr_nodes.specs.Kinds.{Sites}
use Rattle.fr_ready.specs.Planning.{ItemsReady}
use Rattle.fr_ready.specs.Ready.{Planned, plan_of, IsReady, IsPlanReady, Matches, PlanMatches}
use Rattle.fr_ready.specs.Switches.{ItemsMatch}

-- two choices can be built over some parts in scope, and so can what stands at the sites in them
pub record IsBuildable (planned : Planned) (sites : Sites) (a b : Low) (scope : List Part) : Type 0 where
  pub yes : IsReady planned (length scope) a
  pub no : IsReady planned (length scope) b
  pub yes_matches : Matches sites (length scope) a
  pub no_matches : Matches sites (length scope) b

-- the kernel of a node's work is there; and a watch reads one part, its test, and its choices can be built over what it holds
pub record IsFit (planned : Planned) (sites : Sites) (g : Graph) (m : ℕ) : Type 0 where
  pub kernel : (v : Work) → g.kind m ≡ works v → HasKernel planned.table v
  pub test : is_watch (g.kind m) ≡ true → (test : Part) × (g.inputs m ≡ test ∷ [])
  pub choices : (a b : Low) (scope : List Part) → g.kind m ≡ watch a b scope → IsBuildable planned sites a b scope

-- a graph was built for the items of a body, which can be built: they stand at these members, which are all that lives but sources, and no watch has an era yet
pub record IsBuiltFrom (planned : Planned) (sites : Sites) (g : Graph) (is : List LowItem) (ms : List ℕ) : Type 0 where
  pub plan : IsPlanReady planned
  pub matches : PlanMatches sites planned
  pub ready : ItemsReady planned 0 is
  pub items_match : ItemsMatch sites 0 is
  pub stand : ItemsStand (body_walk (plan_of planned)) (Wired g (plan_of planned) 0 2000) [] is ms
  pub used : AreUsed g (plan_of planned) is ms
  pub era : (m : ℕ) → g.live m ≡ true → g.era m ≡ 0
