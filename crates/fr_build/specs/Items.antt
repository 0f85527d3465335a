-- The building of the items of a program's body.
use Rattle.std.specs.Prelude.{◌≡◌, ℕ, Bool, List, [], ◌∷◌, ◌++◌}
use Rattle.fr_value.specs.declared.now.Held.{Held}
use Rattle.fr_core.specs.declared.lowered.LowItem.{LowItem}
use Rattle.fr_core.specs.declared.lowered.LowItem.TheVariants as low_item
use Rattle.fr_graph.specs.Graph.{Part}
use Rattle.fr_graph.specs.Walk.{Walk}
use Rattle.fr_graph.specs.Wired.{Wired}
use Rattle.fr_graph.specs.Known.{Reads}
use Rattle.fr_graph.specs.Items.{place_items, body_walk, ItemsStand, BodyFails}
use Rattle.fr_way.specs.Way.{Way}
use Rattle.fr_nodes.specs.Kinds.{Sites, parts_of}
use Rattle.fr_ready.specs.Planning.{ItemsReady}
use Rattle.fr_ready.specs.Switches.{ItemsMatch}
use Rattle.fr_build.specs.Ready.{Planned, plan_of, IsGround, IsPlanReady, PlanMatches}
use Rattle.fr_build.specs.Stops.{StopsWhere}
use Rattle.fr_build.specs.declared.stops.BuildStop.{BuildStop}
use Rattle.fr_build.specs.Builds.{InReach, NamesNoWatch, Grew}

-- what stands for the variables in scope behind items
abbrev pub env_behind : Walk → List Part → List LowItem → List ℕ → List Part
env_behind walk env [] ms = env
env_behind walk env (low_item.Define e ∷ is) ms = let r = walk e env ms in env_behind walk (env ++ r.part ∷ []) is r.left
env_behind walk env (low_item.Show name e ∷ is) ms = env_behind walk env is (walk e env ms).left

-- the first items of a body were built one after the other in the program's era: the walk goes over the added nodes and gives these parts for the variables behind them and for the shows among them, and they stand
pub record BuildsFirst (sites : Sites) (at new : Way) (planned : Planned) (is : List LowItem) (env parts : List Part) : Type 0 where
  pub added : List ℕ
  pub grew : Grew at new 0 [] added
  pub reach : (j : ℕ) → Reads j env → InReach new.graph [] added j
  pub no_watch : NamesNoWatch new.graph env
  pub shows_reach : (j : ℕ) → Reads j parts → InReach new.graph [] added j
  pub shows_no_watch : NamesNoWatch new.graph parts
  pub scope : (left : List ℕ) → env_behind (body_walk (plan_of planned)) [] is (added ++ left) ≡ env
  pub placed : (left : List ℕ) → place_items (body_walk (plan_of planned)) [] is (added ++ left) ≡ record { parts = parts; left = left }
  pub stand : PlanMatches sites planned → ItemsMatch sites 0 is → (left : List ℕ) → ItemsStand (body_walk (plan_of planned)) (Wired new.graph (plan_of planned) 0 2000) [] is (added ++ left)

-- a body can be built: the plan is ready, the ground is there, and so is what its items ask for
pub record MayBuildItems (planned : Planned) (is : List LowItem) (way : Sites → Way) (has_era : ℕ → Bool) : Type 0 where
  pub plan : IsPlanReady planned
  pub ready : ItemsReady planned 0 is
  pub ground : IsGround way has_era 0 [] planned.sources

-- items were built, whatever the choices at the sites, with these parts for the variables behind them and for the shows among them
pub record ItemsMade (planned : Planned) (is : List LowItem) (old new : Sites → Way) (was now : ℕ → Bool) (env shown : List Held) : Type 0 where
  pub eras : (y : ℕ) → now y ≡ was y
  pub builds : (sites : Sites) → BuildsFirst sites (old sites) (new sites) planned is (parts_of env) (parts_of shown)

-- an item of a body is the next to be built, behind those that were
pub record StandsNext (planned : Planned) (item : LowItem) (way : Sites → Way) (has_era : ℕ → Bool) (env shown : List Held) : Type 0 where
  pub done : List LowItem
  pub rest : List LowItem
  pub was : Sites → Way
  pub had : ℕ → Bool
  pub may : MayBuildItems planned (done ++ item ∷ rest) was had
  pub made : ItemsMade planned done was way had has_era env shown

-- the building of a body stopped: with an error only where it fails at some numbers of its nodes
abbrev pub ItemsStop : Planned → List LowItem → BuildStop → Type 0
ItemsStop planned is s = StopsWhere s ((ms : List ℕ) × BodyFails (plan_of planned) is ms)

-- the items of a body were built in the program's era: the walk goes over all of the added nodes and gives these parts for the shows, which name what was added or a source and no watch, and the items stand
pub record BuildsItems (sites : Sites) (at new : Way) (planned : Planned) (is : List LowItem) (parts : List Part) : Type 0 where
  pub added : List ℕ
  pub grew : Grew at new 0 [] added
  pub reach : (j : ℕ) → Reads j parts → InReach new.graph [] added j
  pub no_watch : NamesNoWatch new.graph parts
  pub shown : place_items (body_walk (plan_of planned)) [] is added ≡ record { parts = parts; left = [] }
  pub stand : PlanMatches sites planned → ItemsMatch sites 0 is → ItemsStand (body_walk (plan_of planned)) (Wired new.graph (plan_of planned) 0 2000) [] is added
