-- What a graph between two instants stands for.
use Rattle.std.specs.Prelude.{◌≡◌, ℕ, ◌+◌, List, [], map, Option, None, Ok}
use Rattle.fr_value.specs.declared.ids.NodeId.{NodeId}
use Rattle.fr_value.specs.declared.now.Now.{Now}
use Rattle.fr_core.specs.WellFormed.{last_source}
use Rattle.fr_core.specs.declared.inputs.Inputs.{Inputs}
use Rattle.fr_core.specs.declared.lowered.LowItem.{LowItem}
use Rattle.fr_core.specs.declared.program.Program.{Program}
use Rattle.fr_meaning.specs.Afresh.{State, Instant, handed_on}
use Rattle.fr_meaning.specs.Cells.{Cell}
use Rattle.fr_graph.specs.Graph.{Part, part_values}
use Rattle.fr_graph.specs.Walk.{Plan}
use Rattle.fr_graph.specs.Items.{AreLowered, BodyFails, body_walk, place_items, StandsForTree}
use Rattle.fr_way.specs.Way.{Way}
use Rattle.fr_sources.specs.declared.sources.Sources.{Sources}
use Rattle.fr_sources.specs.Instants.{AreSourcesAt}
use Rattle.fr_engine.specs.Choices.{Buildable}
use Rattle.fr_engine.specs.Instant.{AtRest, IsBuiltUp}
use Rattle.fr_ready.specs.Ready.{Planned, plan_of}
use Rattle.fr_world.specs.World.{no_way}

-- a graph at rest, with these parts for the shows of a program, stands for a state behind an instant of these sources
pub record StandsForState (can : Buildable) (pr : Program) (p : Plan) (many : ℕ) (sources : Sources) (parts : List Part) (wakes late : List NodeId) (at : Way) (s : State) : Type 0 where
  pub items : List LowItem
  pub members : List ℕ
  pub inputs : Inputs
  pub before : ℕ → Option Cell
  pub lowered : AreLowered pr p items
  pub counted : many ≡ last_source pr + 1
  pub fed : AreSourcesAt pr s.values inputs sources
  pub rests : AtRest can p many items members sources.values.items before at wakes late
  pub stands : StandsForTree at.graph p items members s.kept
  pub parts_are : (place_items (body_walk p) [] items members).parts ≡ parts

-- it stands for what an instant hands on, in which nothing errs, and its parts have the values that are shown at it
pub record ComesTo (can : Buildable) (pr : Program) (p : Plan) (many : ℕ) (sources : Sources) (parts : List Part) (wakes late : List NodeId) (at : Way) (n : Instant) : Type 0 where
  pub state : StandsForState can pr p many sources parts wakes late at (handed_on n)
  pub shows : part_values at.graph parts ≡ n.evaluated.shown
  pub clean : n.evaluated.first ≡ None

-- it stands for a state, and these are the values of its parts
pub record ShowsState (can : Buildable) (pr : Program) (p : Plan) (many : ℕ) (sources : Sources) (parts : List Part) (wakes late : List NodeId) (at : Way) (shown : List Now) (s : State) : Type 0 where
  pub state : StandsForState can pr p many sources parts wakes late at s
  pub shows : map (λ v. Ok v) shown ≡ part_values at.graph parts

-- an instant errs
abbrev pub DoesErr : Instant → Type 0
DoesErr n = n.evaluated.first ≡ None → ⊥

-- a graph was built for these items, and no instant was run over it: these parts stand for the shows
pub record IsUp (can : Buildable) (p : Plan) (many : ℕ) (is : List LowItem) (parts : List Part) (late : List NodeId) (at : Way) : Type 0 where
  pub members : List ℕ
  pub built : IsBuiltUp can p many is members no_way.graph at late
  pub parts_are : (place_items (body_walk p) [] is members).parts ≡ parts

-- so is one for the items of a program's lowered form, and there are as many sources as it has
pub record IsUpFor (can : Buildable) (pr : Program) (p : Plan) (many : ℕ) (parts : List Part) (late : List NodeId) (at : Way) : Type 0 where
  pub items : List LowItem
  pub lowered : AreLowered pr p items
  pub counted : many ≡ last_source pr + 1
  pub up : IsUp can p many items parts late at

-- the building of items fails at some numbers of their nodes
abbrev pub CannotBuild : Planned → List LowItem → Type 0
CannotBuild planned is = (ms : List ℕ) × BodyFails (plan_of planned) is ms
