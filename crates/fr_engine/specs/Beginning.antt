-- What is queued where an instant begins.
use Rattle.std.specs.Prelude.{◌≡◌, ◌⊎◌, ℕ, ◌<◌, true, false, List, slice_get, Some, IsSome, Ok}
use Rattle.fr_value.specs.declared.now.Now.{Now}
use Rattle.fr_value.specs.declared.ids.NodeId.{NodeId}
use Rattle.fr_queue.specs.Queue.{IsEmpty}
use Rattle.fr_graph.specs.Graph.{Work, source, works, Graph, is_late}
use Rattle.fr_way.specs.Way.{Way, occurs_now}
use Rattle.fr_way.specs.Ends.{shown_of}
use Rattle.fr_nodes.specs.Signals.{SameNodes}
use Rattle.fr_engine.specs.Notes.{Named}

-- each source has its node, of its own number, and no other node is a source
pub record HaveSources (many : ℕ) (g : Graph) : Type 0 where
  pub there : (s : ℕ) → s < many → (g.live s ≡ true) × (g.kind s ≡ source s)
  pub only : (m s : ℕ) → g.live m ≡ true → g.kind m ≡ source s → (m ≡ s) × (s < many)

-- the nodes of so many sources live
abbrev pub AllLive : ℕ → Graph → Type 0
AllLive many g = (s : ℕ) → s < many → g.live s ≡ true

-- all nodes that are listed live
abbrev pub AreLive : Graph → List NodeId → Type 0
AreLive g ids = (m : ℕ) → Named ids m → g.live m ≡ true

-- further live nodes may be queued, each at its height; all else is as it was
pub record Woken (at new : Way) : Type 0 where
  pub same : SameNodes at new
  pub stays : (m : ℕ) → IsSome (at.queued m) → IsSome (new.queued m)
  pub only : (m : ℕ) → (new.queued m ≡ at.queued m) ⊎ ((at.graph.live m ≡ true) × (new.queued m ≡ Some (at.height m)))

-- a node has the present value of its source
abbrev pub HasNow : Graph → List Now → ℕ → Type 0
HasNow g sources s = (now : Now) × (slice_get sources s ≡ Some now) × (g.value s ≡ Ok now)

-- of so many sources each node is queued, or has the source's value
pub record SourcesWoken (at new : Way) (sources : List Now) (many : ℕ) : Type 0 where
  pub woken : Woken at new
  pub each : (s : ℕ) → s < many → IsSome (new.queued s) ⊎ HasNow at.graph sources s

-- each of these is queued
pub record ListedWoken (at new : Way) (ids : List NodeId) : Type 0 where
  pub woken : Woken at new
  pub each : (m : ℕ) → Named ids m → IsSome (new.queued m)

-- each of these is queued, or shows what it keeps
pub record KeptWoken (at new : Way) (ids : List NodeId) : Type 0 where
  pub woken : Woken at new
  pub each : (m : ℕ) → Named ids m → IsSome (new.queued m) ⊎ (shown_of (at.graph.cell m) ≡ at.graph.value m)

-- a graph at rest: nothing is queued, each live node that occurs is listed, and so is each late work; all that are listed live
pub record IsResting (at : Way) (wakes late : List NodeId) : Type 0 where
  pub empty : IsEmpty at.queued
  pub occurring : (m : ℕ) → at.graph.live m ≡ true → Named wakes m ⊎ (occurs_now (at.graph.value m) ≡ false)
  pub listed : (m : ℕ) (w : Work) → at.graph.live m ≡ true → at.graph.kind m ≡ works w → is_late w ≡ true → Named late m
