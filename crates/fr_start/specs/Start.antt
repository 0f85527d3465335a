-- A program's graph as its building leaves it: the nodes of its sources, and behind them those of its body.
use Rattle.std.specs.Prelude.{◌≡◌, ℕ, ◌<◌, true, false, List, []}
use Rattle.fr_links.specs.Lists.{has_item}
use Rattle.fr_core.specs.declared.lowered.LowItem.{LowItem}
use Rattle.fr_graph.specs.Graph.{source, result, Graph}
use Rattle.fr_graph.specs.Walk.{Plan}
use Rattle.fr_graph.specs.Wired.{Wired}
use Rattle.fr_graph.specs.Items.{place_items, body_walk, ItemsStand}
use Rattle.fr_way.specs.Frame.{is_source, is_watch}
use Rattle.fr_way.specs.Way.{Way}
use Rattle.fr_world.specs.Calls.{HasSources}
use Rattle.fr_build.specs.Builds.{Grew}

-- the items of a body were built in the program's era, where only so many sources had nodes: these nodes were added, the items stand there, and they use each
pub record BuildsBody (p : Plan) (is : List LowItem) (many : ℕ) (at new : Way) (added : List ℕ) : Type 0 where
  pub begins : HasSources at many
  pub grew : Grew at new 0 [] added
  pub all : (place_items (body_walk p) [] is added).left ≡ []
  pub stand : ItemsStand (body_walk p) (Wired new.graph p 0 2000) [] is added

-- each of so many sources has its node, of its own number
abbrev pub EachHasNode : ℕ → Graph → Type 0
EachHasNode many g = (s : ℕ) → s < many → (g.live s ≡ true) × (g.kind s ≡ source s)

-- no other node is a source
abbrev pub NoOtherIsSource : ℕ → Graph → Type 0
NoOtherIsSource many g = (m s : ℕ) → g.live m ≡ true → g.kind m ≡ source s → (m ≡ s) × (s < many)

-- each node that is no source is among these
abbrev pub OthersAreAmong : List ℕ → Graph → Type 0
OthersAreAmong added g = (m : ℕ) → g.live m ≡ true → is_source (g.kind m) ≡ false → has_item added m ≡ true

-- no result reads anything yet
abbrev pub ResultsReadNothing : Graph → Type 0
ResultsReadNothing g = (m : ℕ) → g.live m ≡ true → g.kind m ≡ result → g.inputs m ≡ []

-- no watch has chosen yet: its result reads nothing
abbrev pub NoneHasChosen : Graph → Type 0
NoneHasChosen g = (w : ℕ) → g.live w ≡ true → is_watch (g.kind w) ≡ true → g.inputs (g.result_of w) ≡ []
