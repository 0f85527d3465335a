-- What is left of lists where an instant ends, and what holds then.
use Rattle.std.specs.Prelude.{◌≡◌, ◌≢◌, ◌⊎◌, ℕ, true, List}
use Rattle.fr_core.specs.declared.lowered.LowItem.{LowItem}
use Rattle.fr_value.specs.declared.ids.NodeId.{NodeId}
use Rattle.fr_value.specs.declared.now.Now.{Now}
use Rattle.fr_graph.specs.Graph.{Graph}
use Rattle.fr_graph.specs.Walk.{Plan}
use Rattle.fr_way.specs.Ends.{HasEndedWell}
use Rattle.fr_way.specs.Loop.{Closes as HasClosed}
use Rattle.fr_way.specs.Way.{Way, occurs_now}
use Rattle.fr_nodes.specs.Signals.{BuriesAll}
use Rattle.fr_engine.specs.declared.setting.Notes.{Notes}
use Rattle.fr_engine.specs.Beginning.{AreLive, IsResting}
use Rattle.fr_engine.specs.Latching.{Latched}
use Rattle.fr_engine.specs.Notes.{Named}

-- of those that are listed these are the ones that live
pub record AreLiving (g : Graph) (ids living : List NodeId) : Type 0 where
  pub all : (m : ℕ) → Named ids m → g.live m ≡ true → Named living m
  pub only : (m : ℕ) → Named living m → Named ids m × (g.live m ≡ true)

-- the late works have taken the values of their last parts, those that live stay listed, and what ended is buried
pub record Closes (at new : Way) (was notes : Notes) (listed kept : List NodeId) : Type 0 where
  pub latched : Way
  pub latches : Latched at latched listed
  pub wakes : AreLiving latched.graph was.wakes.items notes.wakes.items
  pub changed : notes.changed.items ≡ was.changed.items
  pub late : AreLiving latched.graph listed kept
  pub buries : BuriesAll latched new

-- an instant has ended well before what ended in it was buried; the graph rests, all that are listed live and occur, and of the live nodes that lived before those that are listed among the ones that changed have another value than they had, and the others have that
pub record EndsWell (p : Plan) (is : List LowItem) (ms : List ℕ) (sources : List Now) (old : Graph) (at new : Way) (notes : Notes) (late : List NodeId) : Type 0 where
  pub latched : Way
  pub ended : HasEndedWell p is ms sources old latched.graph at.height
  pub closes : HasClosed at latched.graph new
  pub buries : BuriesAll latched new
  pub rests : IsResting new notes.wakes.items late
  pub wakes_live : AreLive new.graph notes.wakes.items
  pub late_live : AreLive new.graph late
  pub occur : (m : ℕ) → Named notes.wakes.items m → occurs_now (new.graph.value m) ≡ true
  pub differ : (m : ℕ) → Named notes.changed.items m → new.graph.live m ≡ true → old.live m ≡ true → new.graph.value m ≢ old.value m
  pub unchanged : (m : ℕ) → new.graph.live m ≡ true → old.live m ≡ true → Named notes.changed.items m ⊎ (new.graph.value m ≡ old.value m)
