-- What holds of a graph while an instant is run over it, and how a run may end.
use Rattle.std.specs.Prelude.{◌≡◌, ℕ, Bool, true, false, List, [], ◌∷◌, ◌++◌, Option, Some, None, Ok, length}
use Rattle.fr_value.specs.declared.ids.NodeId.{NodeId}
use Rattle.fr_value.specs.declared.now.Now.{Now}
use Rattle.fr_meaning.specs.Words.{test_of}
use Rattle.fr_kernel.specs.declared.fuel.KernStop.{KernStop}
use Rattle.fr_kernel.specs.declared.fuel.KernStop.TheVariants as kern
use Rattle.fr_queue.specs.Queue.{IsEmpty}
use Rattle.fr_graph.specs.Graph.{Graph}
use Rattle.fr_graph.specs.Walk.{Plan}
use Rattle.fr_events.specs.declared.lines.Stepped.{Stepped}
use Rattle.fr_nodes.specs.Signals.{TakesOut}
use Rattle.fr_way.specs.Frame.{is_watch}
use Rattle.fr_way.specs.Way.{Way, UnderWay}
use Rattle.fr_way.specs.Order.{DeadAreLevelled}
use Rattle.fr_way.specs.Steps.{IsLeast}
use Rattle.fr_way.specs.Fronts.{AreUsed, ErrsAt}
use Rattle.fr_engine.specs.declared.setting.Notes.{Notes}
use Rattle.fr_engine.specs.declared.stops.RunStop.{RunStop}
use Rattle.fr_engine.specs.declared.stops.RunStop.TheVariants as stop
use Rattle.fr_engine.specs.Choices.{Buildable, AreFit}
use Rattle.fr_engine.specs.Beginning.{HaveSources}
use Rattle.fr_engine.specs.Moment.{Moment}
use Rattle.fr_engine.specs.Notes.{AreLate, AreNoted}
use Rattle.fr_engine.specs.Rules.{AreUnread, Computed, HasKernels, IsKey, KeepsKey}

-- an instant is under way, and beside it: what awaits burial is levelled, the program's members are used, kernels are there, each source has its node, the choices of watches can be built, a watch that hasn't chosen has an unread result, and notes and late works are listed
pub record IsOnItsWay (can : Buildable) (p : Plan) (many : ℕ) (sources : List Now) (t : Moment) (at : Way) (notes : Notes) (late : List NodeId) : Type 0 where
  pub under : UnderWay p t.items t.members sources t.old at
  pub dead : DeadAreLevelled at
  pub used : AreUsed at.graph p t.items t.members
  pub kernels : HasKernels p.table (length sources) at.graph
  pub fit : AreFit can at.graph
  pub fed : HaveSources many at.graph
  pub unread : AreUnread t.old at
  pub noted : AreNoted t.old at notes.wakes.items notes.changed.items
  pub listed : AreLate at late

-- what counted as computed in a number that is in use goes on counting so, and this node does now, which didn't before
pub record Advances (at new : Way) (m : ℕ) : Type 0 where
  pub was : at.done m ≡ false
  pub kept : (j : ℕ) → at.taken j ≡ true → at.done j ≡ true → (new.taken j ≡ true) × (new.done j ≡ true)
  pub here : (new.taken m ≡ true) × (new.done m ≡ true)

-- a node was taken and has been dealt with
pub record Steps (can : Buildable) (p : Plan) (many : ℕ) (sources : List Now) (t : Moment) (at new : Way) (m : ℕ) (notes : Notes) (late : List NodeId) : Type 0 where
  pub goes_on : IsOnItsWay can p many sources t new notes late
  pub advances : Advances at new m

-- an instant was run to where nothing is queued
pub record HasRun (can : Buildable) (p : Plan) (many : ℕ) (sources : List Now) (t : Moment) (at : Way) (notes : Notes) (late : List NodeId) : Type 0 where
  pub way : IsOnItsWay can p many sources t at notes late
  pub empty : IsEmpty at.queued

-- the node that is taken errs on the values that it reads
pub record ErrsOnTheWay (p : Plan) (sources : List Now) (t : Moment) : Type 0 where
  pub at : Way
  pub node : ℕ
  pub height : ℕ
  pub under : UnderWay p t.items t.members sources t.old at
  pub used : AreUsed at.graph p t.items t.members
  pub least : IsLeast at node height
  pub errs : ErrsAt at height p t.old node

-- a node was taken and has come to this by its rule
pub record CanDeal (can : Buildable) (p : Plan) (many : ℕ) (sources : List Now) (t : Moment) (at taken : Way) (m : ℕ) (notes : Notes) (late : List NodeId) (s : Stepped) : Type 0 where
  pub way : IsOnItsWay can p many sources t at notes late
  pub takes : TakesOut at taken m
  pub before : ℕ
  pub after : ℕ
  pub computed : Computed s before after p.table sources taken m

-- a node is a watch that turns by this key, or no watch that turns
abbrev pub TurnsBy : Option Bool → Graph → ℕ → Now → Type 0
TurnsBy (Some holds) g m now = (is_watch (g.kind m) ≡ true) × KeepsKey false g m now × (test_of (Ok now) ≡ Ok holds)
TurnsBy None g m now = is_watch (g.kind m) ≡ true → KeepsKey true g m now

-- what is asked where the key of a node is looked at: a watch's result lives, and what it has come to tells a key
pub record HasKey (g : Graph) (m : ℕ) (now : Now) : Type 0 where
  pub result : is_watch (g.kind m) ≡ true → g.live (g.result_of m) ≡ true
  pub told : is_watch (g.kind m) ≡ true → IsKey now

-- a node was noted among those that have another value
pub record NotesChange (old new : Notes) (m : ℕ) : Type 0 where
  pub wakes : new.wakes.items ≡ old.wakes.items
  pub changed : new.changed.items ≡ old.changed.items ++ record { 0 = m } ∷ []

-- why a kernel's run stops, as a stop of the whole
abbrev pub run_stop : KernStop → RunStop
run_stop (kern.Memory e) = stop.Memory e
run_stop (kern.Bad b) = stop.Bad b
run_stop kern.Fuel = stop.Fuel

-- so far the instant was on its way, whichever it is
pub record Runs (can : Buildable) (p : Plan) (many : ℕ) (sources : List Now) (start at : Way) (was notes : Notes) (before late : List NodeId) : Type 0 where
  pub is : (t : Moment) × IsOnItsWay can p many sources t at notes late
  pub from : (t : Moment) → IsOnItsWay can p many sources t start was before → IsOnItsWay can p many sources t at notes late
