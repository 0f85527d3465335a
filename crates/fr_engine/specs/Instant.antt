-- A graph between two instants of a program, and what running one gives.
use Rattle.std.specs.Prelude.{◌≡◌, ◌⊎◌, ℕ, true, List, [], ◌∷◌, Option, None}
use Rattle.fr_value.specs.declared.ids.NodeId.{NodeId}
use Rattle.fr_value.specs.declared.now.Now.{Now}
use Rattle.fr_core.specs.declared.kept.Kept.{Kept}
use Rattle.fr_core.specs.declared.kept.Kept.TheVariants as kept
use Rattle.fr_core.specs.declared.lowered.Low.{Low}
use Rattle.fr_core.specs.declared.lowered.LowItem.{LowItem}
use Rattle.fr_core.specs.declared.program.Program.{Program}
use Rattle.fr_meaning.specs.Afresh.{body}
use Rattle.fr_meaning.specs.Cells.{Cell}
use Rattle.fr_events.specs.Works.{HasKernel}
use Rattle.fr_events.specs.declared.latching.LatchStop.{LatchStop}
use Rattle.fr_events.specs.declared.latching.LatchStop.TheVariants as latch
use Rattle.fr_links.specs.Lists.{has_item}
use Rattle.fr_queue.specs.Queue.{IsEmpty}
use Rattle.fr_store.specs.Nodes.{most_nodes}
use Rattle.fr_graph.specs.Graph.{Part, Work, works, watch, Graph, is_late}
use Rattle.fr_graph.specs.Items.{AreLowered, StandsForTree}
use Rattle.fr_graph.specs.Walk.{Plan}
use Rattle.fr_way.specs.Frame.{is_watch}
use Rattle.fr_way.specs.Way.{Way, UnderWay, occurs_now}
use Rattle.fr_way.specs.Ends.{IsBuilt}
use Rattle.fr_way.specs.Fronts.{AreUsed, ErrsAtEnd}
use Rattle.fr_way.specs.Loop.{IsWhole, InUseBelow, NothingAwaits}
use Rattle.fr_engine.specs.declared.setting.Notes.{Notes}
use Rattle.fr_engine.specs.declared.stops.RunStop.{RunStop}
use Rattle.fr_engine.specs.declared.stops.RunStop.TheVariants as stop
use Rattle.fr_engine.specs.Beginning.{AreLive, HaveSources, IsResting}
use Rattle.fr_engine.specs.Choices.{Buildable, AreFit}
use Rattle.fr_engine.specs.Ending.{EndsWell}
use Rattle.fr_engine.specs.Moment.{Moment}
use Rattle.fr_engine.specs.Notes.{AreLate, Named}
use Rattle.fr_engine.specs.Rules.{AreUnread, HasKernels}
use Rattle.fr_engine.specs.Running.{ErrsOnTheWay, HasRun, IsOnItsWay}

-- a graph between two instants of a program: it is whole and rests, the kernels of its works are there, the choices of its watches can be built, each source has its node, and the nodes that are listed live, where the first of the lists has those that occur
pub record AtRest (can : Buildable) (p : Plan) (many : ℕ) (is : List LowItem) (ms : List ℕ) (sources : List Now) (before : ℕ → Option Cell) (at : Way) (wakes late : List NodeId) : Type 0 where
  pub whole : IsWhole p is ms most_nodes sources before at
  pub kernels : HasKernels p.table many at.graph
  pub fit : AreFit can at.graph
  pub fed : HaveSources many at.graph
  pub rests : IsResting at wakes late
  pub wakes_live : AreLive at.graph wakes
  pub occur : (m : ℕ) → Named wakes m → occurs_now (at.graph.value m) ≡ true
  pub late_live : AreLive at.graph late

-- a graph was built for a program over one without nodes, and no instant was run over it: every member is used, nothing awaits burial, the kernels of its works are there, the choices of its watches can be built, each source has its node, no watch has chosen, and its late works are listed
pub record IsBuiltUp (can : Buildable) (p : Plan) (many : ℕ) (is : List LowItem) (ms : List ℕ) (old : Graph) (at : Way) (late : List NodeId) : Type 0 where
  pub built : IsBuilt p is ms old at
  pub used : AreUsed at.graph p is ms
  pub awaits : NothingAwaits at
  pub kernels : HasKernels p.table many at.graph
  pub fit : AreFit can at.graph
  pub fed : HaveSources many at.graph
  pub unread : AreUnread old at
  pub listed : AreLate at late

-- of a program's members the kernel of each work is there, and each watch reads one part, its test, and its choices can be built over what it holds
pub record MembersFit (can : Buildable) (p : Plan) (ms : List ℕ) (g : Graph) : Type 0 where
  pub kernels : (m : ℕ) (w : Work) → has_item ms m ≡ true → g.kind m ≡ works w → HasKernel p.table w
  pub tests : (m : ℕ) → has_item ms m ≡ true → is_watch (g.kind m) ≡ true → (test : Part) × (g.inputs m ≡ test ∷ [])
  pub fits : (m : ℕ) (a b : Low) (env : List Part) → has_item ms m ≡ true → g.kind m ≡ watch a b env → can a b env

-- the results of all watches read nothing
abbrev pub NoneHasChosen : Graph → Type 0
NoneHasChosen g = (w : ℕ) → g.live w ≡ true → is_watch (g.kind w) ≡ true → g.inputs (g.result_of w) ≡ []

-- each live late work is listed
abbrev pub LateAreNamed : Graph → List NodeId → Type 0
LateAreNamed g late = (m : ℕ) (w : Work) → g.live m ≡ true → g.kind m ≡ works w → is_late w ≡ true → Named late m

-- what is told of a graph that was built for a program, of its members and of its sources
pub record IsToldBuilt (can : Buildable) (p : Plan) (many : ℕ) (is : List LowItem) (ms : List ℕ) (old : Graph) (at : Way) (late : List NodeId) : Type 0 where
  pub built : IsBuilt p is ms old at
  pub used : AreUsed at.graph p is ms
  pub awaits : NothingAwaits at
  pub members : MembersFit can p ms at.graph
  pub fed : HaveSources many at.graph
  pub unchosen : NoneHasChosen at.graph
  pub late_named : LateAreNamed at.graph late
  pub late_live : AreLive at.graph late

-- nothing is noted
pub record AreClear (notes : Notes) : Type 0 where
  pub wakes : notes.wakes.items ≡ []
  pub changed : notes.changed.items ≡ []

-- an instant was run to where nothing is queued, and has ended well
pub record HasPassed (can : Buildable) (p : Plan) (many : ℕ) (sources : List Now) (t : Moment) (new : Way) (notes : Notes) (late : List NodeId) : Type 0 where
  pub at : Way
  pub noted : Notes
  pub listed : List NodeId
  pub way : IsOnItsWay can p many sources t at noted listed
  pub below : InUseBelow most_nodes at
  pub ends : EndsWell p t.items t.members sources t.old at new notes late

-- once nothing is queued a late work errs
pub record ErrsWhereItEnds (p : Plan) (sources : List Now) (t : Moment) : Type 0 where
  pub at : Way
  pub node : ℕ
  pub under : UnderWay p t.items t.members sources t.old at
  pub used : AreUsed at.graph p t.items t.members
  pub empty : IsEmpty at.queued
  pub errs : ErrsAtEnd at p t.old node

-- a node errs on the way or where the instant ends
abbrev pub ErrsInIt : Plan → List Now → Moment → Type 0
ErrsInIt p sources t = ErrsOnTheWay p sources t ⊎ ErrsWhereItEnds p sources t

-- evaluating a program's body afresh over these values and this kept tree errs
abbrev pub BodyErrs : Program → List Now → Kept → Type 0
BodyErrs pr sources k = (body pr sources k).first ≡ None → ⊥

-- an instant that is under way errs, whichever it is
abbrev pub ErrsOnceUnderWay : Buildable → Plan → ℕ → List Now → Way → Notes → List NodeId → Type 0
ErrsOnceUnderWay can p many sources at notes late = (t : Moment) → IsOnItsWay can p many sources t at notes late → ErrsInIt p sources t

-- the ending of an instant that was run errs, whichever it is
abbrev pub ErrsOnceRun : Buildable → Plan → ℕ → List Now → Way → Notes → List NodeId → Type 0
ErrsOnceRun can p many sources at notes late = (t : Moment) → HasRun can p many sources t at notes late → ErrsInIt p sources t

-- evaluating the body of each program for which a graph was built errs at the first instant
abbrev pub ErrsAtFirst : Buildable → Plan → ℕ → List Now → Way → List NodeId → Type 0
ErrsAtFirst can p many sources at late = (is : List LowItem) (ms : List ℕ) (old : Graph) (pr : Program)
    → IsBuiltUp can p many is ms old at late → AreLowered pr p is → BodyErrs pr sources kept.Nothing

-- evaluating the body of each program over each kept tree for which a graph at rest stands errs at a further instant
abbrev pub ErrsFurther : Buildable → Plan → ℕ → List Now → Way → List NodeId → List NodeId → Type 0
ErrsFurther can p many sources at wakes late = (is : List LowItem) (ms : List ℕ) (was : List Now) (before : ℕ → Option Cell) (pr : Program) (k : Kept)
    → AtRest can p many is ms was before at wakes late → AreLowered pr p is → StandsForTree at.graph p is ms k → BodyErrs pr sources k

-- why the late works refuse the values of their last parts, as a stop of the whole
abbrev pub ending_stop : LatchStop → RunStop
ending_stop (latch.Memory e) = stop.Memory e
ending_stop (latch.Bad b) = stop.Bad b
