-- What the turning of a watch asks and gives, step by step.
use Rattle.std.specs.Prelude.{◌≡◌, ◌≢◌, ℕ, suc, ◌<◌, Bool, true, false, List, [], ◌∷◌, Option, Some, Ok, if◌then◌else◌}
use Rattle.fr_value.specs.declared.ids.NodeId.{NodeId}
use Rattle.fr_value.specs.declared.now.Now.{Now}
use Rattle.fr_core.specs.declared.lowered.Low.{Low}
use Rattle.fr_meaning.specs.Words.{test_of}
use Rattle.fr_meaning.specs.Cells.{Cell}
use Rattle.fr_graph.specs.Graph.{Part, watch, Graph}
use Rattle.fr_graph.specs.Walk.{Plan}
use Rattle.fr_graph.specs.Known.{Reads}
use Rattle.fr_way.specs.Frame.{Inside, is_watch}
use Rattle.fr_way.specs.Order.{DeadAreLevelled, AreLevelledBut, IsOrdered}
use Rattle.fr_way.specs.Way.{Way, cell_in, UnderWay}
use Rattle.fr_way.specs.Turns.{Kills, IsClear, Rewires, Raises, Turns}
use Rattle.fr_nodes.specs.Signals.{TakesOut}
use Rattle.fr_engine.specs.Choices.{Buildable, AreFit, Chooses, ChoiceFails}
use Rattle.fr_engine.specs.Moment.{Moment, HaveSources}
use Rattle.fr_engine.specs.Rules.{Obeys}

-- a watch was taken and has come to another key than it had, or to its first
pub record CanTurn (can : Buildable) (p : Plan) (many : ℕ) (sources : List Now) (t : Moment) (at taken : Way) (w : ℕ) (value : Now) (cell : Option Cell) (holds : Bool) : Type 0 where
  pub under : UnderWay p t.items t.members sources t.old at
  pub dead : DeadAreLevelled at
  pub fit : AreFit can at.graph
  pub fed : HaveSources at.graph many
  pub takes : TakesOut at taken w
  pub watches : is_watch (at.graph.kind w) ≡ true
  pub told : test_of (Ok value) ≡ Ok holds
  pub obeys : Obeys p.table sources (cell_in t.old) taken w value cell
  pub other_key : t.old.live w ≡ true → test_of (Ok value) ≢ test_of (at.graph.value w)

-- the era of a watch can be ended, and the choice of either key built in it anew
pub record CanRenew (can : Buildable) (many : ℕ) (at : Way) (w : ℕ) : Type 0 where
  pub live : at.graph.live w ≡ true
  pub watches : is_watch (at.graph.kind w) ≡ true
  pub computed : at.done w ≡ true
  pub earlier : (m : ℕ) → Inside at.graph (suc w) m → at.done m ≡ false
  pub clear : (next : Way) → Kills at next (suc w) → (a b : Low) (env : List Part) → at.graph.kind w ≡ watch a b env → IsClear next w env
  pub fed : (next : Way) → Kills at next (suc w) → HaveSources next.graph many
  pub fits : (a b : Low) (env : List Part) → at.graph.kind w ≡ watch a b env → can a b env

-- the era of a watch has ended, and the choice of this key was built in it anew
pub record Renews (can : Buildable) (p : Plan) (at new : Way) (w : ℕ) (holds : Bool) (part : Part) (listed more : List NodeId) : Type 0 where
  pub between : Way
  pub kills : Kills at between (suc w)
  pub when_true : Low
  pub when_false : Low
  pub scope : List Part
  pub kind : at.graph.kind w ≡ watch when_true when_false scope
  pub choice : Chooses can p between new w (at.graph.level w) (if holds then when_true else when_false) scope part listed more

-- the building of the choice of this key fails
pub record FailsToRenew (p : Plan) (g : Graph) (w : ℕ) (holds : Bool) : Type 0 where
  pub when_true : Low
  pub when_false : Low
  pub scope : List Part
  pub kind : g.kind w ≡ watch when_true when_false scope
  pub fails : ChoiceFails p (g.level w) (if holds then when_true else when_false) scope

-- heights can be raised, where what this node reads may stand too high
pub record CanRaise (h : ℕ) (at : Way) (r : ℕ) : Type 0 where
  pub results : (w : ℕ) → at.graph.live w ≡ true → is_watch (at.graph.kind w) ≡ true → at.graph.live (at.graph.result_of w) ≡ true
  pub levelled : AreLevelledBut at r
  pub ordered : IsOrdered at
  pub above : h < at.height r
  pub taken : (m : ℕ) → at.graph.live m ≡ true → at.taken m ≡ true
  pub queue : (m k : ℕ) → at.queued m ≡ Some k → k ≡ at.height m

-- a node can be made to read this part, and heights can be raised then
pub record CanLead (h : ℕ) (at : Way) (r : ℕ) (part : Part) : Type 0 where
  pub live : at.graph.live r ≡ true
  pub there : (j : ℕ) → Reads j (part ∷ []) → at.graph.live j ≡ true
  pub raise : (next : Way) → Rewires at next r part → CanRaise h next r

-- a node was made to read this part, and heights were raised
pub record Leads (h : ℕ) (at new : Way) (r : ℕ) (part : Part) : Type 0 where
  pub between : Way
  pub rewires : Rewires at between r part
  pub raises : Raises between new h

-- a watch has turned, and so it was built
pub record HasTurned (can : Buildable) (p : Plan) (sources : List Now) (old : Graph) (at new : Way) (w : ℕ) (listed more : List NodeId) : Type 0 where
  pub t1 : Way
  pub t2 : Way
  pub t3 : Way
  pub t4 : Way
  pub t5 : Way
  pub turns : Turns p sources old at t1 t2 t3 t4 t5 new w
  pub level : ℕ
  pub chosen : Low
  pub scope : List Part
  pub part : Part
  pub choice : Chooses can p t2 t3 w level chosen scope part listed more
