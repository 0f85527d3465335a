-- A graph while an instant is under way, between two takings from the agenda.
use Rattle.std.specs.Prelude.{◌≡◌, ◌⊎◌, ℕ, suc, ◌≤◌, Bool, true, false, List, [], Option, Some, None, IsSome, if◌then◌else◌}
use Rattle.fr_value.specs.declared.now.Now.{Now}
use Rattle.fr_core.specs.declared.lowered.Low.{Low}
use Rattle.fr_core.specs.declared.lowered.LowItem.{LowItem}
use Rattle.fr_meaning.specs.Words.{test_of}
use Rattle.fr_meaning.specs.Cells.{Cell}
use Rattle.fr_queue.specs.Queue.{Queued}
use Rattle.fr_graph.specs.Graph.{Part, Work, works, watch, Graph, is_late}
use Rattle.fr_graph.specs.Walk.{Plan}
use Rattle.fr_graph.specs.Wired.{Chosen, Wired, EraStands}
use Rattle.fr_graph.specs.Known.{Reads, Rule}
use Rattle.fr_graph.specs.Goes.{Goes}
use Rattle.fr_graph.specs.Items.{body_walk, ItemsStand}
pub use Rattle.fr_way.specs.Frame.{occurs_now}
use Rattle.fr_way.specs.Frame.{IsFramed}

-- a graph under way: which numbers are in use, by live nodes and by those that await burial; the height of each node; whether it was computed at this instant; and what is queued
pub record Way : Type 0 where
  pub graph : Graph
  pub taken : ℕ → Bool
  pub height : ℕ → ℕ
  pub done : ℕ → Bool
  pub queued : Queued

-- the cell of a node as the instant began: none of a node that wasn't there
abbrev pub cell_in : Graph → ℕ → Option Cell
cell_in old m = if old.live m then old.cell m else None

-- none of the nodes that are read here occurs
abbrev pub AreQuiet : Graph → List Part → Type 0
AreQuiet g ps = (j : ℕ) → Reads j ps → occurs_now (g.value j) ≡ false

-- the nodes between two takings: each that was computed obeys its rule and stands no higher than what is queued; each that is neither computed nor queued is as it was, obeys its rule unless an input occurs, and an input that occurs is queued
pub record AreUnderWay (p : Plan) (sources : List Now) (old : Graph) (at : Way) : Type 0 where
  pub queue : (m h : ℕ) → at.queued m ≡ Some h → (at.graph.live m ≡ true) × (h ≡ at.height m) × (at.done m ≡ false)
  pub ordered : (m j h : ℕ) → at.graph.live m ≡ true → at.done m ≡ true → at.queued j ≡ Some h → at.height m ≤ h
  pub computed : (m : ℕ) → at.graph.live m ≡ true → at.done m ≡ true → Rule at.graph p.table sources (cell_in old) m (at.graph.kind m) (at.graph.inputs m)
  pub waits : (m : ℕ) → at.graph.live m ≡ true → at.done m ≡ false → old.live m ≡ true → (at.graph.value m ≡ old.value m) × (at.graph.cell m ≡ old.cell m)
  pub born : (m : ℕ) → at.graph.live m ≡ true → at.done m ≡ false → old.live m ≡ false → (at.graph.cell m ≡ None) × IsSome (at.queued m)
  pub idle : (m j : ℕ) → at.graph.live m ≡ true → at.done m ≡ false → at.queued m ≡ None → Reads j (at.graph.inputs m) → IsSome (at.queued j) ⊎ (occurs_now (at.graph.value j) ≡ false)
  pub rests : (m : ℕ) → at.graph.live m ≡ true → at.done m ≡ false → at.queued m ≡ None → AreQuiet at.graph (at.graph.inputs m)
      → Rule at.graph p.table sources (cell_in old) m (at.graph.kind m) (at.graph.inputs m)
  pub late : (m : ℕ) (w : Work) → at.graph.live m ≡ true → at.graph.kind m ≡ works w → is_late w ≡ true → at.graph.cell m ≡ cell_in old m
  pub taken : (m : ℕ) → (at.graph.live m ≡ true) ⊎ (old.live m ≡ true) → at.taken m ≡ true

-- a watch has chosen: it was computed at this instant or was there before
abbrev pub HasChosen : Graph → Way → ℕ → Type 0
HasChosen old at w = (at.done w ≡ true) ⊎ (old.live w ≡ true)

-- the eras between two takings: that of each watch that has chosen stands, and a watch that hasn't has none
pub record ErasUnderWay (p : Plan) (old : Graph) (at : Way) : Type 0 where
  pub stand : (w : ℕ) (a b : Low) (env : List Part) → at.graph.live w ≡ true → HasChosen old at w → at.graph.kind w ≡ watch a b env
      → Chosen (test_of (at.graph.value w)) (EraStands at.graph p w a env) (EraStands at.graph p w b env)
  pub none : (w m : ℕ) → at.graph.live w ≡ true → at.done w ≡ false → old.live w ≡ false → at.graph.live m ≡ true → at.graph.era m ≡ suc w → ⊥

-- an instant is under way
pub record UnderWay (p : Plan) (is : List LowItem) (ms : List ℕ) (sources : List Now) (old : Graph) (at : Way) : Type 0 where
  pub frame : IsFramed at.graph at.height
  pub nodes : AreUnderWay p sources old at
  pub eras : ErasUnderWay p old at
  pub goes : Goes old at.graph (cell_in old)
  pub items : ItemsStand (body_walk p) (Wired at.graph p 0 2000) [] is ms
