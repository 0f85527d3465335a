-- What each step of an instant does to a graph under way.
use Rattle.std.specs.Prelude.{◌≡◌, ◌≢◌, ◌⊎◌, ℕ, suc, ◌≤◌, ◌<◌, true, false, List, Some, None, IsSome}
use Rattle.std.specs.Option.{option_map}
use Rattle.fr_value.specs.declared.now.Now.{Now}
use Rattle.fr_core.specs.declared.lowered.Low.{Low}
use Rattle.fr_meaning.specs.Words.{test_of}
use Rattle.fr_graph.specs.Graph.{Part, Work, works, watch, Graph, is_late}
use Rattle.fr_graph.specs.Walk.{Plan}
use Rattle.fr_graph.specs.Wired.{Chosen, EraStands}
use Rattle.fr_graph.specs.Known.{Reads, Rule}
use Rattle.fr_way.specs.Frame.{IsFramed, Inside, is_watch}
use Rattle.fr_way.specs.Way.{Way, cell_in, occurs_now}

-- the same graph but for values and cells
pub record SameShape (old new : Graph) : Type 0 where
  pub live : (m : ℕ) → new.live m ≡ old.live m
  pub kind : (m : ℕ) → new.kind m ≡ old.kind m
  pub inputs : (m : ℕ) → new.inputs m ≡ old.inputs m
  pub later : (m : ℕ) → new.later m ≡ old.later m
  pub level : (m : ℕ) → new.level m ≡ old.level m
  pub era : (m : ℕ) → new.era m ≡ old.era m
  pub members : (x : ℕ) → new.members x ≡ old.members x
  pub result_of : (m : ℕ) → new.result_of m ≡ old.result_of m

-- a node was queued at a height that nothing queued is below
pub record IsLeast (at : Way) (m h : ℕ) : Type 0 where
  pub was : at.queued m ≡ Some h
  pub least : (j k : ℕ) → at.queued j ≡ Some k → h ≤ k

-- a queued node of least height was computed and is queued no more; of nodes that read it, all are queued unless its value stayed and doesn't occur; and a watch has the key that it had
pub record Computes (p : Plan) (sources : List Now) (old : Graph) (at new : Way) (m : ℕ) : Type 0 where
  pub height : ℕ
  pub least : IsLeast at m height
  pub shape : SameShape at.graph new.graph
  pub value : (j : ℕ) → j ≢ m → new.graph.value j ≡ at.graph.value j
  pub cell : (j : ℕ) → j ≢ m → new.graph.cell j ≡ at.graph.cell j
  pub taken : (j : ℕ) → new.taken j ≡ at.taken j
  pub heights : (j : ℕ) → new.height j ≡ at.height j
  pub done : new.done m ≡ true
  pub others : (j : ℕ) → j ≢ m → new.done j ≡ at.done j
  pub rule : Rule new.graph p.table sources (cell_in old) m (new.graph.kind m) (new.graph.inputs m)
  pub late : (w : Work) → at.graph.kind m ≡ works w → is_late w ≡ true → new.graph.cell m ≡ at.graph.cell m
  pub out : new.queued m ≡ None
  pub kept : (j h : ℕ) → j ≢ m → at.queued j ≡ Some h → new.queued j ≡ Some h
  pub only : (j h : ℕ) → new.queued j ≡ Some h → (at.queued j ≡ Some h) ⊎ ((at.graph.live j ≡ true) × Reads m (at.graph.inputs j) × (h ≡ at.height j))
  pub readers : (j : ℕ) → at.graph.live j ≡ true → Reads m (at.graph.inputs j) → IsSome (new.queued j) ⊎ ((new.graph.value m ≡ at.graph.value m) × (occurs_now (new.graph.value m) ≡ false))
  pub same_key : is_watch (at.graph.kind m) ≡ true → (old.live m ≡ true) × (test_of (new.graph.value m) ≡ test_of (at.graph.value m))

-- a node goes on: only its height may have risen, unless it stands at most at this one
pub record GoesOn (at new : Way) (h m : ℕ) : Type 0 where
  pub value : new.graph.value m ≡ at.graph.value m
  pub cell : new.graph.cell m ≡ at.graph.cell m
  pub done : new.done m ≡ at.done m
  pub kind : new.graph.kind m ≡ at.graph.kind m
  pub later : new.graph.later m ≡ at.graph.later m
  pub level : new.graph.level m ≡ at.graph.level m
  pub era : new.graph.era m ≡ at.graph.era m
  pub result_of : is_watch (at.graph.kind m) ≡ true → new.graph.result_of m ≡ at.graph.result_of m
  pub no_lower : at.height m ≤ new.height m
  pub low : at.height m ≤ h → new.height m ≡ at.height m

-- a node was made at this instant: it has a new number and no cell, is queued, and stands above this height
pub record IsBorn (at new : Way) (h m : ℕ) : Type 0 where
  pub fresh : at.taken m ≡ false
  pub cell : new.graph.cell m ≡ None
  pub done : new.done m ≡ false
  pub queued : new.queued m ≡ Some (new.height m)
  pub above : h < new.height m

-- a queued watch of least height was computed to another key than it had, or for the first time: the era that it had has ended with all eras inside, the choice of its key stands in its era in new nodes, its result reads that and is queued, and all else goes on
pub record Rebuilds (p : Plan) (sources : List Now) (old : Graph) (at new : Way) (w : ℕ) : Type 0 where
  pub height : ℕ
  pub least : IsLeast at w height
  pub watches : is_watch (at.graph.kind w) ≡ true
  pub rule : Rule new.graph p.table sources (cell_in old) w (new.graph.kind w) (new.graph.inputs w)
  pub other_key : old.live w ≡ true → test_of (new.graph.value w) ≢ test_of (at.graph.value w)
  -- the watch itself
  pub live : new.graph.live w ≡ true
  pub done : new.done w ≡ true
  pub kind : new.graph.kind w ≡ at.graph.kind w
  pub inputs : new.graph.inputs w ≡ at.graph.inputs w
  pub later : new.graph.later w ≡ at.graph.later w
  pub level : new.graph.level w ≡ at.graph.level w
  pub era : new.graph.era w ≡ at.graph.era w
  pub result_of : new.graph.result_of w ≡ at.graph.result_of w
  pub same_height : new.height w ≡ at.height w
  -- the other nodes
  pub ended : (m : ℕ) → Inside at.graph (suc w) m → new.graph.live m ≡ false
  pub stays : (m : ℕ) → at.graph.live m ≡ true → (Inside at.graph (suc w) m → ⊥) → new.graph.live m ≡ true
  pub goes_on : (m : ℕ) → m ≢ w → at.graph.live m ≡ true → new.graph.live m ≡ true → GoesOn at new height m
  pub same_inputs : (m : ℕ) → at.graph.live m ≡ true → new.graph.live m ≡ true → m ≢ at.graph.result_of w → new.graph.inputs m ≡ at.graph.inputs m
  pub born : (m : ℕ) → at.graph.live m ≡ false → new.graph.live m ≡ true → IsBorn at new height m
  pub born_inside : (m : ℕ) → at.graph.live m ≡ false → new.graph.live m ≡ true → new.graph.era m ≡ suc w
  pub taken : (m : ℕ) → (at.taken m ≡ true) ⊎ (new.graph.live m ≡ true) → new.taken m ≡ true
  -- the agenda
  pub out : new.queued w ≡ None
  pub result_queued : new.queued (at.graph.result_of w) ≡ Some (new.height (at.graph.result_of w))
  pub queue : (m : ℕ) → at.graph.live m ≡ true → new.graph.live m ≡ true → m ≢ w → m ≢ at.graph.result_of w → new.queued m ≡ option_map (λ k. new.height m) (at.queued m)
  pub no_other : (m : ℕ) → new.graph.live m ≡ false → new.queued m ≡ None
  -- the eras
  pub frame : IsFramed new.graph new.height
  pub stands : (a b : Low) (env : List Part) → at.graph.kind w ≡ watch a b env → Chosen (test_of (new.graph.value w)) (EraStands new.graph p w a env) (EraStands new.graph p w b env)
  pub members : (v : ℕ) → at.graph.live v ≡ true → new.graph.live v ≡ true → v ≢ w → new.graph.members (suc v) ≡ at.graph.members (suc v)
