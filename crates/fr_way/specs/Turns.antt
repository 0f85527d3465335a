-- The steps of which the turning of a watch to another key is made: it is computed, its era ends, another is built, its result is rewired, heights are raised, and the result is queued.
use Rattle.std.specs.Prelude.{◌≡◌, ◌≢◌, ◌⊎◌, ℕ, suc, ◌≤◌, ◌<◌, Bool, true, false, List, [], ◌∷◌, Some, None, Ok, if◌then◌else◌}
use Rattle.std.specs.Option.{option_map}
use Rattle.fr_value.specs.declared.now.Now.{Now}
use Rattle.fr_core.specs.declared.lowered.Low.{Low}
use Rattle.fr_meaning.specs.Words.{test_of}
use Rattle.fr_links.specs.Lists.{has_item}
use Rattle.fr_graph.specs.Graph.{Part, signal, Work, works, watch, result, Graph}
use Rattle.fr_graph.specs.Walk.{Plan, place}
use Rattle.fr_graph.specs.Wired.{Wired}
use Rattle.fr_graph.specs.Known.{Reads, Rule}
use Rattle.fr_way.specs.Frame.{Inside, Holds, Names, AreCalm, is_source, is_watch}
use Rattle.fr_way.specs.Way.{Way, cell_in}
use Rattle.fr_way.specs.Steps.{SameShape, IsLeast, IsBorn}

-- a node is as it was, in a graph and beside it
pub record IsSame (at new : Way) (m : ℕ) : Type 0 where
  pub kind : new.graph.kind m ≡ at.graph.kind m
  pub inputs : new.graph.inputs m ≡ at.graph.inputs m
  pub later : new.graph.later m ≡ at.graph.later m
  pub value : new.graph.value m ≡ at.graph.value m
  pub cell : new.graph.cell m ≡ at.graph.cell m
  pub level : new.graph.level m ≡ at.graph.level m
  pub era : new.graph.era m ≡ at.graph.era m
  pub done : new.done m ≡ at.done m

-- a node that was queued got a value and a cell and counts as computed; all else is as it was
pub record IsSet (at new : Way) (w : ℕ) : Type 0 where
  pub shape : SameShape at.graph new.graph
  pub value : (j : ℕ) → j ≢ w → new.graph.value j ≡ at.graph.value j
  pub cell : (j : ℕ) → j ≢ w → new.graph.cell j ≡ at.graph.cell j
  pub taken : (j : ℕ) → new.taken j ≡ at.taken j
  pub heights : (j : ℕ) → new.height j ≡ at.height j
  pub done : new.done w ≡ true
  pub others : (j : ℕ) → j ≢ w → new.done j ≡ at.done j
  pub out : new.queued w ≡ None
  pub queue : (j : ℕ) → j ≢ w → new.queued j ≡ at.queued j

-- an era has ended, with all eras inside: its nodes live no more and are queued no more; their numbers stay in use
pub record Kills (at new : Way) (x : ℕ) : Type 0 where
  pub decided : (m : ℕ) → Inside at.graph x m ⊎ (Inside at.graph x m → ⊥)
  pub ended : (m : ℕ) → Inside at.graph x m → (new.graph.live m ≡ false) × (new.queued m ≡ None)
  pub stays : (m : ℕ) → (Inside at.graph x m → ⊥) → (new.graph.live m ≡ at.graph.live m) × (new.queued m ≡ at.queued m)
  pub same : (m : ℕ) → IsSame at new m
  pub result_of : (m : ℕ) → new.graph.live m ≡ true → is_watch (at.graph.kind m) ≡ true → new.graph.result_of m ≡ at.graph.result_of m
  pub emptied : new.graph.members x ≡ []
  pub inner : (v : ℕ) → Inside at.graph x v → new.graph.members (suc v) ≡ []
  pub others : (y : ℕ) → y ≢ x → ((v : ℕ) → y ≡ suc v → Inside at.graph x v → ⊥) → new.graph.members y ≡ at.graph.members y
  pub taken : (j : ℕ) → new.taken j ≡ at.taken j
  pub heights : (j : ℕ) → new.height j ≡ at.height j

-- a node wasn't there and lives now
abbrev pub IsNew : Graph → Graph → ℕ → Type 0
IsNew old new m = (old.live m ≡ false) × (new.live m ≡ true)

-- a node is given to what is built: as a variable in scope, or as a source
abbrev pub IsGiven : Graph → List Part → ℕ → Type 0
IsGiven new env j = Reads j env ⊎ ((new.live j ≡ true) × (is_source (new.kind j) ≡ true))

-- what a new node names is given or new, and of the new ones those that it reads or holds have their places before it
pub record IsBehind (old new : Graph) (env : List Part) (place : ℕ → ℕ) (m : ℕ) : Type 0 where
  pub inputs : (j : ℕ) → Reads j (new.inputs m) → IsGiven new env j ⊎ (IsNew old new j × (place j < place m))
  pub held : (j : ℕ) → Holds j (new.kind m) → IsGiven new env j ⊎ (IsNew old new j × (place j < place m))
  pub later : (j : ℕ) → new.later m ≡ Some (signal j) → IsGiven new env j ⊎ IsNew old new j

-- the new nodes of a graph are in this era, each behind what it names, in places below a bound, each watch with a result that reads nothing yet, and each result with its watch; and none reads a value that occurs for ever
pub record AreBuilt (old new : Graph) (x : ℕ) (env : List Part) : Type 0 where
  pub era : (m : ℕ) → IsNew old new m → new.era m ≡ x
  pub no_source : (m : ℕ) → IsNew old new m → is_source (new.kind m) ≡ false
  pub joined : (m : ℕ) → IsNew old new m → has_item (new.members x) m ≡ true
  pub only : (m : ℕ) → has_item (new.members x) m ≡ true → IsNew old new m
  pub place : ℕ → ℕ
  pub many : ℕ
  pub few : (m : ℕ) → IsNew old new m → place m < many
  pub behind : (m : ℕ) → IsNew old new m → IsBehind old new env place m
  pub no_watch : (m j : ℕ) → IsNew old new m → Names new m j → is_watch (new.kind j) ≡ false
  pub results : (v : ℕ) → IsNew old new v → is_watch (new.kind v) ≡ true → IsNew old new (new.result_of v) × (new.kind (new.result_of v) ≡ result) × (place v < place (new.result_of v))
  pub unread : (m : ℕ) → IsNew old new m → new.kind m ≡ result → (new.inputs m ≡ []) × (new.later m ≡ None)
  pub watched : (m : ℕ) → IsNew old new m → new.kind m ≡ result → (v : ℕ) × IsNew old new v × (is_watch (new.kind v) ≡ true) × (new.result_of v ≡ m)
  pub calm : (m : ℕ) (w : Work) → IsNew old new m → new.kind m ≡ works w → AreCalm (new.inputs m)
  pub apart : (u v : ℕ) → IsNew old new u → IsNew old new v → is_watch (new.kind u) ≡ true → is_watch (new.kind v) ≡ true → new.result_of u ≡ new.result_of v → u ≡ v

-- what was made for a choice: nodes above a height, in an era that had none, each behind what it names, all of them used
pub record Grows (at new : Way) (p : Plan) (x h n : ℕ) (e : Low) (env : List Part) : Type 0 where
  pub was_empty : at.graph.members x ≡ []
  pub stays : (m : ℕ) → at.graph.live m ≡ true → new.graph.live m ≡ true
  pub same : (m : ℕ) → at.taken m ≡ true → IsSame at new m
  pub result_of : (m : ℕ) → at.graph.live m ≡ true → is_watch (at.graph.kind m) ≡ true → new.graph.result_of m ≡ at.graph.result_of m
  pub heights : (m : ℕ) → at.taken m ≡ true → new.height m ≡ at.height m
  pub others : (y : ℕ) → y ≢ x → new.graph.members y ≡ at.graph.members y
  -- the new nodes
  pub built : AreBuilt at.graph new.graph x env
  pub born : (m : ℕ) → IsNew at.graph new.graph m → IsBorn at new h m
  pub levelled : (m j : ℕ) → IsNew at.graph new.graph m → Reads j (new.graph.inputs m) → new.height j < new.height m
  pub result_over : (v : ℕ) → IsNew at.graph new.graph v → is_watch (new.graph.kind v) ≡ true → new.height v < new.height (new.graph.result_of v)
  -- the agenda and the numbers in use
  pub queue : (m : ℕ) → at.graph.live m ≡ true → new.queued m ≡ at.queued m
  pub no_other : (m : ℕ) → new.graph.live m ≡ false → new.queued m ≡ None
  pub taken : (m : ℕ) → (at.taken m ≡ true) ⊎ (new.graph.live m ≡ true) → new.taken m ≡ true
  pub no_more : (m : ℕ) → new.taken m ≡ true → (at.taken m ≡ true) ⊎ (new.graph.live m ≡ true)
  -- the choice stands
  pub wired : Wired new.graph p x n e env (new.graph.members x)
  pub all : (place p n e env (new.graph.members x)).left ≡ []

-- a node reads this part and no other; all else is as it was
pub record Rewires (at new : Way) (r : ℕ) (input : Part) : Type 0 where
  pub here : new.graph.inputs r ≡ input ∷ []
  pub inputs : (m : ℕ) → m ≢ r → new.graph.inputs m ≡ at.graph.inputs m
  pub live : (m : ℕ) → new.graph.live m ≡ at.graph.live m
  pub kind : (m : ℕ) → new.graph.kind m ≡ at.graph.kind m
  pub later : (m : ℕ) → new.graph.later m ≡ at.graph.later m
  pub value : (m : ℕ) → new.graph.value m ≡ at.graph.value m
  pub cell : (m : ℕ) → new.graph.cell m ≡ at.graph.cell m
  pub level : (m : ℕ) → new.graph.level m ≡ at.graph.level m
  pub era : (m : ℕ) → new.graph.era m ≡ at.graph.era m
  pub members : (y : ℕ) → new.graph.members y ≡ at.graph.members y
  pub result_of : (m : ℕ) → new.graph.result_of m ≡ at.graph.result_of m
  pub taken : (m : ℕ) → new.taken m ≡ at.taken m
  pub heights : (m : ℕ) → new.height m ≡ at.height m
  pub done : (m : ℕ) → new.done m ≡ at.done m
  pub queue : (m : ℕ) → new.queued m ≡ at.queued m

-- heights rose until every edge leads upwards, also where a node that awaits burial reads, and those in the agenda with them; what stands at most at this height stayed
pub record Raises (at new : Way) (h : ℕ) : Type 0 where
  pub graph : new.graph ≡ at.graph
  pub taken : (m : ℕ) → new.taken m ≡ at.taken m
  pub done : (m : ℕ) → new.done m ≡ at.done m
  pub input : (m j : ℕ) → at.graph.live m ≡ true → Reads j (at.graph.inputs m) → new.height j < new.height m
  pub owner : (m w : ℕ) → at.graph.live m ≡ true → at.graph.era m ≡ suc w → new.height w < new.height m
  pub result : (w : ℕ) → at.graph.live w ≡ true → is_watch (at.graph.kind w) ≡ true → new.height w < new.height (at.graph.result_of w)
  pub dead : (m j : ℕ) → at.taken m ≡ true → at.graph.live m ≡ false → Reads j (at.graph.inputs m) → new.height j < new.height m
  pub no_lower : (m : ℕ) → at.height m ≤ new.height m
  pub low : (m : ℕ) → at.height m ≤ h → new.height m ≡ at.height m
  pub queue : (m : ℕ) → new.queued m ≡ option_map (λ k. new.height m) (at.queued m)

-- a node is queued at its height; all else is as it was
pub record Queues (at new : Way) (r : ℕ) : Type 0 where
  pub graph : new.graph ≡ at.graph
  pub taken : (m : ℕ) → new.taken m ≡ at.taken m
  pub heights : (m : ℕ) → new.height m ≡ at.height m
  pub done : (m : ℕ) → new.done m ≡ at.done m
  pub here : new.queued r ≡ Some (new.height r)
  pub queue : (m : ℕ) → m ≢ r → new.queued m ≡ at.queued m

-- the era of a watch that was computed has ended
pub record Leaves (at t1 t2 : Way) (w h : ℕ) : Type 0 where
  pub least : IsLeast at w h
  pub watches : is_watch (at.graph.kind w) ≡ true
  pub sets : IsSet at t1 w
  pub kills : Kills t1 t2 (suc w)

-- where a choice is to be built: its era has no members, its owner lives, no part in scope names what doesn't live or a watch, every watch has a result, which lives, what lives is in use, and only that is queued
pub record IsClear (at : Way) (w : ℕ) (env : List Part) : Type 0 where
  pub empty : at.graph.members (suc w) ≡ []
  pub owner : at.graph.live w ≡ true
  pub scope : (j : ℕ) → Reads j env → at.graph.live j ≡ true
  pub no_watch : (j : ℕ) → Reads j env → is_watch (at.graph.kind j) ≡ false
  pub results : (v : ℕ) → at.graph.live v ≡ true → is_watch (at.graph.kind v) ≡ true → (at.graph.live (at.graph.result_of v) ≡ true) × (at.graph.kind (at.graph.result_of v) ≡ result)
  pub taken : (m : ℕ) → at.graph.live m ≡ true → at.taken m ≡ true
  pub queue : (m : ℕ) → at.graph.live m ≡ false → at.queued m ≡ None

-- a queued watch of least height is computed by its rule to another key than it had, or for the first time; its era ends, and the choice of its key is built in it
pub record Rechooses (p : Plan) (sources : List Now) (old : Graph) (at t1 t2 t3 : Way) (w : ℕ) : Type 0 where
  pub height : ℕ
  pub least : IsLeast at w height
  pub when_true : Low
  pub when_false : Low
  pub scope : List Part
  pub kind : at.graph.kind w ≡ watch when_true when_false scope
  pub holds : Bool
  pub told : test_of (t1.graph.value w) ≡ Ok holds
  pub rule : Rule t1.graph p.table sources (cell_in old) w (t1.graph.kind w) (t1.graph.inputs w)
  pub other_key : old.live w ≡ true → test_of (t1.graph.value w) ≢ test_of (at.graph.value w)
  pub sets : IsSet at t1 w
  pub kills : Kills t1 t2 (suc w)
  pub grows : Grows t2 t3 p (suc w) height (at.graph.level w) (if holds then when_true else when_false) scope

-- what stands for the choice that was built
abbrev pub chosen_part : (p : Plan) (sources : List Now) (old : Graph) (at t1 t2 t3 : Way) (w : ℕ) → Rechooses p sources old at t1 t2 t3 w → Part
chosen_part p sources old at t1 t2 t3 w c = (place p (at.graph.level w) (if c.holds then c.when_true else c.when_false) c.scope (t3.graph.members (suc w))).part

-- a queued watch of least height, with two choices over variables in scope, is computed by its rule to another key than it had, or for the first time; its era ends, the choice of its key is built in it, and its result reads what stands for that
pub record Replaces (p : Plan) (sources : List Now) (old : Graph) (at t1 t2 t3 t4 : Way) (w : ℕ) : Type 0 where
  pub height : ℕ
  pub least : IsLeast at w height
  pub when_true : Low
  pub when_false : Low
  pub scope : List Part
  pub kind : at.graph.kind w ≡ watch when_true when_false scope
  pub holds : Bool
  pub told : test_of (t1.graph.value w) ≡ Ok holds
  pub rule : Rule t1.graph p.table sources (cell_in old) w (t1.graph.kind w) (t1.graph.inputs w)
  pub other_key : old.live w ≡ true → test_of (t1.graph.value w) ≢ test_of (at.graph.value w)
  pub sets : IsSet at t1 w
  pub kills : Kills t1 t2 (suc w)
  pub grows : Grows t2 t3 p (suc w) height (at.graph.level w) (if holds then when_true else when_false) scope
  pub rewires : Rewires t3 t4 (at.graph.result_of w) (place p (at.graph.level w) (if holds then when_true else when_false) scope (t3.graph.members (suc w))).part

-- a watch turns: its choice is replaced, heights are raised, and its result is queued
pub record Turns (p : Plan) (sources : List Now) (old : Graph) (at t1 t2 t3 t4 t5 new : Way) (w : ℕ) : Type 0 where
  pub replaces : Replaces p sources old at t1 t2 t3 t4 w
  pub raises : Raises t4 t5 replaces.height
  pub queues : Queues t5 new (at.graph.result_of w)
