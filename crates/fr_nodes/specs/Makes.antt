-- What the making of a node does to a graph under way.
use Rattle.std.specs.Prelude.{◌≡◌, ◌≢◌, ℕ, suc, ◌<◌, true, false, List, [], ◌∷◌, ◌++◌, Some, None}
use Rattle.fr_core.specs.declared.lowered.Low.{Low}
use Rattle.fr_graph.specs.Graph.{Part, signal, Kind, watch, result}
use Rattle.fr_graph.specs.Known.{Reads}
use Rattle.fr_way.specs.Frame.{is_watch}
use Rattle.fr_way.specs.Way.{Way}
use Rattle.fr_way.specs.Turns.{IsSame}

-- a node is as it was, with its height and its place in the agenda, and so is its result, where it is a watch that has one
pub record IsStill (at new : Way) (m : ℕ) : Type 0 where
  pub live : new.graph.live m ≡ at.graph.live m
  pub taken : new.taken m ≡ true
  pub same : IsSame at new m
  pub height : new.height m ≡ at.height m
  pub queued : new.queued m ≡ at.queued m
  pub result_of : is_watch (at.graph.kind m) ≡ true → at.graph.kind (at.graph.result_of m) ≡ result → new.graph.result_of m ≡ at.graph.result_of m

-- a number is still free
pub record IsFree (at new : Way) (m : ℕ) : Type 0 where
  pub live : new.graph.live m ≡ false
  pub taken : new.taken m ≡ false
  pub queued : new.queued m ≡ at.queued m

-- a number that was free has a node of this kind, with these inputs and so many levels below its expression, in this era: not computed, without a cell, queued, and above what it reads and the owner of its era
pub record IsMade (at new : Way) (m x n : ℕ) (k : Kind) (inputs : List Part) : Type 0 where
  pub fresh : at.taken m ≡ false
  pub absent : at.graph.live m ≡ false
  pub live : new.graph.live m ≡ true
  pub taken : new.taken m ≡ true
  pub kind : new.graph.kind m ≡ k
  pub reads : new.graph.inputs m ≡ inputs
  pub later : new.graph.later m ≡ None
  pub cell : new.graph.cell m ≡ None
  pub level : new.graph.level m ≡ n
  pub era : new.graph.era m ≡ x
  pub done : new.done m ≡ false
  pub queued : new.queued m ≡ Some (new.height m)
  pub above_inputs : (j : ℕ) → Reads j inputs → new.height j < new.height m
  pub above_owner : (w : ℕ) → x ≡ suc w → new.height w < new.height m

-- this node and no other was made, as the last member of its era
pub record Makes (at new : Way) (m x n : ℕ) (k : Kind) (inputs : List Part) : Type 0 where
  pub made : IsMade at new m x n k inputs
  pub still : (j : ℕ) → at.taken j ≡ true → IsStill at new j
  pub free : (j : ℕ) → at.taken j ≡ false → j ≢ m → IsFree at new j
  pub members : new.graph.members x ≡ at.graph.members x ++ m ∷ []
  pub others : (y : ℕ) → y ≢ x → new.graph.members y ≡ at.graph.members y

-- a watch and its result were made, one behind the other
pub record MakesSwitch (at new : Way) (w r x n : ℕ) (a b : Low) (env : List Part) (test : ℕ) : Type 0 where
  pub watch : IsMade at new w x n (watch a b env) (signal test ∷ [])
  pub result : IsMade at new r x n result []
  pub apart : w ≢ r
  pub result_of : new.graph.result_of w ≡ r
  pub above : new.height w < new.height r
  pub still : (j : ℕ) → at.taken j ≡ true → IsStill at new j
  pub free : (j : ℕ) → at.taken j ≡ false → j ≢ w → j ≢ r → IsFree at new j
  pub members : new.graph.members x ≡ at.graph.members x ++ w ∷ r ∷ []
  pub others : (y : ℕ) → y ≢ x → new.graph.members y ≡ at.graph.members y

-- a node has this part as what its cell takes behind the instant; all else is as it was
pub record Ties (at new : Way) (m : ℕ) (last : Part) : Type 0 where
  pub live : (j : ℕ) → new.graph.live j ≡ at.graph.live j
  pub here : new.graph.later m ≡ Some last
  pub later : (j : ℕ) → j ≢ m → new.graph.later j ≡ at.graph.later j
  pub kind : (j : ℕ) → new.graph.kind j ≡ at.graph.kind j
  pub inputs : (j : ℕ) → new.graph.inputs j ≡ at.graph.inputs j
  pub value : (j : ℕ) → new.graph.value j ≡ at.graph.value j
  pub cell : (j : ℕ) → new.graph.cell j ≡ at.graph.cell j
  pub level : (j : ℕ) → new.graph.level j ≡ at.graph.level j
  pub era : (j : ℕ) → new.graph.era j ≡ at.graph.era j
  pub members : (y : ℕ) → new.graph.members y ≡ at.graph.members y
  pub result_of : (j : ℕ) → new.graph.result_of j ≡ at.graph.result_of j
  pub taken : (j : ℕ) → new.taken j ≡ at.taken j
  pub heights : (j : ℕ) → new.height j ≡ at.height j
  pub done : (j : ℕ) → new.done j ≡ at.done j
  pub queued : (j : ℕ) → new.queued j ≡ at.queued j

-- each node that these parts name lives
abbrev pub AreThere : Way → List Part → Type 0
AreThere at ps = (j : ℕ) → Reads j ps → at.graph.live j ≡ true
