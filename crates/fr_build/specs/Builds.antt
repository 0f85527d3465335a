-- What building does to a graph under way.
use Rattle.std.specs.Prelude.{◌≡◌, ◌≢◌, ◌⊎◌, ℕ, suc, ◌<◌, ◌≤◌, Bool, true, false, List, [], ◌∷◌, ◌++◌, length, Option, Some, None, Result, Ok, Err}
use Rattle.fr_links.specs.Lists.{has_item}
use Rattle.fr_value.specs.declared.now.Bad.{Bad}
use Rattle.fr_value.specs.declared.now.Held.{Held}
use Rattle.fr_meaning.specs.Words.{Seen, test_of}
use Rattle.fr_core.specs.declared.lowered.Low.{Low}
use Rattle.fr_graph.specs.Graph.{Part, signal, Work, Kind, result, Graph}
use Rattle.fr_graph.specs.Walk.{Placed, AllPlaced, place_all, place_work, by_next, place}
use Rattle.fr_graph.specs.Known.{Reads}
use Rattle.fr_graph.specs.Wired.{AllStand, IsNext, Wired, WorkStands}
use Rattle.fr_graph.specs.Fails.{AnyFails, Fails, WorkFails}
use Rattle.fr_way.specs.Frame.{AreCalm, Holds, Names, is_source, is_watch}
use Rattle.fr_way.specs.Way.{Way}
use Rattle.fr_nodes.specs.Kinds.{Sites, part_of, parts_of}
use Rattle.fr_nodes.specs.Makes.{IsFree}
use Rattle.fr_way.specs.Turns.{IsSame}
use Rattle.fr_build.specs.Ready.{Planned, plan_of, LiveAreTaken, IsGround, IsPlanReady, Matches, AllMatch, PlanMatches}
use Rattle.fr_build.specs.Stops.{StopsWhere}
use Rattle.fr_build.specs.declared.stops.BuildStop.{BuildStop}

-- a node is among those that parts in scope name, a source, or among these
abbrev pub InReach : Graph → List Part → List ℕ → ℕ → Type 0
InReach g env ms j = (Reads j env ⊎ ((g.live j ≡ true) × (is_source (g.kind j) ≡ true))) ⊎ (has_item ms j ≡ true)

-- what a part names is in reach
abbrev pub PartInReach : Graph → List Part → List ℕ → Part → Type 0
PartInReach g env ms p = (j : ℕ) → p ≡ signal j → InReach g env ms j

-- a node reads and holds only what is in reach
pub record NamesBefore (g : Graph) (env : List Part) (before : List ℕ) (m : ℕ) : Type 0 where
  pub inputs : (j : ℕ) → Reads j (g.inputs m) → InReach g env before j
  pub held : (j : ℕ) → Holds j (g.kind m) → InReach g env before j

-- each of these nodes in turn names what is before it
abbrev pub InTurn : Graph → List Part → List ℕ → List ℕ → Type 0
InTurn g env before [] = Unit {0}
InTurn g env before (m ∷ ms) = NamesBefore g env before m × InTurn g env (m ∷ before) ms

-- each of these numbers stands here once
abbrev pub IsOnce : List ℕ → Type 0
IsOnce [] = Unit {0}
IsOnce (m ∷ ms) = (has_item ms m ≡ false) × IsOnce ms

-- the second of two stands behind the first
abbrev pub Precedes : List ℕ → ℕ → ℕ → Type 0
Precedes [] first second = ⊥
Precedes (m ∷ ms) first second = ((m ≡ first) × (has_item ms second ≡ true)) ⊎ Precedes ms first second

-- a node is as it was, with its height and its place in the agenda, and so is its result, where it is a watch and that is there
pub record Stays (at new : Way) (m : ℕ) : Type 0 where
  pub live : new.graph.live m ≡ at.graph.live m
  pub taken : new.taken m ≡ true
  pub same : IsSame at new m
  pub height : new.height m ≡ at.height m
  pub queued : new.queued m ≡ at.queued m
  pub result_of : is_watch (at.graph.kind m) ≡ true → at.taken (at.graph.result_of m) ≡ true → at.graph.kind (at.graph.result_of m) ≡ result
      → new.graph.result_of m ≡ at.graph.result_of m

-- a node was made at this instant, in this era
pub record IsNewIn (at new : Way) (x m : ℕ) : Type 0 where
  pub fresh : at.taken m ≡ false
  pub absent : at.graph.live m ≡ false
  pub live : new.graph.live m ≡ true
  pub taken : new.taken m ≡ true
  pub era : new.graph.era m ≡ x
  pub cell : new.graph.cell m ≡ None
  pub done : new.done m ≡ false
  pub queued : new.queued m ≡ Some (new.height m)
  pub no_source : is_source (new.graph.kind m) ≡ false
  pub calm : AreCalm (new.graph.inputs m)
  pub above_inputs : (j : ℕ) → Reads j (new.graph.inputs m) → new.height j < new.height m

-- these watches and results belong together
pub record AreSwitches (new : Way) (ms : List ℕ) : Type 0 where
  pub follows : (w : ℕ) → has_item ms w ≡ true → is_watch (new.graph.kind w) ≡ true → Precedes ms w (new.graph.result_of w)
  pub results : (w : ℕ) → has_item ms w ≡ true → is_watch (new.graph.kind w) ≡ true → (new.graph.kind (new.graph.result_of w) ≡ result) × (new.height w < new.height (new.graph.result_of w))
  pub apart : (v w : ℕ) → has_item ms v ≡ true → has_item ms w ≡ true → is_watch (new.graph.kind v) ≡ true → is_watch (new.graph.kind w) ≡ true → new.graph.result_of v ≡ new.graph.result_of w
      → v ≡ w
  pub watched : (m : ℕ) → has_item ms m ≡ true → new.graph.kind m ≡ result → (w : ℕ) × (has_item ms w ≡ true) × (is_watch (new.graph.kind w) ≡ true) × (new.graph.result_of w ≡ m)
  pub unread : (m : ℕ) → has_item ms m ≡ true → new.graph.kind m ≡ result → (new.graph.inputs m ≡ []) × (new.graph.later m ≡ None)

-- no part in scope names a watch
abbrev pub NamesNoWatch : Graph → List Part → Type 0
NamesNoWatch g env = (j : ℕ) → Reads j env → is_watch (g.kind j) ≡ false

-- these nodes were added to an era, each once, above its owner, and each naming what is before it; all else is as it was
pub record Grew (at new : Way) (x : ℕ) (env : List Part) (added : List ℕ) : Type 0 where
  pub members : new.graph.members x ≡ at.graph.members x ++ added
  pub others : (y : ℕ) → y ≢ x → new.graph.members y ≡ at.graph.members y
  pub still : (j : ℕ) → at.taken j ≡ true → Stays at new j
  pub free : (j : ℕ) → at.taken j ≡ false → has_item added j ≡ false → IsFree at new j
  pub once : IsOnce added
  pub born : (m : ℕ) → has_item added m ≡ true → IsNewIn at new x m
  pub above_owner : (w m : ℕ) → x ≡ suc w → at.taken w ≡ true → has_item added m ≡ true → new.height w < new.height m
  pub turn : InTurn new.graph env [] added
  pub later : (m j : ℕ) → has_item added m ≡ true → new.graph.later m ≡ Some (signal j) → InReach new.graph env added j
  pub switches : AreSwitches new added
  pub no_watch : NamesNoWatch at.graph env → (m j : ℕ) → has_item added m ≡ true → Names new.graph m j → is_watch (new.graph.kind j) ≡ false

-- what stands for an expression was built: the walk goes over the added nodes and gives this part, and it stands
pub record Builds (at new : Way) (x : ℕ) (env : List Part) (walk : List ℕ → Placed) (S : Graph → List ℕ → Type 0) (part : Part) : Type 0 where
  pub added : List ℕ
  pub grew : Grew at new x env added
  pub reach : PartInReach new.graph env added part
  pub no_watch : NamesNoWatch at.graph env → NamesNoWatch new.graph (part ∷ [])
  pub placed : (left : List ℕ) → walk (added ++ left) ≡ record { part = part; left = left }
  pub stands : (left : List ℕ) → S new.graph (added ++ left)

-- what stands for some expressions was built
pub record BuildsAll (at new : Way) (x : ℕ) (env : List Part) (walk : List ℕ → AllPlaced) (S : Graph → List ℕ → Type 0) (parts : List Part) : Type 0 where
  pub added : List ℕ
  pub grew : Grew at new x env added
  pub reach : (j : ℕ) → Reads j parts → InReach new.graph env added j
  pub no_watch : NamesNoWatch at.graph env → NamesNoWatch new.graph parts
  pub placed : (left : List ℕ) → walk (added ++ left) ≡ record { parts = parts; left = left }
  pub stands : (left : List ℕ) → S new.graph (added ++ left)

-- what stands for an expression, where the choices at its sites and at those of all functions are those of its switches
abbrev pub StandsBy : Sites → Planned → ℕ → ℕ → Low → List Part → Graph → List ℕ → Type 0
StandsBy sites planned x n e env g ms = PlanMatches sites planned → Matches sites (length env) e → Wired g (plan_of planned) x n e env ms

-- the nodes of an expression were made
abbrev pub BuildsExpr : Sites → Way → Way → Planned → ℕ → ℕ → Low → List Part → Part → Type 0
BuildsExpr sites at new planned x n e env part = Builds at new x env (place (plan_of planned) n e env) (StandsBy sites planned x n e env) part

-- what stands for some expressions, by the same choices
abbrev pub AllStandBy : Sites → Planned → ℕ → ℕ → List Low → List Part → Graph → List ℕ → Type 0
AllStandBy sites planned x n es env g ms =
    PlanMatches sites planned → AllMatch sites (length env) es → AllStand (place (plan_of planned) n) (Wired g (plan_of planned) x n) env es ms

-- the nodes of some expressions were made, from left to right
abbrev pub BuildsParts : Sites → Way → Way → Planned → ℕ → ℕ → List Low → List Part → List Part → Type 0
BuildsParts sites at new planned x n es env parts = BuildsAll at new x env (place_all (place (plan_of planned) n) env es) (AllStandBy sites planned x n es env) parts

-- a work over its parts became its value or a node
abbrev pub BuildsWork : Way → Way → Planned → ℕ → ℕ → Work → List Part → Part → Type 0
BuildsWork at new planned x n w ps part = Builds at new x ps (place_work (plan_of planned) n w ps) (λ g ms. WorkStands g (plan_of planned) x n w ps ms) part

-- a node was made of this kind, with these inputs and this part for its cell, all of them in scope
abbrev pub BuildsNode : Way → Way → ℕ → ℕ → Kind → List Part → List Part → Option Part → Part → Type 0
BuildsNode at new x n k env inputs later part = Builds at new x env by_next (λ g ms. IsNext g x n k inputs later ms) part

-- a walk fails behind some members, whatever comes behind them
abbrev pub FailsBehind : (List ℕ → Type 0) → Type 0
FailsBehind F = (added : List ℕ) × ((left : List ℕ) → F (added ++ left))

-- building stopped: with an error only where evaluating refuses a part that never changes
abbrev pub StopsBy : BuildStop → (List ℕ → Type 0) → Type 0
StopsBy s F = StopsWhere s (FailsBehind F)

-- the building of an expression stopped
abbrev pub ExprStops : Planned → ℕ → Low → List Part → BuildStop → Type 0
ExprStops planned n e env s = StopsBy s (Fails (plan_of planned) n e env)

-- the building of some expressions stopped
abbrev pub PartsStop : Planned → ℕ → List Low → List Part → BuildStop → Type 0
PartsStop planned n es env s = StopsBy s (AnyFails (place (plan_of planned) n) (Fails (plan_of planned) n) env es)

-- the building of a work stopped
abbrev pub WorkStops : Planned → ℕ → Work → List Part → BuildStop → Type 0
WorkStops planned n w ps s = StopsWhere s (WorkFails (plan_of planned) n w ps)

-- where a choice is to be built: the numbers of live nodes are in use, nothing else is queued, the watch has this height and its era no members, each watch has a result, and what is in scope is no watch
pub record CanBuild (at : Way) (w h : ℕ) (env : List Part) : Type 0 where
  pub taken : LiveAreTaken at
  pub idle : (m : ℕ) → at.graph.live m ≡ false → at.queued m ≡ None
  pub owner : at.taken w ≡ true
  pub height : at.height w ≡ h
  pub empty : at.graph.members (suc w) ≡ []
  pub results : (v : ℕ) → at.graph.live v ≡ true → is_watch (at.graph.kind v) ≡ true → (at.graph.live (at.graph.result_of v) ≡ true) × (at.graph.kind (at.graph.result_of v) ≡ result)
  pub no_watch : NamesNoWatch at.graph env

-- building may start: so many levels are left at most, the plan is ready, the ground is there, and so is what is asked of the expressions
pub record MayBuild (most : ℕ) (planned : Planned) (n x : ℕ) (way : Sites → Way) (has_era : ℕ → Bool) (env : List Part) (Fits : Type 0) : Type 0 where
  pub levels : n ≤ most
  pub plan : IsPlanReady planned
  pub ground : IsGround way has_era x env planned.sources
  pub fits : Fits

-- an expression was built: what is in scope and the eras are as before, and its nodes were made, whatever the choices at the sites
pub record ExprMade (planned : Planned) (x n : ℕ) (e : Low) (scope after : List Held) (old new : Sites → Way) (was now : ℕ → Bool) (held : Held) : Type 0 where
  pub env : after ≡ scope
  pub eras : (y : ℕ) → now y ≡ was y
  pub builds : (sites : Sites) → BuildsExpr sites (old sites) (new sites) planned x n e (parts_of scope) (part_of held)

-- an expression was built, or its building stopped
abbrev pub ExprOutcome : Planned → ℕ → ℕ → Low → List Held → List Held → (Sites → Way) → (Sites → Way) → (ℕ → Bool) → (ℕ → Bool) → Result Held BuildStop → Type 0
ExprOutcome planned x n e scope after old new was now (Ok held) = ExprMade planned x n e scope after old new was now held
ExprOutcome planned x n e scope after old new was now (Err s) = ExprStops planned n e (parts_of scope) s

-- expressions were built from left to right
pub record PartsMade (planned : Planned) (x n : ℕ) (es : List Low) (scope after : List Held) (old new : Sites → Way) (was now : ℕ → Bool) (parts : List Held) : Type 0 where
  pub env : after ≡ scope
  pub eras : (y : ℕ) → now y ≡ was y
  pub builds : (sites : Sites) → BuildsParts sites (old sites) (new sites) planned x n es (parts_of scope) (parts_of parts)

-- expressions were built, or their building stopped
abbrev pub PartsOutcome : Planned → ℕ → ℕ → List Low → List Held → List Held → (Sites → Way) → (Sites → Way) → (ℕ → Bool) → (ℕ → Bool) → Result (List Held) BuildStop → Type 0
PartsOutcome planned x n es scope after old new was now (Ok parts) = PartsMade planned x n es scope after old new was now parts
PartsOutcome planned x n es scope after old new was now (Err s) = PartsStop planned n es (parts_of scope) s

-- a test of this value chooses the one or the other
abbrev pub ChoosesBy : Result Bool Bad → Low → Low → Low → Type 0
ChoosesBy (Err bad) a b c = ⊥
ChoosesBy (Ok true) a b c = c ≡ a
ChoosesBy (Ok false) a b c = c ≡ b

abbrev pub Chooses : Seen → Low → Low → Low → Type 0
Chooses v a b c = ChoosesBy (test_of v) a b c
