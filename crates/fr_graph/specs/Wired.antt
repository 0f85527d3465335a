-- Which nodes stand where a walk finds the members of an expression.
use Rattle.std.specs.Prelude.{◌≡◌, ℕ, zero, suc, ◌<◌, Bool, true, false, ◌&&◌, List, [], ◌∷◌, ◌++◌, take, length, slice_get, Option, Some, None, Result, Ok, Err}
use Rattle.fr_value.specs.declared.now.Bad.{Bad}
use Rattle.fr_core.specs.declared.core_form.Operator.TheVariants as operator
use Rattle.fr_core.specs.declared.lowered.Low.{Low, out-Low}
use Rattle.fr_core.specs.declared.lowered.Low.TheOpen.{Low-F}
use Rattle.fr_core.specs.declared.lowered.Slot.{Slot}
use Rattle.fr_core.specs.declared.lowered.Slot.TheVariants as slot
use Rattle.fr_meaning.specs.Words.{test_of}
use Rattle.fr_graph.specs.Graph.{Part, steady, signal, Work, operates, handles, loops, runs, feeds, Kind, source, works, watch, result, Graph, IsClean, work_line, is_plain}
use Rattle.fr_graph.specs.Walk.{Plan, first, rest, Walk, AllPlaced, place_all, all_steady, steady_values, slot_parts, low_body, place}

-- a node of this era and kind, with these inputs and so many levels below its expression, is the next member
pub record IsNext (g : Graph) (x n : ℕ) (k : Kind) (ins : List Part) (behind : Option Part) (ms : List ℕ) : Type 0 where
  pub there : 0 < length ms
  pub live : g.live (first ms) ≡ true
  pub era : g.era (first ms) ≡ x
  pub level : g.level (first ms) ≡ n
  pub kind : g.kind (first ms) ≡ k
  pub inputs : g.inputs (first ms) ≡ ins
  pub later : g.later (first ms) ≡ behind

-- a watch and its result are the next two members; the result's input is told of its era
pub record AreNext (g : Graph) (x n : ℕ) (a b : Low) (env : List Part) (m : ℕ) (ms : List ℕ) : Type 0 where
  pub watch : IsNext g x n (watch a b env) (signal m ∷ []) None ms
  pub there : 0 < length (rest ms)
  pub live : g.live (first (rest ms)) ≡ true
  pub era : g.era (first (rest ms)) ≡ x
  pub kind : g.kind (first (rest ms)) ≡ result
  pub result : g.result_of (first ms) ≡ first (rest ms)

-- the inputs of a work among its parts, and the part that its cell takes behind the instant
abbrev pub inputs_of : Work → List Part → List Part
inputs_of (operates operator.Delay) ps = take 1 ps
inputs_of (operates operator.DelayE) ps = []
inputs_of w ps = ps

abbrev pub later_of : Work → List Part → Option Part
later_of (operates operator.Delay) ps = slice_get ps 1
later_of (operates operator.DelayE) ps = slice_get ps 0
later_of w ps = None

-- the fact holds, unless this does
abbrev pub Unless : Bool → Type 0 → Type 0
Unless true A = Unit {0}
Unless false A = A

-- a work that is a value has a clean line, and the node of any other is the next member
abbrev pub Either : Bool → Type 0 → Type 0 → Type 0
Either true A B = A
Either false A B = B

abbrev pub WorkStands : Graph → Plan → ℕ → ℕ → Work → List Part → List ℕ → Type 0
WorkStands g p x n w ps ms = Either (is_plain w && all_steady ps) (IsClean (work_line p.table n w None (steady_values ps))) (IsNext g x n (works w) (inputs_of w ps) (later_of w ps) ms)

-- the node of a source
pub record IsSource (g : Graph) (p : Plan) (s : ℕ) : Type 0 where
  pub live : g.live (p.node_of s) ≡ true
  pub kind : g.kind (p.node_of s) ≡ source s

-- the nodes of the sources among slots
abbrev pub SlotsStand : Graph → Plan → List Slot → Type 0
SlotsStand g p [] = Unit {0}
SlotsStand g p (slot.Var x ∷ ss) = SlotsStand g p ss
SlotsStand g p (slot.Source s ∷ ss) = IsSource g p s.0 × SlotsStand g p ss

-- what stands for an expression, over what stands for the variables in scope and over members
abbrev pub Standing : Type 1
Standing = Low → List Part → List ℕ → Type 0

-- what stands for some expressions from left to right
abbrev pub AllStand : Walk → Standing → List Part → List Low → List ℕ → Type 0
AllStand walk S env [] ms = Unit {0}
AllStand walk S env (e ∷ es) ms = S e env ms × AllStand walk S env es (walk e env ms).left

-- a fact of the first or of the second, by what a test gives, which it does
abbrev pub Chosen : Result Bool Bad → Type 0 → Type 0 → Type 0
Chosen (Err bad) A B = ⊥
Chosen (Ok true) A B = A
Chosen (Ok false) A B = B

-- a switch behind its test
abbrev pub SwitchStands : Graph → ℕ → ℕ → Standing → Low → Low → List Part → Part → List ℕ → Type 0
SwitchStands g x n S a b env (steady v) ms = Chosen (test_of v) (S a env ms) (S b env ms)
SwitchStands g x n S a b env (signal m) ms = AreNext g x n a b env m ms

-- a call behind its arguments: there is a function of so many parameters
abbrev pub CallStands : Standing → Option Low → AllPlaced → Type 0
CallStands S None q = ⊥
CallStands S (Some body) q = S body q.parts q.left

-- one case for each shape
abbrev pub ShapeStands : Graph → Plan → ℕ → ℕ → Walk → Standing → List Part → List ℕ → Low-F Low → Type 0
ShapeStands g p x n walk S env ms (Low-F.Lit v) = Unit {0}
ShapeStands g p x n walk S env ms (Low-F.Var v) = v.0 < length env
ShapeStands g p x n walk S env ms (Low-F.Source s) = IsSource g p s.0
ShapeStands g p x n walk S env ms (Low-F.Let es body) = let q = place_all walk env es ms in AllStand walk S env es ms × S body (env ++ q.parts) q.left
ShapeStands g p x n walk S env ms (Low-F.If site test a b) = let t = walk test env ms in S test env ms × SwitchStands g x n S a b env t.part t.left
ShapeStands g p x n walk S env ms (Low-F.Apply f es) = AllStand walk S env es ms × CallStands S (low_body (slice_get p.functions f.0) (length es)) (place_all walk env es ms)
ShapeStands g p x n walk S env ms (Low-F.Operator o es) = let q = place_all walk env es ms in AllStand walk S env es ms × WorkStands g p x n (operates o) q.parts q.left
ShapeStands g p x n walk S env ms (Low-F.Handler h es id ss) =
    let q = place_all walk env es ms in
    AllStand walk S env es ms × SlotsStand g p ss × WorkStands g p x n (handles h id.0) (q.parts ++ slot_parts p env ss) q.left
ShapeStands g p x n walk S env ms (Low-F.Loop l es id ss) =
    let q = place_all walk env es ms in
    AllStand walk S env es ms × SlotsStand g p ss × WorkStands g p x n (loops l id.0) (q.parts ++ slot_parts p env ss) q.left
ShapeStands g p x n walk S env ms (Low-F.Feedback init body) =
    let i = walk init env ms in
    let inside = env ++ signal (first i.left) ∷ [] in
    S init env ms × S body inside (rest i.left) × IsNext g x n (works feeds) (i.part ∷ []) (Some (walk body inside (rest i.left)).part) i.left
ShapeStands g p x n walk S env ms (Low-F.Collapse id ss) = SlotsStand g p ss × WorkStands g p x n (runs id.0) (slot_parts p env ss) ms

-- the members from here on are those of an expression in an era, and what has a value has it without an error; what is in the eras of watches isn't asked
unfoldable pub Wired : Graph → Plan → ℕ → ℕ → Standing
Wired g p x zero e env ms = ⊥
Wired g p x (suc n) e env ms = ShapeStands g p x n (place p n) (Wired g p x n) env ms (out-Low e)

-- the era of a watch has the members of what it chose, each of them used, and its result has their part
pub record EraStands (g : Graph) (p : Plan) (w : ℕ) (e : Low) (env : List Part) : Type 0 where
  pub wired : Wired g p (suc w) (g.level w) e env (g.members (suc w))
  pub all : (place p (g.level w) e env (g.members (suc w))).left ≡ []
  pub input : g.inputs (g.result_of w) ≡ (place p (g.level w) e env (g.members (suc w))).part ∷ []
