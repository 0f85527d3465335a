-- Where a node stands in a walk while an instant is under way, and what it is for a node to err.
use Rattle.std.specs.Prelude.{◌≡◌, ◌⊎◌, ℕ, zero, suc, Bool, ◌&&◌, if◌then◌else◌, List, [], ◌∷◌, ◌++◌, length, slice_get, Option, None, Some, Ok, Result, Err, true}
use Rattle.fr_value.specs.declared.now.Bad.{Bad}
use Rattle.fr_core.specs.declared.lowered.Low.{Low, out-Low}
use Rattle.fr_core.specs.declared.lowered.Low.TheOpen.{Low-F}
use Rattle.fr_core.specs.declared.lowered.LowItem.{LowItem}
use Rattle.fr_core.specs.declared.lowered.LowItem.TheVariants as low_item
use Rattle.fr_meaning.specs.Words.{Seen, test_of}
use Rattle.fr_meaning.specs.Cells.{Cell}
use Rattle.fr_graph.specs.Graph.{Part, steady, signal, Work, operates, handles, loops, runs, Kind, works, watch, Graph, part_value, part_values, IsClean, work_line, is_plain, is_late}
use Rattle.fr_graph.specs.Walk.{Plan, first, rest, Walk, AllPlaced, place_all, all_steady, slot_parts, low_body, place}
use Rattle.fr_graph.specs.Wired.{Standing, Either, Chosen}
use Rattle.fr_graph.specs.Known.{IsKnown, latch}
use Rattle.fr_graph.specs.Fails.{Fails}

-- the node stands among some expressions
abbrev pub AnyOccurs : Walk → Standing → List Part → List Low → List ℕ → Type 0
AnyOccurs walk O env [] ms = ⊥
AnyOccurs walk O env (e ∷ es) ms = O e env ms ⊎ AnyOccurs walk O env es (walk e env ms).left

-- it is the node of a work that has one
abbrev pub WorkOccurs : ℕ → Work → List Part → List ℕ → Type 0
WorkOccurs m w ps ms = Either (is_plain w && all_steady ps) ⊥ (m ≡ first ms)

-- it is the watch of a switch whose test varies, or stands in the watch's era, if the watch is known, or in the choice of a switch whose test doesn't
abbrev pub SwitchOccurs : Graph → (ℕ → Type 0) → ℕ → Standing → Low → Low → List Part → Part → List ℕ → Type 0
SwitchOccurs g known m O a b env (steady v) ms = Chosen (test_of v) (O a env ms) (O b env ms)
SwitchOccurs g known m O a b env (signal i) ms =
    let w = first ms in
    (m ≡ w) ⊎ (known w × Chosen (test_of (g.value w)) (O a env (g.members (suc w))) (O b env (g.members (suc w))))

abbrev pub CallOccurs : Standing → Option Low → AllPlaced → Type 0
CallOccurs O None q = ⊥
CallOccurs O (Some body) q = O body q.parts q.left

-- one case for each shape
abbrev pub ShapeOccurs : Graph → Plan → (ℕ → Type 0) → ℕ → Walk → Standing → List Part → List ℕ → Low-F Low → Type 0
ShapeOccurs g p known m walk O env ms (Low-F.Lit v) = ⊥
ShapeOccurs g p known m walk O env ms (Low-F.Var v) = ⊥
ShapeOccurs g p known m walk O env ms (Low-F.Source s) = ⊥
ShapeOccurs g p known m walk O env ms (Low-F.Let es body) = let q = place_all walk env es ms in AnyOccurs walk O env es ms ⊎ O body (env ++ q.parts) q.left
ShapeOccurs g p known m walk O env ms (Low-F.If site test a b) = let t = walk test env ms in O test env ms ⊎ SwitchOccurs g known m O a b env t.part t.left
ShapeOccurs g p known m walk O env ms (Low-F.Apply f es) = AnyOccurs walk O env es ms ⊎ CallOccurs O (low_body (slice_get p.functions f.0) (length es)) (place_all walk env es ms)
ShapeOccurs g p known m walk O env ms (Low-F.Operator o es) = let q = place_all walk env es ms in AnyOccurs walk O env es ms ⊎ WorkOccurs m (operates o) q.parts q.left
ShapeOccurs g p known m walk O env ms (Low-F.Handler h es id ss) = let q = place_all walk env es ms in AnyOccurs walk O env es ms ⊎ WorkOccurs m (handles h id.0) (q.parts ++ slot_parts p env ss) q.left
ShapeOccurs g p known m walk O env ms (Low-F.Loop l es id ss) = let q = place_all walk env es ms in AnyOccurs walk O env es ms ⊎ WorkOccurs m (loops l id.0) (q.parts ++ slot_parts p env ss) q.left
ShapeOccurs g p known m walk O env ms (Low-F.Feedback init body) =
    let i = walk init env ms in
    O init env ms ⊎ (O body (env ++ signal (first i.left) ∷ []) (rest i.left) ⊎ (m ≡ first i.left))
ShapeOccurs g p known m walk O env ms (Low-F.Collapse id ss) = WorkOccurs m (runs id.0) (slot_parts p env ss) ms

-- the node stands in the walk of an expression, the eras of known watches too
unfoldable pub Occurs : Graph → Plan → (ℕ → Type 0) → ℕ → ℕ → Standing
Occurs g p known m zero e env ms = ⊥
Occurs g p known m (suc n) e env ms = ShapeOccurs g p known m (place p n) (Occurs g p known m n) env ms (out-Low e)

-- the node stands in the walk of one of these items
abbrev pub ItemsOccur : Walk → Standing → List Part → List LowItem → List ℕ → Type 0
ItemsOccur walk O env [] ms = ⊥
ItemsOccur walk O env (low_item.Define e ∷ is) ms = let r = walk e env ms in O e env ms ⊎ ItemsOccur walk O (env ++ r.part ∷ []) is r.left
ItemsOccur walk O env (low_item.Show name e ∷ is) ms = let r = walk e env ms in O e env ms ⊎ ItemsOccur walk O env is r.left

-- something is taken, and not refused
abbrev pub IsTaken : Result Cell Bad → Type 0
IsTaken (Ok c) = Unit {0}
IsTaken (Err b) = ⊥

-- a late work's cell takes the value of its last part, where that is known
abbrev pub Latches : Graph → (ℕ → Type 0) → ℕ → Work → Type 0
Latches g known m w = is_late w ≡ true → (last : Part) → g.later m ≡ Some last → IsKnown known last → IsTaken (latch w (part_value g last))

-- whatever the value of a test tells, the building of what it chooses fails, where so many levels are left; so it is where it can't be told
abbrev pub ChoiceErrs : Plan → ℕ → Low → Low → List Part → Seen → Type 0
ChoiceErrs p n a b env v = (holds : Bool) → test_of v ≡ Ok holds → (ms : List ℕ) × Fails p n (if holds then a else b) env ms

-- a node of a kind errs on the values that its inputs have: its line isn't clean, its cell refuses what it is to take, or a watch's test can't be told or the building of its choice fails
abbrev pub Errs : Graph → (ℕ → Type 0) → Plan → (ℕ → Option Cell) → ℕ → Kind → List Part → Type 0
Errs g known p before m (works w) ins = IsClean (work_line p.table (g.level m) w (before m) (part_values g ins)) → Latches g known m w → ⊥
Errs g known p before m (watch a b env) (test ∷ []) = ChoiceErrs p (g.level m) a b env (part_value g test)
Errs g known p before m k ins = ⊥
