-- What an instant spends of its fuel.
use Rattle.std.specs.Prelude.{◌≡◌, ◌≢◌, ◌⊎◌, ◌≤◌, ℕ, ◌+◌, zero, suc, Bool, true, false, ◌&&◌, List, [], ◌∷◌, ◌++◌, length, slice_get, Option, Some, None}
use Rattle.fr_links.specs.Lists.{has_item}
use Rattle.fr_core.specs.declared.lowered.Low.{Low, out-Low}
use Rattle.fr_core.specs.declared.lowered.Low.TheOpen.{Low-F}
use Rattle.fr_core.specs.declared.lowered.LowItem.{LowItem}
use Rattle.fr_core.specs.declared.program.Program.{Program}
use Rattle.fr_value.specs.declared.now.Now.{Now}
use Rattle.fr_meaning.specs.Words.{test_of}
use Rattle.fr_meaning.specs.Cells.{Cell}
use Rattle.fr_meaning.specs.Evaluation.{world_of}
use Rattle.fr_graph.specs.Graph.{Part, steady, signal, Work, operates, handles, loops, runs, Kind, works, watch, Graph, part_value, part_values, work_line, is_plain}
use Rattle.fr_graph.specs.Walk.{Plan, first, rest, Walk, AllPlaced, place_all, all_steady, steady_values, slot_parts, low_body, place}
use Rattle.fr_graph.specs.Known.{AllKnown}
use Rattle.fr_graph.specs.Items.{body_walk}
use Rattle.fr_sums.specs.Sites.{Setting, when}
use Rattle.fr_sums.specs.Along.{Adding, add_all, add_chosen, add_items}
use Rattle.fr_sums.specs.Members.{sum_live, is_watch}

-- the setting of a plan that a program was lowered to
abbrev pub setting_of : Program → Plan → List Now → Setting
setting_of pr p sources = record { functions = p.functions; kernels = p.table.kernels; world = world_of pr sources }

-- a work that never changes costs what its line does, and any other waits for its node
abbrev pub build_work : Plan → ℕ → Work → List Part → ℕ
build_work p n w ps = when (is_plain w && all_steady ps) (work_line p.table n w None (steady_values ps)).cost

-- a switch whose test never changes goes on in its branch, and any other waits for its watch
abbrev pub build_switch : Adding → Low → Low → List Part → Part → List ℕ → ℕ
build_switch add a b env (steady v) ms = add_chosen add a b env ms (test_of v)
build_switch add a b env (signal m) ms = 0

-- a call costs 1
abbrev pub build_call : Adding → Option Low → AllPlaced → ℕ
build_call add None q = 0
build_call add (Some body) q = 1 + add body q.parts q.left

-- one case for each shape
abbrev pub build_shape : Plan → ℕ → Walk → Adding → List Part → List ℕ → Low-F Low → ℕ
build_shape p n walk add env ms (Low-F.Lit v) = 0
build_shape p n walk add env ms (Low-F.Var x) = 0
build_shape p n walk add env ms (Low-F.Source s) = 0
build_shape p n walk add env ms (Low-F.Let es body) = let q = place_all walk env es ms in add_all walk add env es ms + add body (env ++ q.parts) q.left
build_shape p n walk add env ms (Low-F.If site test a b) = let t = walk test env ms in add test env ms + build_switch add a b env t.part t.left
build_shape p n walk add env ms (Low-F.Apply f es) = add_all walk add env es ms + build_call add (low_body (slice_get p.functions f.0) (length es)) (place_all walk env es ms)
build_shape p n walk add env ms (Low-F.Operator o es) = add_all walk add env es ms + build_work p n (operates o) (place_all walk env es ms).parts
build_shape p n walk add env ms (Low-F.Handler h es id ss) = add_all walk add env es ms + build_work p n (handles h id.0) ((place_all walk env es ms).parts ++ slot_parts p env ss)
build_shape p n walk add env ms (Low-F.Loop l es id ss) = add_all walk add env es ms + build_work p n (loops l id.0) ((place_all walk env es ms).parts ++ slot_parts p env ss)
build_shape p n walk add env ms (Low-F.Feedback init body) =
    let i = walk init env ms in
    add init env ms + add body (env ++ signal (first i.left) ∷ []) (rest i.left)
build_shape p n walk add env ms (Low-F.Collapse id ss) = build_work p n (runs id.0) (slot_parts p env ss)

-- what it costs to build the nodes of an expression in an era, those in the eras of watches not counted: 1 for each call in place, the turns of loops that never change, and expressions that are computed as a whole and never change
unfoldable pub built : Plan → ℕ → Adding
built p zero e env ms = 0
built p (suc n) e env ms = build_shape p n (place p n) (built p n) env ms (out-Low e)

-- what was paid for the computing of each node at an instant, 0 where it wasn't computed, and which eras were begun at it
pub record Paid : Type 0 where
  pub node : ℕ → ℕ
  pub begun : ℕ → Bool

-- what it costs to build what a watch chose
abbrev pub choice_built : Graph → Plan → ℕ → Kind → ℕ
choice_built g p w (watch a b env) = add_chosen (built p (g.level w)) a b env (g.members (suc w)) (test_of (g.value w))
choice_built g p w k = 0

-- what is spent at a node: what was paid for it, and what building its era cost, if that was begun
abbrev pub spent_at : Graph → Plan → Paid → ℕ → ℕ
spent_at g p q m = q.node m + when (q.begun (suc m)) (choice_built g p m (g.kind m))

-- THE FUEL that an instant spends: at all live nodes, and for the building of the items in the program's era, if that was begun
abbrev pub fuel_spent : Graph → Plan → Paid → ℕ → List LowItem → List ℕ → ℕ
fuel_spent g p q bound is ms = sum_live g bound (spent_at g p q) + when (q.begun 0) (add_items (body_walk p) (built p 2000) [] is ms)

-- what computing a work costs, over the values of its node's inputs and its cell before the instant
abbrev pub cost_at : Graph → Plan → (ℕ → Option Cell) → ℕ → Work → ℕ
cost_at g p before m w = (work_line p.table (g.level m) w (before m) (part_values g (g.inputs m))).cost

abbrev pub is_work : Kind → Bool
is_work (works w) = true
is_work k = false

-- nothing but works is paid for, each at most what its line costs
pub record PaysAtMost (g : Graph) (p : Plan) (before : ℕ → Option Cell) (q : Paid) : Type 0 where
  pub work : (m : ℕ) (w : Work) → g.live m ≡ true → g.kind m ≡ works w → q.node m ≤ cost_at g p before m w
  pub other : (m : ℕ) → g.live m ≡ true → is_work (g.kind m) ≡ false → q.node m ≡ 0

-- each work is paid for, exactly what its line costs, and every era was begun
pub record PaysAll (g : Graph) (p : Plan) (before : ℕ → Option Cell) (q : Paid) : Type 0 where
  pub work : (m : ℕ) (w : Work) → g.live m ≡ true → g.kind m ≡ works w → q.node m ≡ cost_at g p before m w
  pub other : (m : ℕ) → g.live m ≡ true → is_work (g.kind m) ≡ false → q.node m ≡ 0
  pub begun : (x : ℕ) → q.begun x ≡ true

-- while an instant is under way: a work was paid for only where its inputs are known, at most what its line costs on their values; no era was begun whose watch isn't known, and of the members of such an era none was paid for, and none is known
pub record PaysWhatIsKnown (g : Graph) (known : ℕ → Bool) (p : Plan) (before : ℕ → Option Cell) (q : Paid) : Type 0 where
  pub work : (m : ℕ) (w : Work) → g.live m ≡ true → g.kind m ≡ works w → (q.node m ≡ 0) ⊎ (AllKnown (λ j. known j ≡ true) (g.inputs m) × (q.node m ≤ cost_at g p before m w))
  pub other : (m : ℕ) → g.live m ≡ true → is_work (g.kind m) ≡ false → q.node m ≡ 0
  pub begun : (w : ℕ) → known w ≡ false → q.begun (suc w) ≡ false
  pub outside : (w m : ℕ) → known w ≡ false → has_item (g.members (suc w)) m ≡ true → (q.node m ≡ 0) × (known m ≡ false)

-- what it costs to build what a watch is to choose by the value of its test, over these members
abbrev pub choice_to_build : Graph → Plan → ℕ → List ℕ → Kind → List Part → ℕ
choice_to_build g p n ms (watch a b env) (test ∷ []) = add_chosen (built p n) a b env ms (test_of (part_value g test))
choice_to_build g p n ms k ins = 0

-- the choice of a watch is being built: the watch isn't known yet, but its test is, and what was paid for it is no more than that building costs
pub record IsBeingBuilt (g : Graph) (known : ℕ → Bool) (p : Plan) (q : Paid) (w : ℕ) : Type 0 where
  pub watches : is_watch (g.kind w) ≡ true
  pub unknown : known w ≡ false
  pub test : AllKnown (λ j. known j ≡ true) (g.inputs w)
  pub members : List ℕ
  pub most : q.node w ≤ choice_to_build g p (g.level w) members (g.kind w) (g.inputs w)

-- while an instant is under way and the choice of a watch is being built: that is paid for too, beside what is known
pub record PaysWhileBuilding (g : Graph) (known : ℕ → Bool) (p : Plan) (before : ℕ → Option Cell) (q : Paid) (w : ℕ) : Type 0 where
  pub work : (m : ℕ) (v : Work) → g.live m ≡ true → g.kind m ≡ works v → (q.node m ≡ 0) ⊎ (AllKnown (λ j. known j ≡ true) (g.inputs m) × (q.node m ≤ cost_at g p before m v))
  pub other : (m : ℕ) → g.live m ≡ true → is_work (g.kind m) ≡ false → m ≢ w → q.node m ≡ 0
  pub begun : (v : ℕ) → known v ≡ false → q.begun (suc v) ≡ false
  pub outside : (v m : ℕ) → known v ≡ false → has_item (g.members (suc v)) m ≡ true → (q.node m ≡ 0) × (known m ≡ false)
  pub building : IsBeingBuilt g known p q w
