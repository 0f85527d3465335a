-- Sums along the walk of an expression through a graph.
use Rattle.std.specs.Prelude.{ℕ, ◌+◌, zero, suc, Bool, true, false, ◌&&◌, not, List, [], ◌∷◌, ◌++◌, length, slice_get, Option, Some, None, Result, Ok, Err}
use Rattle.fr_value.specs.declared.now.Bad.{Bad}
use Rattle.fr_core.specs.declared.lowered.Low.{Low, out-Low}
use Rattle.fr_core.specs.declared.lowered.Low.TheOpen.{Low-F}
use Rattle.fr_core.specs.declared.lowered.LowItem.{LowItem}
use Rattle.fr_core.specs.declared.lowered.LowItem.TheVariants as low_item
use Rattle.fr_meaning.specs.Words.{test_of}
use Rattle.fr_graph.specs.Graph.{Part, steady, signal, Work, operates, handles, loops, runs, Graph, is_plain}
use Rattle.fr_graph.specs.Walk.{Plan, first, rest, Walk, AllPlaced, place_all, all_steady, slot_parts, low_body, place}
use Rattle.fr_sums.specs.Sites.{when}

-- what an expression adds, over what stands for the variables in scope and over members
abbrev pub Adding : Type 0
Adding = Low → List Part → List ℕ → ℕ

-- expressions from left to right
abbrev pub add_all : Walk → Adding → List Part → List Low → List ℕ → ℕ
add_all walk add env [] ms = 0
add_all walk add env (e ∷ es) ms = add e env ms + add_all walk add env es (walk e env ms).left

-- the node of a work that has one
abbrev pub add_work : (ℕ → ℕ) → Work → List Part → List ℕ → ℕ
add_work f w ps ms = when (not (is_plain w && all_steady ps)) (f (first ms))

-- what a test chooses
abbrev pub add_chosen : Adding → Low → Low → List Part → List ℕ → Result Bool Bad → ℕ
add_chosen add a b env ms (Err bad) = 0
add_chosen add a b env ms (Ok true) = add a env ms
add_chosen add a b env ms (Ok false) = add b env ms

-- a switch behind its test: where the test varies, its watch, its result, and what is in the era of the watch, if that is entered
abbrev pub add_switch : Graph → (ℕ → Bool) → (ℕ → ℕ) → Adding → Low → Low → List Part → Part → List ℕ → ℕ
add_switch g entered f add a b env (steady v) ms = add_chosen add a b env ms (test_of v)
add_switch g entered f add a b env (signal m) ms =
    let w = first ms in
    f w + (f (first (rest ms)) + when (entered w) (add_chosen add a b env (g.members (suc w)) (test_of (g.value w))))

-- a call behind its arguments
abbrev pub add_call : Adding → Option Low → AllPlaced → ℕ
add_call add None q = 0
add_call add (Some body) q = add body q.parts q.left

-- one case for each shape
abbrev pub add_shape : Graph → Plan → (ℕ → Bool) → (ℕ → ℕ) → Walk → Adding → List Part → List ℕ → Low-F Low → ℕ
add_shape g p entered f walk add env ms (Low-F.Lit v) = 0
add_shape g p entered f walk add env ms (Low-F.Var x) = 0
add_shape g p entered f walk add env ms (Low-F.Source s) = 0
add_shape g p entered f walk add env ms (Low-F.Let es body) = let q = place_all walk env es ms in add_all walk add env es ms + add body (env ++ q.parts) q.left
add_shape g p entered f walk add env ms (Low-F.If site test a b) = let t = walk test env ms in add test env ms + add_switch g entered f add a b env t.part t.left
add_shape g p entered f walk add env ms (Low-F.Apply f' es) = add_all walk add env es ms + add_call add (low_body (slice_get p.functions f'.0) (length es)) (place_all walk env es ms)
add_shape g p entered f walk add env ms (Low-F.Operator o es) = let q = place_all walk env es ms in add_all walk add env es ms + add_work f (operates o) q.parts q.left
add_shape g p entered f walk add env ms (Low-F.Handler h es id ss) =
    let q = place_all walk env es ms in
    add_all walk add env es ms + add_work f (handles h id.0) (q.parts ++ slot_parts p env ss) q.left
add_shape g p entered f walk add env ms (Low-F.Loop l es id ss) =
    let q = place_all walk env es ms in
    add_all walk add env es ms + add_work f (loops l id.0) (q.parts ++ slot_parts p env ss) q.left
add_shape g p entered f walk add env ms (Low-F.Feedback init body) =
    let i = walk init env ms in
    add init env ms + (f (first i.left) + add body (env ++ signal (first i.left) ∷ []) (rest i.left))
add_shape g p entered f walk add env ms (Low-F.Collapse id ss) = add_work f (runs id.0) (slot_parts p env ss) ms

-- the sum of a number for each node that the walk of an expression meets, also in the eras of watches that are entered
unfoldable pub along : Graph → Plan → (ℕ → Bool) → (ℕ → ℕ) → ℕ → Adding
along g p entered f zero e env ms = 0
along g p entered f (suc n) e env ms = add_shape g p entered f (place p n) (along g p entered f n) env ms (out-Low e)

-- items, each value in scope behind it
abbrev pub add_items : Walk → Adding → List Part → List LowItem → List ℕ → ℕ
add_items walk add env [] ms = 0
add_items walk add env (low_item.Define e ∷ is) ms = let r = walk e env ms in add e env ms + add_items walk add (env ++ r.part ∷ []) is r.left
add_items walk add env (low_item.Show name e ∷ is) ms = let r = walk e env ms in add e env ms + add_items walk add env is r.left

-- every era is entered
abbrev pub all_entered : ℕ → Bool
all_entered m = true
