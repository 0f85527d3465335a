-- Where the building of an expression fails: a part that never changes has no value, a test that never changes can't be told, there is no such variable or no function of so many parameters, or no level is left. Nothing of the graph is read.
use Rattle.std.specs.Prelude.{◌≡◌, ◌⊎◌, ℕ, zero, suc, ◌≤◌, ◌&&◌, List, [], ◌∷◌, ◌++◌, length, slice_get, Option, Some, None, Result, Ok, Err, true, false, Bool}
use Rattle.fr_value.specs.declared.now.Bad.{Bad}
use Rattle.fr_core.specs.declared.lowered.Low.{Low, out-Low}
use Rattle.fr_core.specs.declared.lowered.Low.TheOpen.{Low-F}
use Rattle.fr_core.specs.declared.lowered.LowItem.{LowItem}
use Rattle.fr_core.specs.declared.lowered.LowItem.TheVariants as low_item
use Rattle.fr_meaning.specs.Words.{own, test_of}
use Rattle.fr_graph.specs.Graph.{Part, steady, signal, Work, operates, handles, loops, runs, IsClean, work_line, is_plain}
use Rattle.fr_graph.specs.Walk.{Plan, first, rest, Walk, AllPlaced, place_all, all_steady, steady_values, slot_parts, low_body, place}
use Rattle.fr_graph.specs.Wired.{Standing, Either}

-- the building of one of some expressions fails
abbrev pub AnyFails : Walk → Standing → List Part → List Low → List ℕ → Type 0
AnyFails walk F env [] ms = ⊥
AnyFails walk F env (e ∷ es) ms = F e env ms ⊎ AnyFails walk F env es (walk e env ms).left

-- a work that is a value fails where its line isn't clean; one that has a node doesn't
abbrev pub WorkFails : Plan → ℕ → Work → List Part → Type 0
WorkFails p n w ps = Either (is_plain w && all_steady ps) (IsClean (work_line p.table n w None (steady_values ps)) → ⊥) ⊥

-- what a test gives can't be told, or the building of what it chooses fails
abbrev pub ChoiceFails : Standing → Low → Low → List Part → List ℕ → Result Bool Bad → Type 0
ChoiceFails F a b env ms (Err bad) = Unit {0}
ChoiceFails F a b env ms (Ok true) = F a env ms
ChoiceFails F a b env ms (Ok false) = F b env ms

-- a switch behind its test: one whose test varies builds neither of its choices
abbrev pub SwitchFails : Standing → Low → Low → List Part → Part → List ℕ → Type 0
SwitchFails F a b env (steady v) ms = ChoiceFails F a b env ms (test_of v)
SwitchFails F a b env (signal m) ms = ⊥

-- a call behind its arguments: there is no function of so many parameters, or the building of its body fails
abbrev pub CallFails : Standing → Option Low → AllPlaced → Type 0
CallFails F None q = Unit {0}
CallFails F (Some body) q = F body q.parts q.left

-- one case for each shape
abbrev pub ShapeFails : Plan → ℕ → Walk → Standing → List Part → List ℕ → Low-F Low → Type 0
ShapeFails p n walk F env ms (Low-F.Lit v) = ⊥
ShapeFails p n walk F env ms (Low-F.Var x) = length env ≤ x.0
ShapeFails p n walk F env ms (Low-F.Source s) = ⊥
ShapeFails p n walk F env ms (Low-F.Let es body) = let q = place_all walk env es ms in AnyFails walk F env es ms ⊎ F body (env ++ q.parts) q.left
ShapeFails p n walk F env ms (Low-F.If site test a b) = let t = walk test env ms in F test env ms ⊎ SwitchFails F a b env t.part t.left
ShapeFails p n walk F env ms (Low-F.Apply f es) = AnyFails walk F env es ms ⊎ CallFails F (low_body (slice_get p.functions f.0) (length es)) (place_all walk env es ms)
ShapeFails p n walk F env ms (Low-F.Operator o es) = AnyFails walk F env es ms ⊎ WorkFails p n (operates o) (place_all walk env es ms).parts
ShapeFails p n walk F env ms (Low-F.Handler h es id ss) = AnyFails walk F env es ms ⊎ WorkFails p n (handles h id.0) ((place_all walk env es ms).parts ++ slot_parts p env ss)
ShapeFails p n walk F env ms (Low-F.Loop l es id ss) = AnyFails walk F env es ms ⊎ WorkFails p n (loops l id.0) ((place_all walk env es ms).parts ++ slot_parts p env ss)
ShapeFails p n walk F env ms (Low-F.Feedback init body) =
    let i = walk init env ms in
    F init env ms ⊎ F body (env ++ signal (first i.left) ∷ []) (rest i.left)
ShapeFails p n walk F env ms (Low-F.Collapse id ss) = WorkFails p n (runs id.0) (slot_parts p env ss)

-- the building of an expression fails, where so many levels are left; the members are the numbers of its nodes
unfoldable pub Fails : Plan → ℕ → Standing
Fails p zero e env ms = Unit {0}
Fails p (suc n) e env ms = ShapeFails p n (place p n) (Fails p n) env ms (out-Low e)

-- the building of one of these items fails
abbrev pub ItemsFail : Walk → Standing → List Part → List LowItem → List ℕ → Type 0
ItemsFail walk F env [] ms = ⊥
ItemsFail walk F env (low_item.Define e ∷ is) ms = let r = walk e env ms in F e env ms ⊎ ItemsFail walk F (env ++ r.part ∷ []) is r.left
ItemsFail walk F env (low_item.Show name e ∷ is) ms = let r = walk e env ms in F e env ms ⊎ ItemsFail walk F env is r.left

-- what never changes has a value
abbrev pub HasValue : Part → Type 0
HasValue (steady v) = own v ≡ None
HasValue (signal m) = Unit {0}

-- each of these that never changes has one
abbrev pub HaveValues : List Part → Type 0
HaveValues [] = Unit {0}
HaveValues (p ∷ ps) = HasValue p × HaveValues ps
