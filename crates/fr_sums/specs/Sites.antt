-- Which expressions of a lowered program vary at an instant, and how many nodes they ask for. Nothing of a graph is read.
use Rattle.std.specs.Prelude.{ℕ, ◌+◌, zero, suc, Bool, true, false, ◌||◌, List, [], ◌∷◌, ◌++◌, map, length, slice_get, Option, Some, None, Result, Ok, Err}
use Rattle.fr_value.specs.declared.now.Bad.{Bad}
use Rattle.fr_core.specs.declared.core_form.Operator.{Operator}
use Rattle.fr_core.specs.declared.core_form.Operator.TheVariants as operator
use Rattle.fr_core.specs.declared.kept.Kept.{Kept}
use Rattle.fr_core.specs.declared.kept.Key.TheVariants as key
use Rattle.fr_core.specs.declared.lowered.Low.{Low, out-Low}
use Rattle.fr_core.specs.declared.lowered.Low.TheOpen.{Low-F}
use Rattle.fr_core.specs.declared.lowered.LowFunction.{LowFunction}
use Rattle.fr_core.specs.declared.lowered.LowItem.{LowItem}
use Rattle.fr_core.specs.declared.lowered.LowItem.TheVariants as low_item
use Rattle.fr_core.specs.declared.lowered.Slot.{Slot}
use Rattle.fr_core.specs.declared.lowered.Slot.TheVariants as slot
use Rattle.fr_meaning.specs.Words.{Seen, Env, Done, test_of}
use Rattle.fr_meaning.specs.Cells.{child, under_key}
use Rattle.fr_meaning.specs.States.{StateForm, of_operator, of_handler, of_feedback, fed}
use Rattle.fr_meaning.specs.Evaluation.{World, parts, form_cell, behind_cell, eval_to}
use Rattle.fr_kernel.specs.Erasure.{erase}
use Rattle.fr_kernel.specs.Kernels.{Kernel}
use Rattle.fr_graph.specs.Walk.{low_body}

-- what a node stands for: a source; a primitive, a loop or an expression that is computed as a whole; an event or state form; the test of a switch, or what the switch gives
pub data Site : Type 0 where
  of_source : ℕ → Site
  of_kernel : Site
  of_form : StateForm → Site
  of_watch : Site
  of_result : Site

-- what is the same for every part at an instant: the lowered functions, the kernels, and the program that they are made from with the values of its sources
pub record Setting : Type 0 where
  pub functions : List LowFunction
  pub kernels : List Kernel
  pub world : World

-- the variables in scope: whether each varies, and its value
pub record Scope : Type 0 where
  pub varies : List Bool
  pub values : Env

-- further variables behind those in scope
abbrev pub with_more : Scope → List Bool → List Seen → Scope
with_more c marks values = record { varies = c.varies ++ marks; values = c.values ++ values }

-- the evaluation of a lowered expression is that of the expression that it was made from
abbrev pub low_done : Setting → ℕ → Low → Env → Kept → Done
low_done s n e env k = eval_to n s.world (erase s.kernels e) env k

abbrev pub low_values : Setting → ℕ → Env → Kept → List Low → List Seen
low_values s n env k es = (parts (eval_to n s.world) env k 0 (map (erase s.kernels) es)).values

-- whether an expression varies, and how much its sites count, over a scope and what was kept
abbrev pub Marking : Type 0
Marking = Low → Scope → Kept → Bool

abbrev pub Counting : Type 0
Counting = Low → Scope → Kept → ℕ

-- whether each of some expressions varies, from number i on
abbrev pub marks_from : Marking → Scope → Kept → ℕ → List Low → List Bool
marks_from mark c k i [] = []
marks_from mark c k i (e ∷ es) = mark e c (child k i) ∷ marks_from mark c k (i + 1) es

-- one of these varies
abbrev pub any_varies : List Bool → Bool
any_varies [] = false
any_varies (b ∷ bs) = b || any_varies bs

-- a variable varies where what it is bound to does
abbrev pub found_varies : Option Bool → Bool
found_varies None = false
found_varies (Some b) = b

-- what a slot stands for: a source varies always
abbrev pub slot_varies : List Bool → Slot → Bool
slot_varies marks (slot.Var x) = found_varies (slice_get marks x.0)
slot_varies marks (slot.Source s) = true

-- a primitive varies where an argument does, and an event or state form always
abbrev pub operator_varies : Operator → List Bool → Bool
operator_varies (operator.Prim p) marks = any_varies marks
operator_varies o marks = true

-- the branch of a switch that its test chooses
abbrev pub branch_varies : Marking → Low → Low → Scope → Kept → Result Bool Bad → Bool
branch_varies mark a b c k (Err bad) = false
branch_varies mark a b c k (Ok true) = mark a c (under_key (key.Test true) k)
branch_varies mark a b c k (Ok false) = mark b c (under_key (key.Test false) k)

-- the body that a call evaluates, over its arguments alone; a call that evaluates none is steady
abbrev pub call_varies : Marking → Option Low → Scope → Kept → Bool
call_varies mark None c k = false
call_varies mark (Some body) c k = mark body c k

-- the scope of the body of a `feedback`, whose name varies
abbrev pub inside_feedback : Setting → ℕ → Low → Scope → Kept → Scope
inside_feedback s n init c k = with_more c (true ∷ []) (fed (form_cell of_feedback k) (low_done s n init c.values (child (behind_cell of_feedback k) 0)).value ∷ [])

-- one case for each shape: literals are steady and sources vary; a switch varies where its test does, and else as the branch that is chosen; a loop where one of its parts does, or a variable or source of its body
abbrev pub shape_varies : Setting → ℕ → Marking → Scope → Kept → Low-F Low → Bool
shape_varies s n mark c k (Low-F.Lit v) = false
shape_varies s n mark c k (Low-F.Var x) = found_varies (slice_get c.varies x.0)
shape_varies s n mark c k (Low-F.Source x) = true
shape_varies s n mark c k (Low-F.Let es body) = mark body (with_more c (marks_from mark c k 0 es) (low_values s n c.values k es)) (child k (length es))
shape_varies s n mark c k (Low-F.If site test a b) =
    mark test c (child k 0) || branch_varies mark a b c (child k 1) (test_of (low_done s n test c.values (child k 0)).value)
shape_varies s n mark c k (Low-F.Apply f es) =
    call_varies mark (low_body (slice_get s.functions f.0) (length es)) (record { varies = marks_from mark c k 0 es; values = low_values s n c.values k es }) (child k (length es))
shape_varies s n mark c k (Low-F.Operator o es) = operator_varies o (marks_from mark c (behind_cell (of_operator o) k) 0 es)
shape_varies s n mark c k (Low-F.Handler h es id ss) = true
shape_varies s n mark c k (Low-F.Loop l es id ss) = any_varies (marks_from mark c k 0 es ++ map (slot_varies c.varies) ss)
shape_varies s n mark c k (Low-F.Feedback init body) = mark body (inside_feedback s n init c k) (child (behind_cell of_feedback k) 1)
shape_varies s n mark c k (Low-F.Collapse id ss) = any_varies (map (slot_varies c.varies) ss)

-- whether an expression varies, on so many levels
unfoldable pub varies : Setting → ℕ → Marking
varies s zero e c k = false
varies s (suc n) e c k = shape_varies s n (varies s n) c k (out-Low e)

-- the sites of some expressions, from number i on
abbrev pub sites_from : Counting → Scope → Kept → ℕ → List Low → ℕ
sites_from count c k i [] = 0
sites_from count c k i (e ∷ es) = count e c (child k i) + sites_from count c k (i + 1) es

-- a number where a fact holds, and 0 where it doesn't
abbrev pub when : Bool → ℕ → ℕ
when true n = n
when false n = 0

-- an operator's own site: that of a primitive that varies, or of an event or state form
abbrev pub operator_site : (Site → ℕ) → Operator → List Bool → ℕ
operator_site weigh (operator.Prim p) marks = when (any_varies marks) (weigh of_kernel)
operator_site weigh o marks = weigh (of_form (of_operator o))

-- the sites of the branch that is chosen
abbrev pub branch_sites : Counting → Low → Low → Scope → Kept → Result Bool Bad → ℕ
branch_sites count a b c k (Err bad) = 0
branch_sites count a b c k (Ok true) = count a c (under_key (key.Test true) k)
branch_sites count a b c k (Ok false) = count b c (under_key (key.Test false) k)

-- the sites of the body that a call evaluates
abbrev pub call_sites : Counting → Option Low → Scope → Kept → ℕ
call_sites count None c k = 0
call_sites count (Some body) c k = count body c k

-- one case for each shape: a watch and a result for a switch whose test varies; one site for each primitive, loop and expression that is computed as a whole that varies, and for each event or state form. Bodies of handlers and loops have none
abbrev pub shape_sites : Setting → (Site → ℕ) → ℕ → Marking → Counting → Scope → Kept → Low-F Low → ℕ
shape_sites s weigh n mark count c k (Low-F.Lit v) = 0
shape_sites s weigh n mark count c k (Low-F.Var x) = 0
shape_sites s weigh n mark count c k (Low-F.Source x) = 0
shape_sites s weigh n mark count c k (Low-F.Let es body) =
    sites_from count c k 0 es + count body (with_more c (marks_from mark c k 0 es) (low_values s n c.values k es)) (child k (length es))
shape_sites s weigh n mark count c k (Low-F.If site test a b) =
    count test c (child k 0)
    + (when (mark test c (child k 0)) (weigh of_watch + weigh of_result)
    + branch_sites count a b c (child k 1) (test_of (low_done s n test c.values (child k 0)).value))
shape_sites s weigh n mark count c k (Low-F.Apply f es) =
    sites_from count c k 0 es
    + call_sites count (low_body (slice_get s.functions f.0) (length es)) (record { varies = marks_from mark c k 0 es; values = low_values s n c.values k es }) (child k (length es))
shape_sites s weigh n mark count c k (Low-F.Operator o es) =
    let inner = behind_cell (of_operator o) k in
    sites_from count c inner 0 es + operator_site weigh o (marks_from mark c inner 0 es)
shape_sites s weigh n mark count c k (Low-F.Handler h es id ss) = sites_from count c (behind_cell (of_handler h) k) 0 es + weigh (of_form (of_handler h))
shape_sites s weigh n mark count c k (Low-F.Loop l es id ss) =
    sites_from count c k 0 es + when (any_varies (marks_from mark c k 0 es ++ map (slot_varies c.varies) ss)) (weigh of_kernel)
shape_sites s weigh n mark count c k (Low-F.Feedback init body) =
    let inner = behind_cell of_feedback k in
    count init c (child inner 0) + (weigh (of_form of_feedback) + count body (inside_feedback s n init c k) (child inner 1))
shape_sites s weigh n mark count c k (Low-F.Collapse id ss) = when (any_varies (map (slot_varies c.varies) ss)) (weigh of_kernel)

-- the sites of an expression on so many levels, each by what it counts
unfoldable pub sites : Setting → (Site → ℕ) → ℕ → Counting
sites s weigh zero e c k = 0
sites s weigh (suc n) e c k = shape_sites s weigh n (varies s n) (sites s weigh n) c k (out-Low e)

-- the sites of the items from number i on, each value in scope behind it
abbrev pub items_sites : Setting → (Site → ℕ) → ℕ → Scope → Kept → ℕ → List LowItem → ℕ
items_sites s weigh n c k i [] = 0
items_sites s weigh n c k i (low_item.Define e ∷ is) =
    sites s weigh n e c (child k i)
    + items_sites s weigh n (with_more c (varies s n e c (child k i) ∷ []) ((low_done s n e c.values (child k i)).value ∷ [])) k (i + 1) is
items_sites s weigh n c k i (low_item.Show name e ∷ is) = sites s weigh n e c (child k i) + items_sites s weigh n c k (i + 1) is

-- those of so many sources, from number i on
abbrev pub source_sites : (Site → ℕ) → ℕ → ℕ → ℕ
source_sites weigh i zero = 0
source_sites weigh i (suc n) = weigh (of_source i) + source_sites weigh (i + 1) n

-- THE SITES of an instant, over what was kept: those of the sources, of which there are so many, and of the items of a body. With 1 for each they are its number
abbrev pub body_sites : Setting → (Site → ℕ) → ℕ → List LowItem → Kept → ℕ
body_sites s weigh many is k = source_sites weigh 0 many + items_sites s weigh 2000 (record { varies = []; values = [] }) k 0 is
