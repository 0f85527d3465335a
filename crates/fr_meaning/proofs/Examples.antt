-- Worked examples, computed from the definitions: evaluations, and what they visit.
use Rattle.std.proofs.Common.{◌≡◌, ℕ, suc, ℤ, pos, negsuc, List, [], ◌∷◌, ◌++◌, map, Some, None, true, false, refl, ap, ◌∙◌}
use Rattle.std.specs.List.{flat_map}
use Rattle.fr_value.specs.declared.value.Value.TheVariants as value
use Rattle.fr_value.specs.declared.now.Now.TheVariants.{Plain, Occ}
use Rattle.fr_value.specs.declared.now.Bad.TheVariants as bad
use Rattle.fr_value.specs.declared.primitive.Primitive.{Primitive}
use Rattle.fr_value.specs.declared.primitive.Primitive.TheVariants as prim
use Rattle.fr_core.specs.declared.core_form.Core.{Core, out-Core}
use Rattle.fr_core.specs.declared.core_form.Core.TheVariants as core
use Rattle.fr_core.specs.declared.core_form.Core.TheVariants.{outs-Lit, outs-Var, outs-Source, outs-Let, outs-If, outs-Apply, outs-Operator, outs-Handler, outs-Loop, outs-Feedback}
use Rattle.fr_core.specs.declared.core_form.Operator.TheVariants as operator
use Rattle.fr_core.specs.declared.core_form.Handler.TheVariants as handler
use Rattle.fr_core.specs.declared.core_form.Loop.TheVariants as loop
use Rattle.fr_core.specs.declared.kept.Key.TheVariants as key
use Rattle.fr_core.specs.declared.kept.Kept.{Kept}
use Rattle.fr_core.specs.declared.kept.Kept.TheVariants as kept
use Rattle.fr_core.specs.declared.kept.Kept.TheVariants.{outs-Nothing, outs-Group, outs-Datum, outs-Switch}
use Rattle.fr_meaning.specs.Words.{plain}
use Rattle.fr_meaning.specs.Primitives.{applied}
use Rattle.fr_meaning.specs.Cells.{child, datum_cell, behind_datum, under_key}
use Rattle.fr_meaning.specs.Evaluation.{World, eval_to}
use Rattle.fr_meaning.specs.Visits.{Visit, paths, inside_shape, visits_to, visits, own_cost, first_error, placed, uses}
use Rattle.fr_meaning.proofs.Levels.{evaluates}
use Rattle.fr_meaning.proofs.Visits.{first_is_found}

ruleset outs = (outs-Lit, outs-Var, outs-Source, outs-Let, outs-If, outs-Apply, outs-Operator, outs-Handler, outs-Loop, outs-Feedback, outs-Nothing, outs-Group, outs-Datum, outs-Switch)

-- source 1 is an input of value 1, or an event
abbrev with_input : World
with_input = record { functions = []; sources = Plain (value.Int (pos 0)) ∷ Plain (value.Int (pos 1)) ∷ [] }

abbrev with_event : World
with_event = record { functions = []; sources = Plain (value.Int (pos 3)) ∷ Occ (Some (value.Int (pos 5))) ∷ [] }

abbrev quiet_event : World
quiet_event = record { functions = []; sources = Plain (value.Int (pos 3)) ∷ Occ None ∷ [] }

abbrev int : ℤ → Core
int n = core.Lit (value.Int n)

abbrev source : Core
source = core.Source (record { 0 = 1 })

abbrev prim_of : Primitive → List Core → Core
prim_of p es = core.Operator (operator.Prim p) es

-- (+ x 1)
sum : (n : ℕ) → (eval_to (suc (suc n)) with_input (prim_of prim.Add (source ∷ int (pos 1) ∷ [])) [] kept.Nothing).value ≡ plain (value.Int (pos 2))
unfolding applied
sum n = simp (evaluates, outs)

-- (collect-b e 0 (lambda (v a) (+ a v)))
abbrev total : Core
total = core.Handler handler.CollectB (source ∷ int (pos 0) ∷ []) (prim_of prim.Add (core.Var (record { 0 = 1 }) ∷ core.Var (record { 0 = 0 }) ∷ []))

begins_with_init : (n : ℕ) → (eval_to (suc (suc (suc n))) quiet_event total [] kept.Nothing).value ≡ plain (value.Int (pos 0))
unfolding applied child datum_cell behind_datum
begins_with_init n = simp (evaluates, outs)

adds_to_the_state : (n : ℕ) → (eval_to (suc (suc (suc n))) with_event total [] (kept.Datum (value.Int (pos 37)) kept.Nothing)).value ≡ plain (value.Int (pos 42))
unfolding applied child datum_cell behind_datum
adds_to_the_state n = simp (evaluates, outs)

-- (delay 0 x) shows the kept value, and keeps that of x
delayed : (n : ℕ) → (eval_to (suc (suc n)) with_input (core.Operator operator.Delay (int (pos 0) ∷ source ∷ [])) [] (kept.Datum (value.Int (pos 9)) kept.Nothing)).value ≡ plain (value.Int (pos 9))
unfolding child datum_cell behind_datum
delayed n = simp (evaluates, outs)

-- (delay 0 e) errs, though it has its value
delay_of_an_event : (n : ℕ) → (eval_to (suc (suc n)) quiet_event (core.Operator operator.Delay (int (pos 0) ∷ source ∷ [])) [] kept.Nothing).first ≡ Some ([], bad.NotData)
unfolding child datum_cell behind_datum
delay_of_an_event n = simp (evaluates, outs)

-- (feedback (n 0) (+ n 1))
abbrev counter : Core
counter = core.Feedback (int (pos 0)) (prim_of prim.Add (core.Var (record { 0 = 0 }) ∷ int (pos 1) ∷ []))

feedback_counts : (n : ℕ)
    → ((eval_to (suc (suc (suc n))) with_input counter [] kept.Nothing).value ≡ plain (value.Int (pos 1)))
    × ((eval_to (suc (suc (suc n))) with_input counter [] (kept.Datum (value.Int (pos 1)) kept.Nothing)).value ≡ plain (value.Int (pos 2)))
unfolding applied child datum_cell behind_datum
feedback_counts n = (simp (evaluates, outs), simp (evaluates, outs))

-- a switch that chose otherwise before begins with nothing kept
abbrev branch : Core
branch = core.If (core.Lit (value.Bool true)) total (int (negsuc 0))

returns_to_a_branch : (n : ℕ)
    → (eval_to (suc (suc (suc (suc n)))) with_event branch [] (kept.Group (kept.Nothing ∷ kept.Switch (key.Test false) (kept.Datum (value.Int (pos 37)) kept.Nothing) ∷ []))).value ≡ plain (value.Int (pos 5))
unfolding applied child datum_cell behind_datum under_key
returns_to_a_branch n = simp (evaluates, outs)

stays_in_a_branch : (n : ℕ)
    → (eval_to (suc (suc (suc (suc n)))) with_event branch [] (kept.Group (kept.Nothing ∷ kept.Switch (key.Test true) (kept.Datum (value.Int (pos 37)) kept.Nothing) ∷ []))).value ≡ plain (value.Int (pos 42))
unfolding applied child datum_cell behind_datum under_key
stays_in_a_branch n = simp (evaluates, outs)

-- (repeat (a 1) COUNT (* a 2)) costs a unit for each turn
abbrev doubling : ℕ → Core
doubling count = core.Loop loop.Repeat (int (pos 1) ∷ int (pos count) ∷ []) (prim_of prim.Mul (core.Var (record { 0 = 0 }) ∷ int (pos 2) ∷ []))

doubled : (n : ℕ) → (eval_to (suc (suc (suc n))) with_input (doubling 3) [] kept.Nothing).value ≡ plain (value.Int (pos 8))
unfolding applied child
doubled n = simp (evaluates, outs)

doubling_costs : (n : ℕ) → (eval_to (suc (suc (suc n))) with_input (doubling 3) [] kept.Nothing).cost ≡ 3
unfolding applied child
doubling_costs n = simp (evaluates, outs)

-- visits, computed

opens_by_shape : (n : ℕ) (w : World) (v : Visit) → visits_to (suc n) w v ≡ flat_map (visits_to n w) (inside_shape w n v (out-Core v.expr)) ++ v ∷ []
unfolding visits_to
opens_by_shape n w v = refl

-- an expression with no variable in scope, at the top
abbrev at_top : ℕ → Core → Kept → Visit
at_top n e k = record { path = []; level = n; expr = e; scope = []; kept = k; price = 0; waits = [] }

-- of a loop the parts are 0 and 1, and the turns stand in part 2
doubling_paths : (n : ℕ) → paths (visits with_input (at_top (suc (suc (suc n))) (doubling 2) kept.Nothing))
    ≡ (0 ∷ []) ∷ (1 ∷ []) ∷ (2 ∷ 0 ∷ 0 ∷ []) ∷ (2 ∷ 0 ∷ 1 ∷ []) ∷ (2 ∷ 0 ∷ []) ∷ (2 ∷ 1 ∷ 0 ∷ []) ∷ (2 ∷ 1 ∷ 1 ∷ []) ∷ (2 ∷ 1 ∷ []) ∷ [] ∷ []
unfolding applied child
doubling_paths n = simp (opens_by_shape, evaluates, outs)

-- the loop costs 2, one for each turn, and nothing in it costs more
doubling_own_costs : (n : ℕ) → map (own_cost with_input) (visits with_input (at_top (suc (suc (suc n))) (doubling 2) kept.Nothing)) ≡ 0 ∷ 0 ∷ 0 ∷ 0 ∷ 0 ∷ 0 ∷ 0 ∷ 0 ∷ 2 ∷ []
unfolding applied child
doubling_own_costs n = simp (opens_by_shape, evaluates, outs)

-- (let ((x 1)) x): the variable uses the first part, and the whole uses both
abbrev one_bound : Core
one_bound = core.Let (int (pos 1) ∷ []) (core.Var (record { 0 = 0 }))

let_uses : (n : ℕ) → map (uses with_input) (visits with_input (at_top (suc (suc n)) one_bound kept.Nothing)) ≡ [] ∷ ((0 ∷ []) ∷ []) ∷ ((0 ∷ []) ∷ (1 ∷ []) ∷ []) ∷ []
unfolding child
let_uses n = simp (opens_by_shape, evaluates, outs)

-- (if #t 1 x): the second part is chosen, and waits for the test
abbrev first_branch : Core
first_branch = core.If (core.Lit (value.Bool true)) (int (pos 1)) source

switch_paths : (n : ℕ) → paths (visits with_input (at_top (suc (suc n)) first_branch kept.Nothing)) ≡ (0 ∷ []) ∷ (1 ∷ []) ∷ [] ∷ []
unfolding child under_key
switch_paths n = simp (opens_by_shape, evaluates, outs)

switch_uses : (n : ℕ) → map (uses with_input) (visits with_input (at_top (suc (suc n)) first_branch kept.Nothing)) ≡ [] ∷ ((0 ∷ []) ∷ []) ∷ ((0 ∷ []) ∷ (1 ∷ []) ∷ []) ∷ []
unfolding child under_key
switch_uses n = simp (opens_by_shape, evaluates, outs)

-- (next x), where function 0 is (lambda (a) (+ a 1)): the body is part 1, and the call costs 1
abbrev with_function : World
with_function = record { functions = record { name = []; params = 1; body = prim_of prim.Add (core.Var (record { 0 = 0 }) ∷ int (pos 1) ∷ []) } ∷ []; sources = with_input.sources }

abbrev call : Core
call = core.Apply (record { 0 = 0 }) (source ∷ [])

call_paths : (n : ℕ) → paths (visits with_function (at_top (suc (suc (suc n))) call kept.Nothing)) ≡ (0 ∷ []) ∷ (1 ∷ 0 ∷ []) ∷ (1 ∷ 1 ∷ []) ∷ (1 ∷ []) ∷ [] ∷ []
unfolding applied child
call_paths n = simp (opens_by_shape, evaluates, outs)

call_own_costs : (n : ℕ) → map (own_cost with_function) (visits with_function (at_top (suc (suc (suc n))) call kept.Nothing)) ≡ 0 ∷ 0 ∷ 0 ∷ 0 ∷ 1 ∷ []
unfolding applied child
call_own_costs n = simp (opens_by_shape, evaluates, outs)

-- (feedback (n 0) e) errs itself, since the event is no data to keep, and so does the whole evaluation
abbrev fed_event : Core
fed_event = core.Feedback (int (pos 0)) source

feedback_paths : (n : ℕ) → paths (visits quiet_event (at_top (suc (suc n)) fed_event kept.Nothing)) ≡ (0 ∷ []) ∷ (1 ∷ []) ∷ [] ∷ []
unfolding child datum_cell behind_datum
feedback_paths n = simp (opens_by_shape, evaluates, outs)

feedback_errs : (n : ℕ) → first_error quiet_event (visits quiet_event (at_top (suc (suc n)) fed_event kept.Nothing)) ≡ Some ([], bad.NotData)
unfolding child datum_cell behind_datum
feedback_errs n = simp (opens_by_shape, evaluates, outs)

-- (+ e 1) errs at the whole, since an event is no integer, and in a loop's first turn the error stands there
abbrev adding_event : Core
adding_event = core.Loop loop.Repeat (int (pos 1) ∷ int (pos 2) ∷ []) (prim_of prim.Add (core.Var (record { 0 = 0 }) ∷ source ∷ []))

turn_errs : (n : ℕ) → first_error quiet_event (visits quiet_event (at_top (suc (suc (suc n))) adding_event kept.Nothing)) ≡ Some (2 ∷ 0 ∷ [], bad.WrongType)
unfolding applied child
turn_errs n = simp (opens_by_shape, evaluates, outs)

-- (repeat (a (feedback (n 0) (+ n 1))) 2 (* a 2))
abbrev doubled_counter : Core
doubled_counter = core.Loop loop.Repeat (counter ∷ int (pos 2) ∷ []) (prim_of prim.Mul (core.Var (record { 0 = 0 }) ∷ int (pos 2) ∷ []))

-- (if #t (next (repeat (a (feedback (n 0) (+ n 1))) 2 (* a 2))) 0): a switch, a call, a loop of two turns and a `feedback`, one inside the other
abbrev nested : Core
nested = core.If (core.Lit (value.Bool true)) (core.Apply (record { 0 = 0 }) (doubled_counter ∷ [])) (int (pos 0))

abbrev nested_visits : ℕ → List Visit
nested_visits n = visits with_function (at_top (suc (suc (suc (suc (suc (suc n)))))) nested kept.Nothing)

nested_paths : (n : ℕ) → paths (nested_visits n)
    ≡ (0 ∷ [])
    ∷ (1 ∷ 0 ∷ 0 ∷ 0 ∷ []) ∷ (1 ∷ 0 ∷ 0 ∷ 1 ∷ 0 ∷ []) ∷ (1 ∷ 0 ∷ 0 ∷ 1 ∷ 1 ∷ []) ∷ (1 ∷ 0 ∷ 0 ∷ 1 ∷ []) ∷ (1 ∷ 0 ∷ 0 ∷ [])
    ∷ (1 ∷ 0 ∷ 1 ∷ [])
    ∷ (1 ∷ 0 ∷ 2 ∷ 0 ∷ 0 ∷ []) ∷ (1 ∷ 0 ∷ 2 ∷ 0 ∷ 1 ∷ []) ∷ (1 ∷ 0 ∷ 2 ∷ 0 ∷ [])
    ∷ (1 ∷ 0 ∷ 2 ∷ 1 ∷ 0 ∷ []) ∷ (1 ∷ 0 ∷ 2 ∷ 1 ∷ 1 ∷ []) ∷ (1 ∷ 0 ∷ 2 ∷ 1 ∷ [])
    ∷ (1 ∷ 0 ∷ [])
    ∷ (1 ∷ 1 ∷ 0 ∷ []) ∷ (1 ∷ 1 ∷ 1 ∷ []) ∷ (1 ∷ 1 ∷ []) ∷ (1 ∷ [])
    ∷ []
    ∷ []
unfolding applied child datum_cell behind_datum under_key
nested_paths n = simp (opens_by_shape, evaluates, outs)

-- the loop costs 2 and the call 1
nested_costs : (n : ℕ) → map (own_cost with_function) (nested_visits n) ≡ 0 ∷ 0 ∷ 0 ∷ 0 ∷ 0 ∷ 0 ∷ 0 ∷ 0 ∷ 0 ∷ 0 ∷ 0 ∷ 0 ∷ 0 ∷ 2 ∷ 0 ∷ 0 ∷ 0 ∷ 1 ∷ 0 ∷ []
unfolding applied child datum_cell behind_datum under_key
nested_costs n = simp (opens_by_shape, evaluates, outs)

nested_first : (n : ℕ) → (eval_to (suc (suc (suc (suc (suc (suc n)))))) with_function nested [] kept.Nothing).first ≡ None
unfolding applied child datum_cell behind_datum under_key
nested_first n = simp (evaluates, outs)

nested_errs_nowhere : (n : ℕ) → first_error with_function (nested_visits n) ≡ None
nested_errs_nowhere n = first_is_found with_function (at_top (suc (suc (suc (suc (suc (suc n)))))) nested kept.Nothing) ∙ ap (placed []) (nested_first n)
