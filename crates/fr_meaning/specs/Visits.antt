-- What an evaluation visits: each expression that is evaluated in it, in the order in which their evaluations end.
use Rattle.std.specs.Prelude.{ℕ, ◌+◌, zero, suc, List, [], ◌∷◌, ◌++◌, map, length, slice_get, Option, Some, None, Result, Ok, Err}
use Rattle.std.specs.List.{flat_map}
use Rattle.std.specs.Option.{option_or, option_map}
use Rattle.fr_value.specs.Data.{total}
use Rattle.fr_value.specs.declared.now.Bad.{Bad}
use Rattle.fr_value.specs.declared.now.Now.{Now}
use Rattle.fr_core.specs.declared.core_form.Core.{Core, out-Core}
use Rattle.fr_core.specs.declared.core_form.Core.TheOpen.{Core-F}
use Rattle.fr_core.specs.declared.kept.Kept.{Kept}
use Rattle.fr_core.specs.declared.kept.Kept.TheVariants as kept
use Rattle.fr_core.specs.declared.program.Item.{Item}
use Rattle.fr_core.specs.declared.program.Program.{Program}
use Rattle.fr_meaning.specs.Words.{Seen, Env, First, Done, part}
use Rattle.fr_meaning.specs.Cells.{Cell, child}
use Rattle.fr_meaning.specs.States.{Begun, known, asks, StateForm, of_operator, of_handler, of_feedback, fed, no_call, handler_begin, state_now}
use Rattle.fr_meaning.specs.Evaluation.{World, world_of, source_seen, parts, Choice, choose, choice_kept, body_for, rounds, form_cell, behind_cell, eval_to, most_levels}
use Rattle.fr_meaning.specs.Dependence.{item_expr, with_bound}

-- a variable in scope: its value, and the place that gives it
pub record Binding : Type 0 where
  pub value : Seen
  pub place : List ℕ

-- the values of the variables in scope
abbrev pub env_of : List Binding → Env
env_of scope = map (λ b. b.value) scope

-- the places that give the variables in scope
abbrev pub places : List Binding → List (List ℕ)
places scope = map (λ b. b.place) scope

-- an expression that is evaluated: its place, the nested levels that are left for it, its scope and what was kept for it, what it costs to call it, and the places without whose values it isn't evaluated at all
pub record Visit : Type 0 where
  pub path : List ℕ
  pub level : ℕ
  pub expr : Core
  pub scope : List Binding
  pub kept : Kept
  pub price : ℕ
  pub waits : List (List ℕ)

-- the places of visits
abbrev pub paths : List Visit → List (List ℕ)
paths vs = map (λ v. v.path) vs

-- the evaluation of a visit's expression
abbrev pub answer : World → Visit → Done
answer w v = eval_to v.level w v.expr (env_of v.scope) v.kept

-- the place of part number i
abbrev pub part_at : List ℕ → ℕ → List ℕ
part_at at i = at ++ i ∷ []

-- an expression as part number i, on the levels below, which costs nothing to call and waits for nothing
abbrev pub part_visit : ℕ → Visit → ℕ → Core → List Binding → Kept → Visit
part_visit n v i e scope k = record { path = part_at v.path i; level = n; expr = e; scope = scope; kept = k; price = 0; waits = [] }

-- the parts from number i on, in the scope of the whole, each over its part of what was kept
abbrev pub part_visits : ℕ → Visit → Kept → ℕ → List Core → List Visit
part_visits n v k i [] = []
part_visits n v k i (e ∷ es) = part_visit n v i e v.scope (child k i) ∷ part_visits n v k (i + 1) es

-- the values of all parts
abbrev pub part_values : World → ℕ → Visit → Kept → List Core → List Seen
part_values w n v k es = (parts (eval_to n w) (env_of v.scope) k 0 es).values

-- variables with these values, given by the first of these visits
abbrev pub given_by : List Visit → List Seen → List Binding
given_by [] xs = []
given_by (u ∷ us) [] = []
given_by (u ∷ us) (x ∷ xs) = record { value = x; place = u.path } ∷ given_by us xs

-- what a switch chooses waits for the test, which is part number 0
abbrev pub choice_visits : ℕ → Visit → Result Choice Bad → List Visit
choice_visits n v (Err b) = []
choice_visits n v (Ok c) = record (part_visit n v c.number c.expr v.scope (choice_kept v.kept c)) { waits = part_at v.path 0 ∷ [] } ∷ []

-- a function's body is called, as part number m, in the scope of its arguments alone
abbrev pub call_visits : ℕ → Visit → ℕ → List Binding → Option Core → List Visit
call_visits n v m arguments None = []
call_visits n v m arguments (Some body) = record (part_visit n v m body arguments (child v.kept m)) { price = 1 } ∷ []

-- a handler's body is called, as part number m, where the values of the parts before it ask for that
abbrev pub handler_visits : ℕ → Visit → ℕ → List Visit → Core → Begun → List Visit
handler_visits n v m ps body (known l) = []
handler_visits n v m ps body (asks args) = record (part_visit n v m body (v.scope ++ given_by ps args) kept.Nothing) { price = 1; waits = paths ps } ∷ []

-- a value that a loop's list or count gives, which is part number 1
abbrev pub round_binding : Visit → Seen → Binding
round_binding v x = record { value = x; place = part_at v.path 1 }

-- turn number t of a loop, in part number m, is called by the list or the count
abbrev pub turn_visit : ℕ → Visit → ℕ → Core → ℕ → Binding → List Seen → Visit
turn_visit n v m body t acc xs = record {
  path = part_at (part_at v.path m) t;
  level = n;
  expr = body;
  scope = v.scope ++ acc ∷ map (round_binding v) xs;
  kept = kept.Nothing;
  price = 1;
  waits = part_at v.path 1 ∷ [];
}

-- a visit's value, as that of a variable
abbrev pub given : World → Visit → Binding
given w v = record { value = (answer w v).value; place = v.path }

-- the turns from number t on: each gives the next one's accumulator
abbrev pub turn_visits : World → ℕ → Visit → ℕ → Core → ℕ → Binding → List (List Seen) → List Visit
turn_visits w n v m body t acc [] = []
turn_visits w n v m body t acc (xs ∷ rest) = let u = turn_visit n v m body t acc xs in u ∷ turn_visits w n v m body (t + 1) (given w u) rest

-- part number 0 gives the first accumulator
abbrev pub loop_visits : World → ℕ → Visit → ℕ → Core → Seen → Result (List (List Seen)) Bad → List Visit
loop_visits w n v m body acc (Err b) = []
loop_visits w n v m body acc (Ok rest) = turn_visits w n v m body 0 (record { value = acc; place = part_at v.path 0 }) rest

-- what an evaluation evaluates one level below, in order: one case for each shape
abbrev pub inside_shape : World → ℕ → Visit → Core-F Core → List Visit
inside_shape w n v (Core-F.Lit x) = []
inside_shape w n v (Core-F.Var x) = []
inside_shape w n v (Core-F.Source s) = []
inside_shape w n v (Core-F.Let es body) =
    let ps = part_visits n v v.kept 0 es in
    ps ++ part_visit n v (length es) body (v.scope ++ given_by ps (part_values w n v v.kept es)) (child v.kept (length es)) ∷ []
inside_shape w n v (Core-F.If test a b) = let t = part_visit n v 0 test v.scope (child v.kept 0) in t ∷ choice_visits n v (choose a b (answer w t).value)
inside_shape w n v (Core-F.Apply f es) =
    let ps = part_visits n v v.kept 0 es in
    ps ++ call_visits n v (length es) (given_by ps (part_values w n v v.kept es)) (body_for (slice_get w.functions f.0) (length es))
inside_shape w n v (Core-F.Operator o es) = part_visits n v (behind_cell (of_operator o) v.kept) 0 es
inside_shape w n v (Core-F.Handler h es body) =
    let k = behind_cell (of_handler h) v.kept in
    let ps = part_visits n v k 0 es in
    ps ++ handler_visits n v (length es) ps body (handler_begin h (form_cell (of_handler h) v.kept) (part_values w n v k es))
inside_shape w n v (Core-F.Loop l es body) =
    let xs = part_values w n v v.kept es in
    part_visits n v v.kept 0 es ++ loop_visits w n v (length es) body (part xs 0) (rounds l (part xs 1))
inside_shape w n v (Core-F.Feedback init body) =
    let k = behind_cell of_feedback v.kept in
    let i = part_visit n v 0 init v.scope (child k 0) in
    i ∷ part_visit n v 1 body (v.scope ++ given_by (i ∷ []) (fed (form_cell of_feedback v.kept) (answer w i).value ∷ [])) (child k 1) ∷ []

abbrev pub inside_to : ℕ → World → Visit → List Visit
inside_to zero w v = []
inside_to (suc n) w v = inside_shape w n v (out-Core v.expr)

-- what a visit's evaluation evaluates one level below, in order; nothing beyond the last level
abbrev pub inside : World → Visit → List Visit
inside w v = inside_to v.level w v

-- to a number of nested levels: all that is inside, each with what is inside it, and then the expression itself
unfoldable pub visits_to : ℕ → World → Visit → List Visit
visits_to zero w v = v ∷ []
visits_to (suc n) w v = flat_map (visits_to n w) (inside_shape w n v (out-Core v.expr)) ++ v ∷ []

-- all that an evaluation visits
abbrev pub visits : World → Visit → List Visit
visits w v = visits_to v.level w v

-- all that these evaluations visit, one after the other
abbrev pub all_visits : World → List Visit → List Visit
all_visits w vs = flat_map (visits w) vs

-- what a visit costs itself: the calls that it makes
abbrev pub own_cost : World → Visit → ℕ
own_cost w v = total (map (λ u. u.price) (inside w v))

-- the form of the table that a shape is, if it is one
abbrev pub form_of : Core-F Core → Option StateForm
form_of (Core-F.Operator o es) = Some (of_operator o)
form_of (Core-F.Handler h es body) = Some (of_handler h)
form_of (Core-F.Feedback init body) = Some of_feedback
form_of l = None

-- the cell of a form in what was kept for it
abbrev pub cell_of : Option StateForm → Kept → Option Cell
cell_of None k = None
cell_of (Some form) k = form_cell form k

-- what an expression itself reads: a variable in scope, or a source
abbrev pub reading : World → List Binding → Core-F Core → Option Seen
reading w scope (Core-F.Var x) = slice_get (env_of scope) x.0
reading w scope (Core-F.Source s) = Some (source_seen (slice_get w.sources s.0))
reading w scope l = None

-- the refusal of a part beside a form's value, from the values of what is inside
abbrev pub refusal_of : Option StateForm → Kept → List Seen → Option Bad
refusal_of None k xs = None
refusal_of (Some form) k xs = (state_now form (form_cell form k) xs no_call).refusal

-- the kind of a value that is Bad
abbrev pub bad_of : Seen → Option Bad
bad_of (Ok x) = None
bad_of (Err b) = Some b

-- the error of a visit itself: its value is Bad, or its form refuses a part
abbrev pub own_error : World → Visit → Option Bad
own_error w v = option_or (bad_of (answer w v).value) (refusal_of (form_of (out-Core v.expr)) v.kept (map (λ u. (answer w u).value) (inside w v)))

-- an error of this kind at this place
abbrev pub error_at : List ℕ → Option Bad → First
error_at at b = option_map (λ b. (at, b)) b

-- the error of the first visit that has one
abbrev pub first_error : World → List Visit → First
first_error w [] = None
first_error w (v ∷ vs) = option_or (error_at v.path (own_error w v)) (first_error w vs)

-- the first error of an evaluation at this place, as one of the whole
abbrev pub placed : List ℕ → First → First
placed at f = option_map (λ x. (at ++ x.0, x.1)) f

abbrev pub place_of : Option Binding → List (List ℕ)
place_of None = []
place_of (Some b) = b.place ∷ []

-- the place that gives a variable
abbrev pub variable_place : List Binding → Core-F Core → List (List ℕ)
variable_place scope (Core-F.Var x) = place_of (slice_get scope x.0)
variable_place scope l = []

abbrev pub reads_to : ℕ → Visit → List (List ℕ)
reads_to zero v = []
reads_to (suc n) v = variable_place v.scope (out-Core v.expr)

-- the places whose values a visit uses: what it waits for, what gives it as a variable, and what is inside it
abbrev pub uses : World → Visit → List (List ℕ)
uses w v = v.waits ++ (reads_to v.level v ++ paths (inside w v))

-- an item of a program's body, as number i, at nest 1
abbrev pub item_visit : List Binding → Kept → ℕ → Item → Visit
item_visit scope k i x = record { path = i ∷ []; level = most_levels; expr = item_expr x; scope = scope; kept = child k i; price = 0; waits = [] }

-- the items from number i on, where a value is bound for the items behind it
abbrev pub item_visits : World → List Binding → Kept → ℕ → List Item → List Visit
item_visits w scope k i [] = []
item_visits w scope k i (x ∷ xs) = let v = item_visit scope k i x in v ∷ item_visits w (with_bound x scope (given w v)) k (i + 1) xs

-- all that the evaluation of a program's body visits
abbrev pub body_visits : Program → List Now → Kept → List Visit
body_visits p sources k = all_visits (world_of p sources) (item_visits (world_of p sources) [] k 0 p.body)
