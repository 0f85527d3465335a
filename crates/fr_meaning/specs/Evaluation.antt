-- The evaluation of an expression, one level at a time.
use Rattle.std.specs.Prelude.{ℕ, ◌+◌, ◌-◌, ◌==◌, nat_le, zero, suc, ℤ, pos, negsuc, Bool, true, false, if◌then◌else◌, List, [], ◌∷◌, ◌++◌, map, length, replicate, slice_get, Option, Some, None, Result, Ok, Err}
use Rattle.std.specs.Option.{option_or}
use Rattle.fr_value.specs.Data.{value_of}
use Rattle.fr_value.specs.declared.value.Datum.{Datum}
use Rattle.fr_value.specs.declared.value.Value.TheVariants as value
use Rattle.fr_value.specs.declared.now.Now.{Now}
use Rattle.fr_value.specs.declared.now.Now.TheVariants.{Plain}
use Rattle.fr_value.specs.declared.now.Bad.{Bad}
use Rattle.fr_value.specs.declared.now.Bad.TheVariants.{WrongType, Range, Arity, Deep}
use Rattle.fr_core.specs.declared.core_form.Core.{Core, out-Core}
use Rattle.fr_core.specs.declared.core_form.Core.TheOpen.{Core-F}
use Rattle.fr_core.specs.declared.core_form.Loop.{Loop}
use Rattle.fr_core.specs.declared.core_form.Loop.TheVariants as loop
use Rattle.fr_core.specs.declared.kept.Key.{Key}
use Rattle.fr_core.specs.declared.kept.Key.TheVariants as key
use Rattle.fr_core.specs.declared.kept.Kept.{Kept}
use Rattle.fr_core.specs.declared.kept.Kept.TheVariants as kept
use Rattle.fr_core.specs.declared.program.Function.{Function}
use Rattle.fr_core.specs.declared.program.Program.{Program}
use Rattle.fr_meaning.specs.Words.{Seen, Env, First, Done, under, own, plain, found, part, on_ok, test_of}
use Rattle.fr_meaning.specs.Cells.{Cell, child, cell_in, behind, under_key, with_cell}
use Rattle.fr_meaning.specs.States.{Line, Call, StateForm, of_operator, of_handler, of_feedback, cell_kind, no_call, fed, state_now}

-- what is the same for every part at an instant: the program's functions and the values of its sources
pub record World : Type 0 where
  pub functions : List Function
  pub sources : List Now

-- the functions of a program, where its sources have these values
abbrev pub world_of : Program → List Now → World
world_of p sources = record { functions = p.functions; sources = sources }

-- an evaluation of parts, one level below, where these variables are in scope and this was kept
abbrev pub Ev : Type 0
Ev = Core → Env → Kept → Done

-- parts that were evaluated from left to right
pub record Parts : Type 0 where
  pub values : List Seen
  pub kepts : List Kept
  pub cost : ℕ
  pub first : First

abbrev pub join_part : ℕ → Done → Parts → Parts
join_part i d ps = record { values = d.value ∷ ps.values; kepts = d.kept ∷ ps.kepts; cost = d.cost + ps.cost; first = option_or (under i d.first) ps.first }

abbrev pub no_parts : Parts
no_parts = record { values = []; kepts = []; cost = 0; first = None }

-- the parts from number i on, each over its part of what was kept
abbrev pub parts : Ev → Env → Kept → ℕ → List Core → Parts
parts ev env k i [] = no_parts
parts ev env k i (e ∷ es) = join_part i (ev e env (child k i)) (parts ev env k (i + 1) es)

-- an evaluation that gives this value after what was evaluated inside: an error inside comes before its own
abbrev pub ended : Seen → Kept → ℕ → First → Done
ended v k cost inner = record { value = v; kept = k; cost = cost; first = option_or inner (own v) }

abbrev pub leaf : Seen → Done
leaf v = ended v kept.Nothing 0 None

abbrev pub source_seen : Option Now → Seen
source_seen None = Err Deep
source_seen (Some n) = Ok n

-- an evaluation that keeps what its parts keep
abbrev pub parts_only : Seen → Parts → Done
parts_only v ps = ended v (kept.Group ps.kepts) ps.cost ps.first

-- parts, and behind them part number n, whose value is that of the whole
abbrev pub after_parts : ℕ → Parts → Done → Done
after_parts n ps d = ended d.value (kept.Group (ps.kepts ++ d.kept ∷ [])) (ps.cost + d.cost) (option_or ps.first (under n d.first))

-- the bindings, and then the body with their values
abbrev pub let_done : Ev → Env → Kept → ℕ → Parts → Core → Done
let_done ev env k n ps body = after_parts n ps (ev body (env ++ ps.values) (child k n))

-- what a switch goes on with: the key that it chose by, and the number and the expression of the part that it chose
pub record Choice : Type 0 where
  pub key : Key
  pub number : ℕ
  pub expr : Core

abbrev pub chosen_by : Core → Core → Bool → Choice
chosen_by a b true = record { key = key.Test true; number = 1; expr = a }
chosen_by a b false = record { key = key.Test false; number = 2; expr = b }

-- what the value of the test chooses, or why that can't be told
abbrev pub choose : Core → Core → Seen → Result Choice Bad
choose a b v = on_ok (chosen_by a b) (test_of v)

-- what the choice kept, where the switch chose by the same key before
abbrev pub choice_kept : Kept → Choice → Kept
choice_kept k c = under_key c.key (child k 1)

-- a test, and behind it the choice
abbrev pub choice_done : Done → Choice → Done → Done
choice_done t c d = ended d.value (kept.Group (t.kept ∷ kept.Switch c.key d.kept ∷ [])) (t.cost + d.cost) (option_or (under 0 t.first) (under c.number d.first))

-- a test that can't be told
abbrev pub test_refused : Done → Bad → Done
test_refused t b = ended (Err b) (kept.Group (t.kept ∷ kept.Nothing ∷ [])) t.cost (under 0 t.first)

-- the choice goes on with what was kept where the switch chose by the same before
abbrev pub switch_done : Ev → Env → Kept → Done → Result Choice Bad → Done
switch_done ev env k t (Err b) = test_refused t b
switch_done ev env k t (Ok c) = choice_done t c (ev c.expr env (choice_kept k c))

-- the body of a function that has so many parameters
abbrev pub body_for : Option Function → ℕ → Option Core
body_for None n = None
body_for (Some f) n = if f.params == n then Some f.body else None

-- the arguments, and then the body with their values alone, at a cost of 1; a wrong number of arguments costs nothing
abbrev pub call_done : Ev → Kept → ℕ → Parts → Option Core → Done
call_done ev k n ps None = parts_only (Err Arity) ps
call_done ev k n ps (Some body) = let d = ev body ps.values (child k n) in
    ended d.value (kept.Group (ps.kepts ++ d.kept ∷ [])) (ps.cost + (d.cost + 1)) (option_or ps.first (under n d.first))

-- the turns of a loop
pub record Turns : Type 0 where
  pub value : Seen
  pub cost : ℕ
  pub first : First

-- turn number t, which costs 1, before those behind it
abbrev pub turned : ℕ → Done → Turns → Turns
turned t d rest = record { value = rest.value; cost = d.cost + 1 + rest.cost; first = option_or (under t d.first) rest.first }

abbrev pub no_turns : Seen → Turns
no_turns v = record { value = v; cost = 0; first = None }

-- a turn for each of these values beside the accumulator, from number t on
abbrev pub turns : (List Seen → Done) → ℕ → Seen → List (List Seen) → Turns
turns body t acc [] = no_turns acc
turns body t acc (vs ∷ rest) = let r = body (acc ∷ vs) in turned t r (turns body (t + 1) r.value rest)

-- the list to go over, or why there is none
abbrev pub list_in : Seen → Result (List Datum) Bad
list_in (Err b) = Err b
list_in (Ok (Plain (value.List ds))) = Ok ds
list_in (Ok n) = Err WrongType

-- the most turns of a loop by a number
abbrev pub most_turns : ℕ
most_turns = 1048576

-- the number of turns, or why there is none
abbrev pub turns_in : ℤ → Result ℕ Bad
turns_in (pos n) = if nat_le n most_turns then Ok n else Err Range
turns_in (negsuc n) = Err Range

abbrev pub count_in : Seen → Result ℕ Bad
count_in (Err b) = Err b
count_in (Ok (Plain (value.Int n))) = turns_in n
count_in (Ok n) = Err WrongType

-- for each turn of a loop over this list or count the values beside the accumulator, or why there is none
abbrev pub rounds : Loop → Seen → Result (List (List Seen)) Bad
rounds loop.Fold x = on_ok (map (λ d. plain (value_of d) ∷ [])) (list_in x)
rounds loop.Repeat x = on_ok (λ n. replicate n []) (count_in x)

-- all turns, or why there is none
abbrev pub all_turns : (List Seen → Done) → Seen → Result (List (List Seen)) Bad → Turns
all_turns body acc (Err b) = no_turns (Err b)
all_turns body acc (Ok rest) = turns body 0 acc rest

-- a loop's parts, and then its turns, in part number n
abbrev pub turns_done : ℕ → Parts → Turns → Done
turns_done n ps ts = ended ts.value (kept.Group ps.kepts) (ps.cost + ts.cost) (option_or ps.first (under n ts.first))

-- a body that is evaluated with further values, and for which nothing is kept
abbrev pub body_with : Ev → Env → Core → List Seen → Done
body_with ev env body args = ev body (env ++ args) kept.Nothing

-- the first accumulator and the list or count, and then the turns
abbrev pub loop_done : Ev → Env → Loop → ℕ → Parts → Core → Done
loop_done ev env l n ps body = turns_done n ps (all_turns (body_with ev env body) (part ps.values 0) (rounds l (part ps.values 1)))

-- a handler's call, which costs 1; its body is part number n
abbrev pub handler : Ev → Env → ℕ → Core → Call
handler ev env n body args = let d = body_with ev env body args in record { value = d.value; cost = d.cost + 1; first = under n d.first }

abbrev pub refusal_first : Option Bad → First
refusal_first None = None
refusal_first (Some b) = Some ([], b)

-- a form's parts, and then its line
abbrev pub line_done : Parts → Line → Done
line_done ps l = record {
  value = l.value;
  kept = with_cell l.next (kept.Group ps.kepts);
  cost = ps.cost + l.cost;
  first = option_or ps.first (option_or l.inner (option_or (own l.value) (refusal_first l.refusal)));
}

-- a form's cell in what was kept, and what its parts kept
abbrev pub form_cell : StateForm → Kept → Option Cell
form_cell form k = cell_in (cell_kind form) k

abbrev pub behind_cell : StateForm → Kept → Kept
behind_cell form k = behind (cell_kind form) k

-- the parts of a form of the table, and then its line
abbrev pub state_done : Ev → Env → Kept → StateForm → List Core → Call → Done
state_done ev env k form es call = let ps = parts ev env (behind_cell form k) 0 es in line_done ps (state_now form (form_cell form k) ps.values call)

-- INIT, and then BODY with the form's name bound to the cell or to INIT's value
abbrev pub feedback_done : Ev → Env → Kept → Done → Core → Done
feedback_done ev env k init body =
    let cell = form_cell of_feedback k in
    let b = ev body (env ++ fed cell init.value ∷ []) (child (behind_cell of_feedback k) 1) in
    line_done (join_part 0 init (join_part 1 b no_parts)) (state_now of_feedback cell (init.value ∷ b.value ∷ []) no_call)

-- one case for each shape
abbrev pub layer : World → Ev → Env → Kept → Core-F Core → Done
layer w ev env k (Core-F.Lit v) = leaf (plain v)
layer w ev env k (Core-F.Var x) = leaf (found (slice_get env x.0))
layer w ev env k (Core-F.Source s) = leaf (source_seen (slice_get w.sources s.0))
layer w ev env k (Core-F.Let es body) = let_done ev env k (length es) (parts ev env k 0 es) body
layer w ev env k (Core-F.If test a b) = let t = ev test env (child k 0) in switch_done ev env k t (choose a b t.value)
layer w ev env k (Core-F.Apply f es) = call_done ev k (length es) (parts ev env k 0 es) (body_for (slice_get w.functions f.0) (length es))
layer w ev env k (Core-F.Operator o es) = state_done ev env k (of_operator o) es no_call
layer w ev env k (Core-F.Handler h es body) = state_done ev env k (of_handler h) es (handler ev env (length es) body)
layer w ev env k (Core-F.Loop l es body) = loop_done ev env l (length es) (parts ev env k 0 es) body
layer w ev env k (Core-F.Feedback init body) = feedback_done ev env k (ev init env (child (behind_cell of_feedback k) 0)) body

-- beyond the last level nothing is evaluated
abbrev pub deep : Done
deep = record { value = Err Deep; kept = kept.Nothing; cost = 0; first = Some ([], Deep) }

-- the evaluation of an expression, to a number of nested levels
unfoldable pub eval_to : ℕ → World → Ev
eval_to zero w e env k = deep
eval_to (suc n) w e env k = layer w (eval_to n w) env k (out-Core e)

-- the most nested levels of an evaluation
abbrev pub most_levels : ℕ
most_levels = 2000

-- the evaluation at a nest: one whose nest is above the most is too deep
abbrev pub eval : World → ℕ → Ev
eval w nest = eval_to (most_levels + 1 - nest) w
