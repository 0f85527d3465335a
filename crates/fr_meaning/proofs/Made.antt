-- What an evaluation answers is made of what the expression itself reads, its form's cell and the answers of all that is inside, shape by shape.
use Rattle.std.proofs.Common.{◌≡◌, ◌≤◌, ℕ, ◌+◌, zero, suc, List, [], ◌∷◌, ◌++◌, map, length, slice_get, refl, sym, ap, ◌∙◌, arith, subst, Option, Some, None, Result, Ok, Err}
use Rattle.std.proofs.lemmas.List.{append-nil}
use Rattle.fr_value.specs.declared.now.Bad.{Bad}
use Rattle.fr_value.specs.declared.now.Bad.TheVariants.{Arity}
use Rattle.fr_core.specs.declared.core_form.Core.{Core, out-Core}
use Rattle.fr_core.specs.declared.core_form.Core.TheOpen.{Core-F}
use Rattle.fr_core.specs.declared.kept.Kept.{Kept}
use Rattle.fr_core.specs.declared.kept.Kept.TheVariants as kept
use Rattle.fr_core.specs.declared.program.Function.{Function}
use Rattle.fr_meaning.specs.Words.{Seen, Done, plain, found, part}
use Rattle.fr_meaning.specs.Cells.{Cell, child}
use Rattle.fr_meaning.specs.States.{Line, Called, Begun, known, asks, of_operator, of_handler, of_feedback, fed, handler_begin, handler_end, finished, no_call, state_now}
use Rattle.fr_meaning.specs.Evaluation.{World, Parts, parts, no_parts, join_part, leaf, parts_only, after_parts, Choice, choose, choice_done, test_refused, switch_done, call_done, body_for, Turns, turned, no_turns, turns, rounds, all_turns, turns_done, body_with, handler, line_done, form_cell, behind_cell, layer, deep, eval_to}
use Rattle.fr_meaning.specs.Visits.{Binding, env_of, Visit, answer, part_visit, part_visits, part_values, given_by, choice_visits, call_visits, handler_visits, round_binding, turn_visit, given, turn_visits, loop_visits, inside_shape, inside_to, inside, form_of, cell_of, reading}
use Rattle.fr_meaning.specs.Order.{GoBySame}
use Rattle.fr_meaning.proofs.Begins.{BeginsWell, begins_well}
use Rattle.fr_meaning.proofs.Told.{scope_env, given_env, round_env, few_values, called, call_of, fed_line}

-- the answers of so many parts, joined, and the others
record Cut : Type 0 where
  joined : Parts
  rest : List Done

abbrev cut : ℕ → List Core → List Done → Cut
cut i [] ds = record { joined = no_parts; rest = ds }
cut i (e ∷ es) [] = record { joined = no_parts; rest = [] }
cut i (e ∷ es) (d ∷ ds) = let c = cut (i + 1) es ds in record { joined = join_part i d c.joined; rest = c.rest }

abbrev first_of : List Done → Done
first_of [] = deep
first_of (d ∷ ds) = d

abbrev made_choice : Done → Result Choice Bad → Done → Done
made_choice t (Err b) d = test_refused t b
made_choice t (Ok c) d = choice_done t c d

abbrev made_switch : Core → Core → List Done → Done
made_switch a b [] = deep
made_switch a b (t ∷ ds) = made_choice t (choose a b t.value) (first_of ds)

abbrev made_call : ℕ → Parts → Option Core → Done → Done
made_call m ps None d = parts_only (Err Arity) ps
made_call m ps (Some body) d = called m ps d

abbrev made_turns : ℕ → Seen → List Done → Turns
made_turns t acc [] = no_turns acc
made_turns t acc (d ∷ ds) = turned t d (made_turns (t + 1) d.value ds)

abbrev made_all : Seen → Result (List (List Seen)) Bad → List Done → Turns
made_all acc (Err b) ds = no_turns (Err b)
made_all acc (Ok rest) ds = made_turns 0 acc ds

abbrev made_feedback : Option Cell → List Done → Done
made_feedback cell [] = deep
made_feedback cell (i ∷ []) = deep
made_feedback cell (i ∷ b ∷ ds) = fed_line cell i b

abbrev made : List Function → Core-F Core → Option Seen → Option Cell → List Done → Done
made fs (Core-F.Lit x) r cell ds = leaf (plain x)
made fs (Core-F.Var x) r cell ds = leaf (found r)
made fs (Core-F.Source s) r cell ds = leaf (found r)
made fs (Core-F.Let es body) r cell ds = let c = cut 0 es ds in after_parts (length es) c.joined (first_of c.rest)
made fs (Core-F.If test a b) r cell ds = made_switch a b ds
made fs (Core-F.Apply f es) r cell ds = let c = cut 0 es ds in made_call (length es) c.joined (body_for (slice_get fs f.0) (length es)) (first_of c.rest)
made fs (Core-F.Operator o es) r cell ds = let c = cut 0 es ds in line_done c.joined (state_now (of_operator o) cell c.joined.values no_call)
made fs (Core-F.Handler h es body) r cell ds =
    let c = cut 0 es ds in
    line_done c.joined (finished (λ args. call_of (length es) (first_of c.rest)) (handler_end h) (handler_begin h cell c.joined.values))
made fs (Core-F.Loop l es body) r cell ds = let c = cut 0 es ds in turns_done (length es) c.joined (made_all (part c.joined.values 0) (rounds l (part c.joined.values 1)) c.rest)
made fs (Core-F.Feedback init body) r cell ds = made_feedback cell ds

module _ (w : World) (n : ℕ) (v : Visit) where
  cut_parts : (k : Kept) (i : ℕ) (es : List Core) (us : List Visit)
      → cut i es (map (answer w) (part_visits n v k i es ++ us)) ≡ record { joined = parts (eval_to n w) (env_of v.scope) k i es; rest = map (answer w) us }
  cut_parts k i [] us = refl
  cut_parts k i (e ∷ es) us = ap (λ (c : Cut). record { joined = join_part i (eval_to n w e (env_of v.scope) (child k i)) c.joined; rest = c.rest }) (cut_parts k (i + 1) es us)

  -- what is made of parts and of what stands behind them
  by_cut : (k : Kept) (es : List Core) (us : List Visit) (d : Done) (make : Cut → Done)
      → d ≡ make (record { joined = parts (eval_to n w) (env_of v.scope) k 0 es; rest = map (answer w) us }) → d ≡ make (cut 0 es (map (answer w) (part_visits n v k 0 es ++ us)))
  by_cut k es us d make h = h ∙ ap make (sym (cut_parts k 0 es us))

  choice_made : (t : Done) (r : Result Choice Bad) → switch_done (eval_to n w) (env_of v.scope) v.kept t r ≡ made_choice t r (first_of (map (answer w) (choice_visits n v r)))
  choice_made t (Err b) = refl
  choice_made t (Ok c) = refl

  call_made : (m : ℕ) (ps : Parts) (arguments : List Binding) → env_of arguments ≡ ps.values → (body : Option Core)
      → call_done (eval_to n w) v.kept m ps body ≡ made_call m ps body (first_of (map (answer w) (call_visits n v m arguments body)))
  call_made m ps arguments q None = refl
  call_made m ps arguments q (Some body) = ap (λ xs. called m ps (eval_to n w body xs (child v.kept m))) (sym q)

  handler_made : (m : ℕ) (us : List Visit) (body : Core) (end : List Seen → Called → Line) (few : ℕ) → few ≤ length us → (b : Begun) → BeginsWell few b
      → finished (handler (eval_to n w) (env_of v.scope) m body) end b ≡ finished (λ args. call_of m (first_of (map (answer w) (handler_visits n v m us body b)))) end b
  handler_made m us body end few long (known l) q = refl
  handler_made m us body end few long (asks args) q =
      ap (λ xs. end args (call_of m (eval_to n w body xs kept.Nothing))) (sym (scope_env v.scope (given_by us args) args (given_env us args (omega (arith, long, q)))))

  turns_made : (m : ℕ) (body : Core) (t : ℕ) (acc : Binding) (rest : List (List Seen))
      → turns (body_with (eval_to n w) (env_of v.scope) body) t acc.value rest ≡ made_turns t acc.value (map (answer w) (turn_visits w n v m body t acc rest))
  turns_made m body t acc [] = refl
  turns_made m body t acc (xs ∷ rest) =
      let more = acc ∷ map (round_binding v) xs in
      let u = turn_visit n v m body t acc xs in
      let a = answer w u in
      let all = turn_visits w n v m body (t + 1) (given w u) rest in
      let f = body_with (eval_to n w) (env_of v.scope) body in
      subst (λ ys. let d = eval_to n w body ys kept.Nothing in turned t d (turns f (t + 1) d.value rest) ≡ turned t a (made_turns (t + 1) a.value (map (answer w) all)))
      (scope_env v.scope more (acc.value ∷ xs) (ap (λ ys. acc.value ∷ ys) (round_env v xs))) (ap (turned t a) (turns_made m body (t + 1) (given w u) rest))

  loop_made : (m : ℕ) (body : Core) (acc : Seen) (r : Result (List (List Seen)) Bad)
      → all_turns (body_with (eval_to n w) (env_of v.scope) body) acc r ≡ made_all acc r (map (answer w) (loop_visits w n v m body acc r))
  loop_made m body acc (Err b) = refl
  loop_made m body acc (Ok rest) = turns_made m body 0 _ rest

  made_shape : (l : Core-F Core) → layer w (eval_to n w) (env_of v.scope) v.kept l ≡ made w.functions l (reading w v.scope l) (cell_of (form_of l) v.kept) (map (answer w) (inside_shape w n v l))
  made_shape (Core-F.Lit x) = refl
  made_shape (Core-F.Var x) = refl
  made_shape (Core-F.Source s) = refl
  made_shape (Core-F.Let es body) =
      let m = length es in
      let us = part_visits n v v.kept 0 es in
      let xs = part_values w n v v.kept es in
      let ps = parts (eval_to n w) (env_of v.scope) v.kept 0 es in
      by_cut v.kept es _ _ (λ (c : Cut). after_parts m c.joined (first_of c.rest))
      (ap (λ ys. after_parts m ps (eval_to n w body ys (child v.kept m))) (sym (scope_env v.scope (given_by us xs) xs (given_env us xs (few_values w n v v.kept es)))))
  made_shape (Core-F.If test a b) = let t = answer w (part_visit n v 0 test v.scope (child v.kept 0)) in choice_made t (choose a b t.value)
  made_shape (Core-F.Apply f es) =
      let m = length es in
      let us = part_visits n v v.kept 0 es in
      let ps = parts (eval_to n w) (env_of v.scope) v.kept 0 es in
      let body = body_for (slice_get w.functions f.0) m in
      by_cut v.kept es (call_visits n v m (given_by us ps.values) body) _ (λ (c : Cut). made_call m c.joined body (first_of c.rest))
      (call_made m ps (given_by us ps.values) (given_env us ps.values (few_values w n v v.kept es)) body)
  made_shape (Core-F.Operator o es) =
      let k = behind_cell (of_operator o) v.kept in
      let make = λ (c : Cut). line_done c.joined (state_now (of_operator o) (form_cell (of_operator o) v.kept) c.joined.values no_call) in
      subst (λ us. layer w (eval_to n w) (env_of v.scope) v.kept (Core-F.Operator o es) ≡ make (cut 0 es (map (answer w) us))) (append-nil (part_visits n v k 0 es)) (by_cut k es [] _ make refl)
  made_shape (Core-F.Handler h es body) =
      let k = behind_cell (of_handler h) v.kept in
      let cell = form_cell (of_handler h) v.kept in
      let m = length es in
      let us = part_visits n v k 0 es in
      let ps = parts (eval_to n w) (env_of v.scope) k 0 es in
      let b = handler_begin h cell ps.values in
      by_cut k es (handler_visits n v m us body b) _ (λ (c : Cut). line_done c.joined (finished (λ args. call_of m (first_of c.rest)) (handler_end h) (handler_begin h cell c.joined.values)))
      (ap (line_done ps) (handler_made m us body (handler_end h) (length ps.values) (few_values w n v k es) b (begins_well h cell ps.values)))
  made_shape (Core-F.Loop l es body) =
      let m = length es in
      let ps = parts (eval_to n w) (env_of v.scope) v.kept 0 es in
      let acc = part ps.values 0 in
      let r = rounds l (part ps.values 1) in
      by_cut v.kept es (loop_visits w n v m body acc r) _ (λ (c : Cut). turns_done m c.joined (made_all (part c.joined.values 0) (rounds l (part c.joined.values 1)) c.rest))
      (ap (turns_done m ps) (loop_made m body acc r))
  made_shape (Core-F.Feedback init body) =
      let k = behind_cell of_feedback v.kept in
      let cell = form_cell of_feedback v.kept in
      let i = part_visit n v 0 init v.scope (child k 0) in
      let more = given_by (i ∷ []) (fed cell (answer w i).value ∷ []) in
      ap (λ xs. fed_line cell (answer w i) (eval_to n w body xs (child k 1))) (sym (scope_env v.scope more (env_of more) refl))

abbrev made_to : ℕ → List Function → Core-F Core → Option Seen → Option Cell → List Done → Done
made_to zero fs l r cell ds = deep
made_to (suc n) fs l r cell ds = made fs l r cell ds

is_made : (w : World) (v : Visit) → answer w v ≡ made_to v.level w.functions (out-Core v.expr) (reading w v.scope (out-Core v.expr)) (cell_of (form_of (out-Core v.expr)) v.kept) (map (answer w) (inside w v))
unfolding eval_to
is_made w v = at v.level
  where
    at : (m : ℕ) → eval_to m w v.expr (env_of v.scope) v.kept ≡ made_to m w.functions (out-Core v.expr) (reading w v.scope (out-Core v.expr)) (cell_of (form_of (out-Core v.expr)) v.kept) (map (answer w) (inside_to m w v))
    at zero = refl
    at (suc n) = made_shape w n v (out-Core v.expr)

pub go_by_same : (w : World) (v : Visit) (w' : World) (u : Visit) → GoBySame w v w' u → answer w v ≡ answer w' u
go_by_same w v w' u h =
    let r = reading w v.scope (out-Core v.expr) in
    let cell = cell_of (form_of (out-Core v.expr)) v.kept in
    let ds = map (answer w) (inside w v) in
    is_made w v
    ∙ ap (λ m. made_to m w.functions (out-Core v.expr) r cell ds) h.level
    ∙ ap (λ fs. made_to u.level fs (out-Core v.expr) r cell ds) h.functions
    ∙ ap (λ e. made_to u.level w'.functions (out-Core e) r cell ds) h.expr
    ∙ ap (λ r. made_to u.level w'.functions (out-Core u.expr) r cell ds) h.read
    ∙ ap (λ c. made_to u.level w'.functions (out-Core u.expr) (reading w' u.scope (out-Core u.expr)) c ds) h.cell
    ∙ ap (λ ds. made_to u.level w'.functions (out-Core u.expr) (reading w' u.scope (out-Core u.expr)) (cell_of (form_of (out-Core u.expr)) u.kept) ds) h.answers
    ∙ sym (is_made w' u)
