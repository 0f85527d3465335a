-- An evaluation depends only on the values of the variables in scope that its visits use, shape by shape.
use Rattle.std.proofs.Common.{◌≡◌, ◌≤◌, ℕ, ◌+◌, zero, suc, List, [], ◌∷◌, ◌++◌, map, length, slice_get, refl, sym, ap, ◌∙◌, arith, subst, Some, Result, Ok, Err}
use Rattle.std.specs.List.{AllByRecursion}
use Rattle.std.proofs.lemmas.List.{map-append}
use Rattle.fr_value.specs.declared.now.Bad.{Bad}
use Rattle.fr_core.specs.declared.core_form.Core.{Core, out-Core}
use Rattle.fr_core.specs.declared.core_form.Core.TheOpen.{Core-F}
use Rattle.fr_core.specs.declared.kept.Kept.{Kept}
use Rattle.fr_core.specs.declared.kept.Kept.TheVariants as kept
use Rattle.fr_meaning.specs.Words.{Seen, Env, Done, under, found, part}
use Rattle.fr_meaning.specs.Cells.{child}
use Rattle.fr_meaning.specs.States.{Line, Called, Begun, known, asks, finished, of_operator, of_handler, of_feedback, fed, no_call, handler_begin, handler_end, state_now}
use Rattle.fr_meaning.specs.Evaluation.{World, parts, no_parts, join_part, leaf, after_parts, Choice, choose, choice_done, switch_done, call_done, body_for, turned, turns, all_turns, rounds, turns_done, loop_done, body_with, handler, line_done, form_cell, behind_cell, layer, eval_to}
use Rattle.fr_meaning.specs.Visits.{Binding, env_of, Visit, paths, answer, part_visit, part_visits, given_by, choice_visits, handler_visits, round_binding, turn_visit, given, turn_visits, loop_visits, inside_shape, inside_to, inside, place_of, variable_place, reads_to}
use Rattle.fr_meaning.specs.Order.{AgreeWhere}
use Rattle.fr_meaning.proofs.Begins.{BeginsWell, begins_well}
use Rattle.fr_meaning.proofs.Told.{few_values, given_env, round_env}
use Rattle.fr_meaning.proofs.Each.{each_cut}

module _ (U : List ℕ → Type 0) where
  same : (scope : List Binding) → AgreeWhere U scope scope
  same [] = tt
  same (b ∷ scope) = (refl, λ h. refl, same scope)

  more_agree : (scope other more : List Binding) → AgreeWhere U scope other → AgreeWhere U (scope ++ more) (other ++ more)
  more_agree [] [] more a = same more
  more_agree [] (o ∷ other) more a = absurd a
  more_agree (b ∷ scope) [] more a = absurd a
  more_agree (b ∷ scope) (o ∷ other) more a = (a.0, a.1, more_agree scope other more a.2)

  variable_decided : (scope other : List Binding) (x : ℕ) → AgreeWhere U scope other → AllByRecursion U (place_of (slice_get scope x)) → slice_get (env_of scope) x ≡ slice_get (env_of other) x
  variable_decided [] [] x a f = refl
  variable_decided [] (o ∷ other) x a f = absurd a
  variable_decided (b ∷ scope) [] x a f = absurd a
  variable_decided (b ∷ scope) (o ∷ other) zero a f = ap Some (a.1 f.0)
  variable_decided (b ∷ scope) (o ∷ other) (suc x) a f = variable_decided scope other x a.2 f

  -- a visit's evaluation is the same in any scope that agrees with its own
  abbrev pub IsDecided : World → Visit → Type 0
  IsDecided w v = (other : List Binding) → AgreeWhere U v.scope other → answer w v ≡ answer w (record v { scope = other })

  module _ (w : World) (n : ℕ) (v : Visit) (other : List Binding) (a : AgreeWhere U v.scope other) where
    parts_decided : (k : Kept) (i : ℕ) (es : List Core) → AllByRecursion (IsDecided w) (part_visits n v k i es) → parts (eval_to n w) (env_of v.scope) k i es ≡ parts (eval_to n w) (env_of other) k i es
    parts_decided k i [] f = refl
    parts_decided k i (e ∷ es) f = rw (f.0 other a, parts_decided k (i + 1) es f.1) refl

    -- a body with further variables, which have these values
    body_decided : (u : Visit) (more : List Binding) → u.scope ≡ v.scope ++ more → IsDecided w u → (vs : List Seen) → env_of more ≡ vs
        → eval_to u.level w u.expr (env_of v.scope ++ vs) u.kept ≡ eval_to u.level w u.expr (env_of other ++ vs) u.kept
    body_decided u more e f vs q =
        let ev = λ (env : Env). eval_to u.level w u.expr env u.kept in
        let agree = subst (λ s. AgreeWhere U s (other ++ more)) (sym e) (more_agree v.scope other more a) in
        subst (λ vs. ev (env_of v.scope ++ vs) ≡ ev (env_of other ++ vs)) q
        (ap ev (sym (map-append (λ b. b.value) v.scope more)) ∙ ap (λ s. ev (env_of s)) (sym e) ∙ f (other ++ more) agree ∙ ap ev (map-append (λ b. b.value) other more))

    choice_decided : (t : Done) (r : Result Choice Bad) → AllByRecursion (IsDecided w) (choice_visits n v r) → switch_done (eval_to n w) (env_of v.scope) v.kept t r ≡ switch_done (eval_to n w) (env_of other) v.kept t r
    choice_decided t (Err bad) f = refl
    choice_decided t (Ok c) f = ap (choice_done t c) (f.0 other a)

    handler_decided : (m : ℕ) (us : List Visit) (body : Core) (end : List Seen → Called → Line) (few : ℕ) → few ≤ length us → (b : Begun) → BeginsWell few b → AllByRecursion (IsDecided w) (handler_visits n v m us body b)
        → finished (handler (eval_to n w) (env_of v.scope) m body) end b ≡ finished (handler (eval_to n w) (env_of other) m body) end b
    handler_decided m us body end few long (known l) q f = refl
    handler_decided m us body end few long (asks args) q f =
        ap (λ (d : Done). end args (record { value = d.value; cost = d.cost + 1; first = under m d.first })) (body_decided (record (part_visit n v m body (v.scope ++ given_by us args) kept.Nothing) { price = 1; waits = paths us }) (given_by us args) refl f.0 args (given_env us args (omega (arith, long, q))))

    module _ (m : ℕ) (body : Core) where
      turns_decided : (t : ℕ) (acc : Binding) (rest : List (List Seen)) → AllByRecursion (IsDecided w) (turn_visits w n v m body t acc rest)
          → turns (body_with (eval_to n w) (env_of v.scope) body) t acc.value rest ≡ turns (body_with (eval_to n w) (env_of other) body) t acc.value rest
      turns_decided t acc [] f = refl
      turns_decided t acc (xs ∷ rest) f =
          let more = acc ∷ map (round_binding v) xs in
          let u = turn_visit n v m body t acc xs in
          let values = ap (λ ys. acc.value ∷ ys) (round_env v xs) in
          let mine = body_with (eval_to n w) (env_of v.scope) body in
          let its = body_with (eval_to n w) (env_of other) body in
          let d = mine (acc.value ∷ xs) in
          let same : answer w u ≡ d = ap (λ env. eval_to n w body env kept.Nothing) (map-append (λ b. b.value) v.scope more ∙ ap (λ ys. env_of v.scope ++ ys) values) in
          let later = turns_decided (t + 1) (given w u) rest f.1 in
          ap (turned t d) (subst (λ (c : Done). turns mine (t + 1) c.value rest ≡ turns its (t + 1) c.value rest) same later)
          ∙ ap (λ r. turned t r (turns its (t + 1) r.value rest)) (body_decided u more refl f.0 (acc.value ∷ xs) values)

      loop_decided : (acc : Seen) (r : Result (List (List Seen)) Bad) → AllByRecursion (IsDecided w) (loop_visits w n v m body acc r)
          → all_turns (body_with (eval_to n w) (env_of v.scope) body) acc r ≡ all_turns (body_with (eval_to n w) (env_of other) body) acc r
      loop_decided acc (Err b) f = refl
      loop_decided acc (Ok rest) f = turns_decided 0 _ rest f

    decided_shape : (l : Core-F Core) → AllByRecursion U (variable_place v.scope l) → AllByRecursion (IsDecided w) (inside_shape w n v l) → layer w (eval_to n w) (env_of v.scope) v.kept l ≡ layer w (eval_to n w) (env_of other) v.kept l
    decided_shape (Core-F.Lit x) h f = refl
    decided_shape (Core-F.Var x) h f = ap (λ o. leaf (found o)) (variable_decided v.scope other x.0 a h)
    decided_shape (Core-F.Source s) h f = refl
    decided_shape (Core-F.Let es body) h f =
        let m = length es in
        let k = v.kept in
        let us = part_visits n v k 0 es in
        let ps = parts (eval_to n w) (env_of v.scope) k 0 es in
        let t = each_cut (IsDecided w) us _ f in
        let u = part_visit n v m body (v.scope ++ given_by us ps.values) (child k m) in
        ap (after_parts m ps) (body_decided u (given_by us ps.values) refl t.1.0 ps.values (given_env us ps.values (few_values w n v k es)))
        ∙ ap (λ ps. after_parts m ps (eval_to n w body (env_of other ++ ps.values) (child k m))) (parts_decided k 0 es t.0)
    decided_shape (Core-F.If test b c) h f =
        let t = eval_to n w test (env_of v.scope) (child v.kept 0) in
        choice_decided t (choose b c t.value) f.1 ∙ ap (λ t. switch_done (eval_to n w) (env_of other) v.kept t (choose b c t.value)) (f.0 other a)
    decided_shape (Core-F.Apply g es) h f =
        ap (λ ps. call_done (eval_to n w) v.kept (length es) ps (body_for (slice_get w.functions g.0) (length es))) (parts_decided v.kept 0 es (each_cut (IsDecided w) (part_visits n v v.kept 0 es) _ f).0)
    decided_shape (Core-F.Operator o es) h f =
        ap (λ ps. line_done ps (state_now (of_operator o) (form_cell (of_operator o) v.kept) ps.values no_call)) (parts_decided (behind_cell (of_operator o) v.kept) 0 es f)
    decided_shape (Core-F.Handler g es body) h f =
        let k = behind_cell (of_handler g) v.kept in
        let cell = form_cell (of_handler g) v.kept in
        let us = part_visits n v k 0 es in
        let ps = parts (eval_to n w) (env_of v.scope) k 0 es in
        let t = each_cut (IsDecided w) us _ f in
        ap (line_done ps) (handler_decided (length es) us body (handler_end g) (length ps.values) (few_values w n v k es) (handler_begin g cell ps.values) (begins_well g cell ps.values) t.1)
        ∙ ap (λ ps. line_done ps (state_now (of_handler g) cell ps.values (handler (eval_to n w) (env_of other) (length es) body))) (parts_decided k 0 es t.0)
    decided_shape (Core-F.Loop l es body) h f =
        let m = length es in
        let ps = parts (eval_to n w) (env_of v.scope) v.kept 0 es in
        let t = each_cut (IsDecided w) (part_visits n v v.kept 0 es) _ f in
        ap (turns_done m ps) (loop_decided m body (part ps.values 0) (rounds l (part ps.values 1)) t.1) ∙ ap (λ ps. loop_done (eval_to n w) (env_of other) l m ps body) (parts_decided v.kept 0 es t.0)
    decided_shape (Core-F.Feedback init body) h f =
        let k = behind_cell of_feedback v.kept in
        let cell = form_cell of_feedback v.kept in
        let i = part_visit n v 0 init v.scope (child k 0) in
        let more = given_by (i ∷ []) (fed cell (answer w i).value ∷ []) in
        let line = λ (i d : Done). line_done (join_part 0 i (join_part 1 d no_parts)) (state_now of_feedback cell (i.value ∷ d.value ∷ []) no_call) in
        let u = part_visit n v 1 body (v.scope ++ more) (child k 1) in
        ap (line (answer w i)) (body_decided u more refl f.1.0 (env_of more) refl) ∙ ap (λ i. line i (eval_to n w body (env_of other ++ fed cell i.value ∷ []) (child k 1))) (f.0 other a)

  -- at every number of levels
  pub decided : (w : World) (v : Visit) → AllByRecursion U (reads_to v.level v) → AllByRecursion (IsDecided w) (inside w v) → IsDecided w v
  unfolding eval_to
  decided w v = at v.level
    where
      at : (m : ℕ) → AllByRecursion U (reads_to m v) → AllByRecursion (IsDecided w) (inside_to m w v) → (other : List Binding) → AgreeWhere U v.scope other → eval_to m w v.expr (env_of v.scope) v.kept ≡ eval_to m w v.expr (env_of other) v.kept
      at zero h f other a = refl
      at (suc n) h f other a = decided_shape w n v other a (out-Core v.expr) h f
