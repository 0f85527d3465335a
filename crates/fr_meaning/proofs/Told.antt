-- What an evaluation answers follows from what is inside it, shape by shape: it costs what that costs and the calls that it makes, and errs where that does or it does itself.
use Rattle.std.proofs.Common.{◌≡◌, ◌≤◌, ℕ, ◌+◌, zero, suc, List, [], ◌∷◌, ◌++◌, map, length, slice_get, refl, sym, ap, ◌∙◌, arith, subst, Option, Some, None, Result, Ok, Err}
use Rattle.std.specs.Option.{option_or}
use Rattle.std.proofs.lemmas.List.{append_assoc, append-nil, map-append}
use Rattle.fr_value.specs.declared.now.Bad.{Bad}
use Rattle.fr_value.specs.declared.now.Bad.TheVariants.{Arity, Deep}
use Rattle.fr_core.specs.declared.core_form.Core.{Core, out-Core}
use Rattle.fr_core.specs.declared.core_form.Core.TheOpen.{Core-F}
use Rattle.fr_core.specs.declared.core_form.Handler.{Handler}
use Rattle.fr_core.specs.declared.kept.Kept.{Kept}
use Rattle.fr_core.specs.declared.kept.Kept.TheVariants as kept
use Rattle.fr_meaning.specs.Words.{Seen, First, Done, under, own, part}
use Rattle.fr_meaning.specs.Cells.{Cell, child}
use Rattle.fr_meaning.specs.States.{Line, Called, Begun, known, asks, of_operator, of_handler, of_feedback, fed, state_next, handler_begin, handler_end, finished, no_call, state_now}
use Rattle.fr_meaning.specs.Evaluation.{World, Parts, parts, no_parts, join_part, ended, after_parts, Choice, choose, choice_kept, switch_done, call_done, body_for, turned, turns, rounds, all_turns, turns_done, body_with, handler, refusal_first, line_done, form_cell, behind_cell, layer, eval_to}
use Rattle.fr_meaning.specs.Visits.{Binding, env_of, Visit, paths, answer, part_at, part_visit, part_visits, part_values, given_by, choice_visits, call_visits, handler_visits, round_binding, turn_visit, given, turn_visits, loop_visits, inside_shape, inside_to, inside, form_of, refusal_of, bad_of, error_at, placed}
use Rattle.fr_meaning.proofs.Begins.{IsQuiet, BeginsWell, begins_well, beside_quiet, operator_quiet, handler_accepts}
use Rattle.fr_meaning.proofs.Laid.{parts_length}
use Rattle.fr_meaning.proofs.Prefixes.{first_of_three}

-- what visits cost, with their calls
abbrev pub spent : World → List Visit → ℕ
spent w [] = 0
spent w (u ∷ us) = u.price + (answer w u).cost + spent w us

-- the first error of several evaluations, one after the other
abbrev pub firsts : World → List Visit → First
firsts w [] = None
firsts w (u ∷ us) = option_or (placed u.path (answer w u).first) (firsts w us)

-- this cost and this first error are those of visits inside this place
pub record Told (w : World) (at : List ℕ) (us : List Visit) (cost : ℕ) (first : First) : Type 0 where
  pub spent_in : cost ≡ spent w us
  pub erred_in : placed at first ≡ firsts w us

-- an evaluation costs what these visits inside it do, and errs where they do, or else by its value or this refusal
pub record Follows (w : World) (at : List ℕ) (us : List Visit) (d : Done) (refusal : Option Bad) : Type 0 where
  pub cost : d.cost ≡ spent w us
  pub first : placed at d.first ≡ option_or (firsts w us) (error_at at (option_or (bad_of d.value) refusal))

spent-append : (w : World) (us vs : List Visit) → spent w (us ++ vs) ≡ spent w us + spent w vs
spent-append w [] vs = omega arith
spent-append w (u ∷ us) vs = omega (arith, spent-append w us vs)

firsts-append : (w : World) (us vs : List Visit) → firsts w (us ++ vs) ≡ option_or (firsts w us) (firsts w vs)
firsts-append w [] vs = refl
firsts-append w (u ∷ us) vs = rw (firsts-append w us vs) (first_of_three (placed u.path (answer w u).first) (firsts w us) (firsts w vs))

or_none : (f : First) → option_or f None ≡ f
or_none None = refl
or_none (Some x) = refl

placed-or : (at : List ℕ) (f g : First) → placed at (option_or f g) ≡ option_or (placed at f) (placed at g)
placed-or at None g = refl
placed-or at (Some x) g = refl

pub placed-under : (at : List ℕ) (i : ℕ) (f : First) → placed at (under i f) ≡ placed (part_at at i) f
placed-under at i None = refl
placed-under at i (Some x) = ap (λ p. Some (p, x.1)) (sym (append_assoc at (i ∷ []) x.0))

placed-own : (at : List ℕ) (x : Seen) (r : Option Bad) → placed at (option_or (own x) (refusal_first r)) ≡ error_at at (option_or (bad_of x) r)
placed-own at (Err b) r = ap (λ p. Some (p, b)) (append-nil at)
placed-own at (Ok x) None = refl
placed-own at (Ok x) (Some b) = ap (λ p. Some (p, b)) (append-nil at)

module _ (w : World) (at : List ℕ) where
  nothing_told : Told w at [] 0 None
  nothing_told = record { spent_in = refl; erred_in = refl }

  -- one visit
  one_told : (u : Visit) (f : First) → placed at f ≡ placed u.path (answer w u).first → (c : ℕ) → c ≡ u.price + (answer w u).cost → Told w at (u ∷ []) c f
  one_told u f e c h = record { spent_in = omega (arith, h); erred_in = e ∙ sym (or_none (placed u.path (answer w u).first)) }

  both_told : (us vs : List Visit) (c d : ℕ) (f g : First) → Told w at us c f → Told w at vs d g → Told w at (us ++ vs) (c + d) (option_or f g)
  both_told us vs c d f g h k = record {
    spent_in = let all = spent-append w us vs in let a = h.spent_in in let b = k.spent_in in omega (arith, all, a, b);
    erred_in = placed-or at f g ∙ rw (h.erred_in, k.erred_in) (sym (firsts-append w us vs));
  }

  -- an evaluation that ends behind what was told so far
  ends : (us : List Visit) (x : Seen) (k : Kept) (c : ℕ) (f : First) → Told w at us c f → Follows w at us (ended x k c f) None
  ends us x k c f h = record { cost = h.spent_in; first = placed-or at f (own x) ∙ rw h.erred_in (ap (option_or (firsts w us)) (ap (placed at) (sym (or_none (own x))) ∙ placed-own at x None)) }

  -- and one that ends by a line
  ends_by : (us : List Visit) (ps : Parts) (l : Line) → Told w at us (ps.cost + l.cost) (option_or ps.first l.inner) → Follows w at us (line_done ps l) l.refusal
  ends_by us ps l h =
      let last = option_or (own l.value) (refusal_first l.refusal) in
      record {
        cost = h.spent_in;
        first = ap (placed at) (first_of_three ps.first l.inner last) ∙ placed-or at (option_or ps.first l.inner) last ∙ rw (h.erred_in, placed-own at l.value l.refusal) refl;
      }

-- the values of a scope with more variables
pub scope_env : (scope more : List Binding) (xs : List Seen) → env_of more ≡ xs → env_of (scope ++ more) ≡ env_of scope ++ xs
scope_env scope more xs e = map-append (λ b. b.value) scope more ∙ ap (λ ys. env_of scope ++ ys) e

pub given_env : (us : List Visit) (xs : List Seen) → length xs ≤ length us → env_of (given_by us xs) ≡ xs
given_env [] [] l = refl
given_env [] (x ∷ xs) l = absurd (omega (arith, l))
given_env (u ∷ us) [] l = refl
given_env (u ∷ us) (x ∷ xs) l = ap (λ ys. x ∷ ys) (given_env us xs (omega (arith, l)))

pub round_env : (v : Visit) (xs : List Seen) → env_of (map (round_binding v) xs) ≡ xs
round_env v [] = refl
round_env v (x ∷ xs) = ap (λ ys. x ∷ ys) (round_env v xs)

visits_length : (n : ℕ) (v : Visit) (k : Kept) (i : ℕ) (es : List Core) → length (part_visits n v k i es) ≡ length es
visits_length n v k i [] = refl
visits_length n v k i (e ∷ es) = ap suc (visits_length n v k (i + 1) es)

-- the values of parts
part_answers : (w : World) (n : ℕ) (v : Visit) (k : Kept) (i : ℕ) (es : List Core) → map (λ u. (answer w u).value) (part_visits n v k i es) ≡ (parts (eval_to n w) (env_of v.scope) k i es).values
part_answers w n v k i [] = refl
part_answers w n v k i (e ∷ es) = ap (λ xs. (eval_to n w e (env_of v.scope) (child k i)).value ∷ xs) (part_answers w n v k (i + 1) es)

-- there are places for the values of all parts
pub few_values : (w : World) (n : ℕ) (v : Visit) (k : Kept) (es : List Core) → length (part_values w n v k es) ≤ length (part_visits n v k 0 es)
few_values w n v k es = let a = parts_length (eval_to n w) (env_of v.scope) k 0 es in let b = visits_length n v k 0 es in omega (arith, a, b)

-- a body that was called behind parts
abbrev pub called : ℕ → Parts → Done → Done
called m ps d = ended d.value (kept.Group (ps.kepts ++ d.kept ∷ [])) (ps.cost + (d.cost + 1)) (option_or ps.first (under m d.first))

-- a handler's call, from what its body gives
abbrev pub call_of : ℕ → Done → Called
call_of m d = record { value = d.value; cost = d.cost + 1; first = under m d.first }

-- a `feedback`, from what INIT and BODY give
abbrev pub fed_line : Option Cell → Done → Done → Done
fed_line cell i b = line_done (join_part 0 i (join_part 1 b no_parts)) (state_now of_feedback cell (i.value ∷ b.value ∷ []) no_call)

module _ (w : World) (n : ℕ) (v : Visit) where
  -- parts, as the evaluation has them
  abbrev parts_in : Kept → List Core → Parts
  parts_in k es = parts (eval_to n w) (env_of v.scope) k 0 es

  parts_told : (k : Kept) (i : ℕ) (es : List Core) → Told w v.path (part_visits n v k i es) (parts (eval_to n w) (env_of v.scope) k i es).cost (parts (eval_to n w) (env_of v.scope) k i es).first
  parts_told k i [] = nothing_told w v.path
  parts_told k i (e ∷ es) =
      let u = part_visit n v i e v.scope (child k i) in
      let a = answer w u in
      both_told w v.path (u ∷ []) (part_visits n v k (i + 1) es) a.cost _ (under i a.first) _ (one_told w v.path u (under i a.first) (placed-under v.path i a.first) a.cost (omega arith)) (parts_told k (i + 1) es)

  -- and then part number m, which costs this with its call
  last_told : (ps : List Visit) (c : ℕ) (f : First) → Told w v.path ps c f → (m : ℕ) (u : Visit) → u.path ≡ part_at v.path m → (d : ℕ) → d ≡ u.price + (answer w u).cost
      → Told w v.path (ps ++ u ∷ []) (c + d) (option_or f (under m (answer w u).first))
  last_told ps c f h m u path d e =
      let a = answer w u in
      both_told w v.path ps (u ∷ []) c d f (under m a.first) h (one_told w v.path u (under m a.first) (placed-under v.path m a.first ∙ ap (λ p. placed p a.first) (sym path)) d e)

  quiet_told : (us : List Visit) (ps : Parts) (l : Line) → IsQuiet l → Told w v.path us ps.cost ps.first → Told w v.path us (ps.cost + l.cost) (option_or ps.first l.inner)
  quiet_told us ps l q h = record {
    spent_in = let a = h.spent_in in let b = q.cost in omega (arith, a, b);
    erred_in = ap (placed v.path) (ap (option_or ps.first) q.inner ∙ or_none ps.first) ∙ h.erred_in;
  }

  choice_follows : (t : Visit) → Told w v.path (t ∷ []) (answer w t).cost (under 0 (answer w t).first) → (r : Result Choice Bad)
      → Follows w v.path (t ∷ choice_visits n v r) (switch_done (eval_to n w) (env_of v.scope) v.kept (answer w t) r) None
  choice_follows t h (Err b) = ends w v.path (t ∷ []) (Err b) _ _ _ h
  choice_follows t h (Ok c) =
      let u = record (part_visit n v c.number c.expr v.scope (choice_kept v.kept c)) { waits = part_at v.path 0 ∷ [] } in
      ends w v.path (t ∷ u ∷ []) (answer w u).value _ _ _ (last_told (t ∷ []) _ _ h c.number u refl (answer w u).cost (omega arith))

  -- where nothing stands behind the parts
  alone : (us : List Visit) (d : Done) (r : Option Bad) → Follows w v.path us d r → Follows w v.path (us ++ []) d r
  alone us d r h = subst (λ us. Follows w v.path us d r) (sym (append-nil us)) h

  module _ (m : ℕ) (us : List Visit) (ps : Parts) (h : Told w v.path us ps.cost ps.first) where
    call_follows : (arguments : List Binding) → env_of arguments ≡ ps.values → (body : Option Core) → Follows w v.path (us ++ call_visits n v m arguments body) (call_done (eval_to n w) v.kept m ps body) None
    call_follows arguments q None = alone us _ None (ends w v.path us (Err Arity) (kept.Group ps.kepts) ps.cost ps.first h)
    call_follows arguments q (Some body) =
        let u = record (part_visit n v m body arguments (child v.kept m)) { price = 1 } in
        let a = answer w u in
        subst (λ xs. Follows w v.path (us ++ u ∷ []) (called m ps (eval_to n w body xs (child v.kept m))) None) q
        (ends w v.path (us ++ u ∷ []) a.value _ (ps.cost + (a.cost + 1)) (option_or ps.first (under m a.first)) (last_told us ps.cost ps.first h m u refl (a.cost + 1) (omega arith)))

    handler_follows : (body : Core) (g : Handler) (few : ℕ) → few ≤ length us → (b : Begun) → BeginsWell few b
        → let l = finished (handler (eval_to n w) (env_of v.scope) m body) (handler_end g) b in Follows w v.path (us ++ handler_visits n v m us body b) (line_done ps l) l.refusal
    handler_follows body g few long (known l) q = alone us _ l.refusal (ends_by w v.path us ps l (quiet_told us ps l q.0 h))
    handler_follows body g few long (asks args) q =
        let more = given_by us args in
        let u = record (part_visit n v m body (v.scope ++ more) kept.Nothing) { price = 1; waits = paths us } in
        let a = answer w u in
        subst (λ xs. let l = handler_end g args (call_of m (eval_to n w body xs kept.Nothing)) in Follows w v.path (us ++ u ∷ []) (line_done ps l) l.refusal) (scope_env v.scope more args (given_env us args (omega (arith, long, q))))
        (ends_by w v.path (us ++ u ∷ []) ps (handler_end g args (call_of m a)) (last_told us ps.cost ps.first h m u refl (a.cost + 1) (omega arith)))

    module _ (body : Core) where
      turns_told : (t : ℕ) (acc : Binding) (rest : List (List Seen))
          → let ts = turns (body_with (eval_to n w) (env_of v.scope) body) t acc.value rest in Told w (part_at v.path m) (turn_visits w n v m body t acc rest) ts.cost ts.first
      turns_told t acc [] = nothing_told w (part_at v.path m)
      turns_told t acc (xs ∷ rest) =
          let more = acc ∷ map (round_binding v) xs in
          let u = turn_visit n v m body t acc xs in
          let a = answer w u in
          let us = turn_visits w n v m body (t + 1) (given w u) rest in
          let f = body_with (eval_to n w) (env_of v.scope) body in
          let ts = turns f (t + 1) a.value rest in
          subst (λ ys. let d = eval_to n w body ys kept.Nothing in let r = turned t d (turns f (t + 1) d.value rest) in Told w (part_at v.path m) (u ∷ us) r.cost r.first)
          (scope_env v.scope more (acc.value ∷ xs) (ap (λ ys. acc.value ∷ ys) (round_env v xs)))
          (both_told w (part_at v.path m) (u ∷ []) us (a.cost + 1) ts.cost (under t a.first) ts.first (one_told w (part_at v.path m) u (under t a.first) (placed-under (part_at v.path m) t a.first) (a.cost + 1) (omega arith))
          (turns_told (t + 1) (given w u) rest))

      loop_follows : (acc : Seen) (r : Result (List (List Seen)) Bad) → Follows w v.path (us ++ loop_visits w n v m body acc r) (turns_done m ps (all_turns (body_with (eval_to n w) (env_of v.scope) body) acc r)) None
      loop_follows acc (Err b) = ends w v.path (us ++ []) (Err b) _ (ps.cost + 0) (option_or ps.first None) (both_told w v.path us [] ps.cost 0 ps.first None h (nothing_told w v.path))
      loop_follows acc (Ok rest) =
          let first : Binding = record { value = acc; place = part_at v.path 0 } in
          let ts = turns (body_with (eval_to n w) (env_of v.scope) body) 0 acc rest in
          let all = turns_told 0 first rest in
          let us' = turn_visits w n v m body 0 first rest in
          ends w v.path (us ++ us') ts.value _ (ps.cost + ts.cost) (option_or ps.first (under m ts.first))
          (both_told w v.path us us' ps.cost ts.cost ps.first (under m ts.first) h (record { spent_in = all.spent_in; erred_in = placed-under v.path m ts.first ∙ all.erred_in }))

  follows_shape : (l : Core-F Core)
      → Follows w v.path (inside_shape w n v l) (layer w (eval_to n w) (env_of v.scope) v.kept l) (refusal_of (form_of l) v.kept (map (λ u. (answer w u).value) (inside_shape w n v l)))
  follows_shape (Core-F.Lit x) = ends w v.path [] _ _ 0 None (nothing_told w v.path)
  follows_shape (Core-F.Var x) = ends w v.path [] _ _ 0 None (nothing_told w v.path)
  follows_shape (Core-F.Source s) = ends w v.path [] _ _ 0 None (nothing_told w v.path)
  follows_shape (Core-F.Let es body) =
      let m = length es in
      let k = v.kept in
      let us = part_visits n v k 0 es in
      let ps = parts_in k es in
      let more = given_by us ps.values in
      let u = part_visit n v m body (v.scope ++ more) (child k m) in
      subst (λ xs. Follows w v.path (us ++ u ∷ []) (after_parts m ps (eval_to n w body xs (child k m))) None) (scope_env v.scope more ps.values (given_env us ps.values (few_values w n v k es)))
      (ends w v.path (us ++ u ∷ []) (answer w u).value _ _ _ (last_told us ps.cost ps.first (parts_told k 0 es) m u refl (answer w u).cost (omega arith)))
  follows_shape (Core-F.If test a b) =
      let t = part_visit n v 0 test v.scope (child v.kept 0) in
      choice_follows t (one_told w v.path t _ (placed-under v.path 0 (answer w t).first) (answer w t).cost (omega arith)) (choose a b (answer w t).value)
  follows_shape (Core-F.Apply f es) =
      let m = length es in
      let us = part_visits n v v.kept 0 es in
      let ps = parts_in v.kept es in
      call_follows m us ps (parts_told v.kept 0 es) (given_by us ps.values) (given_env us ps.values (few_values w n v v.kept es)) (body_for (slice_get w.functions f.0) m)
  follows_shape (Core-F.Operator o es) =
      let k = behind_cell (of_operator o) v.kept in
      let us = part_visits n v k 0 es in
      let ps = parts_in k es in
      let l = λ (xs : List Seen). state_now (of_operator o) (form_cell (of_operator o) v.kept) xs no_call in
      subst (λ xs. Follows w v.path us (line_done ps (l ps.values)) (l xs).refusal) (sym (part_answers w n v k 0 es))
      (ends_by w v.path us ps (l ps.values) (quiet_told us ps (l ps.values) (operator_quiet o (form_cell (of_operator o) v.kept) ps.values no_call) (parts_told k 0 es)))
  follows_shape (Core-F.Handler h es body) =
      let k = behind_cell (of_handler h) v.kept in
      let cell = form_cell (of_handler h) v.kept in
      let m = length es in
      let us = part_visits n v k 0 es in
      let ps = parts_in k es in
      let b = handler_begin h cell ps.values in
      let all = us ++ handler_visits n v m us body b in
      let call = handler (eval_to n w) (env_of v.scope) m body in
      subst (Follows w v.path all (line_done ps (state_now (of_handler h) cell ps.values call)))
      (handler_accepts h cell ps.values call ∙ sym (handler_accepts h cell (map (λ u. (answer w u).value) all) no_call))
      (handler_follows m us ps (parts_told k 0 es) body h (length ps.values) (few_values w n v k es) b (begins_well h cell ps.values))
  follows_shape (Core-F.Loop l es body) =
      let ps = parts_in v.kept es in
      loop_follows (length es) (part_visits n v v.kept 0 es) ps (parts_told v.kept 0 es) body (part ps.values 0) (rounds l (part ps.values 1))
  follows_shape (Core-F.Feedback init body) =
      let k = behind_cell of_feedback v.kept in
      let cell = form_cell of_feedback v.kept in
      let i = part_visit n v 0 init v.scope (child k 0) in
      let a = answer w i in
      let more = given_by (i ∷ []) (fed cell a.value ∷ []) in
      let u = part_visit n v 1 body (v.scope ++ more) (child k 1) in
      let b = answer w u in
      let us = i ∷ u ∷ [] in
      let ps = join_part 0 a (join_part 1 b no_parts) in
      let l = state_now of_feedback cell (a.value ∷ b.value ∷ []) no_call in
      let one = one_told w v.path i (under 0 a.first) (placed-under v.path 0 a.first) a.cost (omega arith) in
      let two = one_told w v.path u (under 1 b.first) (placed-under v.path 1 b.first) b.cost (omega arith) in
      let none = both_told w v.path (u ∷ []) [] b.cost 0 (under 1 b.first) None two (nothing_told w v.path) in
      let all = both_told w v.path (i ∷ []) (u ∷ []) a.cost (b.cost + 0) (under 0 a.first) (option_or (under 1 b.first) None) one none in
      let quiet = beside_quiet b.value (state_next of_feedback (a.value ∷ b.value ∷ [])) in
      subst (λ xs. Follows w v.path us (fed_line cell a (eval_to n w body xs (child k 1))) l.refusal) (scope_env v.scope more (env_of more) refl)
      (ends_by w v.path us ps l (quiet_told us ps l (record { cost = quiet.cost; inner = quiet.inner }) all))

-- at every number of levels
pub follows : (w : World) (v : Visit) → Follows w v.path (inside w v) (answer w v) (refusal_of (form_of (out-Core v.expr)) v.kept (map (λ u. (answer w u).value) (inside w v)))
unfolding eval_to
follows w v = at v.level
  where
    at : (m : ℕ) → Follows w v.path (inside_to m w v) (eval_to m w v.expr (env_of v.scope) v.kept) (refusal_of (form_of (out-Core v.expr)) v.kept (map (λ u. (answer w u).value) (inside_to m w v)))
    at zero = record { cost = refl; first = ap (λ p. Some (p, Deep)) (append-nil v.path) }
    at (suc n) = follows_shape w n v (out-Core v.expr)
