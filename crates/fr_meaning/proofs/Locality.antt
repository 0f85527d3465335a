-- An evaluation depends on the variables that the expression names alone.
use Rattle.std.proofs.Common.{◌≡◌, ℕ, ◌+◌, zero, suc, true, false, List, [], ◌∷◌, ◌++◌, map, length, slice_get, refl, ap, ◌∙◌, arith, subst, length-append}
use Rattle.fr_core.specs.Shapes.{parts_in}
use Rattle.fr_core.specs.declared.core_form.Core.{Core, out-Core}
use Rattle.fr_core.specs.declared.core_form.Core.TheOpen.{Core-F}
use Rattle.fr_core.specs.declared.kept.Kept.{Kept}
use Rattle.fr_core.specs.declared.kept.Kept.TheVariants as kept
use Rattle.fr_core.proofs.Folds.{Each}
use Rattle.fr_meaning.specs.Words.{Seen, Env, Done, under, found, part}
use Rattle.fr_meaning.specs.Cells.{child}
use Rattle.fr_meaning.specs.States.{Call, of_operator, of_handler, of_feedback, fed, no_call, state_now}
use Rattle.fr_meaning.specs.Evaluation.{World, Ev, Parts, parts, no_parts, join_part, leaf, after_parts, Choice, chosen_by, choose, choice_kept, choice_done, switch_done, call_done, body_for, all_turns, rounds, turns_done, body_with, line_done, form_cell, behind_cell, layer, eval_to}
use Rattle.fr_meaning.specs.Dependence.{joined, own_variable, variables, AgreeAt}
use Rattle.fr_meaning.proofs.Begins.{choice_cases}
use Rattle.fr_meaning.proofs.Named.{variables-opens, both_agree, each_agree, each_outer, each_body}

-- an evaluation depends on the variables that the expression names alone
abbrev pub Local : Ev → Type 0
Local ev = (e : Core) (env other : Env) (k : Kept) → length env ≡ length other → AgreeAt (variables e) env other → ev e env k ≡ ev e other k

-- they agree at what an expression names
abbrev AgreeAround : Env → Env → Core → Type 0
AgreeAround env other e = AgreeAt (variables e) env other

get_more : (env other vs : Env) (x : ℕ) → length env ≡ length other → slice_get env x ≡ slice_get other x → slice_get (env ++ vs) x ≡ slice_get (other ++ vs) x
get_more [] [] vs x l h = refl
get_more [] (o ∷ other) vs x l h = absurd (omega (arith, l))
get_more (v ∷ env) [] vs x l h = absurd (omega (arith, l))
get_more (v ∷ env) (o ∷ other) vs zero l h = h
get_more (v ∷ env) (o ∷ other) vs (suc x) l h = get_more env other vs x (omega (arith, l)) h

agree_more : (xs : List ℕ) (env other vs : Env) → length env ≡ length other → AgreeAt xs env other → AgreeAt xs (env ++ vs) (other ++ vs)
agree_more [] env other vs l h = tt
agree_more (x ∷ xs) env other vs l h = (get_more env other vs x l h.0, agree_more xs env other vs l h.1)

-- a handler's call, from what its body gives
abbrev calling : ℕ → (List Seen → Done) → Call
calling n f args = let d = f args in record { value = d.value; cost = d.cost + 1; first = under n d.first }

module _ (ev : Ev) (ih : Local ev) (env other : Env) (l : length env ≡ length other) where
  -- a body with further values
  body_local : (vs : List Seen) (k : Kept) (body : Core) → AgreeAround env other body → ev body (env ++ vs) k ≡ ev body (other ++ vs) k
  body_local vs k body h =
      let long = length-append env vs in
      let long' = length-append other vs in
      ih body (env ++ vs) (other ++ vs) k (omega (arith, l, long, long')) (agree_more (variables body) env other vs l h)

  parts_local : (k : Kept) (i : ℕ) (es : List Core) → Each (AgreeAround env other) es → parts ev env k i es ≡ parts ev other k i es
  parts_local k i [] h = refl
  parts_local k i (e ∷ es) h = rw (ih e env other (child k i) l h.0, parts_local k (i + 1) es h.1) refl

  one_level : (w : World) (k : Kept) (f : Core-F Core) → AgreeAt (own_variable f) env other → Each (AgreeAround env other) (parts_in f) → layer w ev env k f ≡ layer w ev other k f
  one_level w k (Core-F.Lit v) own h = refl
  one_level w k (Core-F.Var x) own h = ap (λ o. leaf (found o)) own.0
  one_level w k (Core-F.Source s) own h = refl
  one_level w k (Core-F.Let es body) own h =
      let n = length es in
      let t = each_body (AgreeAround env other) es n body h in
      let ps = parts ev env k 0 es in
      ap (after_parts n ps) (body_local ps.values (child k n) body t.1) ∙ ap (λ ps. after_parts n ps (ev body (other ++ ps.values) (child k n))) (parts_local k 0 es t.0)
  one_level w k (Core-F.If test a b) own h =
      let t = ev test env (child k 0) in
      let same = λ (c : Choice) (g : AgreeAround env other c.expr). ap (choice_done t c) (ih c.expr env other (choice_kept k c) l g) in
      choice_cases (λ r. switch_done ev env k t r ≡ switch_done ev other k t r) a b (λ bad. refl) (same (chosen_by a b true) h.1.0) (same (chosen_by a b false) h.1.1.0) t.value
      ∙ ap (λ t. switch_done ev other k t (choose a b t.value)) (ih test env other (child k 0) l h.0)
  one_level w k (Core-F.Apply f es) own h =
      ap (λ ps. call_done ev k (length es) ps (body_for (slice_get w.functions f.0) (length es))) (parts_local k 0 es (each_outer (AgreeAround env other) es h))
  one_level w k (Core-F.Operator o es) own h =
      ap (λ ps. line_done ps (state_now (of_operator o) (form_cell (of_operator o) k) ps.values no_call)) (parts_local (behind_cell (of_operator o) k) 0 es (each_outer (AgreeAround env other) es h))
  one_level w k (Core-F.Handler g es body) own h =
      let t = each_body (AgreeAround env other) es _ body h in
      let inside = behind_cell (of_handler g) k in
      let line = λ (f : List Seen → Done) (ps : Parts). line_done ps (state_now (of_handler g) (form_cell (of_handler g) k) ps.values (calling (length es) f)) in
      ap (λ f. line f (parts ev env inside 0 es)) (λ i vs. body_local vs kept.Nothing body t.1 i) ∙ ap (line (body_with ev other body)) (parts_local inside 0 es t.0)
  one_level w k (Core-F.Loop g es body) own h =
      let t = each_body (AgreeAround env other) es _ body h in
      let all = λ (f : List Seen → Done) (ps : Parts). turns_done (length es) ps (all_turns f (part ps.values 0) (rounds g (part ps.values 1))) in
      ap (λ f. all f (parts ev env k 0 es)) (λ i vs. body_local vs kept.Nothing body t.1 i) ∙ ap (all (body_with ev other body)) (parts_local k 0 es t.0)
  one_level w k (Core-F.Feedback init body) own h =
      let inside = behind_cell of_feedback k in
      let cell = form_cell of_feedback k in
      let i = ev init env (child inside 0) in
      let line = λ (i d : Done). line_done (join_part 0 i (join_part 1 d no_parts)) (state_now of_feedback cell (i.value ∷ d.value ∷ []) no_call) in
      ap (line i) (body_local (fed cell i.value ∷ []) (child inside 1) body h.1.0) ∙ ap (λ i. line i (ev body (other ++ fed cell i.value ∷ []) (child inside 1))) (ih init env other (child inside 0) l h.0)

-- at every number of levels
pub named_variables_decide : (n : ℕ) (w : World) → Local (eval_to n w)
unfolding eval_to
named_variables_decide zero w e env other k l h = refl
named_variables_decide (suc n) w e env other k l h =
    let f = out-Core e in
    let t = both_agree (own_variable f) (joined (map variables (parts_in f))) env other (subst (λ xs. AgreeAt xs env other) (variables-opens e) h) in
    one_level (eval_to n w) (named_variables_decide n w) env other l w k f t.0 (each_agree variables env other (parts_in f) t.1)
