-- What is so of an evaluation that errs nowhere: it has a value, and its lines are clean.
use Rattle.std.proofs.Common.{◌≡◌, ℕ, zero, suc, [], ◌∷◌, ◌++◌, length, refl, Option, Some, None, Result, Ok, Err}
use Rattle.std.specs.Option.{option_or}
use Rattle.fr_value.specs.declared.now.Bad.{Bad}
use Rattle.fr_core.specs.declared.core_form.Core.{Core, out-Core}
use Rattle.fr_core.specs.declared.core_form.Core.TheOpen.{Core-F}
use Rattle.fr_core.specs.declared.kept.Kept.{Kept}
use Rattle.fr_meaning.specs.Words.{Env, Done, own}
use Rattle.fr_meaning.specs.Cells.{child}
use Rattle.fr_meaning.specs.States.{Line, of_operator, of_handler, of_feedback, fed, no_call, state_now}
use Rattle.fr_meaning.specs.Evaluation.{World, Ev, Parts, parts, join_part, no_parts, Choice, switch_done, call_done, handler, refusal_first, line_done, form_cell, behind_cell, layer, eval_to}
use Rattle.fr_graph.specs.Graph.{IsClean}
use Rattle.fr_graph.proofs.Calls.{none_left, none_right}

-- a line of an evaluation that errs nowhere is clean
pub line_clean : (ps : Parts) (l : Line) → (line_done ps l).first ≡ None → IsClean l
line_clean ps l h =
    let a = none_right ps.first (option_or l.inner (option_or (own l.value) (refusal_first l.refusal))) h in
    let b = none_right l.inner (option_or (own l.value) (refusal_first l.refusal)) a in
    record {
      value = none_left (own l.value) (refusal_first l.refusal) b;
      inner = none_left l.inner (option_or (own l.value) (refusal_first l.refusal)) a;
      refusal = no_refusal l.refusal (none_right (own l.value) (refusal_first l.refusal) b);
    }
  where
    no_refusal : (r : Option Bad) → refusal_first r ≡ None → r ≡ None
    no_refusal None h = refl
    no_refusal (Some b) h = cc

-- so is that of its parts
pub line_parts : (ps : Parts) (l : Line) → (line_done ps l).first ≡ None → ps.first ≡ None
line_parts ps l h = none_left ps.first (option_or l.inner (option_or (own l.value) (refusal_first l.refusal))) h

-- an evaluation that errs nowhere has a value

switch_good : (ev : Ev) (env : Env) (k : Kept) (t : Done) (r : Result Choice Bad) → (switch_done ev env k t r).first ≡ None → own (switch_done ev env k t r).value ≡ None
switch_good ev env k t (Err x) h = none_right _ _ h
switch_good ev env k t (Ok c) h = none_right _ _ h

call_good : (ev : Ev) (k : Kept) (n : ℕ) (ps : Parts) (o : Option Core) → (call_done ev k n ps o).first ≡ None → own (call_done ev k n ps o).value ≡ None
call_good ev k n ps None h = none_right _ _ h
call_good ev k n ps (Some body) h = none_right _ _ h

layer_good : (w : World) (ev : Ev) (env : Env) (k : Kept) (l : Core-F Core) → (layer w ev env k l).first ≡ None → own (layer w ev env k l).value ≡ None
layer_good w ev env k (Core-F.Lit v) h = refl
layer_good w ev env k (Core-F.Var x) h = h
layer_good w ev env k (Core-F.Source s) h = h
layer_good w ev env k (Core-F.Let es body) h = none_right _ _ h
layer_good w ev env k (Core-F.If test a b) h = switch_good ev env k (ev test env (child k 0)) _ h
layer_good w ev env k (Core-F.Apply f es) h = call_good ev k (length es) (parts ev env k 0 es) _ h
layer_good w ev env k (Core-F.Operator o es) h =
    let ps = parts ev env (behind_cell (of_operator o) k) 0 es in
    (line_clean ps (state_now (of_operator o) (form_cell (of_operator o) k) ps.values no_call) h).value
layer_good w ev env k (Core-F.Handler g es body) h =
    let ps = parts ev env (behind_cell (of_handler g) k) 0 es in
    (line_clean ps (state_now (of_handler g) (form_cell (of_handler g) k) ps.values (handler ev env (length es) body)) h).value
layer_good w ev env k (Core-F.Loop l es body) h = none_right _ _ h
layer_good w ev env k (Core-F.Feedback init body) h =
    let d = ev init env (child (behind_cell of_feedback k) 0) in
    let b = ev body (env ++ fed (form_cell of_feedback k) d.value ∷ []) (child (behind_cell of_feedback k) 1) in
    (line_clean (join_part 0 d (join_part 1 b no_parts)) (state_now of_feedback (form_cell of_feedback k) (d.value ∷ b.value ∷ []) no_call) h).value

pub value_good : (n : ℕ) (w : World) (e : Core) (env : Env) (k : Kept) → (eval_to n w e env k).first ≡ None → own (eval_to n w e env k).value ≡ None
unfolding eval_to
value_good zero w e env k h = absurd cc
value_good (suc n) w e env k h = layer_good w (eval_to n w) env k (out-Core e) h
