-- An evaluation without an error gives a value that isn't Bad.
use Rattle.std.proofs.Common.{◌≡◌, ℕ, zero, suc, ◌+◌, List, [], ◌∷◌, ◌++◌, Option, Some, None, Result, Ok, Err, refl, length, slice_get}
use Rattle.std.specs.Option.{option_or}
use Rattle.fr_value.specs.declared.now.Bad.{Bad}
use Rattle.fr_core.specs.declared.core_form.Core.{Core, out-Core}
use Rattle.fr_core.specs.declared.core_form.Core.TheOpen.{Core-F}
use Rattle.fr_core.specs.declared.kept.Kept.{Kept}
use Rattle.fr_core.specs.declared.kept.Kept.TheVariants as kept
use Rattle.fr_core.specs.declared.program.Item.{Item}
use Rattle.fr_core.specs.declared.program.Item.TheVariants as item
use Rattle.fr_meaning.specs.Words.{Seen, Env, First, Done, under, own, plain, found}
use Rattle.fr_meaning.specs.Cells.{child}
use Rattle.fr_meaning.specs.Evaluation.{World, Ev, Parts, Choice, eval_to, layer, parts, line_done, choose, switch_done, call_done, body_for, refusal_first, source_seen, join_part, no_parts, form_cell, behind_cell}
use Rattle.fr_meaning.specs.States.{Line, of_operator, of_handler, of_feedback, fed}
use Rattle.fr_meaning.specs.Afresh.{items}

abbrev pub IsGood : Seen → Type 0
IsGood (Ok v) = Unit {0}
IsGood (Err b) = ⊥

abbrev pub AreGood : List Seen → Type 0
AreGood [] = Unit {0}
AreGood (v ∷ vs) = IsGood v × AreGood vs

-- without an error its value isn't Bad
record IsQuiet (d : Done) : Type 0 where
  good : d.first ≡ None → IsGood d.value

none_left : (a b : First) → option_or a b ≡ None → a ≡ None
none_left None b h = refl
none_left (Some f) b h = cc

none_right : (a b : First) → option_or a b ≡ None → b ≡ None
none_right None b h = h
none_right (Some f) b h = cc

none_under : (i : ℕ) (f : First) → under i f ≡ None → f ≡ None
none_under i None h = refl
none_under i (Some f) h = cc

own_good : (v : Seen) → own v ≡ None → IsGood v
own_good (Ok v) h = tt
own_good (Err b) h = cc

ended_quiet : (v : Seen) (k : Kept) (c : ℕ) (inner : First) → IsQuiet (record { value = v; kept = k; cost = c; first = option_or inner (own v) })
ended_quiet v k c inner = record { good = λ h. own_good v (none_right inner (own v) h) }

line_quiet : (ps : Parts) (l : Line) → IsQuiet (line_done ps l)
line_quiet ps l = record { good = λ h. own_good l.value (none_left (own l.value) (refusal_first l.refusal) (none_right l.inner _ (none_right ps.first _ h))) }

switch_quiet : (ev : Ev) (env : Env) (k : Kept) (t : Done) (r : Result Choice Bad) → IsQuiet (switch_done ev env k t r)
switch_quiet ev env k t (Err x) = ended_quiet _ _ _ _
switch_quiet ev env k t (Ok c) = ended_quiet _ _ _ _

call_quiet : (ev : Ev) (k : Kept) (n : ℕ) (ps : Parts) (o : Option Core) → IsQuiet (call_done ev k n ps o)
call_quiet ev k n ps None = ended_quiet _ _ _ _
call_quiet ev k n ps (Some body) = ended_quiet _ _ _ _

layer_quiet : (w : World) (ev : Ev) (env : Env) (k : Kept) (l : Core-F Core) → IsQuiet (layer w ev env k l)
layer_quiet w ev env k (Core-F.Lit v) = ended_quiet (plain v) kept.Nothing 0 None
layer_quiet w ev env k (Core-F.Var x) = ended_quiet (found (slice_get env x.0)) kept.Nothing 0 None
layer_quiet w ev env k (Core-F.Source s) = ended_quiet (source_seen (slice_get w.sources s.0)) kept.Nothing 0 None
layer_quiet w ev env k (Core-F.Let es body) = ended_quiet _ _ _ _
layer_quiet w ev env k (Core-F.If test a b) = let t = ev test env (child k 0) in switch_quiet ev env k t (choose a b t.value)
layer_quiet w ev env k (Core-F.Apply f es) = call_quiet ev k (length es) (parts ev env k 0 es) (body_for (slice_get w.functions f.0) (length es))
layer_quiet w ev env k (Core-F.Operator o es) = line_quiet (parts ev env (behind_cell (of_operator o) k) 0 es) _
layer_quiet w ev env k (Core-F.Handler h es body) = line_quiet (parts ev env (behind_cell (of_handler h) k) 0 es) _
layer_quiet w ev env k (Core-F.Loop l es body) = ended_quiet _ _ _ _
layer_quiet w ev env k (Core-F.Feedback init body) =
    let cell = form_cell of_feedback k in
    let d = ev init env (child (behind_cell of_feedback k) 0) in
    let b = ev body (env ++ fed cell d.value ∷ []) (child (behind_cell of_feedback k) 1) in
    line_quiet (join_part 0 d (join_part 1 b no_parts)) _

eval_quiet : (n : ℕ) (w : World) (e : Core) (env : Env) (k : Kept) → IsQuiet (eval_to n w e env k)
unfolding eval_to
eval_quiet zero w e env k = record { good = λ h. cc }
eval_quiet (suc n) w e env k = layer_quiet w (eval_to n w) env k (out-Core e)

-- where nothing errs in items, no shown value is Bad
pub items_good : (n : ℕ) (w : World) (env : Env) (k : Kept) (i : ℕ) (is : List Item) → (items (eval_to n w) env k i is).first ≡ None → AreGood (items (eval_to n w) env k i is).shown
items_good n w env k i [] h = tt
items_good n w env k i (item.Define e ∷ is) h =
    let d = eval_to n w e env (child k i) in
    items_good n w (env ++ d.value ∷ []) k (i + 1) is (none_right (under i d.first) _ h)
items_good n w env k i (item.Show name e ∷ is) h =
    let d = eval_to n w e env (child k i) in
    let quiet : IsGood d.value = (eval_quiet n w e env (child k i)).good (none_under i d.first (none_left (under i d.first) _ h)) in
    (quiet, items_good n w env k (i + 1) is (none_right (under i d.first) _ h))
