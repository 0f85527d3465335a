-- Where evaluating errs nowhere, what never changes has its value, and no building fails.
use Rattle.std.proofs.Common.{◌≡◌, ◌≤◌, ◌⊎◌, ◌+◌, ◌&&◌, inl, inr, ℕ, zero, suc, Bool, true, false, if◌then◌else◌, List, [], ◌∷◌, ◌++◌, map, length, slice_get, refl, ap, sym, ◌∙◌, subst, append-nil, arith, Option, Some, None, Result, Ok, Err}
use Rattle.std.specs.Option.{option_map, option_or}
use Rattle.std.proofs.lemmas.Bool.{false≢true}
use Rattle.std.proofs.lemmas.List.{length-map, length-append}
use Rattle.fr_value.specs.declared.now.Now.{Now}
use Rattle.fr_value.specs.declared.now.Bad.{Bad}
use Rattle.fr_value.specs.declared.now.Bad.TheVariants.{Arity}
use Rattle.fr_core.specs.Shapes.{loop_binds}
use Rattle.fr_core.specs.declared.core_form.Core.{Core, out-Core}
use Rattle.fr_core.specs.declared.core_form.Core.TheOpen.{Core-F}
use Rattle.fr_core.specs.declared.core_form.Core.TheVariants as core
use Rattle.fr_core.specs.declared.core_form.Core.TheVariants.{outs-Lit, outs-Var, outs-Source, outs-Let, outs-If, outs-Apply, outs-Operator, outs-Handler, outs-Loop, outs-Feedback}
use Rattle.fr_core.specs.declared.core_form.Operator.{Operator}
use Rattle.fr_core.specs.declared.core_form.Operator.TheVariants as operator
use Rattle.fr_core.specs.declared.core_form.Loop.{Loop}
use Rattle.fr_core.specs.declared.kept.Key.TheVariants as key
use Rattle.fr_core.specs.declared.kept.Kept.{Kept}
use Rattle.fr_core.specs.declared.kept.Kept.TheVariants as kept
use Rattle.fr_core.specs.declared.lowered.Low.{Low, out-Low, map-Low}
use Rattle.fr_core.specs.declared.lowered.Low.TheOpen.{Low-F}
use Rattle.fr_core.specs.declared.lowered.Slot.{Slot}
use Rattle.fr_core.specs.declared.lowered.Slot.TheVariants as slot
use Rattle.fr_core.specs.declared.program.Program.{Program}
use Rattle.fr_meaning.specs.Words.{Seen, Env, Done, under, own, part, on_ok, test_of}
use Rattle.fr_meaning.specs.Cells.{Cell, child, under_key}
use Rattle.fr_meaning.specs.States.{of_operator, of_handler, of_feedback, fed, no_call, state_now, state_next}
use Rattle.fr_meaning.specs.Evaluation.{World, world_of, Ev, Parts, parts, join_part, no_parts, chosen_by, Choice, switch_done, call_done, body_for, handler, body_with, rounds, all_turns, turns_done, line_done, form_cell, behind_cell, layer, eval_to}
use Rattle.fr_meaning.proofs.Levels.{evaluates}
use Rattle.fr_kernel.specs.Kernels.{Kernels, slot_seen}
use Rattle.fr_kernel.specs.Erasure.{erase, erase_step, kernel_expr}
use Rattle.fr_graph.specs.Graph.{Part, steady, signal, Work, operates, loops, runs, Graph, part_value, kernel_run, IsClean, work_line, is_plain}
use Rattle.fr_graph.specs.Walk.{Plan, first, rest, Walk, Placed, AllPlaced, place_all, by_value, by_next, all_steady, steady_values, place_work, place_chosen, place_switch, place_call, slot_parts, low_body, place_shape, place}
use Rattle.fr_graph.specs.Wired.{Either}
use Rattle.fr_graph.specs.Fails.{AnyFails, WorkFails, ChoiceFails, SwitchFails, CallFails, ShapeFails, Fails}
use Rattle.fr_graph.specs.Known.{IsClosed, IsKnown, Have, SettledOn, ErasStandOn}
use Rattle.fr_graph.specs.Sound.{Sound, IsPlanOf, KernelsMean}
use Rattle.fr_graph.proofs.Parts.{both_true, have_at, have_append, have_length, have_steady}
use Rattle.fr_graph.proofs.Works.{beside_value}
use Rattle.fr_graph.proofs.Calls.{loop_clean, loop_value, none_left, none_right, none_under}
use Rattle.fr_graph.proofs.Good.{line_clean, line_parts, value_good}
use Rattle.fr_graph.proofs.Inside.{erase-opens, SoundShape, sound_shape, AllSound, outer_sound, body_sound, all_length, bodies_match, low_sound}
use Rattle.fr_graph.proofs.Values.{AgreesAt, values_on, kernel_means}

-- no node is known, so that only parts that never change are
abbrev pub nothing : ℕ → Type 0
nothing m = ⊥

-- whatever is known, what never changes has its value
pub have_nothing : (g : Graph) (known : ℕ → Type 0) (ps : List Part) (vs : List Seen) → Have g known ps vs → Have g nothing ps vs
have_nothing g known [] [] h = tt
have_nothing g known [] (v ∷ vs) h = absurd h
have_nothing g known (p ∷ ps) [] h = absurd h
have_nothing g known (steady u ∷ ps) (v ∷ vs) h = (h.0, have_nothing g known ps vs h.1)
have_nothing g known (signal m ∷ ps) (v ∷ vs) h = (λ kn. absurd kn, have_nothing g known ps vs h.1)

-- what is so of an expression where its evaluation errs nowhere: what never changes has the value, and its building doesn't fail
pub record IsBuilt (g : Graph) (placed : Placed) (fails : Type 0) (d : Done) : Type 0 where
  pub value : IsKnown nothing placed.part → part_value g placed.part ≡ d.value
  pub builds : fails → ⊥

-- what has a node of its own
by_node : (g : Graph) (ms : List ℕ) (d : Done) → IsBuilt g (by_next ms) ⊥ d
by_node g ms d = record { value = λ kn. absurd kn; builds = λ x. x }

-- an expression that gives the value of a part of it, and whose building fails where that of this part or something else does
beside_others : (g : Graph) (placed : Placed) (A B : Type 0) (d whole : Done) → (A → ⊥) → IsBuilt g placed B d → d.value ≡ whole.value → IsBuilt g placed (A ⊎ B) whole
beside_others g placed A B d whole none b same = record { value = λ kn. b.value kn ∙ same; builds = λ x. elim x [ inl o ↦ none o | inr o ↦ b.builds o ] }

-- a variable that isn't there has no value
no_variable : (vs : List Seen) (i : ℕ) → length vs ≤ i → own (part vs i) ≡ None → ⊥
no_variable [] i h none = cc
no_variable (v ∷ vs) zero h none = absurd (omega (arith, h))
no_variable (v ∷ vs) (suc i) h none = no_variable vs i (omega (arith, h)) none

-- a plain operator's line follows from the values of its parts
plain_operator : (t : Kernels) (n : ℕ) (o : Operator) (c : Option Cell) (us : List Seen) → is_plain (operates o) ≡ true → IsClean (state_now (of_operator o) c us no_call)
    → IsClean (work_line t n (operates o) None us) × ((work_line t n (operates o) None us).value ≡ (state_now (of_operator o) c us no_call).value)
plain_operator t n (operator.Prim q) c us plain clean = (clean, refl)
plain_operator t n operator.MergeE c us plain clean = absurd (false≢true plain)
plain_operator t n operator.Hold c us plain clean = absurd (false≢true plain)
plain_operator t n operator.Changes c us plain clean = absurd (false≢true plain)
plain_operator t n operator.OnceE c us plain clean = absurd (false≢true plain)
plain_operator t n operator.Delay c us plain clean = absurd (false≢true plain)
plain_operator t n operator.DelayE c us plain clean = absurd (false≢true plain)

-- a loop over two parts and other values has the value of turns that err nowhere, and its line is clean
pub loop_line : (t : Kernels) (n : ℕ) (l : Loop) (id : ℕ) (xs others : List Seen) (turn : List Seen → Done) → length xs ≡ 2
    → ((args : List Seen) → length args ≡ loop_binds l → ((turn args).value ≡ (kernel_run t n id others args).value) × ((turn args).first ≡ None → (kernel_run t n id others args).first ≡ None))
    → (let ts = all_turns turn (part xs 0) (rounds l (part xs 1)) in
    own ts.value ≡ None → ts.first ≡ None → IsClean (work_line t n (loops l id) None (xs ++ others)) × ((work_line t n (loops l id) None (xs ++ others)).value ≡ ts.value))
loop_line t n l id [] others turn e same good none = absurd (omega (arith, e))
loop_line t n l id (a ∷ []) others turn e same good none = absurd (omega (arith, e))
loop_line t n l id (a ∷ b ∷ []) others turn e same good none =
    let value = loop_value l a b turn (kernel_run t n id others) (λ args h. (same args h).0) in
    (record { value = ap own (sym value) ∙ good; inner = loop_clean l a b turn (kernel_run t n id others) same none; refusal = refl }, sym value)
loop_line t n l id (a ∷ b ∷ d ∷ xs) others turn e same good none = absurd (omega (arith, e))

module _ (g : Graph) (p : Plan) (pr : Program) (plan : IsPlanOf pr p) (sources : List Now) (means : KernelsMean p pr sources) where
  abbrev t : Kernels
  t = p.table

  abbrev w : World
  w = world_of pr sources

  abbrev f : Low → Core
  f = erase t.kernels

  -- where nothing is known, nothing is asked of the graph
  closed : IsClosed g nothing
  closed = record { input = λ m j kn lv reads. kn; watched = λ m a b env lv is kn. kn }

  settled : SettledOn g nothing t sources (λ m. None)
  settled = λ m kn lv. absurd kn

  eras : ErasStandOn g nothing p
  eras = λ m a b env kn lv is. absurd kn

  agrees_at : (n : ℕ) → n ≤ 2001 → AgreesAt g nothing p pr plan sources (λ m. None) closed settled eras means n
  agrees_at = values_on g nothing p pr plan sources (λ m. None) closed settled eras means

  -- so it is of every expression on so many levels
  abbrev pub BuiltAt : ℕ → Type 0
  BuiltAt n = (e : Low) (env : List Part) (vs : Env) (ms : List ℕ) (k : Kept) → Sound t (length env) e → Have g nothing env vs → (eval_to n w (f e) vs k).first ≡ None
      → IsBuilt g (place p n e env ms) (Fails p n e env ms) (eval_to n w (f e) vs k)

  -- a work over parts that have these values
  work_built : (n : ℕ) (wk : Work) (ps : List Part) (us : List Seen) (ms : List ℕ) (d : Done) → Have g nothing ps us
      → (is_plain wk ≡ true → IsClean (work_line t n wk None us) × ((work_line t n wk None us).value ≡ d.value)) → IsBuilt g (place_work p n wk ps ms) (WorkFails p n wk ps) d
  work_built n wk ps us ms d have line = by_steady (is_plain wk && all_steady ps) refl
    where
      by_steady : (b : Bool) → is_plain wk && all_steady ps ≡ b
          → IsBuilt g (if b then by_value (work_line t n wk None (steady_values ps)).value ms else by_next ms) (Either b (IsClean (work_line t n wk None (steady_values ps)) → ⊥) ⊥) d
      by_steady true e =
          let both = both_true (is_plain wk) (all_steady ps) e in
          let same : steady_values ps ≡ us = have_steady g nothing ps us both.1 have in
          let here = line both.0 in
          record {
            value = λ kn. ap (λ xs. (work_line t n wk None xs).value) same ∙ here.1;
            builds = λ x. x (subst (λ xs. IsClean (work_line t n wk None xs)) (sym same) here.0);
          }
      by_steady false e = by_node g ms d

  module _ (n : ℕ) (few : suc n ≤ 2001) (ih : BuiltAt n) (env : List Part) (vs : Env) (en : Have g nothing env vs) where
    below : n ≤ 2001
    below = omega (arith, few)

    abbrev ev : Ev
    ev = eval_to n w

    abbrev walk : Walk
    walk = place p n

    abbrev Failing : Low → List Part → List ℕ → Type 0
    Failing = Fails p n

    all_have : (es : List Low) (i : ℕ) (ms : List ℕ) (k : Kept) → AllSound t (length env) es → (parts ev vs k i (map f es)).first ≡ None
        → Have g nothing (place_all walk env es ms).parts (parts ev vs k i (map f es)).values
    all_have [] i ms k s h = tt
    all_have (e ∷ es) i ms k s h =
        let d = ev (f e) vs (child k i) in
        ((ih e env vs ms (child k i) s.0 en (none_under i d.first (none_left (under i d.first) _ h))).value, all_have es (i + 1) (walk e env ms).left k s.1 (none_right (under i d.first) _ h))

    all_build : (es : List Low) (i : ℕ) (ms : List ℕ) (k : Kept) → AllSound t (length env) es → (parts ev vs k i (map f es)).first ≡ None → AnyFails walk Failing env es ms → ⊥
    all_build [] i ms k s h x = x
    all_build (e ∷ es) i ms k s h x =
        let d = ev (f e) vs (child k i) in
        elim x [
          | inl o ↦ (ih e env vs ms (child k i) s.0 en (none_under i d.first (none_left (under i d.first) _ h))).builds o
          | inr o ↦ all_build es (i + 1) (walk e env ms).left k s.1 (none_right (under i d.first) _ h) o
        ]

    slots_have : (ss : List Slot) → Have g nothing (slot_parts p env ss) (map (slot_seen sources vs) ss)
    slots_have [] = tt
    slots_have (slot.Var v ∷ ss) = (λ kn. have_at g nothing env vs v.0 en kn, slots_have ss)
    slots_have (slot.Source s ∷ ss) = (λ kn. absurd kn, slots_have ss)

    opens : (c : Core) (l : Core-F Core) (k : Kept) (placed : Placed) (F : Type 0) → out-Core c ≡ l
        → ((layer w ev vs k l).first ≡ None → IsBuilt g placed F (layer w ev vs k l)) → (eval_to (suc n) w c vs k).first ≡ None → IsBuilt g placed F (eval_to (suc n) w c vs k)
    opens c l k placed F h e = subst (λ d. d.first ≡ None → IsBuilt g placed F d) (ap (layer w ev vs k) (sym h) ∙ sym (evaluates n w c vs k)) e

    -- a switch

    chosen_built : (a b : Low) (ms : List ℕ) (k : Kept) (d : Done) (o : Result Bool Bad) → Sound t (length env) a → Sound t (length env) b
        → (switch_done ev vs k d (on_ok (chosen_by (f a) (f b)) o)).first ≡ None
        → IsBuilt g (place_chosen walk a b env ms o) (ChoiceFails Failing a b env ms o) (switch_done ev vs k d (on_ok (chosen_by (f a) (f b)) o))
    chosen_built a b ms k d (Err bad) sa sb h = let last = none_right (under 0 d.first) (own (Err bad)) h in absurd cc
    chosen_built a b ms k d (Ok true) sa sb h =
        let r = ih a env vs ms (under_key (key.Test true) (child k 1)) sa en (none_under 1 _ (none_right (under 0 d.first) _ (none_left _ _ h))) in
        record { value = r.value; builds = r.builds }
    chosen_built a b ms k d (Ok false) sa sb h =
        let r = ih b env vs ms (under_key (key.Test false) (child k 1)) sb en (none_under 2 _ (none_right (under 0 d.first) _ (none_left _ _ h))) in
        record { value = r.value; builds = r.builds }

    switch_built : (a b : Low) (h : Part) (ms : List ℕ) (k : Kept) (d : Done) → Sound t (length env) a → Sound t (length env) b → (IsKnown nothing h → part_value g h ≡ d.value)
        → (switch_done ev vs k d (on_ok (chosen_by (f a) (f b)) (test_of d.value))).first ≡ None
        → IsBuilt g (place_switch walk a b env h ms) (SwitchFails Failing a b env h ms) (switch_done ev vs k d (on_ok (chosen_by (f a) (f b)) (test_of d.value)))
    switch_built a b (steady v) ms k d sa sb r =
        subst (λ u. (switch_done ev vs k d (on_ok (chosen_by (f a) (f b)) (test_of u))).first ≡ None
        → IsBuilt g (place_chosen walk a b env ms (test_of v)) (ChoiceFails Failing a b env ms (test_of v)) (switch_done ev vs k d (on_ok (chosen_by (f a) (f b)) (test_of u))))
        (r tt) (chosen_built a b ms k d (test_of v) sa sb)
    switch_built a b (signal m) ms k d sa sb r = λ h. by_node g (rest ms) _

    test_none : (d : Done) (r : Result Choice Bad) (k : Kept) → (switch_done ev vs k d r).first ≡ None → d.first ≡ None
    test_none d (Err bad) k h = none_under 0 d.first (none_left (under 0 d.first) _ h)
    test_none d (Ok c) k h = none_under 0 d.first (none_left (under 0 d.first) _ (none_left _ _ h))

    -- a call; its body is part number i

    call_built : (o : Option Low) (qs : AllPlaced) (k : Kept) (i j : ℕ) (ps : Parts) → Have g nothing qs.parts ps.values → length qs.parts ≡ j → ((body : Low) → o ≡ Some body → Sound t j body)
        → (call_done ev k i ps (option_map f o)).first ≡ None → IsBuilt g (place_call walk o qs) (CallFails Failing o qs) (call_done ev k i ps (option_map f o))
    call_built None qs k i j ps have len s h = let last = none_right ps.first (own (Err Arity)) h in absurd cc
    call_built (Some body) qs k i j ps have len s h =
        let r = ih body qs.parts ps.values qs.left (child k i) (subst (λ m. Sound t m body) (sym len) (s body refl)) have (none_under i _ (none_right ps.first _ (none_left _ _ h))) in
        record { value = r.value; builds = r.builds }

    call_parts : (k : Kept) (i : ℕ) (ps : Parts) (o : Option Core) → (call_done ev k i ps o).first ≡ None → ps.first ≡ None
    call_parts k i ps None h = none_left ps.first _ h
    call_parts k i ps (Some body) h = none_left ps.first _ (none_left _ _ h)

    -- one case for each shape
    shape_built : (l : Low-F Low) (ms : List ℕ) (k : Kept) → SoundShape t (length env) l → (eval_to (suc n) w (erase_step t.kernels (map-Low Low Core f l)) vs k).first ≡ None
        → IsBuilt g (place_shape p n walk env ms l) (ShapeFails p n walk Failing env ms l) (eval_to (suc n) w (erase_step t.kernels (map-Low Low Core f l)) vs k)
    shape_built (Low-F.Lit v) ms k s = opens (core.Lit v) (Core-F.Lit v) k _ _ (outs-Lit v) (λ h. record { value = λ kn. refl; builds = λ x. x })
    shape_built (Low-F.Var v) ms k s = opens (core.Var v) (Core-F.Var v) k _ _ (outs-Var v) (λ h. record {
      value = λ kn. have_at g nothing env vs v.0 en kn;
      builds = λ x. no_variable vs v.0 (subst (λ m. m ≤ v.0) (have_length g nothing env vs en) x) h;
    })
    shape_built (Low-F.Source s) ms k sound = opens (core.Source s) (Core-F.Source s) k _ _ (outs-Source s) (λ h. record { value = λ kn. absurd kn; builds = λ x. x })
    shape_built (Low-F.Let es b) ms k s = opens (core.Let (map f es) (f b)) (Core-F.Let (map f es) (f b)) k _ _ (outs-Let (map f es) (f b)) (λ h.
        let qs = place_all walk env es ms in
        let ps = parts ev vs k 0 (map f es) in
        let i = length (map f es) in
        let d = ev (f b) (vs ++ ps.values) (child k i) in
        let none = none_left (option_or ps.first (under i d.first)) (own d.value) h in
        let inside = body_sound t (length env) (length es) es b s.inside in
        let have = all_have es 0 ms k inside.0 (none_left ps.first _ none) in
        let wide : length (env ++ qs.parts) ≡ length env + length es = length-append env qs.parts ∙ ap (λ m. length env + m) (all_length walk env es ms) in
        let body = ih b (env ++ qs.parts) (vs ++ ps.values) qs.left (child k i) (subst (λ m. Sound t m b) (sym wide) inside.1) (have_append g nothing env vs qs.parts ps.values en have) (none_under i d.first (none_right ps.first _ none)) in
        beside_others g _ _ _ d _ (all_build es 0 ms k inside.0 (none_left ps.first _ none)) body refl)
    shape_built (Low-F.If site test a b) ms k s = opens (core.If (f test) (f a) (f b)) (Core-F.If (f test) (f a) (f b)) k _ _ (outs-If (f test) (f a) (f b)) (λ h.
        let d = ev (f test) vs (child k 0) in
        let placed = walk test env ms in
        let inside = outer_sound t (length env) (test ∷ a ∷ b ∷ []) s.inside in
        let here = ih test env vs ms (child k 0) inside.0 en (test_none d (on_ok (chosen_by (f a) (f b)) (test_of d.value)) k h) in
        beside_others g _ _ _ _ _ here.builds (switch_built a b placed.part placed.left k d inside.1.0 inside.1.1.0 here.value h) refl)
    shape_built (Low-F.Apply id es) ms k s = opens (core.Apply id (map f es)) (Core-F.Apply id (map f es)) k _ _ (outs-Apply id (map f es)) (λ h.
        let qs = place_all walk env es ms in
        let ps = parts ev vs k 0 (map f es) in
        let i = length (map f es) in
        let j = length es in
        let o = low_body (slice_get p.functions id.0) j in
        let none = call_parts k i ps (body_for (slice_get w.functions id.0) i) h in
        let sound = outer_sound t (length env) es s.inside in
        let have = all_have es 0 ms k sound none in
        let same : option_map f o ≡ body_for (slice_get w.functions id.0) i
        = sym (bodies_match t.kernels p.functions id.0 j) ∙ ap (λ fs. body_for (slice_get fs id.0) j) (sym plan.functions) ∙ ap (body_for (slice_get w.functions id.0)) (sym (length-map es f)) in
        let called = subst (λ b. (call_done ev k i ps b).first ≡ None → IsBuilt g (place_call walk o qs) (CallFails Failing o qs) (call_done ev k i ps b)) same
        (call_built o qs k i j ps have (all_length walk env es ms) (λ body e. low_sound t (slice_get p.functions id.0) j body (plan.bodies id.0) e)) h in
        beside_others g _ _ _ _ _ (all_build es 0 ms k sound none) called refl)
    shape_built (Low-F.Operator o es) ms k s = opens (core.Operator o (map f es)) (Core-F.Operator o (map f es)) k _ _ (outs-Operator o (map f es)) (λ h.
        let qs = place_all walk env es ms in
        let inner = behind_cell (of_operator o) k in
        let cell = form_cell (of_operator o) k in
        let ps = parts ev vs inner 0 (map f es) in
        let line = state_now (of_operator o) cell ps.values no_call in
        let sound = outer_sound t (length env) es s.inside in
        let none = line_parts ps line h in
        beside_others g _ _ _ (line_done ps line) _ (all_build es 0 ms inner sound none)
        (work_built n (operates o) qs.parts ps.values qs.left (line_done ps line) (all_have es 0 ms inner sound none) (λ plain. plain_operator t n o cell ps.values plain (line_clean ps line h))) refl)
    shape_built (Low-F.Handler h es id ss) ms k s = opens (core.Handler h (map f es) (kernel_expr t.kernels id.0)) (Core-F.Handler h (map f es) (kernel_expr t.kernels id.0)) k _ _ (outs-Handler h (map f es) (kernel_expr t.kernels id.0)) (λ none.
        let inner = behind_cell (of_handler h) k in
        let ps = parts ev vs inner 0 (map f es) in
        let line = state_now (of_handler h) (form_cell (of_handler h) k) ps.values (handler ev vs (length (map f es)) (kernel_expr t.kernels id.0)) in
        beside_others g _ _ _ (line_done ps line) _ (all_build es 0 ms inner (outer_sound t (length env) es s.inside) (line_parts ps line none)) (by_node g (place_all walk env es ms).left (line_done ps line)) refl)
    shape_built (Low-F.Loop l es id ss) ms k s = opens (core.Loop l (map f es) (kernel_expr t.kernels id.0)) (Core-F.Loop l (map f es) (kernel_expr t.kernels id.0)) k _ _ (outs-Loop l (map f es) (kernel_expr t.kernels id.0)) (λ h.
        let qs = place_all walk env es ms in
        let ps = parts ev vs k 0 (map f es) in
        let i = length (map f es) in
        let body = kernel_expr t.kernels id.0 in
        let others = map (slot_seen sources vs) ss in
        let turn = body_with ev vs body in
        let sound = outer_sound t (length env) es s.inside in
        let none = none_left ps.first _ (none_left _ _ h) in
        let have = all_have es 0 ms k sound none in
        let count : length ps.values ≡ 2 = sym (have_length g nothing qs.parts ps.values have) ∙ all_length walk env es ms ∙ s.parts in
        let line = loop_line t n l id.0 ps.values others turn count
        (λ args e. let same = kernel_means g nothing p pr plan sources (λ m. None) closed settled eras means n few (agrees_at n below) 0 env vs en n id.0 (loop_binds l) ss args kept.Nothing below s.fits e in (sym same.value, λ e. same.first ∙ e))
        (none_right _ _ h) (none_under i _ (none_right ps.first _ (none_left _ _ h))) in
        let whole = turns_done i ps (all_turns turn (part ps.values 0) (rounds l (part ps.values 1))) in
        beside_others g _ _ _ whole _ (all_build es 0 ms k sound none)
        (work_built n (loops l id.0) (qs.parts ++ slot_parts p env ss) (ps.values ++ others) qs.left whole (have_append g nothing qs.parts ps.values (slot_parts p env ss) others have (slots_have ss)) (λ plain. line)) refl)
    shape_built (Low-F.Feedback init body) ms k s = opens (core.Feedback (f init) (f body)) (Core-F.Feedback (f init) (f body)) k _ _ (outs-Feedback (f init) (f body)) (λ h.
        let i = walk init env ms in
        let inner = behind_cell of_feedback k in
        let cell = form_cell of_feedback k in
        let d = ev (f init) vs (child inner 0) in
        let name = signal (first i.left) in
        let x0 = fed cell d.value in
        let b = ev (f body) (vs ++ x0 ∷ []) (child inner 1) in
        let none = line_parts (join_part 0 d (join_part 1 b no_parts)) (state_now of_feedback cell (d.value ∷ b.value ∷ []) no_call) h in
        let sound0 = subst (λ m. Sound t m init) (zero_more (length env)) (s.inside 0 (0, init) refl) in
        let here = ih init env vs ms (child inner 0) sound0 en (none_under 0 d.first (none_left (under 0 d.first) _ none)) in
        let wide : length (env ++ name ∷ []) ≡ length env + 1 = length-append env (name ∷ []) in
        let sound1 = subst (λ m. Sound t m body) (sym wide) (s.inside 1 (1, body) refl) in
        let have = have_append g nothing env vs (name ∷ []) (x0 ∷ []) en (λ kn. absurd kn, tt) in
        let there = ih body (env ++ name ∷ []) (vs ++ x0 ∷ []) (rest i.left) (child inner 1) sound1 have (none_under 1 b.first (none_left (under 1 b.first) None (none_right (under 0 d.first) _ none))) in
        beside_others g _ _ _ b _ here.builds there (sym (beside_value b.value (state_next of_feedback (d.value ∷ b.value ∷ [])))))
      where
        zero_more : (m : ℕ) → m + 0 ≡ m
        zero_more m = omega arith
    shape_built (Low-F.Collapse id ss) ms k s = λ h.
        let body = kernel_expr t.kernels id.0 in
        let others = map (slot_seen sources vs) ss in
        let same = kernel_means g nothing p pr plan sources (λ m. None) closed settled eras means n few (agrees_at n below) 0 env vs en (suc n) id.0 0 ss [] k few s.fits refl in
        let whole = ap (λ us. eval_to (suc n) w body us k) (append-nil vs) in
        let value : (kernel_run t (suc n) id.0 others []).value ≡ (eval_to (suc n) w body vs k).value = same.value ∙ ap (λ d. d.value) whole in
        work_built n (runs id.0) (slot_parts p env ss) others ms (eval_to (suc n) w body vs k) (slots_have ss) (λ plain. (
          record { value = ap own value ∙ value_good (suc n) w body vs k h; inner = same.first ∙ ap (λ d. d.first) whole ∙ h; refusal = refl },
          value,
        ))

  -- WHAT NEVER CHANGES. Where evaluating an expression errs nowhere, what stands for it and never changes has its value, and its building doesn't fail.
  pub built_on : (n : ℕ) → n ≤ 2001 → BuiltAt n
  unfolding place eval_to Fails
  built_on zero few e env vs ms k s en = λ h. absurd cc
  built_on (suc n) few e env vs ms k s en =
      let below : n ≤ 2001 = omega (arith, few) in
      subst (λ c. (eval_to (suc n) w c vs k).first ≡ None → IsBuilt g (place_shape p n (place p n) env ms (out-Low e)) (ShapeFails p n (place p n) (Fails p n) env ms (out-Low e)) (eval_to (suc n) w c vs k)) (sym (erase-opens t.kernels e))
      (shape_built n few (built_on n below) env vs en (out-Low e) ms k (sound_shape t (length env) e s))
