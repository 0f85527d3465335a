-- What building costs, whatever the signals hold: it asks for no node.
use Rattle.std.proofs.Common.{◌≡◌, ◌≤◌, ◌+◌, ◌&&◌, ℕ, zero, suc, Bool, true, false, if◌then◌else◌, List, [], ◌∷◌, ◌++◌, map, length, slice_get, refl, ap, sym, ◌∙◌, subst, append-nil, arith, Option, Some, None, Result, Ok, Err}
use Rattle.std.specs.Option.{option_map}
use Rattle.std.proofs.lemmas.List.{length-map, length-append, length_push}
use Rattle.fr_value.specs.declared.now.Now.{Now}
use Rattle.fr_value.specs.declared.now.Bad.{Bad}
use Rattle.fr_value.specs.declared.now.Bad.TheVariants.{Deep}
use Rattle.fr_core.specs.Shapes.{loop_binds}
use Rattle.fr_core.specs.declared.core_form.Core.{Core, out-Core}
use Rattle.fr_core.specs.declared.core_form.Core.TheOpen.{Core-F}
use Rattle.fr_core.specs.declared.core_form.Core.TheVariants as core
use Rattle.fr_core.specs.declared.core_form.Core.TheVariants.{outs-Lit, outs-Var, outs-Source, outs-Let, outs-If, outs-Apply, outs-Operator, outs-Handler, outs-Loop, outs-Feedback}
use Rattle.fr_core.specs.declared.core_form.Loop.{Loop}
use Rattle.fr_core.specs.declared.kept.Key.TheVariants as key
use Rattle.fr_core.specs.declared.kept.Kept.{Kept}
use Rattle.fr_core.specs.declared.kept.Kept.TheVariants as kept
use Rattle.fr_core.specs.declared.lowered.Low.{Low, out-Low, map-Low}
use Rattle.fr_core.specs.declared.lowered.Low.TheOpen.{Low-F}
use Rattle.fr_core.specs.declared.lowered.LowItem.{LowItem}
use Rattle.fr_core.specs.declared.lowered.LowItem.TheVariants as low_item
use Rattle.fr_core.specs.declared.lowered.Slot.{Slot}
use Rattle.fr_core.specs.declared.lowered.Slot.TheVariants as slot
use Rattle.fr_core.specs.declared.program.Program.{Program}
use Rattle.fr_meaning.specs.Words.{Seen, Env, Done, part, on_ok, test_of}
use Rattle.fr_meaning.specs.Cells.{Cell, child, under_key}
use Rattle.fr_meaning.specs.States.{of_operator, of_handler, of_feedback, fed, state_next}
use Rattle.fr_meaning.specs.Evaluation.{World, world_of, Ev, Parts, parts, chosen_by, Choice, switch_done, call_done, body_for, body_with, rounds, all_turns, form_cell, behind_cell, layer, eval_to}
use Rattle.fr_meaning.specs.Afresh.{items, body}
use Rattle.fr_meaning.proofs.Levels.{evaluates}
use Rattle.fr_kernel.specs.Kernels.{Kernels, slot_seen}
use Rattle.fr_kernel.specs.Erasure.{erase, erase_step, erased_item, kernel_expr}
use Rattle.fr_graph.specs.Graph.{Part, steady, signal, Work, operates, loops, runs, result, Graph, part_value, kernel_run, work_line, is_plain}
use Rattle.fr_graph.specs.Walk.{Plan, first, rest, Walk, Placed, AllPlaced, by_value, by_next, place_all, all_steady, steady_values, place_work, place_chosen, place_switch, place_call, slot_parts, low_body, place_shape, place}
use Rattle.fr_graph.specs.Known.{IsClosed, IsKnown, Have, SettledOn, ErasStandOn}
use Rattle.fr_graph.specs.Items.{ItemsSound, AreLowered, body_walk}
use Rattle.fr_graph.specs.Sound.{Sound, IsPlanOf, KernelsMean}
use Rattle.fr_graph.proofs.Parts.{both_true}
use Rattle.fr_graph.proofs.Means.{kernels_mean}
use Rattle.fr_graph.proofs.Parts.{have_at, have_append, have_length, have_steady}
use Rattle.fr_graph.proofs.Works.{plain_any, beside_value, operator_value}
use Rattle.fr_graph.proofs.Calls.{loop_value, loop_cost}
use Rattle.fr_graph.proofs.Inside.{erase-opens, SoundShape, sound_shape, AllSound, outer_sound, body_sound, all_length, bodies_match, low_sound}
use Rattle.fr_graph.proofs.Values.{AgreesAt, values_on, kernel_means}
use Rattle.fr_sums.specs.Sites.{when}
use Rattle.fr_sums.specs.Along.{Adding, add_all, add_chosen, add_items}
use Rattle.fr_sums.specs.Spent.{build_work, build_switch, build_call, build_shape, built}
use Rattle.fr_sums.proofs.Operators.{operator_cost}

module _ (g : Graph) (p : Plan) (pr : Program) (plan : IsPlanOf pr p) (sources : List Now) (means : KernelsMean p pr sources) where
  -- no node is known
  abbrev N : ℕ → Type 0
  N m = ⊥

  abbrev before : ℕ → Option Cell
  before m = None

  abbrev t : Kernels
  t = p.table

  abbrev w : World
  w = world_of pr sources

  abbrev f : Low → Core
  f = erase t.kernels

  closed : IsClosed g N
  closed = record { input = λ m j a b c. absurd a; watched = λ w a b env lv is kn. absurd kn }

  settled : SettledOn g N p.table sources before
  settled m kn = absurd kn

  eras : ErasStandOn g N p
  eras v a b env kn = absurd kn

  agrees_at : (n : ℕ) → n ≤ 2001 → AgreesAt g N p pr plan sources before closed settled eras means n
  agrees_at = values_on g N p pr plan sources before closed settled eras means

  -- what never changes has the value of the evaluation, and building costs no more than it
  abbrev pub Builds : Placed → ℕ → Done → Type 0
  Builds r b d = (IsKnown N r.part → part_value g r.part ≡ d.value) × (b ≤ d.cost)

  abbrev pub BuildsAt : ℕ → Type 0
  BuildsAt n = (e : Low) (env : List Part) (vs : Env) (ms : List ℕ) (k : Kept) → Sound t (length env) e → Have g N env vs → Builds (place p n e env ms) (built p n e env ms) (eval_to n w (f e) vs k)

  work_builds : (n : ℕ) (wk : Work) (ps : List Part) (us : List Seen) (ms : List ℕ) (c : Option Cell) → Have g N ps us
      → (IsKnown N (place_work p n wk ps ms).part → part_value g (place_work p n wk ps ms).part ≡ (work_line t n wk c us).value) × (build_work p n wk ps ≤ (work_line t n wk c us).cost)
  work_builds n wk ps us ms c have = by_steady (is_plain wk && all_steady ps) refl
    where
      by_steady : (b : Bool) → is_plain wk && all_steady ps ≡ b
          → (IsKnown N (if b then by_value (work_line t n wk None (steady_values ps)).value ms else by_next ms).part → part_value g (if b then by_value (work_line t n wk None (steady_values ps)).value ms else by_next ms).part ≡ (work_line t n wk c us).value)
          × (when b (work_line t n wk None (steady_values ps)).cost ≤ (work_line t n wk c us).cost)
      by_steady true e =
          let both = both_true (is_plain wk) (all_steady ps) e in
          let same : work_line t n wk None (steady_values ps) ≡ work_line t n wk c us = ap (λ xs. work_line t n wk None xs) (have_steady g N ps us both.1 have) ∙ plain_any t n wk None c us both.0 in
          (λ kn. ap (λ l. l.value) same, (let e = ap (λ l. l.cost) same in omega (arith, e)))
      by_steady false e = (λ kn. absurd kn, omega arith)

  module _ (n : ℕ) (few : suc n ≤ 2001) (ih : BuildsAt n) (env : List Part) (vs : Env) (en : Have g N env vs) where
    below : n ≤ 2001
    below = omega (arith, few)

    abbrev ev : Ev
    ev = eval_to n w

    abbrev walk : Walk
    walk = place p n

    abbrev build : Adding
    build = built p n

    slots_hold : (ss : List Slot) → Have g N (slot_parts p env ss) (map (slot_seen sources vs) ss)
    slots_hold [] = tt
    slots_hold (slot.Var v ∷ ss) = (λ kn. have_at g N env vs v.0 en kn, slots_hold ss)
    slots_hold (slot.Source s ∷ ss) = (λ kn. absurd kn, slots_hold ss)

    all_build : (es : List Low) (i : ℕ) (ms : List ℕ) (k : Kept) → AllSound t (length env) es
        → Have g N (place_all walk env es ms).parts (parts ev vs k i (map f es)).values × (add_all walk build env es ms ≤ (parts ev vs k i (map f es)).cost)
    all_build [] i ms k s = (tt, omega arith)
    all_build (e ∷ es) i ms k s =
        let h = ih e env vs ms (child k i) s.0 en in
        let r = all_build es (i + 1) (walk e env ms).left k s.1 in
        ((h.0, r.0), omega (arith, h.1, r.1))

    opens : (c : Core) (l : Core-F Core) (k : Kept) (r : Placed) (b : ℕ) → out-Core c ≡ l → Builds r b (layer w ev vs k l) → Builds r b (eval_to (suc n) w c vs k)
    opens c l k r b h x = subst (Builds r b) (ap (layer w ev vs k) (sym h) ∙ sym (evaluates n w c vs k)) x

    chosen_builds : (a b : Low) (ms : List ℕ) (k : Kept) (d : Done) (bt : ℕ) (o : Result Bool Bad) → Sound t (length env) a → Sound t (length env) b → bt ≤ d.cost
        → Builds (place_chosen walk a b env ms o) (bt + add_chosen build a b env ms o) (switch_done ev vs k d (on_ok (chosen_by (f a) (f b)) o))
    chosen_builds a b ms k d bt (Err bad) sa sb h = (λ kn. refl, omega (arith, h))
    chosen_builds a b ms k d bt (Ok true) sa sb h = let r = ih a env vs ms (under_key (key.Test true) (child k 1)) sa en in (r.0, omega (arith, h, r.1))
    chosen_builds a b ms k d bt (Ok false) sa sb h = let r = ih b env vs ms (under_key (key.Test false) (child k 1)) sb en in (r.0, omega (arith, h, r.1))

    switch_builds : (a b : Low) (h : Part) (ms : List ℕ) (k : Kept) (d : Done) (bt : ℕ) → Sound t (length env) a → Sound t (length env) b → (IsKnown N h → part_value g h ≡ d.value) → bt ≤ d.cost
        → Builds (place_switch walk a b env h ms) (bt + build_switch build a b env h ms) (switch_done ev vs k d (on_ok (chosen_by (f a) (f b)) (test_of d.value)))
    switch_builds a b (steady v) ms k d bt sa sb value h =
        subst (λ u. Builds (place_chosen walk a b env ms (test_of v)) (bt + add_chosen build a b env ms (test_of v)) (switch_done ev vs k d (on_ok (chosen_by (f a) (f b)) (test_of u)))) (value tt)
        (chosen_builds a b ms k d bt (test_of v) sa sb h)
    switch_builds a b (signal m) ms k d bt sa sb value h = (λ kn. absurd kn, by_choice (on_ok (chosen_by (f a) (f b)) (test_of d.value)))
      where
        by_choice : (r : Result Choice Bad) → bt + 0 ≤ (switch_done ev vs k d r).cost
        by_choice (Err bad) = omega (arith, h)
        by_choice (Ok c) = omega (arith, h)

    call_builds : (o : Option Low) (qs : AllPlaced) (k : Kept) (m bt : ℕ) (ps : Parts) → Have g N qs.parts ps.values → length qs.parts ≡ m → ((body : Low) → o ≡ Some body → Sound t m body) → bt ≤ ps.cost
        → Builds (place_call walk o qs) (bt + build_call build o qs) (call_done ev k m ps (option_map f o))
    call_builds None qs k m bt ps have len s h = (λ kn. refl, omega (arith, h))
    call_builds (Some body) qs k m bt ps have len s h =
        let r = ih body qs.parts ps.values qs.left (child k m) (subst (λ j. Sound t j body) (sym len) (s body refl)) have in
        (r.0, omega (arith, h, r.1))

    -- one case for each shape
    shape_builds : (l : Low-F Low) (ms : List ℕ) (k : Kept) → SoundShape t (length env) l → Builds (place_shape p n walk env ms l) (build_shape p n walk build env ms l) (eval_to (suc n) w (erase_step t.kernels (map-Low Low Core f l)) vs k)
    shape_builds (Low-F.Lit v) ms k s = opens (core.Lit v) (Core-F.Lit v) k (place_shape p n walk env ms (Low-F.Lit v)) (build_shape p n walk build env ms (Low-F.Lit v)) (outs-Lit v) (λ kn. refl, omega arith)
    shape_builds (Low-F.Var v) ms k s = opens (core.Var v) (Core-F.Var v) k (place_shape p n walk env ms (Low-F.Var v)) (build_shape p n walk build env ms (Low-F.Var v)) (outs-Var v) (λ kn. have_at g N env vs v.0 en kn, omega arith)
    shape_builds (Low-F.Source i) ms k s = opens (core.Source i) (Core-F.Source i) k (place_shape p n walk env ms (Low-F.Source i)) (build_shape p n walk build env ms (Low-F.Source i)) (outs-Source i) (λ kn. absurd kn, omega arith)
    shape_builds (Low-F.Let es b) ms k s =
        let qs = place_all walk env es ms in
        let ps = parts ev vs k 0 (map f es) in
        let inside = body_sound t (length env) (length es) es b s.inside in
        let all = all_build es 0 ms k inside.0 in
        let wide : length (env ++ qs.parts) ≡ length env + length es = length-append env qs.parts ∙ ap (λ m. length env + m) (all_length walk env es ms) in
        let r = ih b (env ++ qs.parts) (vs ++ ps.values) qs.left (child k (length es)) (subst (λ m. Sound t m b) (sym wide) inside.1) (have_append g N env vs qs.parts ps.values en all.0) in
        let body = subst (λ m. Builds (walk b (env ++ qs.parts) qs.left) (build b (env ++ qs.parts) qs.left) (ev (f b) (vs ++ ps.values) (child k m))) (sym (length-map es f)) r in
        opens (core.Let (map f es) (f b)) (Core-F.Let (map f es) (f b)) k (place_shape p n walk env ms (Low-F.Let es b)) (build_shape p n walk build env ms (Low-F.Let es b)) (outs-Let (map f es) (f b)) (body.0, omega (arith, all.1, body.1))
    shape_builds (Low-F.If site test a b) ms k s =
        let inside = outer_sound t (length env) (test ∷ a ∷ b ∷ []) s.inside in
        let placed = walk test env ms in
        let d = ev (f test) vs (child k 0) in
        let front = ih test env vs ms (child k 0) inside.0 en in
        opens (core.If (f test) (f a) (f b)) (Core-F.If (f test) (f a) (f b)) k (place_shape p n walk env ms (Low-F.If site test a b)) (build_shape p n walk build env ms (Low-F.If site test a b)) (outs-If (f test) (f a) (f b)) (switch_builds a b placed.part placed.left k d _ inside.1.0 inside.1.1.0 front.0 front.1)
    shape_builds (Low-F.Apply id es) ms k s =
        let qs = place_all walk env es ms in
        let ps = parts ev vs k 0 (map f es) in
        let m = length es in
        let o = low_body (slice_get p.functions id.0) m in
        let all = all_build es 0 ms k (outer_sound t (length env) es s.inside) in
        let same : option_map f o ≡ body_for (slice_get w.functions id.0) m = sym (bodies_match t.kernels p.functions id.0 m) ∙ ap (λ fs. body_for (slice_get fs id.0) m) (sym plan.functions) in
        let call = call_builds o qs k m _ ps all.0 (all_length walk env es ms) (λ body e. low_sound t (slice_get p.functions id.0) m body (plan.bodies id.0) e) all.1 in
        opens (core.Apply id (map f es)) (Core-F.Apply id (map f es)) k (place_shape p n walk env ms (Low-F.Apply id es)) (build_shape p n walk build env ms (Low-F.Apply id es)) (outs-Apply id (map f es))
        (subst (Builds (place_call walk o qs) (add_all walk build env es ms + build_call build o qs)) (ap (call_done ev k m ps) same ∙ ap (λ j. call_done ev k j ps (body_for (slice_get w.functions id.0) j)) (sym (length-map es f))) call)
    shape_builds (Low-F.Operator o es) ms k s =
        let qs = place_all walk env es ms in
        let inner = behind_cell (of_operator o) k in
        let cell = form_cell (of_operator o) k in
        let ps = parts ev vs inner 0 (map f es) in
        let all = all_build es 0 ms inner (outer_sound t (length env) es s.inside) in
        let work = work_builds n (operates o) qs.parts ps.values qs.left cell all.0 in
        let cost = operator_cost t n o cell ps.values in
        opens (core.Operator o (map f es)) (Core-F.Operator o (map f es)) k (place_shape p n walk env ms (Low-F.Operator o es)) (build_shape p n walk build env ms (Low-F.Operator o es)) (outs-Operator o (map f es)) (λ kn. work.0 kn ∙ operator_value o cell ps.values, omega (arith, all.1, work.1, cost))
    shape_builds (Low-F.Handler h es id ss) ms k s =
        let all = all_build es 0 ms (behind_cell (of_handler h) k) (outer_sound t (length env) es s.inside) in
        let body = kernel_expr t.kernels id.0 in
        opens (core.Handler h (map f es) body) (Core-F.Handler h (map f es) body) k (place_shape p n walk env ms (Low-F.Handler h es id ss)) (build_shape p n walk build env ms (Low-F.Handler h es id ss)) (outs-Handler h (map f es) body) (λ kn. absurd kn, omega (arith, all.1))
    shape_builds (Low-F.Loop l es id ss) ms k s =
        let qs = place_all walk env es ms in
        let ps = parts ev vs k 0 (map f es) in
        let all = all_build es 0 ms k (outer_sound t (length env) es s.inside) in
        let others = map (slot_seen sources vs) ss in
        let body = kernel_expr t.kernels id.0 in
        let count : length ps.values ≡ 2 = sym (have_length g N qs.parts ps.values all.0) ∙ all_length walk env es ms ∙ s.parts in
        let work = work_builds n (loops l id.0) (qs.parts ++ slot_parts p env ss) (ps.values ++ others) qs.left None (have_append g N qs.parts ps.values (slot_parts p env ss) others all.0 (slots_hold ss)) in
        let turns = loop_line l id.0 ps.values others body count
        (λ args e. let m = kernel_means g N p pr plan sources before closed settled eras means n few (agrees_at n below) 0 env vs en n id.0 (loop_binds l) ss args kept.Nothing below s.fits e in (m.value, m.cost)) in
        opens (core.Loop l (map f es) body) (Core-F.Loop l (map f es) body) k (place_shape p n walk env ms (Low-F.Loop l es id ss)) (build_shape p n walk build env ms (Low-F.Loop l es id ss)) (outs-Loop l (map f es) body) (λ kn. work.0 kn ∙ turns.0, omega (arith, all.1, work.1, turns.1))
      where
        loop_line : (l : Loop) (id : ℕ) (xs others : List Seen) (body : Core) → length xs ≡ 2
            → ((args : List Seen) → length args ≡ loop_binds l → ((kernel_run t n id others args).value ≡ (body_with ev vs body args).value) × ((kernel_run t n id others args).cost ≡ (body_with ev vs body args).cost))
            → ((work_line t n (loops l id) None (xs ++ others)).value ≡ (all_turns (body_with ev vs body) (part xs 0) (rounds l (part xs 1))).value)
            × ((work_line t n (loops l id) None (xs ++ others)).cost ≡ (all_turns (body_with ev vs body) (part xs 0) (rounds l (part xs 1))).cost)
        loop_line l id [] others body e same = absurd (omega (arith, e))
        loop_line l id (a ∷ []) others body e same = absurd (omega (arith, e))
        loop_line l id (a ∷ b ∷ []) others body e same = (loop_value l a b (kernel_run t n id others) (body_with ev vs body) (λ args h. (same args h).0), loop_cost l a b (kernel_run t n id others) (body_with ev vs body) same)
        loop_line l id (a ∷ b ∷ c ∷ xs) others body e same = absurd (omega (arith, e))
    shape_builds (Low-F.Feedback init body) ms k s =
        let i = walk init env ms in
        let inner = behind_cell of_feedback k in
        let cell = form_cell of_feedback k in
        let d = ev (f init) vs (child inner 0) in
        let x0 = fed cell d.value in
        let front = ih init env vs ms (child inner 0) (subst (λ m. Sound t m init) (zero_more (length env)) (s.inside 0 (0, init) refl)) en in
        let inside = env ++ signal (first i.left) ∷ [] in
        let wide : length inside ≡ length env + 1 = length-append env (signal (first i.left) ∷ []) in
        let b = ev (f body) (vs ++ x0 ∷ []) (child inner 1) in
        let behind = ih body inside (vs ++ x0 ∷ []) (rest i.left) (child inner 1) (subst (λ m. Sound t m body) (sym wide) (s.inside 1 (1, body) refl))
        (have_append g N env vs (signal (first i.left) ∷ []) (x0 ∷ []) en (λ kn. absurd kn, tt)) in
        opens (core.Feedback (f init) (f body)) (Core-F.Feedback (f init) (f body)) k (place_shape p n walk env ms (Low-F.Feedback init body)) (build_shape p n walk build env ms (Low-F.Feedback init body)) (outs-Feedback (f init) (f body))
        (λ kn. behind.0 kn ∙ sym (beside_value b.value (state_next of_feedback (d.value ∷ b.value ∷ []))), omega (arith, front.1, behind.1))
      where
        zero_more : (m : ℕ) → m + 0 ≡ m
        zero_more m = omega arith
    shape_builds (Low-F.Collapse id ss) ms k s =
        let others = map (slot_seen sources vs) ss in
        let work = work_builds n (runs id.0) (slot_parts p env ss) others ms None (slots_hold ss) in
        let m = kernel_means g N p pr plan sources before closed settled eras means n few (agrees_at n below) 0 env vs en (suc n) id.0 0 ss [] k few s.fits refl in
        let run = kernel_run t (suc n) id.0 others [] in
        let cost : run.cost ≡ (eval_to (suc n) w (kernel_expr t.kernels id.0) vs k).cost = m.cost ∙ ap (λ us. (eval_to (suc n) w (kernel_expr t.kernels id.0) us k).cost) (append-nil vs) in
        (λ kn. work.0 kn ∙ m.value ∙ ap (λ us. (eval_to (suc n) w (kernel_expr t.kernels id.0) us k).value) (append-nil vs), omega (arith, work.1, cost))

  -- THE BUILDING of an expression costs no more than evaluating it, whatever the signals hold.
  pub builds_on : (n : ℕ) → n ≤ 2001 → BuildsAt n
  unfolding place eval_to built
  builds_on zero few e env vs ms k s en = (λ kn. refl, omega arith)
  builds_on (suc n) few e env vs ms k s en =
      let below : n ≤ 2001 = omega (arith, few) in
      subst (λ c. Builds (place_shape p n (place p n) env ms (out-Low e)) (build_shape p n (place p n) (built p n) env ms (out-Low e)) (eval_to (suc n) w c vs k)) (sym (erase-opens t.kernels e))
      (shape_builds n few (builds_on n below) env vs en (out-Low e) ms k (sound_shape t (length env) e s))

  items_build : (n : ℕ) → n ≤ 2001 → (is : List LowItem) (i : ℕ) (env : List Part) (vs : Env) (ms : List ℕ) (k : Kept) → ItemsSound t (length env) is → Have g N env vs
      → add_items (place p n) (built p n) env is ms ≤ (items (eval_to n w) vs k i (map (erased_item t.kernels) is)).cost
  items_build n few [] i env vs ms k s en = omega arith
  items_build n few (low_item.Define e ∷ is) i env vs ms k s en =
      let r = builds_on n few e env vs ms (child k i) s.0 en in
      let h = (place p n e env ms).part in
      let v = (eval_to n w (f e) vs (child k i)).value in
      let more = items_build n few is (i + 1) (env ++ h ∷ []) (vs ++ v ∷ []) (place p n e env ms).left k (subst (λ m. ItemsSound t m is) (sym (length_push env h)) s.1) (have_append g N env vs (h ∷ []) (v ∷ []) en (r.0, tt)) in
      omega (arith, r.1, more)
  items_build n few (low_item.Show name e ∷ is) i env vs ms k s en =
      let r = builds_on n few e env vs ms (child k i) s.0 en in
      let more = items_build n few is (i + 1) env vs (place p n e env ms).left k s.1 en in
      omega (arith, r.1, more)

-- what never changes has its value in any graph
no_nodes : Graph
no_nodes = record {
  live = λ m. false;
  kind = λ m. result;
  inputs = λ m. [];
  later = λ m. None;
  value = λ m. Err Deep;
  cell = λ m. None;
  level = λ m. 0;
  era = λ m. 0;
  members = λ x. [];
  result_of = λ m. 0;
}

-- THE BUILDING of a program's items costs no more than evaluating its body.
pub body_builds : (pr : Program) (p : Plan) (is : List LowItem) (ms : List ℕ) (sources : List Now) (k : Kept) → AreLowered pr p is → add_items (body_walk p) (built p 2000) [] is ms ≤ (body pr sources k).cost
body_builds pr p is ms sources k lowered =
    subst (λ b. add_items (body_walk p) (built p 2000) [] is ms ≤ (items (eval_to 2000 (world_of pr sources)) [] k 0 b).cost) (sym lowered.items)
    (items_build no_nodes p pr lowered.plan sources (kernels_mean pr p sources lowered.plan) 2000 (omega arith) is 0 [] [] ms k lowered.sound tt)
