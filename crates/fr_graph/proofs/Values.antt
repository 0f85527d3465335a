-- What stands for an expression has the value of its evaluation.
use Rattle.std.proofs.Common.{◌≡◌, ◌≤◌, ◌+◌, ℕ, zero, suc, Bool, true, false, List, [], ◌∷◌, ◌++◌, map, take, drop, length, slice_get, refl, ap, sym, ◌∙◌, subst, append-nil, arith, Option, Some, None, Result, Ok, Err}
use Rattle.std.specs.Option.{option_map}
use Rattle.std.proofs.lemmas.Bool.{false≢true}
use Rattle.std.proofs.lemmas.List.{length-map, length-append}
use Rattle.std.proofs.Math.Seq.{take-append_seam, drop-append_seam}
use Rattle.fr_value.specs.declared.now.Now.{Now}
use Rattle.fr_value.specs.declared.now.Bad.{Bad}
use Rattle.fr_core.specs.Shapes.{handler_parts, handler_binds, loop_binds}
use Rattle.fr_core.specs.declared.core_form.Core.{Core, out-Core}
use Rattle.fr_core.specs.declared.core_form.Core.TheOpen.{Core-F}
use Rattle.fr_core.specs.declared.core_form.Core.TheVariants as core
use Rattle.fr_core.specs.declared.core_form.Core.TheVariants.{outs-Lit, outs-Var, outs-Source, outs-Let, outs-If, outs-Apply, outs-Operator, outs-Handler, outs-Loop, outs-Feedback}
use Rattle.fr_core.specs.declared.kept.Key.TheVariants as key
use Rattle.fr_core.specs.declared.kept.Kept.{Kept}
use Rattle.fr_core.specs.declared.kept.Kept.TheVariants as kept
use Rattle.fr_core.specs.declared.lowered.Low.{Low, out-Low, map-Low}
use Rattle.fr_core.specs.declared.lowered.Low.TheOpen.{Low-F}
use Rattle.fr_core.specs.declared.lowered.Slot.{Slot}
use Rattle.fr_core.specs.declared.lowered.Slot.TheVariants as slot
use Rattle.fr_core.specs.declared.program.Program.{Program}
use Rattle.fr_meaning.specs.Words.{Seen, Env, Done, part, on_ok, test_of}
use Rattle.fr_meaning.specs.Cells.{Cell, child, under_key}
use Rattle.fr_meaning.specs.States.{of_operator, of_handler, of_feedback, fed, state_now, state_next}
use Rattle.fr_meaning.specs.Evaluation.{World, world_of, Ev, parts, source_seen, chosen_by, switch_done, call_done, body_for, handler, body_with, rounds, form_cell, behind_cell, layer, eval_to}
use Rattle.fr_meaning.proofs.Levels.{evaluates}
use Rattle.fr_kernel.specs.Kernels.{Kernels, slot_seen}
use Rattle.fr_kernel.specs.Erasure.{erase, erase_step, kernel_expr, expr_in, Fits}
use Rattle.fr_graph.specs.Graph.{Part, steady, signal, operates, handles, loops, runs, feeds, Kind, works, watch, result, Graph, part_value, kernel_run, kernel_call, work_line}
use Rattle.fr_graph.specs.Walk.{Plan, first, rest, Walk, Placed, AllPlaced, place_all, place_switch, place_chosen, place_call, slot_parts, low_body, place_shape, place}
use Rattle.fr_graph.specs.Wired.{Unless, IsSource, SlotsStand, AllStand, Chosen, SwitchStands, CallStands, ShapeStands, Wired, EraStands}
use Rattle.fr_graph.specs.Keeps.{Asked, AllKeep, SwitchKeeps, CallKeeps, CellKeeps, ShapeKeeps, Keeps, asks_nothing}
use Rattle.fr_graph.specs.Known.{Reads, IsClosed, IsKnown, Have, IsWatched, IsFed, IsWorked, Rule, SettledOn, ErasStandOn}
use Rattle.fr_graph.specs.Sound.{Sound, IsPlanOf, AreAlike, KernelsMean}
use Rattle.fr_graph.proofs.Parts.{read_known, have_at, have_append, have_length}
use Rattle.fr_graph.proofs.Works.{beside_value, operator_value, rule_on, inputs_on, work_value}
use Rattle.fr_graph.proofs.Calls.{handler_value, loop_value}
use Rattle.fr_graph.proofs.Inside.{erase-opens, SoundShape, sound_shape, AllSound, outer_sound, body_sound, all_length, bodies_match, low_sound}

module _ (g : Graph) (known : ℕ → Type 0) (p : Plan) (pr : Program) (plan : IsPlanOf pr p) (sources : List Now) (before : ℕ → Option Cell)
    (closed : IsClosed g known) (settled : SettledOn g known p.table sources before) (eras : ErasStandOn g known p) (means : KernelsMean p pr sources) where
  abbrev t : Kernels
  t = p.table

  abbrev w : World
  w = world_of pr sources

  abbrev q : Asked
  q = record { known = known; cell = before; asks = asks_nothing }

  abbrev f : Low → Core
  f = erase t.kernels

  -- what stands for an expression has the value of its evaluation, where it is known
  abbrev pub Agrees : Placed → Done → Type 0
  Agrees r d = IsKnown known r.part → part_value g r.part ≡ d.value

  -- so it is of every expression on so many levels
  abbrev pub AgreesAt : ℕ → Type 0
  AgreesAt n = (e : Low) (x : ℕ) (env : List Part) (vs : Env) (ms : List ℕ) (k : Kept) → Sound t (length env) e → Have g known env vs → Wired g p x n e env ms → Keeps g p q n e env ms k
      → Agrees (place p n e env ms) (eval_to n w (f e) vs k)

  source_value : (s : ℕ) → IsSource g p s → known (p.node_of s) → g.value (p.node_of s) ≡ source_seen (slice_get sources s)
  source_value s st kn =
      let fed : IsFed g sources (p.node_of s) s = subst (λ (j : Kind). Rule g t sources before (p.node_of s) j (g.inputs (p.node_of s))) st.kind (settled (p.node_of s) kn st.live) in
      fed.value ∙ ap source_seen (sym fed.there)

  -- the one input of a known node is known
  input_known : (m : ℕ) (h : Part) → known m → g.live m ≡ true → g.inputs m ≡ h ∷ [] → IsKnown known h
  input_known m h kn lv e = (read_known known (h ∷ []) (λ j r. closed.input m j kn lv (subst (λ (l : List Part). Reads j l) (sym e) r))).0

  module _ (n : ℕ) (few : suc n ≤ 2001) (ih : AgreesAt n) (x : ℕ) (env : List Part) (vs : Env) (en : Have g known env vs) where
    abbrev ev : Ev
    ev = eval_to n w

    abbrev walk : Walk
    walk = place p n

    abbrev Stands : Low → List Part → List ℕ → Type 0
    Stands = Wired g p x n

    abbrev Trees : Low → List Part → List ℕ → Kept → Type 0
    Trees = Keeps g p q n

    pub all_on : (es : List Low) (i : ℕ) (ms : List ℕ) (k : Kept) → AllSound t (length env) es → AllStand walk Stands env es ms → AllKeep walk Trees env i es ms k
        → Have g known (place_all walk env es ms).parts (parts ev vs k i (map f es)).values
    all_on [] i ms k s st kp = tt
    all_on (e ∷ es) i ms k s st kp = (ih e x env vs ms (child k i) s.0 en st.0 kp.0, all_on es (i + 1) (walk e env ms).left k s.1 st.1 kp.1)

    pub slots_on : (ss : List Slot) → SlotsStand g p ss → Have g known (slot_parts p env ss) (map (slot_seen sources vs) ss)
    slots_on [] st = tt
    slots_on (slot.Var v ∷ ss) st = (λ kn. have_at g known env vs v.0 en kn, slots_on ss st)
    slots_on (slot.Source s ∷ ss) st = (λ kn. source_value s.0 st.0 kn, slots_on ss st.1)

    opens : (c : Core) (l : Core-F Core) (k : Kept) → out-Core c ≡ l → (layer w ev vs k l).value ≡ (eval_to (suc n) w c vs k).value
    opens c l k h = ap (λ l. (layer w ev vs k l).value) (sym h) ∙ ap (λ d. d.value) (sym (evaluates n w c vs k))

    -- a kernel that fits here gives what its expression does
    pub kernel_means : (m id b : ℕ) (ss : List Slot) (args : List Seen) (tree : Kept) → m ≤ 2001 → Fits t.kernels (length env) (record { id = id; binds = b; slots = ss }) → length args ≡ b
        → AreAlike (kernel_run t m id (map (slot_seen sources vs) ss) args) (eval_to m w (kernel_expr t.kernels id) (vs ++ args) tree)
    kernel_means m id b ss args tree le fit e =
        let said = means m id fit.kernel le fit.stands vs args (sym (have_length g known env vs en) ∙ sym fit.first) (e ∙ sym fit.params) tree in
        subst (λ us. AreAlike (kernel_run t m id (map (slot_seen sources vs) us) args) (eval_to m w (kernel_expr t.kernels id) (vs ++ args) tree)) fit.slots
        (subst (λ o. AreAlike (kernel_run t m id (map (slot_seen sources vs) fit.kernel.slots) args) (eval_to m w (expr_in o) (vs ++ args) tree)) (sym fit.stands) said)

    -- a switch

    chosen_on : (a b : Low) (ms : List ℕ) (k : Kept) (d : Done) (o : Result Bool Bad) → Sound t (length env) a → Sound t (length env) b
        → Chosen o (Stands a env ms) (Stands b env ms)
        → Chosen o (Trees a env ms (under_key (key.Test true) (child k 1))) (Trees b env ms (under_key (key.Test false) (child k 1)))
        → Agrees (place_chosen walk a b env ms o) (switch_done ev vs k d (on_ok (chosen_by (f a) (f b)) o))
    chosen_on a b ms k d (Err bad) sa sb st kp = absurd st
    chosen_on a b ms k d (Ok true) sa sb st kp = ih a x env vs ms (under_key (key.Test true) (child k 1)) sa en st kp
    chosen_on a b ms k d (Ok false) sa sb st kp = ih b x env vs ms (under_key (key.Test false) (child k 1)) sb en st kp

    -- the value of a known result whose era stands
    branch_on : (e : Low) (m r : ℕ) (tree : Kept) → Sound t (length env) e → g.level m ≡ n → EraStands g p m e env → Trees e env (g.members (suc m)) tree
        → known r → g.live r ≡ true → g.kind r ≡ result → g.result_of m ≡ r → g.value r ≡ (ev (f e) vs tree).value
    branch_on e m r tree s level era kp kn lv kind is =
        let ms = g.members (suc m) in
        let wired : Wired g p (suc m) n e env ms = subst (λ j. Wired g p (suc m) j e env ms) level era.wired in
        let input : g.inputs r ≡ (place p n e env ms).part ∷ [] = ap g.inputs (sym is) ∙ era.input ∙ ap (λ j. (place p j e env ms).part ∷ []) level in
        let rule : g.value r ≡ part_value g (place p n e env ms).part
        = subst (λ (j : Kind). Rule g t sources before r j ((place p n e env ms).part ∷ [])) kind
        (subst (λ (l : List Part). Rule g t sources before r (g.kind r) l) input (settled r kn lv)) in
        rule ∙ ih e (suc m) env vs ms tree s en wired kp (input_known r (place p n e env ms).part kn lv input)

    era_on : (a b : Low) (m r : ℕ) (k : Kept) (d : Done) (holds : Bool) → Sound t (length env) a → Sound t (length env) b → g.level m ≡ n
        → Chosen (Ok holds) (EraStands g p m a env) (EraStands g p m b env)
        → Chosen (Ok holds) (Trees a env (g.members (suc m)) (under_key (key.Test true) (child k 1))) (Trees b env (g.members (suc m)) (under_key (key.Test false) (child k 1)))
        → known r → g.live r ≡ true → g.kind r ≡ result → g.result_of m ≡ r
        → g.value r ≡ (switch_done ev vs k d (on_ok (chosen_by (f a) (f b)) (Ok holds))).value
    era_on a b m r k d true sa sb level era kp kn lv kind is = branch_on a m r (under_key (key.Test true) (child k 1)) sa level era kp kn lv kind is
    era_on a b m r k d false sa sb level era kp kn lv kind is = branch_on b m r (under_key (key.Test false) (child k 1)) sb level era kp kn lv kind is

    switch_on : (a b : Low) (h : Part) (ms : List ℕ) (k : Kept) (d : Done) → Sound t (length env) a → Sound t (length env) b
        → (IsKnown known h → part_value g h ≡ d.value)
        → SwitchStands g x n Stands a b env h ms → SwitchKeeps g q Trees a b env h ms (child k 1)
        → Agrees (place_switch walk a b env h ms) (switch_done ev vs k d (on_ok (chosen_by (f a) (f b)) (test_of d.value)))
    switch_on a b (steady v) ms k d sa sb r st kp =
        subst (λ u. Agrees (place_chosen walk a b env ms (test_of v)) (switch_done ev vs k d (on_ok (chosen_by (f a) (f b)) (test_of u)))) (r tt) (chosen_on a b ms k d (test_of v) sa sb st kp)
    switch_on a b (signal m) ms k d sa sb r st kp = λ kr.
        let c = first ms in
        let kw : known c = closed.watched c a b env st.watch.live st.watch.kind (subst known (sym st.result) kr) in
        let rule : IsWatched g c (signal m) = rule_on g known t sources before closed settled x n (watch a b env) (signal m ∷ []) None ms kw st.watch in
        let km : known m = (inputs_on g known t sources before closed settled x n (watch a b env) (signal m ∷ []) None ms kw st.watch).0 in
        let tested : test_of d.value ≡ Ok rule.holds = ap test_of (sym (r km)) ∙ rule.test in
        let era = subst (λ o. Chosen o (EraStands g p c a env) (EraStands g p c b env)) rule.value (eras c a b env kw st.watch.live st.watch.kind) in
        let trees = subst (λ o. Chosen o (Trees a env (g.members (suc c)) (under_key (key.Test true) (child k 1))) (Trees b env (g.members (suc c)) (under_key (key.Test false) (child k 1)))) rule.value (kp kw).1 in
        subst (λ o. g.value (first (rest ms)) ≡ (switch_done ev vs k d (on_ok (chosen_by (f a) (f b)) o)).value) (sym tested)
        (era_on a b c (first (rest ms)) k d rule.holds sa sb st.watch.level era trees kr st.live st.kind st.result)

    -- a call

    call_on : (o : Option Low) (qs : AllPlaced) (k : Kept) (m : ℕ) (ps : Rattle.fr_meaning.specs.Evaluation.Parts) → Have g known qs.parts ps.values → length qs.parts ≡ m
        → ((body : Low) → o ≡ Some body → Sound t m body)
        → CallStands Stands o qs → CallKeeps Trees o qs (child k m)
        → Agrees (place_call walk o qs) (call_done ev k m ps (option_map f o))
    call_on None qs k m ps h len s st kp = absurd st
    call_on (Some body) qs k m ps h len s st kp = ih body x qs.parts ps.values qs.left (child k m) (subst (λ j. Sound t j body) (sym len) (s body refl)) h st kp

    -- one case for each shape
    shape_on : (l : Low-F Low) (ms : List ℕ) (k : Kept) → SoundShape t (length env) l → ShapeStands g p x n walk Stands env ms l → ShapeKeeps g p q walk Trees env ms k l
        → Agrees (place_shape p n walk env ms l) (eval_to (suc n) w (erase_step t.kernels (map-Low Low Core f l)) vs k)
    shape_on (Low-F.Lit v) ms k s st kp = λ kn. opens (core.Lit v) (Core-F.Lit v) k (outs-Lit v)
    shape_on (Low-F.Var v) ms k s st kp = λ kn. have_at g known env vs v.0 en kn ∙ opens (core.Var v) (Core-F.Var v) k (outs-Var v)
    shape_on (Low-F.Source s) ms k sound st kp = λ kn. source_value s.0 st kn ∙ opens (core.Source s) (Core-F.Source s) k (outs-Source s)
    shape_on (Low-F.Let es b) ms k s st kp = λ kn.
        let qs = place_all walk env es ms in
        let ps = parts ev vs k 0 (map f es) in
        let inside = body_sound t (length env) (length es) es b s.inside in
        let have = all_on es 0 ms k inside.0 st.0 kp.0 in
        let wide : length (env ++ qs.parts) ≡ length env + length es = length-append env qs.parts ∙ ap (λ m. length env + m) (all_length walk env es ms) in
        ih b x (env ++ qs.parts) (vs ++ ps.values) qs.left (child k (length es)) (subst (λ m. Sound t m b) (sym wide) inside.1) (have_append g known env vs qs.parts ps.values en have) st.1 kp.1 kn
        ∙ ap (λ m. (ev (f b) (vs ++ ps.values) (child k m)).value) (sym (length-map es f))
        ∙ opens (core.Let (map f es) (f b)) (Core-F.Let (map f es) (f b)) k (outs-Let (map f es) (f b))
    shape_on (Low-F.If site test a b) ms k s st kp = λ kn.
        let inside = outer_sound t (length env) (test ∷ a ∷ b ∷ []) s.inside in
        let d = ev (f test) vs (child k 0) in
        let r = ih test x env vs ms (child k 0) inside.0 en st.0 kp.0 in
        switch_on a b (walk test env ms).part (walk test env ms).left k d inside.1.0 inside.1.1.0 r st.1 kp.1 kn
        ∙ opens (core.If (f test) (f a) (f b)) (Core-F.If (f test) (f a) (f b)) k (outs-If (f test) (f a) (f b))
    shape_on (Low-F.Apply id es) ms k s st kp = λ kn.
        let qs = place_all walk env es ms in
        let ps = parts ev vs k 0 (map f es) in
        let have = all_on es 0 ms k (outer_sound t (length env) es s.inside) st.0 kp.0 in
        let m = length es in
        let o = low_body (slice_get p.functions id.0) m in
        let same : option_map f o ≡ body_for (slice_get w.functions id.0) m = sym (bodies_match t.kernels p.functions id.0 m) ∙ ap (λ fs. body_for (slice_get fs id.0) m) (sym plan.functions) in
        call_on o qs k m ps have (all_length walk env es ms) (λ body e. low_sound t (slice_get p.functions id.0) m body (plan.bodies id.0) e) st.1 kp.1 kn
        ∙ ap (λ b. (call_done ev k m ps b).value) same
        ∙ ap (λ j. (call_done ev k j ps (body_for (slice_get w.functions id.0) j)).value) (sym (length-map es f))
        ∙ opens (core.Apply id (map f es)) (Core-F.Apply id (map f es)) k (outs-Apply id (map f es))
    shape_on (Low-F.Operator o es) ms k s st kp = λ kn.
        let qs = place_all walk env es ms in
        let before_parts = behind_cell (of_operator o) k in
        let ps = parts ev vs before_parts 0 (map f es) in
        let have = all_on es 0 ms before_parts (outer_sound t (length env) es s.inside) st.0 kp.0 in
        work_value g known t sources before closed settled p x n (operates o) qs.parts ps.values qs.left (form_cell (of_operator o) k) refl st.1 have
        (λ e kn. subst (λ b. Unless b (CellKeeps q (of_operator o) qs.left k)) e kp.1) kn
        ∙ operator_value o (form_cell (of_operator o) k) ps.values
        ∙ opens (core.Operator o (map f es)) (Core-F.Operator o (map f es)) k (outs-Operator o (map f es))
    shape_on (Low-F.Handler h es id ss) ms k s st kp = λ kn.
        let qs = place_all walk env es ms in
        let before_parts = behind_cell (of_handler h) k in
        let ps = parts ev vs before_parts 0 (map f es) in
        let have = all_on es 0 ms before_parts (outer_sound t (length env) es s.inside) st.0 kp.0 in
        let slots = slots_on ss st.1 in
        let others = map (slot_seen sources vs) ss in
        let cell = form_cell (of_handler h) k in
        let body = kernel_expr t.kernels id.0 in
        let count : length ps.values ≡ handler_parts h = sym (have_length g known qs.parts ps.values have) ∙ all_length walk env es ms ∙ s.parts in
        let front : take (handler_parts h) (ps.values ++ others) ≡ ps.values = ap (λ m. take m (ps.values ++ others)) (sym count) ∙ take-append_seam ps.values others in
        let behind : drop (handler_parts h) (ps.values ++ others) ≡ others = ap (λ m. drop m (ps.values ++ others)) (sym count) ∙ drop-append_seam ps.values others in
        work_value g known t sources before closed settled p x n (handles h id.0) (qs.parts ++ slot_parts p env ss) (ps.values ++ others) qs.left cell refl st.2
        (have_append g known qs.parts ps.values (slot_parts p env ss) others have slots) (λ e kn. kp.1) kn
        ∙ ap (λ xs. (state_now (of_handler h) cell xs (kernel_call t n id.0 (drop (handler_parts h) (ps.values ++ others)))).value) front
        ∙ ap (λ xs. (state_now (of_handler h) cell ps.values (kernel_call t n id.0 xs)).value) behind
        ∙ handler_value h cell ps.values (kernel_call t n id.0 others) (handler ev vs (length (map f es)) body)
        (λ args e. (kernel_means n id.0 (handler_binds h) ss args kept.Nothing (omega (arith, few)) s.fits e).value)
        ∙ opens (core.Handler h (map f es) body) (Core-F.Handler h (map f es) body) k (outs-Handler h (map f es) body)
    shape_on (Low-F.Loop l es id ss) ms k s st kp = λ kn.
        let qs = place_all walk env es ms in
        let ps = parts ev vs k 0 (map f es) in
        let have = all_on es 0 ms k (outer_sound t (length env) es s.inside) st.0 kp in
        let slots = slots_on ss st.1 in
        let others = map (slot_seen sources vs) ss in
        let body = kernel_expr t.kernels id.0 in
        let count : length ps.values ≡ 2 = sym (have_length g known qs.parts ps.values have) ∙ all_length walk env es ms ∙ s.parts in
        work_value g known t sources before closed settled p x n (loops l id.0) (qs.parts ++ slot_parts p env ss) (ps.values ++ others) qs.left None refl st.2
        (have_append g known qs.parts ps.values (slot_parts p env ss) others have slots) (λ e. absurd (false≢true (sym e))) kn
        ∙ loop_line l id.0 ps.values others body count (λ args e. (kernel_means n id.0 (loop_binds l) ss args kept.Nothing (omega (arith, few)) s.fits e).value)
        ∙ opens (core.Loop l (map f es) body) (Core-F.Loop l (map f es) body) k (outs-Loop l (map f es) body)
      where
        -- the line of a loop over two parts and other values
        loop_line : (l : Rattle.fr_core.specs.declared.core_form.Loop.Loop) (id : ℕ) (xs others : List Seen) (body : Core) → length xs ≡ 2
            → ((args : List Seen) → length args ≡ loop_binds l → (kernel_run t n id others args).value ≡ (ev body (vs ++ args) kept.Nothing).value)
            → (work_line t n (loops l id) None (xs ++ others)).value ≡ (Rattle.fr_meaning.specs.Evaluation.all_turns (body_with ev vs body) (part xs 0) (rounds l (part xs 1))).value
        loop_line l id [] others body e same = absurd (omega (arith, e))
        loop_line l id (a ∷ []) others body e same = absurd (omega (arith, e))
        loop_line l id (a ∷ b ∷ []) others body e same = loop_value l a b (kernel_run t n id others) (body_with ev vs body) same
        loop_line l id (a ∷ b ∷ c ∷ xs) others body e same = absurd (omega (arith, e))
    shape_on (Low-F.Feedback init body) ms k s st kp = λ kn.
        let i = walk init env ms in
        let before_parts = behind_cell of_feedback k in
        let d = ev (f init) vs (child before_parts 0) in
        let sound0 = subst (λ m. Sound t m init) (zero_more (length env)) (s.inside 0 (0, init) refl) in
        let r = ih init x env vs ms (child before_parts 0) sound0 en st.0 kp.0 in
        let c = first i.left in
        let inside = env ++ signal c ∷ [] in
        let x0 = fed (form_cell of_feedback k) d.value in
        let name : known c → g.value c ≡ x0 = λ kc.
        let rule : IsWorked g t (before c) c feeds (i.part ∷ []) = rule_on g known t sources before closed settled x n (works feeds) (i.part ∷ []) (Some (walk body inside (rest i.left)).part) i.left kc st.2 in
        let ki = (inputs_on g known t sources before closed settled x n (works feeds) (i.part ∷ []) (Some (walk body inside (rest i.left)).part) i.left kc st.2).0 in
        rule.value ∙ ap (λ o. fed o (part_value g i.part)) kp.2 ∙ ap (fed (form_cell of_feedback k)) (r ki) in
        let wide : length inside ≡ length env + 1 = length-append env (signal c ∷ []) in
        let sound1 = subst (λ m. Sound t m body) (sym wide) (s.inside 1 (1, body) refl) in
        let b = ev (f body) (vs ++ x0 ∷ []) (child before_parts 1) in
        ih body x inside (vs ++ x0 ∷ []) (rest i.left) (child before_parts 1) sound1 (have_append g known env vs (signal c ∷ []) (x0 ∷ []) en (name, tt)) st.1 kp.1 kn
        ∙ sym (beside_value b.value (state_next of_feedback (d.value ∷ b.value ∷ [])))
        ∙ opens (core.Feedback (f init) (f body)) (Core-F.Feedback (f init) (f body)) k (outs-Feedback (f init) (f body))
      where
        zero_more : (m : ℕ) → m + 0 ≡ m
        zero_more m = omega arith
    shape_on (Low-F.Collapse id ss) ms k s st kp = λ kn.
        let others = map (slot_seen sources vs) ss in
        work_value g known t sources before closed settled p x n (runs id.0) (slot_parts p env ss) others ms None refl st.1 (slots_on ss st.0) (λ e. absurd (false≢true (sym e))) kn
        ∙ (kernel_means (suc n) id.0 0 ss [] k few s.fits refl).value
        ∙ ap (λ us. (eval_to (suc n) w (kernel_expr t.kernels id.0) us k).value) (append-nil vs)

  -- THE VALUES. Where the known nodes of a graph are settled and the eras of known watches stand, what stands for an expression and is known has the value of evaluating it afresh.
  pub values_on : (n : ℕ) → n ≤ 2001 → AgreesAt n
  unfolding place eval_to Wired Keeps
  values_on zero few e x env vs ms k s en st kp = absurd st
  values_on (suc n) few e x env vs ms k s en st kp =
      let below : n ≤ 2001 = omega (arith, few) in
      subst (λ c. Agrees (place_shape p n (place p n) env ms (out-Low e)) (eval_to (suc n) w c vs k)) (sym (erase-opens t.kernels e))
      (shape_on n few (values_on n below) x env vs en (out-Low e) ms k (sound_shape t (length env) e s) st kp)
