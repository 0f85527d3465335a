-- Evaluating afresh errs nowhere where an instant of a graph has ended.
use Rattle.std.proofs.Common.{◌≡◌, ◌≤◌, ◌<◌, ◌+◌, ℕ, zero, suc, Bool, true, false, List, [], ◌∷◌, ◌++◌, map, take, drop, length, slice_get, refl, ap, sym, ◌∙◌, subst, append-nil, arith, Option, Some, None, Result, Ok, Err}
use Rattle.std.specs.Option.{option_map, option_or}
use Rattle.std.proofs.lemmas.Bool.{false≢true}
use Rattle.std.proofs.lemmas.List.{length-map, length-append}
use Rattle.std.proofs.Math.Seq.{take-append_seam, drop-append_seam}
use Rattle.fr_value.specs.declared.now.Now.{Now}
use Rattle.fr_value.specs.declared.now.Bad.{Bad}
use Rattle.fr_core.specs.Shapes.{operator_takes, handler_parts, handler_binds, loop_binds}
use Rattle.fr_core.specs.declared.core_form.Core.{Core, out-Core}
use Rattle.fr_core.specs.declared.core_form.Core.TheOpen.{Core-F}
use Rattle.fr_core.specs.declared.core_form.Core.TheVariants as core
use Rattle.fr_core.specs.declared.core_form.Core.TheVariants.{outs-Lit, outs-Var, outs-Source, outs-Let, outs-If, outs-Apply, outs-Operator, outs-Handler, outs-Loop, outs-Feedback}
use Rattle.fr_core.specs.declared.core_form.Operator.{Operator}
use Rattle.fr_core.specs.declared.core_form.Operator.TheVariants as operator
use Rattle.fr_core.specs.declared.core_form.Loop.{Loop}
use Rattle.fr_core.specs.declared.kept.Key.TheVariants as key
use Rattle.fr_core.specs.declared.kept.Kept.{Kept}
use Rattle.fr_core.specs.declared.kept.Kept.TheVariants as kept
use Rattle.fr_core.specs.declared.lowered.Low.{Low, out-Low, map-Low}
use Rattle.fr_core.specs.declared.lowered.Low.TheOpen.{Low-F}
use Rattle.fr_core.specs.declared.program.Program.{Program}
use Rattle.fr_meaning.specs.Words.{Seen, Env, Done, under, own, part, on_ok, test_of}
use Rattle.fr_meaning.specs.Cells.{Cell, child, under_key}
use Rattle.fr_meaning.specs.States.{Line, of_operator, of_handler, of_feedback, fed, base_of, refusal_in, refused_by, no_call, state_now, beside, state_next, early_value}
use Rattle.fr_meaning.specs.Evaluation.{World, world_of, Ev, Parts, parts, join_part, no_parts, source_seen, chosen_by, switch_done, call_done, body_for, handler, body_with, rounds, all_turns, refusal_first, line_done, form_cell, behind_cell, layer, eval_to}
use Rattle.fr_meaning.proofs.Levels.{evaluates}
use Rattle.fr_kernel.specs.Kernels.{Kernels, slot_seen}
use Rattle.fr_kernel.specs.Erasure.{erase, erase_step, kernel_expr}
use Rattle.fr_graph.specs.Graph.{Part, steady, signal, operates, handles, loops, runs, feeds, Kind, works, watch, Graph, part_value, kernel_run, kernel_call, IsClean, operator_early, work_line, is_plain, is_late}
use Rattle.fr_graph.specs.Walk.{Plan, first, rest, Walk, AllPlaced, place_all, slot_parts, low_body, place}
use Rattle.fr_graph.specs.Wired.{Unless, WorkStands, AllStand, Chosen, SwitchStands, CallStands, ShapeStands, Wired, EraStands}
use Rattle.fr_graph.specs.Keeps.{Asked, AllKeep, SwitchKeeps, CallKeeps, CellKeeps, ShapeKeeps, Keeps, asks_nothing, everything}
use Rattle.fr_graph.specs.Known.{IsClosed, IsKnown, Have, IsWatched, IsFed, IsWorked, Rule, SettledOn, ErasStandOn, latch, HasEnded}
use Rattle.fr_graph.specs.Sound.{Sound, IsPlanOf, KernelsMean}
use Rattle.fr_graph.proofs.Parts.{have_append, have_length}
use Rattle.fr_graph.proofs.Works.{prompt_line, rule_on, work_clean}
use Rattle.fr_graph.proofs.Calls.{handler_clean, loop_clean, loop_value, both_none, under_none}
use Rattle.fr_graph.proofs.Inside.{erase-opens, SoundShape, sound_shape, AllSound, outer_sound, body_sound, all_length, bodies_match, low_sound}
use Rattle.fr_graph.proofs.Values.{AgreesAt, values_on, all_on, slots_on, kernel_means}
use Rattle.fr_graph.proofs.Trees.{each_known, late_comes}

-- an evaluation has a value and errs nowhere
pub record Errless (d : Done) : Type 0 where
  pub first : d.first ≡ None
  pub good : own d.value ≡ None

-- each of these is a value
abbrev pub AllGood : List Seen → Type 0
AllGood [] = Unit {0}
AllGood (v ∷ vs) = (own v ≡ None) × AllGood vs

pub good_append : (vs ws : List Seen) → AllGood vs → AllGood ws → AllGood (vs ++ ws)
good_append [] ws h k = k
good_append (v ∷ vs) ws h k = (h.0, good_append vs ws h.1 k)

good_at : (vs : List Seen) (i : ℕ) → AllGood vs → i < length vs → own (part vs i) ≡ None
good_at [] i h less = absurd (omega (arith, less))
good_at (v ∷ vs) zero h less = h.0
good_at (v ∷ vs) (suc i) h less = good_at vs i h.1 (omega (arith, less))

line_errless : (ps : Parts) (l : Line) → ps.first ≡ None → IsClean l → Errless (line_done ps l)
line_errless ps l h c = record {
  first = both_none ps.first _ h (both_none l.inner _ c.inner (both_none (own l.value) _ c.value (ap refusal_first c.refusal)));
  good = c.value;
}

-- a value and what comes next of a late form
beside_clean : (v : Seen) (r : Result Cell Bad) (c : Cell) → own v ≡ None → r ≡ Ok c → IsClean (beside v r)
beside_clean v r c h e = subst (λ r. IsClean (beside v r)) (sym e) (record { value = h; inner = refl; refusal = refl })

option_none : (r : Option Bad) → option_or r None ≡ None → r ≡ None
option_none None h = refl
option_none (Some b) h = cc

-- a late operator's line is clean where its early one is and what its cell takes comes next
late_clean : (o : Operator) (c : Option Cell) (xs : List Seen) (taken : Cell) → is_late (operates o) ≡ true → IsClean (operator_early o c xs) → state_next (of_operator o) xs ≡ Ok taken → IsClean (state_now (of_operator o) c xs no_call)
late_clean operator.Delay c xs taken late clean e = beside_clean (early_value (of_operator operator.Delay) c xs) (state_next (of_operator operator.Delay) xs) taken clean.value e
late_clean operator.DelayE c xs taken late clean e = beside_clean (early_value (of_operator operator.DelayE) c xs) (state_next (of_operator operator.DelayE) xs) taken clean.value e
late_clean (operator.Prim p) c xs taken late clean e = absurd (false≢true late)
late_clean operator.MergeE c xs taken late clean e = absurd (false≢true late)
late_clean operator.Hold c xs taken late clean e = absurd (false≢true late)
late_clean operator.Changes c xs taken late clean e = absurd (false≢true late)
late_clean operator.OnceE c xs taken late clean e = absurd (false≢true late)

module _ (g : Graph) (p : Plan) (pr : Program) (plan : IsPlanOf pr p) (sources : List Now) (before : ℕ → Option Cell)
    (settled : SettledOn g everything p.table sources before) (eras : ErasStandOn g everything p) (means : KernelsMean p pr sources) (ended : HasEnded g) where
  abbrev t : Kernels
  t = p.table

  abbrev w : World
  w = world_of pr sources

  abbrev f : Low → Core
  f = erase t.kernels

  closed : IsClosed g everything
  closed = record { input = λ m j a b c. tt; watched = λ w a b env lv k kn. tt }

  abbrev old : Asked
  old = record { known = everything; cell = before; asks = asks_nothing }

  agrees_at : (n : ℕ) → n ≤ 2001 → AgreesAt g everything p pr plan sources before closed settled eras means n
  agrees_at = values_on g everything p pr plan sources before closed settled eras means

  -- every expression on so many levels errs nowhere
  abbrev pub ErrlessAt : ℕ → Type 0
  ErrlessAt n = (e : Low) (x : ℕ) (env : List Part) (vs : Env) (ms : List ℕ) (k : Kept) → Sound t (length env) e → Have g everything env vs → AllGood vs → Wired g p x n e env ms → Keeps g p old n e env ms k
      → Errless (eval_to n w (f e) vs k)

  module _ (n : ℕ) (few : suc n ≤ 2001) (ih : ErrlessAt n) (x : ℕ) (env : List Part) (vs : Env) (en : Have g everything env vs) (good : AllGood vs) where
    below : n ≤ 2001
    below = omega (arith, few)

    abbrev ev : Ev
    ev = eval_to n w

    abbrev walk : Walk
    walk = place p n

    abbrev Stands : Low → List Part → List ℕ → Type 0
    Stands = Wired g p x n

    abbrev Trees : Low → List Part → List ℕ → Kept → Type 0
    Trees = Keeps g p old n

    have_all : (es : List Low) (i : ℕ) (ms : List ℕ) (k : Kept) → AllSound t (length env) es → AllStand walk Stands env es ms → AllKeep walk Trees env i es ms k
        → Have g everything (place_all walk env es ms).parts (parts ev vs k i (map f es)).values
    have_all = all_on g everything p pr plan sources before closed settled eras means n few (agrees_at n below) x env vs en

    all_errless : (es : List Low) (i : ℕ) (ms : List ℕ) (k : Kept) → AllSound t (length env) es → AllStand walk Stands env es ms → AllKeep walk Trees env i es ms k
        → (let ps = parts ev vs k i (map f es) in (ps.first ≡ None) × AllGood ps.values)
    all_errless [] i ms k s st kp = (refl, tt)
    all_errless (e ∷ es) i ms k s st kp =
        let d = ih e x env vs ms (child k i) s.0 en good st.0 kp.0 in
        let rest = all_errless es (i + 1) (walk e env ms).left k s.1 st.1 kp.1 in
        (both_none (under i (ev (f e) vs (child k i)).first) _ (under_none i (ev (f e) vs (child k i)).first d.first) rest.0, (d.good, rest.1))

    opens : (c : Core) (l : Core-F Core) (k : Kept) → out-Core c ≡ l → Errless (layer w ev vs k l) → Errless (eval_to (suc n) w c vs k)
    opens c l k h e = subst Errless (ap (layer w ev vs k) (sym h) ∙ sym (evaluates n w c vs k)) e

    chosen_errless : (a b : Low) (y : ℕ) (ms : List ℕ) (k : Kept) (d : Done) (o : Result Bool Bad) → Errless d → Sound t (length env) a → Sound t (length env) b
        → Chosen o (Wired g p y n a env ms) (Wired g p y n b env ms)
        → Chosen o (Trees a env ms (under_key (key.Test true) (child k 1))) (Trees b env ms (under_key (key.Test false) (child k 1)))
        → Errless (switch_done ev vs k d (on_ok (chosen_by (f a) (f b)) o))
    chosen_errless a b y ms k d (Err bad) h sa sb st kp = absurd st
    chosen_errless a b y ms k d (Ok true) h sa sb st kp =
        let r = ih a y env vs ms (under_key (key.Test true) (child k 1)) sa en good st kp in
        record { first = both_none _ _ (both_none (under 0 d.first) _ (under_none 0 d.first h.first) (under_none 1 _ r.first)) r.good; good = r.good }
    chosen_errless a b y ms k d (Ok false) h sa sb st kp =
        let r = ih b y env vs ms (under_key (key.Test false) (child k 1)) sb en good st kp in
        record { first = both_none _ _ (both_none (under 0 d.first) _ (under_none 0 d.first h.first) (under_none 2 _ r.first)) r.good; good = r.good }

    era_errless : (a b : Low) (m : ℕ) (k : Kept) (d : Done) (holds : Bool) → Errless d → Sound t (length env) a → Sound t (length env) b → g.level m ≡ n
        → Chosen (Ok holds) (EraStands g p m a env) (EraStands g p m b env)
        → Chosen (Ok holds) (Trees a env (g.members (suc m)) (under_key (key.Test true) (child k 1))) (Trees b env (g.members (suc m)) (under_key (key.Test false) (child k 1)))
        → Errless (switch_done ev vs k d (on_ok (chosen_by (f a) (f b)) (Ok holds)))
    era_errless a b m k d true h sa sb level era kp = chosen_errless a b (suc m) (g.members (suc m)) k d (Ok true) h sa sb (subst (λ j. Wired g p (suc m) j a env (g.members (suc m))) level era.wired) kp
    era_errless a b m k d false h sa sb level era kp = chosen_errless a b (suc m) (g.members (suc m)) k d (Ok false) h sa sb (subst (λ j. Wired g p (suc m) j b env (g.members (suc m))) level era.wired) kp

    switch_errless : (a b : Low) (h : Part) (ms : List ℕ) (k : Kept) (d : Done) → Errless d → Sound t (length env) a → Sound t (length env) b → (IsKnown everything h → part_value g h ≡ d.value)
        → SwitchStands g x n Stands a b env h ms → SwitchKeeps g old Trees a b env h ms (child k 1)
        → Errless (switch_done ev vs k d (on_ok (chosen_by (f a) (f b)) (test_of d.value)))
    switch_errless a b (steady v) ms k d h sa sb r st kp = subst (λ u. Errless (switch_done ev vs k d (on_ok (chosen_by (f a) (f b)) (test_of u)))) (r tt) (chosen_errless a b x ms k d (test_of v) h sa sb st kp)
    switch_errless a b (signal m) ms k d h sa sb r st kp =
        let c = first ms in
        let rule : IsWatched g c (signal m) = rule_on g everything t sources before closed settled x n (watch a b env) (signal m ∷ []) None ms tt st.watch in
        let tested : test_of d.value ≡ Ok rule.holds = ap test_of (sym (r tt)) ∙ rule.test in
        let era = subst (λ o. Chosen o (EraStands g p c a env) (EraStands g p c b env)) rule.value (eras c a b env tt st.watch.live st.watch.kind) in
        let trees = subst (λ o. Chosen o (Trees a env (g.members (suc c)) (under_key (key.Test true) (child k 1))) (Trees b env (g.members (suc c)) (under_key (key.Test false) (child k 1)))) rule.value (kp tt).1 in
        subst (λ o. Errless (switch_done ev vs k d (on_ok (chosen_by (f a) (f b)) o))) (sym tested) (era_errless a b c k d rule.holds h sa sb st.watch.level era trees)

    call_errless : (o : Option Low) (qs : AllPlaced) (k : Kept) (m : ℕ) (ps : Parts) → ps.first ≡ None → AllGood ps.values → Have g everything qs.parts ps.values → length qs.parts ≡ m
        → ((body : Low) → o ≡ Some body → Sound t m body) → CallStands Stands o qs → CallKeeps Trees o qs (child k m)
        → Errless (call_done ev k m ps (option_map f o))
    call_errless None qs k m ps h gs have len s st kp = absurd st
    call_errless (Some body) qs k m ps h gs have len s st kp =
        let r = ih body x qs.parts ps.values qs.left (child k m) (subst (λ j. Sound t j body) (sym len) (s body refl)) have gs st kp in
        record { first = both_none _ _ (both_none ps.first _ h (under_none m _ r.first)) r.good; good = r.good }

    operator_clean : (o : Operator) (ps : List Part) (us : List Seen) (ms : List ℕ) (c : Option Cell) → operator_takes o (length ps) ≡ true
        → WorkStands g p x n (operates o) ps ms → Have g everything ps us → (is_plain (operates o) ≡ false → everything (first ms) → before (first ms) ≡ c) → IsClean (state_now (of_operator o) c us no_call)
    operator_clean o ps us ms c takes st have is = by_late (is_late (operates o)) refl (is_plain (operates o)) refl
      where
        early : IsClean (operator_early o c us)
        early = work_clean g everything t sources before closed settled p x n (operates o) ps us ms c refl st have is tt

        late_plain : (o : Operator) → is_late (operates o) ≡ true → is_plain (operates o) ≡ true → ⊥
        late_plain (operator.Prim q) l h = false≢true l
        late_plain operator.MergeE l h = false≢true l
        late_plain operator.Hold l h = false≢true l
        late_plain operator.Changes l h = false≢true l
        late_plain operator.OnceE l h = false≢true l
        late_plain operator.Delay l h = false≢true h
        late_plain operator.DelayE l h = false≢true h

        by_late : (b : Bool) → is_late (operates o) ≡ b → (a : Bool) → is_plain (operates o) ≡ a → IsClean (state_now (of_operator o) c us no_call)
        by_late false e a h = subst IsClean (prompt_line o c us e) early
        by_late true e true h = absurd (late_plain o e h)
        by_late true e false h =
            let comes = late_comes g p pr plan sources before settled eras means ended n few (λ e x env vs ms k s en st kp. Rattle.fr_graph.proofs.Trees.trees_on g p pr plan sources before settled eras means ended n below e x env vs ms k s en st kp) x env vs en o ps us ms h e takes st have in
            late_clean o c us comes.0 e early comes.1

    -- one case for each shape
    shape_errless : (l : Low-F Low) (ms : List ℕ) (k : Kept) → SoundShape t (length env) l → ShapeStands g p x n walk Stands env ms l → ShapeKeeps g p old walk Trees env ms k l
        → Errless (eval_to (suc n) w (erase_step t.kernels (map-Low Low Core f l)) vs k)
    shape_errless (Low-F.Lit v) ms k s st kp = opens (core.Lit v) (Core-F.Lit v) k (outs-Lit v) (record { first = refl; good = refl })
    shape_errless (Low-F.Var v) ms k s st kp =
        let less : v.0 < length vs = subst (λ m. v.0 < m) (have_length g everything env vs en) st in
        let h = good_at vs v.0 good less in
        opens (core.Var v) (Core-F.Var v) k (outs-Var v) (record { first = h; good = h })
    shape_errless (Low-F.Source s) ms k sound st kp =
        let fed : IsFed g sources (p.node_of s.0) s.0 = subst (λ (j : Kind). Rule g t sources before (p.node_of s.0) j (g.inputs (p.node_of s.0))) st.kind (settled (p.node_of s.0) tt st.live) in
        let h : own (source_seen (slice_get sources s.0)) ≡ None = ap (λ o. own (source_seen o)) fed.there in
        opens (core.Source s) (Core-F.Source s) k (outs-Source s) (record { first = h; good = h })
    shape_errless (Low-F.Let es b) ms k s st kp =
        let qs = place_all walk env es ms in
        let ps = parts ev vs k 0 (map f es) in
        let inside = body_sound t (length env) (length es) es b s.inside in
        let have = have_all es 0 ms k inside.0 st.0 kp.0 in
        let parts_good = all_errless es 0 ms k inside.0 st.0 kp.0 in
        let wide : length (env ++ qs.parts) ≡ length env + length es = length-append env qs.parts ∙ ap (λ m. length env + m) (all_length walk env es ms) in
        let r = ih b x (env ++ qs.parts) (vs ++ ps.values) qs.left (child k (length es)) (subst (λ m. Sound t m b) (sym wide) inside.1) (have_append g everything env vs qs.parts ps.values en have) (good_append vs ps.values good parts_good.1) st.1 kp.1 in
        let r' = subst (λ j. Errless (ev (f b) (vs ++ ps.values) (child k j))) (sym (length-map es f)) r in
        opens (core.Let (map f es) (f b)) (Core-F.Let (map f es) (f b)) k (outs-Let (map f es) (f b))
        (record { first = both_none _ _ (both_none ps.first _ parts_good.0 (under_none (length (map f es)) _ r'.first)) r'.good; good = r'.good })
    shape_errless (Low-F.If site test a b) ms k s st kp =
        let inside = outer_sound t (length env) (test ∷ a ∷ b ∷ []) s.inside in
        let d = ev (f test) vs (child k 0) in
        let r = agrees_at n below test x env vs ms (child k 0) inside.0 en st.0 kp.0 in
        let h = ih test x env vs ms (child k 0) inside.0 en good st.0 kp.0 in
        opens (core.If (f test) (f a) (f b)) (Core-F.If (f test) (f a) (f b)) k (outs-If (f test) (f a) (f b))
        (switch_errless a b (walk test env ms).part (walk test env ms).left k d h inside.1.0 inside.1.1.0 r st.1 kp.1)
    shape_errless (Low-F.Apply id es) ms k s st kp =
        let qs = place_all walk env es ms in
        let ps = parts ev vs k 0 (map f es) in
        let sound = outer_sound t (length env) es s.inside in
        let have = have_all es 0 ms k sound st.0 kp.0 in
        let parts_good = all_errless es 0 ms k sound st.0 kp.0 in
        let m = length es in
        let o = low_body (slice_get p.functions id.0) m in
        let same : option_map f o ≡ body_for (slice_get w.functions id.0) m = sym (bodies_match t.kernels p.functions id.0 m) ∙ ap (λ fs. body_for (slice_get fs id.0) m) (sym plan.functions) in
        let r = call_errless o qs k m ps parts_good.0 parts_good.1 have (all_length walk env es ms) (λ body e. low_sound t (slice_get p.functions id.0) m body (plan.bodies id.0) e) st.1 kp.1 in
        opens (core.Apply id (map f es)) (Core-F.Apply id (map f es)) k (outs-Apply id (map f es))
        (subst Errless (ap (call_done ev k m ps) same ∙ ap (λ j. call_done ev k j ps (body_for (slice_get w.functions id.0) j)) (sym (length-map es f))) r)
    shape_errless (Low-F.Operator o es) ms k s st kp =
        let qs = place_all walk env es ms in
        let inner = behind_cell (of_operator o) k in
        let ps = parts ev vs inner 0 (map f es) in
        let sound = outer_sound t (length env) es s.inside in
        let have = have_all es 0 ms inner sound st.0 kp.0 in
        let parts_good = all_errless es 0 ms inner sound st.0 kp.0 in
        let clean = operator_clean o qs.parts ps.values qs.left (form_cell (of_operator o) k) (ap (operator_takes o) (all_length walk env es ms) ∙ s.parts) st.1 have (λ e kn. subst (λ b. Unless b (CellKeeps old (of_operator o) qs.left k)) e kp.1) in
        opens (core.Operator o (map f es)) (Core-F.Operator o (map f es)) k (outs-Operator o (map f es)) (line_errless ps _ parts_good.0 clean)
    shape_errless (Low-F.Handler h es id ss) ms k s st kp =
        let qs = place_all walk env es ms in
        let inner = behind_cell (of_handler h) k in
        let ps = parts ev vs inner 0 (map f es) in
        let sound = outer_sound t (length env) es s.inside in
        let have = have_all es 0 ms inner sound st.0 kp.0 in
        let parts_good = all_errless es 0 ms inner sound st.0 kp.0 in
        let slots = slots_on g everything p pr plan sources before closed settled eras means n few (agrees_at n below) x env vs en ss st.1 in
        let others = map (slot_seen sources vs) ss in
        let cell = form_cell (of_handler h) k in
        let body = kernel_expr t.kernels id.0 in
        let count : length ps.values ≡ handler_parts h = sym (have_length g everything qs.parts ps.values have) ∙ all_length walk env es ms ∙ s.parts in
        let front : take (handler_parts h) (ps.values ++ others) ≡ ps.values = ap (λ m. take m (ps.values ++ others)) (sym count) ∙ take-append_seam ps.values others in
        let behind : drop (handler_parts h) (ps.values ++ others) ≡ others = ap (λ m. drop m (ps.values ++ others)) (sym count) ∙ drop-append_seam ps.values others in
        let clean = work_clean g everything t sources before closed settled p x n (handles h id.0) (qs.parts ++ slot_parts p env ss) (ps.values ++ others) qs.left cell refl st.2
        (have_append g everything qs.parts ps.values (slot_parts p env ss) others have slots) (λ e kn. kp.1) tt in
        let clean' = subst (λ xs. IsClean (state_now (of_handler h) cell ps.values (kernel_call t n id.0 xs))) behind
        (subst (λ xs. IsClean (state_now (of_handler h) cell xs (kernel_call t n id.0 (drop (handler_parts h) (ps.values ++ others))))) front clean) in
        let line = handler_clean h cell ps.values (kernel_call t n id.0 others) (handler ev vs (length (map f es)) body)
        (λ args e. let m = kernel_means g everything p pr plan sources before closed settled eras means n few (agrees_at n below) x env vs en n id.0 (handler_binds h) ss args kept.Nothing below s.fits e in
        (m.value, λ none. under_none (length (map f es)) _ (sym m.first ∙ none))) clean' in
        opens (core.Handler h (map f es) body) (Core-F.Handler h (map f es) body) k (outs-Handler h (map f es) body) (line_errless ps _ parts_good.0 line)
    shape_errless (Low-F.Loop l es id ss) ms k s st kp =
        let qs = place_all walk env es ms in
        let ps = parts ev vs k 0 (map f es) in
        let sound = outer_sound t (length env) es s.inside in
        let have = have_all es 0 ms k sound st.0 kp in
        let parts_good = all_errless es 0 ms k sound st.0 kp in
        let slots = slots_on g everything p pr plan sources before closed settled eras means n few (agrees_at n below) x env vs en ss st.1 in
        let others = map (slot_seen sources vs) ss in
        let body = kernel_expr t.kernels id.0 in
        let count : length ps.values ≡ 2 = sym (have_length g everything qs.parts ps.values have) ∙ all_length walk env es ms ∙ s.parts in
        let clean = work_clean g everything t sources before closed settled p x n (loops l id.0) (qs.parts ++ slot_parts p env ss) (ps.values ++ others) qs.left None refl st.2
        (have_append g everything qs.parts ps.values (slot_parts p env ss) others have slots) (λ e. absurd (false≢true (sym e))) tt in
        let ts = loop_turns l id.0 ps.values others body count
        (λ args e. let m = kernel_means g everything p pr plan sources before closed settled eras means n few (agrees_at n below) x env vs en n id.0 (loop_binds l) ss args kept.Nothing below s.fits e in (m.value, λ none. sym m.first ∙ none)) clean in
        opens (core.Loop l (map f es) body) (Core-F.Loop l (map f es) body) k (outs-Loop l (map f es) body)
        (record { first = both_none _ _ (both_none ps.first _ parts_good.0 (under_none (length (map f es)) _ ts.1)) ts.0; good = ts.0 })
      where
        loop_turns : (l : Loop) (id : ℕ) (xs others : List Seen) (body : Core) → length xs ≡ 2
            → ((args : List Seen) → length args ≡ loop_binds l → ((kernel_run t n id others args).value ≡ (body_with ev vs body args).value) × ((kernel_run t n id others args).first ≡ None → (body_with ev vs body args).first ≡ None))
            → IsClean (work_line t n (loops l id) None (xs ++ others))
            → (let ts = all_turns (body_with ev vs body) (part xs 0) (rounds l (part xs 1)) in (own ts.value ≡ None) × (ts.first ≡ None))
        loop_turns l id [] others body e same c = absurd (omega (arith, e))
        loop_turns l id (a ∷ []) others body e same c = absurd (omega (arith, e))
        loop_turns l id (a ∷ b ∷ []) others body e same c =
            (ap own (sym (loop_value l a b (kernel_run t n id others) (body_with ev vs body) (λ args h. (same args h).0))) ∙ c.value, loop_clean l a b (kernel_run t n id others) (body_with ev vs body) same c.inner)
        loop_turns l id (a ∷ b ∷ d ∷ xs) others body e same c = absurd (omega (arith, e))
    shape_errless (Low-F.Feedback init body) ms k s st kp =
        let i = walk init env ms in
        let inner = behind_cell of_feedback k in
        let cell = form_cell of_feedback k in
        let d = ev (f init) vs (child inner 0) in
        let sound0 = subst (λ m. Sound t m init) (zero_more (length env)) (s.inside 0 (0, init) refl) in
        let r = agrees_at n below init x env vs ms (child inner 0) sound0 en st.0 kp.0 in
        let h = ih init x env vs ms (child inner 0) sound0 en good st.0 kp.0 in
        let c = first i.left in
        let inside = env ++ signal c ∷ [] in
        let x0 = fed cell d.value in
        let last = (walk body inside (rest i.left)).part in
        let rule : IsWorked g t (before c) c feeds (i.part ∷ []) = rule_on g everything t sources before closed settled x n (works feeds) (i.part ∷ []) (Some last) i.left tt st.2 in
        let same : work_line t (g.level c) feeds (before c) (part_value g i.part ∷ []) ≡ work_line t n feeds cell (d.value ∷ [])
        = ap (λ o. work_line t (g.level c) feeds o (part_value g i.part ∷ [])) kp.2 ∙ ap (λ v. work_line t (g.level c) feeds cell (v ∷ [])) (r (each_known i.part)) in
        let clean = subst IsClean same rule.clean in
        let name : g.value c ≡ x0 = rule.value ∙ ap (λ l. l.value) same in
        let wide : length inside ≡ length env + 1 = length-append env (signal c ∷ []) in
        let sound1 = subst (λ m. Sound t m body) (sym wide) (s.inside 1 (1, body) refl) in
        let b = ev (f body) (vs ++ x0 ∷ []) (child inner 1) in
        let have = have_append g everything env vs (signal c ∷ []) (x0 ∷ []) en (λ kn. name, tt) in
        let r1 = ih body x inside (vs ++ x0 ∷ []) (rest i.left) (child inner 1) sound1 have (good_append vs (x0 ∷ []) good (clean.value, tt)) st.1 kp.1 in
        let value : part_value g last ≡ b.value = agrees_at n below body x inside (vs ++ x0 ∷ []) (rest i.left) (child inner 1) sound1 have st.1 kp.1 (each_known last) in
        let latched = ended.latched c feeds last st.2.live st.2.kind refl st.2.later in
        let comes : state_next of_feedback (d.value ∷ b.value ∷ []) ≡ Ok latched.taken = ap (latch feeds) (sym value) ∙ latched.takes in
        let refusal = option_none (refusal_in (base_of cell d.value)) clean.refusal in
        let line : IsClean (refused_by (refusal_in (base_of cell d.value)) (beside b.value (state_next of_feedback (d.value ∷ b.value ∷ []))))
        = let c = beside_clean b.value (state_next of_feedback (d.value ∷ b.value ∷ [])) latched.taken r1.good comes in
        record { value = c.value; inner = c.inner; refusal = ap (λ o. option_or o (beside b.value (state_next of_feedback (d.value ∷ b.value ∷ []))).refusal) refusal ∙ c.refusal } in
        opens (core.Feedback (f init) (f body)) (Core-F.Feedback (f init) (f body)) k (outs-Feedback (f init) (f body))
        (line_errless (join_part 0 d (join_part 1 b no_parts)) _ (both_none (under 0 d.first) _ (under_none 0 d.first h.first) (both_none (under 1 b.first) None (under_none 1 b.first r1.first) refl)) line)
      where
        zero_more : (m : ℕ) → m + 0 ≡ m
        zero_more m = omega arith
    shape_errless (Low-F.Collapse id ss) ms k s st kp =
        let others = map (slot_seen sources vs) ss in
        let slots = slots_on g everything p pr plan sources before closed settled eras means n few (agrees_at n below) x env vs en ss st.0 in
        let clean = work_clean g everything t sources before closed settled p x n (runs id.0) (slot_parts p env ss) others ms None refl st.1 slots (λ e. absurd (false≢true (sym e))) tt in
        let m = kernel_means g everything p pr plan sources before closed settled eras means n few (agrees_at n below) x env vs en (suc n) id.0 0 ss [] k few s.fits refl in
        subst (λ us. Errless (eval_to (suc n) w (kernel_expr t.kernels id.0) us k)) (append-nil vs)
        (record { first = sym m.first ∙ clean.inner; good = ap own (sym m.value) ∙ clean.value })

  -- NO ERROR. Where an instant of a graph has ended, evaluating afresh errs nowhere.
  pub errless_on : (n : ℕ) → n ≤ 2001 → ErrlessAt n
  unfolding place eval_to Wired Keeps
  errless_on zero few e x env vs ms k s en good st kp = absurd st
  errless_on (suc n) few e x env vs ms k s en good st kp =
      let below : n ≤ 2001 = omega (arith, few) in
      subst (λ c. Errless (eval_to (suc n) w c vs k)) (sym (erase-opens t.kernels e))
      (shape_errless n few (errless_on n below) x env vs en good (out-Low e) ms k (sound_shape t (length env) e s) st kp)
