-- The law of the front: where a node errs whose inputs are known, evaluating afresh errs.
use Rattle.std.proofs.Common.{◌≡◌, ◌≤◌, ◌+◌, ◌&&◌, inl, inr, ℕ, zero, suc, Bool, true, false, List, [], ◌∷◌, ◌++◌, map, take, drop, length, slice_get, refl, ap, sym, ◌∙◌, subst, append-nil, arith, Option, Some, None, Result, Ok, Err}
use Rattle.std.specs.Option.{option_map, option_or}
use Rattle.std.proofs.lemmas.Bool.{false≢true}
use Rattle.std.proofs.lemmas.List.{length-map, length-append}
use Rattle.std.proofs.Math.Seq.{take-append_seam, drop-append_seam}
use Rattle.fr_value.specs.declared.now.Now.{Now}
use Rattle.fr_value.specs.declared.now.Bad.{Bad}
use Rattle.fr_core.specs.Shapes.{operator_takes, handler_parts, handler_binds, loop_binds}
use Rattle.fr_core.specs.declared.core_form.Core.{Core, out-Core}
use Rattle.fr_core.specs.declared.core_form.Core.TheOpen.{Core-F}
use Rattle.fr_core.specs.declared.core_form.Core.TheVariants as core
use Rattle.fr_core.specs.declared.core_form.Core.TheVariants.{outs-Let, outs-If, outs-Apply, outs-Operator, outs-Handler, outs-Loop, outs-Feedback}
use Rattle.fr_core.specs.declared.core_form.Operator.{Operator}
use Rattle.fr_core.specs.declared.core_form.Operator.TheVariants as operator
use Rattle.fr_core.specs.declared.kept.Key.TheVariants as key
use Rattle.fr_core.specs.declared.kept.Kept.{Kept}
use Rattle.fr_core.specs.declared.kept.Kept.TheVariants as kept
use Rattle.fr_core.specs.declared.lowered.Low.{Low, out-Low, map-Low}
use Rattle.fr_core.specs.declared.lowered.Low.TheOpen.{Low-F}
use Rattle.fr_core.specs.declared.program.Program.{Program}
use Rattle.fr_meaning.specs.Words.{Seen, Env, Done, under, own, plain, part, on_ok, test_of}
use Rattle.fr_meaning.specs.Cells.{Cell, child, under_key}
use Rattle.fr_meaning.specs.States.{gives, of_operator, of_handler, of_feedback, fed, base_of, refusal_in, no_call, state_now, beside, state_next, early_value}
use Rattle.fr_meaning.specs.Evaluation.{World, world_of, Ev, Parts, parts, join_part, no_parts, chosen_by, Choice, switch_done, call_done, body_for, handler, body_with, form_cell, behind_cell, layer, eval_to}
use Rattle.fr_meaning.proofs.Levels.{evaluates}
use Rattle.fr_kernel.specs.Kernels.{Kernels, slot_seen}
use Rattle.fr_kernel.specs.Erasure.{erase, erase_step, kernel_expr}
use Rattle.fr_graph.specs.Graph.{Part, steady, signal, Work, operates, handles, loops, runs, feeds, works, watch, Graph, part_value, part_values, kernel_call, IsClean, operator_early, work_line, is_plain, is_late}
use Rattle.fr_graph.specs.Walk.{Plan, first, rest, Walk, AllPlaced, place_all, all_steady, steady_values, variable_part, slot_parts, low_body, place}
use Rattle.fr_graph.specs.Wired.{IsNext, inputs_of, later_of, Either, Unless, WorkStands, AllStand, Chosen, SwitchStands, CallStands, ShapeStands, Wired, EraStands}
use Rattle.fr_graph.specs.Keeps.{Asked, AllKeep, SwitchKeeps, CallKeeps, ShapeKeeps, Keeps, asks_nothing}
use Rattle.fr_graph.specs.Known.{AllKnown, IsClosed, IsKnown, Have, IsWatched, SettledOn, ErasStandOn, latch}
use Rattle.fr_graph.specs.Sound.{Sound, IsPlanOf, KernelsMean}
use Rattle.fr_graph.specs.Fails.{Fails}
use Rattle.fr_graph.specs.Front.{AnyOccurs, WorkOccurs, SwitchOccurs, CallOccurs, ShapeOccurs, Occurs, IsTaken, Latches, ChoiceErrs, Errs}
use Rattle.fr_graph.proofs.Parts.{have_at, have_append, have_length}
use Rattle.fr_graph.proofs.Works.{stands_next, input_line, rule_on, inputs_on}
use Rattle.fr_graph.proofs.Calls.{handler_clean, none_left, none_right, none_under}
use Rattle.fr_graph.proofs.Good.{line_clean, line_parts, value_good}
use Rattle.fr_graph.proofs.Inside.{erase-opens, SoundShape, sound_shape, AllSound, outer_sound, body_sound, all_length, bodies_match, low_sound}
use Rattle.fr_graph.proofs.Trees.{late_part, late_next, late_there}
use Rattle.fr_graph.proofs.Values.{AgreesAt, values_on, all_on, slots_on, kernel_means}
use Rattle.fr_graph.proofs.Steady.{have_nothing, IsBuilt, loop_line, built_on}

beside_early : (v : Seen) (r : Result Cell Bad) → IsClean (beside v r) → IsClean (gives v None)
beside_early v (Err b) c = record { value = c.value; inner = refl; refusal = refl }
beside_early v (Ok x) c = record { value = c.value; inner = refl; refusal = refl }

early_clean : (o : Operator) (c : Option Cell) (xs : List Seen) → IsClean (state_now (of_operator o) c xs no_call) → IsClean (operator_early o c xs)
early_clean operator.Delay c xs h = beside_early (early_value (of_operator operator.Delay) c xs) (state_next (of_operator operator.Delay) xs) h
early_clean operator.DelayE c xs h = beside_early (early_value (of_operator operator.DelayE) c xs) (state_next (of_operator operator.DelayE) xs) h
early_clean (operator.Prim q) c xs h = h
early_clean operator.MergeE c xs h = h
early_clean operator.Hold c xs h = h
early_clean operator.Changes c xs h = h
early_clean operator.OnceE c xs h = h

-- what a clean late line takes isn't refused

beside_taken : (v : Seen) (r : Result Cell Bad) → IsClean (beside v r) → IsTaken r
beside_taken v (Ok c) h = tt
beside_taken v (Err b) h = let e = h.refusal in absurd cc

late_taken : (o : Operator) (c : Option Cell) (xs : List Seen) → is_late (operates o) ≡ true → IsClean (state_now (of_operator o) c xs no_call) → IsTaken (state_next (of_operator o) xs)
late_taken operator.Delay c xs late h = beside_taken (early_value (of_operator operator.Delay) c xs) (state_next (of_operator operator.Delay) xs) h
late_taken operator.DelayE c xs late h = beside_taken (early_value (of_operator operator.DelayE) c xs) (state_next (of_operator operator.DelayE) xs) h
late_taken (operator.Prim r) c xs late h = absurd (false≢true late)
late_taken operator.MergeE c xs late h = absurd (false≢true late)
late_taken operator.Hold c xs late h = absurd (false≢true late)
late_taken operator.Changes c xs late h = absurd (false≢true late)
late_taken operator.OnceE c xs late h = absurd (false≢true late)

fed_taken : (r : Option Bad) (v : Seen) (s : Result Cell Bad) → option_or r (beside v s).refusal ≡ None → IsTaken s
fed_taken r v (Ok c) h = tt
fed_taken r v (Err b) h = let e = none_after r (Some b) h in absurd cc
  where
    none_after : (r s : Option Bad) → option_or r s ≡ None → s ≡ None
    none_after None s h = h
    none_after (Some b) s h = cc

same_part : (a b : Part) → Path (Option Part) (Some a) (Some b) → a ≡ b
same_part a b e = cc

module _ (g : Graph) (known : ℕ → Type 0) (p : Plan) (pr : Program) (plan : IsPlanOf pr p) (sources : List Now) (before : ℕ → Option Cell)
    (closed : IsClosed g known) (settled : SettledOn g known p.table sources before) (eras : ErasStandOn g known p) (means : KernelsMean p pr sources)
    (m : ℕ) (inputs : AllKnown known (g.inputs m)) (errs : Errs g known p before m (g.kind m) (g.inputs m)) where
  abbrev t : Kernels
  t = p.table

  abbrev w : World
  w = world_of pr sources

  abbrev q : Asked
  q = record { known = known; cell = before; asks = asks_nothing }

  abbrev f : Low → Core
  f = erase t.kernels

  agrees_at : (n : ℕ) → n ≤ 2001 → AgreesAt g known p pr plan sources before closed settled eras means n
  agrees_at = values_on g known p pr plan sources before closed settled eras means

  -- an evaluation in whose walk the node stands errs
  abbrev pub FrontAt : ℕ → Type 0
  FrontAt n = (e : Low) (x : ℕ) (env : List Part) (vs : Env) (ms : List ℕ) (k : Kept) → Sound t (length env) e → Have g known env vs → Wired g p x n e env ms → Keeps g p q n e env ms k
      → Occurs g p known m n e env ms → (eval_to n w (f e) vs k).first ≡ None → ⊥

  -- the node of a work errs on the values of all its parts
  node_errs : (x n : ℕ) (wk : Work) (ps : List Part) (us : List Seen) (ms : List ℕ) (c : Option Cell) (later : Option Part) → m ≡ first ms → IsNext g x n (works wk) (inputs_of wk ps) later ms
      → Have g known ps us → before (first ms) ≡ c → Latches g known m wk → IsClean (work_line t n wk c us) → ⊥
  node_errs x n wk ps us ms c later is st have cell takes clean =
      let kind : g.kind m ≡ works wk = ap g.kind is ∙ st.kind in
      let ins : g.inputs m ≡ inputs_of wk ps = ap g.inputs is ∙ st.inputs in
      let here = subst (λ j. Errs g known p before m j (inputs_of wk ps)) kind (subst (λ l. Errs g known p before m (g.kind m) l) ins errs) in
      let line : work_line t (g.level m) wk (before m) (part_values g (inputs_of wk ps)) ≡ work_line t n wk c us
      = ap (λ j. work_line t j wk (before m) (part_values g (inputs_of wk ps))) (ap g.level is ∙ st.level)
      ∙ ap (λ o. work_line t n wk o (part_values g (inputs_of wk ps))) (ap before is ∙ cell)
      ∙ input_line g known t n wk c ps us have (subst (AllKnown known) ins inputs) in
      here (subst IsClean (sym line) clean) takes

  plain_latches : (wk : Work) → is_plain wk ≡ true → Latches g known m wk
  plain_latches (operates (operator.Prim r)) plain = λ late. absurd (false≢true late)
  plain_latches (operates operator.MergeE) plain = absurd (false≢true plain)
  plain_latches (operates operator.Hold) plain = absurd (false≢true plain)
  plain_latches (operates operator.Changes) plain = absurd (false≢true plain)
  plain_latches (operates operator.OnceE) plain = absurd (false≢true plain)
  plain_latches (operates operator.Delay) plain = absurd (false≢true plain)
  plain_latches (operates operator.DelayE) plain = absurd (false≢true plain)
  plain_latches (handles h id) plain = absurd (false≢true plain)
  plain_latches (loops l id) plain = λ late. absurd (false≢true late)
  plain_latches (runs id) plain = λ late. absurd (false≢true late)
  plain_latches feeds plain = absurd (false≢true plain)

  -- a plain work has no cell
  plain_errs : (x n : ℕ) (wk : Work) (ps : List Part) (us : List Seen) (ms : List ℕ) → is_plain wk ≡ true → ((c : Option Cell) → work_line t n wk c us ≡ work_line t n wk None us) → WorkStands g p x n wk ps ms → WorkOccurs m wk ps ms
      → Have g known ps us → IsClean (work_line t n wk None us) → ⊥
  plain_errs x n wk ps us ms plain any st oc have clean = by_steady (is_plain wk && all_steady ps) st oc
    where
      by_steady : (b : Bool) → Either b (IsClean (work_line t n wk None (steady_values ps))) (IsNext g x n (works wk) (inputs_of wk ps) (later_of wk ps) ms) → Either b ⊥ (m ≡ first ms) → ⊥
      by_steady true st oc = oc
      by_steady false st oc = node_errs x n wk ps us ms (before (first ms)) (later_of wk ps) oc st have refl (plain_latches wk plain) (subst IsClean (sym (any (before (first ms)))) clean)

  other_errs : (x n : ℕ) (wk : Work) (ps : List Part) (us : List Seen) (ms : List ℕ) (c : Option Cell) → is_plain wk ≡ false → WorkStands g p x n wk ps ms → WorkOccurs m wk ps ms
      → Have g known ps us → before (first ms) ≡ c → Latches g known m wk → IsClean (work_line t n wk c us) → ⊥
  other_errs x n wk ps us ms c plain st oc have cell takes clean =
      node_errs x n wk ps us ms c (later_of wk ps) (subst (λ b. Either (b && all_steady ps) ⊥ (m ≡ first ms)) plain oc)
      (subst (λ b. Either (b && all_steady ps) (IsClean (work_line t n wk None (steady_values ps))) (IsNext g x n (works wk) (inputs_of wk ps) (later_of wk ps) ms)) plain st) have cell takes clean

  module _ (n : ℕ) (few : suc n ≤ 2001) (ih : FrontAt n) (x : ℕ) (env : List Part) (vs : Env) (en : Have g known env vs) where
    below : n ≤ 2001
    below = omega (arith, few)

    abbrev ev : Ev
    ev = eval_to n w

    abbrev walk : Walk
    walk = place p n

    abbrev Stands : Low → List Part → List ℕ → Type 0
    Stands = Wired g p x n

    abbrev Trees : Low → List Part → List ℕ → Kept → Type 0
    Trees = Keeps g p q n

    abbrev Here : Low → List Part → List ℕ → Type 0
    Here = Occurs g p known m n

    have_all : (es : List Low) (i : ℕ) (ms : List ℕ) (k : Kept) → AllSound t (length env) es → AllStand walk Stands env es ms → AllKeep walk Trees env i es ms k
        → Have g known (place_all walk env es ms).parts (parts ev vs k i (map f es)).values
    have_all = all_on g known p pr plan sources before closed settled eras means n few (agrees_at n below) x env vs en

    any_front : (es : List Low) (i : ℕ) (ms : List ℕ) (k : Kept) → AllSound t (length env) es → AllStand walk Stands env es ms → AllKeep walk Trees env i es ms k → AnyOccurs walk Here env es ms
        → (parts ev vs k i (map f es)).first ≡ None → ⊥
    any_front [] i ms k s st kp oc h = oc
    any_front (e ∷ es) i ms k s st kp oc h =
        let d = ev (f e) vs (child k i) in
        elim oc [
          | inl o ↦ ih e x env vs ms (child k i) s.0 en st.0 kp.0 o (none_under i d.first (none_left (under i d.first) _ h))
          | inr o ↦ any_front es (i + 1) (walk e env ms).left k s.1 st.1 kp.1 o (none_right (under i d.first) _ h)
        ]

    opens : (c : Core) (l : Core-F Core) (k : Kept) → out-Core c ≡ l → (eval_to (suc n) w c vs k).first ≡ None → (layer w ev vs k l).first ≡ None
    opens c l k h e = ap (λ l. (layer w ev vs k l).first) (sym h) ∙ sym (ap (λ d. d.first) (evaluates n w c vs k)) ∙ e

    -- an expression here whose evaluation errs nowhere is built without failing
    built : (e : Low) (ms : List ℕ) (k : Kept) → Sound t (length env) e → (ev (f e) vs k).first ≡ None → IsBuilt g (walk e env ms) (Fails p n e env ms) (ev (f e) vs k)
    built e ms k s h = built_on g p pr plan sources means n below e env vs ms k s (have_nothing g known env vs en) h

    -- the choice of a switch errs

    chosen_front : (a b : Low) (y : ℕ) (ms : List ℕ) (k : Kept) (d : Done) (o : Result Bool Bad) → Sound t (length env) a → Sound t (length env) b
        → Chosen o (Wired g p y n a env ms) (Wired g p y n b env ms)
        → Chosen o (Trees a env ms (under_key (key.Test true) (child k 1))) (Trees b env ms (under_key (key.Test false) (child k 1)))
        → Chosen o (Here a env ms) (Here b env ms)
        → (switch_done ev vs k d (on_ok (chosen_by (f a) (f b)) o)).first ≡ None → ⊥
    chosen_front a b y ms k d (Err bad) sa sb st kp oc h = st
    chosen_front a b y ms k d (Ok true) sa sb st kp oc h =
        ih a y env vs ms (under_key (key.Test true) (child k 1)) sa en st kp oc (none_under 1 _ (none_right (under 0 d.first) _ (none_left _ _ h)))
    chosen_front a b y ms k d (Ok false) sa sb st kp oc h =
        ih b y env vs ms (under_key (key.Test false) (child k 1)) sb en st kp oc (none_under 2 _ (none_right (under 0 d.first) _ (none_left _ _ h)))

    era_front : (a b : Low) (c : ℕ) (k : Kept) (d : Done) (holds : Bool) → Sound t (length env) a → Sound t (length env) b → g.level c ≡ n
        → Chosen (Ok holds) (EraStands g p c a env) (EraStands g p c b env)
        → Chosen (Ok holds) (Trees a env (g.members (suc c)) (under_key (key.Test true) (child k 1))) (Trees b env (g.members (suc c)) (under_key (key.Test false) (child k 1)))
        → Chosen (Ok holds) (Here a env (g.members (suc c))) (Here b env (g.members (suc c)))
        → (switch_done ev vs k d (on_ok (chosen_by (f a) (f b)) (Ok holds))).first ≡ None → ⊥
    era_front a b c k d true sa sb level era kp oc h = chosen_front a b (suc c) (g.members (suc c)) k d (Ok true) sa sb (subst (λ j. Wired g p (suc c) j a env (g.members (suc c))) level era.wired) kp oc h
    era_front a b c k d false sa sb level era kp oc h = chosen_front a b (suc c) (g.members (suc c)) k d (Ok false) sa sb (subst (λ j. Wired g p (suc c) j b env (g.members (suc c))) level era.wired) kp oc h

    -- a watch whose test can't be told, or whose choice fails to be built
    watch_front : (a b : Low) (i : ℕ) (ms : List ℕ) (k : Kept) (d : Done) → Sound t (length env) a → Sound t (length env) b → (IsKnown known (signal i) → part_value g (signal i) ≡ d.value)
        → m ≡ first ms → IsNext g x n (watch a b env) (signal i ∷ []) None ms
        → (switch_done ev vs k d (on_ok (chosen_by (f a) (f b)) (test_of d.value))).first ≡ None → ⊥
    watch_front a b i ms k d sa sb r is st h =
        let kind : g.kind m ≡ watch a b env = ap g.kind is ∙ st.kind in
        let ins : g.inputs m ≡ signal i ∷ [] = ap g.inputs is ∙ st.inputs in
        let here = subst (λ j. Errs g known p before m j (signal i ∷ [])) kind (subst (λ l. Errs g known p before m (g.kind m) l) ins errs) in
        let fails = subst (λ j. ChoiceErrs p j a b env (g.value i)) (ap g.level is ∙ st.level) here in
        by_test (test_of d.value) (ap test_of (r (subst (AllKnown known) ins inputs).0)) fails h
      where
        by_test : (o : Result Bool Bad) → test_of (g.value i) ≡ o → ChoiceErrs p n a b env (g.value i) → (switch_done ev vs k d (on_ok (chosen_by (f a) (f b)) o)).first ≡ None → ⊥
        by_test (Err bad) e fails h = let last = none_right (under 0 d.first) (own (Err bad)) h in absurd cc
        by_test (Ok true) e fails h =
            let fail = fails true e in
            (built a fail.0 (under_key (key.Test true) (child k 1)) sa (none_under 1 _ (none_right (under 0 d.first) _ (none_left _ _ h)))).builds fail.1
        by_test (Ok false) e fails h =
            let fail = fails false e in
            (built b fail.0 (under_key (key.Test false) (child k 1)) sb (none_under 2 _ (none_right (under 0 d.first) _ (none_left _ _ h)))).builds fail.1

    switch_front : (a b : Low) (h : Part) (ms : List ℕ) (k : Kept) (d : Done) → Sound t (length env) a → Sound t (length env) b → (IsKnown known h → part_value g h ≡ d.value)
        → SwitchStands g x n Stands a b env h ms → SwitchKeeps g q Trees a b env h ms (child k 1) → SwitchOccurs g known m Here a b env h ms
        → (switch_done ev vs k d (on_ok (chosen_by (f a) (f b)) (test_of d.value))).first ≡ None → ⊥
    switch_front a b (steady v) ms k d sa sb r st kp oc none =
        chosen_front a b x ms k d (test_of v) sa sb st kp oc (ap (λ u. (switch_done ev vs k d (on_ok (chosen_by (f a) (f b)) (test_of u))).first) (r tt) ∙ none)
    switch_front a b (signal i) ms k d sa sb r st kp oc none =
        elim oc [
          | inl is ↦ watch_front a b i ms k d sa sb r is st.watch none
          | inr o ↦
              let c = first ms in
              let rule : IsWatched g c (signal i) = rule_on g known t sources before closed settled x n (watch a b env) (signal i ∷ []) None ms o.0 st.watch in
              let ki : known i = (inputs_on g known t sources before closed settled x n (watch a b env) (signal i ∷ []) None ms o.0 st.watch).0 in
              let tested : test_of d.value ≡ Ok rule.holds = ap test_of (sym (r ki)) ∙ rule.test in
              let era = subst (λ o. Chosen o (EraStands g p c a env) (EraStands g p c b env)) rule.value (eras c a b env o.0 st.watch.live st.watch.kind) in
              let trees = subst (λ o. Chosen o (Trees a env (g.members (suc c)) (under_key (key.Test true) (child k 1))) (Trees b env (g.members (suc c)) (under_key (key.Test false) (child k 1)))) rule.value (kp o.0).1 in
              let occurs = subst (λ r. Chosen r (Here a env (g.members (suc c))) (Here b env (g.members (suc c)))) rule.value o.1 in
              era_front a b c k d rule.holds sa sb st.watch.level era trees occurs (ap (λ o. (switch_done ev vs k d (on_ok (chosen_by (f a) (f b)) o)).first) (sym tested) ∙ none)
        ]

    call_front : (o : Option Low) (qs : AllPlaced) (k : Kept) (j : ℕ) (ps : Parts) → Have g known qs.parts ps.values → length qs.parts ≡ j
        → ((body : Low) → o ≡ Some body → Sound t j body) → CallStands Stands o qs → CallKeeps Trees o qs (child k j) → CallOccurs Here o qs
        → (call_done ev k j ps (option_map f o)).first ≡ None → ⊥
    call_front None qs k j ps have len s st kp oc h = oc
    call_front (Some body) qs k j ps have len s st kp oc h =
        ih body x qs.parts ps.values qs.left (child k j) (subst (λ i. Sound t i body) (sym len) (s body refl)) have st kp oc (none_under j _ (none_right ps.first _ (none_left _ _ h)))

    call_parts : (k : Kept) (j : ℕ) (ps : Parts) (o : Option Core) → (call_done ev k j ps o).first ≡ None → ps.first ≡ None
    call_parts k j ps None h = none_left ps.first _ h
    call_parts k j ps (Some body) h = none_left ps.first _ (none_left _ _ h)

    -- the cell of a late operator takes its last part's value where the operator's line is clean
    late_latches : (o : Operator) (ps : List Part) (us : List Seen) (ms : List ℕ) (c : Option Cell) → is_plain (operates o) ≡ false → is_late (operates o) ≡ true → operator_takes o (length ps) ≡ true
        → WorkStands g p x n (operates o) ps ms → WorkOccurs m (operates o) ps ms → Have g known ps us → IsClean (state_now (of_operator o) c us no_call) → Latches g known m (operates o)
    late_latches o ps us ms c plain late takes st oc have clean = λ e last later kl.
        let is = subst (λ b. Either (b && all_steady ps) ⊥ (m ≡ first ms)) plain oc in
        let next = stands_next g p x n (operates o) ps ms plain st in
        let there = late_there o ps late takes in
        let found : last ≡ there.0 = same_part last there.0 (sym later ∙ ap g.later is ∙ next.later ∙ there.2) in
        let value : part_value g last ≡ part us (late_part o)
        = ap (part_value g) found ∙ ap (λ h. part_value g (variable_part h)) (sym there.1)
        ∙ have_at g known ps us (late_part o) have (subst (λ h. IsKnown known (variable_part h)) (sym there.1) (subst (IsKnown known) found kl)) in
        subst IsTaken (sym (ap (latch (operates o)) value ∙ late_next o us late)) (late_taken o c us late clean)

    operator_front : (o : Operator) (ps : List Part) (us : List Seen) (ms : List ℕ) (c : Option Cell) → operator_takes o (length ps) ≡ true → WorkStands g p x n (operates o) ps ms → WorkOccurs m (operates o) ps ms → Have g known ps us
        → Unless (is_plain (operates o)) (before (first ms) ≡ c) → IsClean (state_now (of_operator o) c us no_call) → ⊥
    operator_front (operator.Prim r) ps us ms c takes st oc have cell clean = plain_errs x n (operates (operator.Prim r)) ps us ms refl (λ c. refl) st oc have clean
    operator_front operator.MergeE ps us ms c takes st oc have cell clean = other_errs x n (operates operator.MergeE) ps us ms c refl st oc have cell (λ late. absurd (false≢true late)) (early_clean operator.MergeE c us clean)
    operator_front operator.Hold ps us ms c takes st oc have cell clean = other_errs x n (operates operator.Hold) ps us ms c refl st oc have cell (λ late. absurd (false≢true late)) (early_clean operator.Hold c us clean)
    operator_front operator.Changes ps us ms c takes st oc have cell clean = other_errs x n (operates operator.Changes) ps us ms c refl st oc have cell (λ late. absurd (false≢true late)) (early_clean operator.Changes c us clean)
    operator_front operator.OnceE ps us ms c takes st oc have cell clean = other_errs x n (operates operator.OnceE) ps us ms c refl st oc have cell (λ late. absurd (false≢true late)) (early_clean operator.OnceE c us clean)
    operator_front operator.Delay ps us ms c takes st oc have cell clean = other_errs x n (operates operator.Delay) ps us ms c refl st oc have cell (late_latches operator.Delay ps us ms c refl refl takes st oc have clean) (early_clean operator.Delay c us clean)
    operator_front operator.DelayE ps us ms c takes st oc have cell clean = other_errs x n (operates operator.DelayE) ps us ms c refl st oc have cell (late_latches operator.DelayE ps us ms c refl refl takes st oc have clean) (early_clean operator.DelayE c us clean)

    -- one case for each shape
    shape_front : (l : Low-F Low) (ms : List ℕ) (k : Kept) → SoundShape t (length env) l → ShapeStands g p x n walk Stands env ms l → ShapeKeeps g p q walk Trees env ms k l
        → ShapeOccurs g p known m walk Here env ms l → (eval_to (suc n) w (erase_step t.kernels (map-Low Low Core f l)) vs k).first ≡ None → ⊥
    shape_front (Low-F.Lit v) ms k s st kp oc h = oc
    shape_front (Low-F.Var v) ms k s st kp oc h = oc
    shape_front (Low-F.Source s) ms k sound st kp oc h = oc
    shape_front (Low-F.Let es b) ms k s st kp oc h =
        let qs = place_all walk env es ms in
        let ps = parts ev vs k 0 (map f es) in
        let inside = body_sound t (length env) (length es) es b s.inside in
        let have = have_all es 0 ms k inside.0 st.0 kp.0 in
        let wide : length (env ++ qs.parts) ≡ length env + length es = length-append env qs.parts ∙ ap (λ m. length env + m) (all_length walk env es ms) in
        let r = ev (f b) (vs ++ ps.values) (child k (length (map f es))) in
        let none = none_left (option_or ps.first (under (length (map f es)) r.first)) (own r.value) (opens (core.Let (map f es) (f b)) (Core-F.Let (map f es) (f b)) k (outs-Let (map f es) (f b)) h) in
        elim oc [
          | inl o ↦ any_front es 0 ms k inside.0 st.0 kp.0 o (none_left ps.first _ none)
          | inr o ↦ ih b x (env ++ qs.parts) (vs ++ ps.values) qs.left (child k (length es)) (subst (λ m. Sound t m b) (sym wide) inside.1) (have_append g known env vs qs.parts ps.values en have) st.1 kp.1 o
              (ap (λ j. (ev (f b) (vs ++ ps.values) (child k j)).first) (sym (length-map es f)) ∙ none_under (length (map f es)) r.first (none_right ps.first _ none))
        ]
    shape_front (Low-F.If site test a b) ms k s st kp oc h =
        let inside = outer_sound t (length env) (test ∷ a ∷ b ∷ []) s.inside in
        let d = ev (f test) vs (child k 0) in
        let r = agrees_at n below test x env vs ms (child k 0) inside.0 en st.0 kp.0 in
        let none = opens (core.If (f test) (f a) (f b)) (Core-F.If (f test) (f a) (f b)) k (outs-If (f test) (f a) (f b)) h in
        elim oc [
          | inl o ↦ ih test x env vs ms (child k 0) inside.0 en st.0 kp.0 o (test_none d (on_ok (chosen_by (f a) (f b)) (test_of d.value)) none)
          | inr o ↦ switch_front a b (walk test env ms).part (walk test env ms).left k d inside.1.0 inside.1.1.0 r st.1 kp.1 o none
        ]
      where
        test_none : (d : Done) (r : Result Choice Bad) → (switch_done ev vs k d r).first ≡ None → d.first ≡ None
        test_none d (Err bad) h = none_under 0 d.first (none_left (under 0 d.first) _ h)
        test_none d (Ok c) h = none_under 0 d.first (none_left (under 0 d.first) _ (none_left _ _ h))
    shape_front (Low-F.Apply id es) ms k s st kp oc h =
        let qs = place_all walk env es ms in
        let ps = parts ev vs k 0 (map f es) in
        let sound = outer_sound t (length env) es s.inside in
        let have = have_all es 0 ms k sound st.0 kp.0 in
        let j = length es in
        let o = low_body (slice_get p.functions id.0) j in
        let same : option_map f o ≡ body_for (slice_get w.functions id.0) j = sym (bodies_match t.kernels p.functions id.0 j) ∙ ap (λ fs. body_for (slice_get fs id.0) j) (sym plan.functions) in
        let none = ap (λ b. (call_done ev k j ps b).first) same ∙ ap (λ i. (call_done ev k i ps (body_for (slice_get w.functions id.0) i)).first) (sym (length-map es f)) ∙ opens (core.Apply id (map f es)) (Core-F.Apply id (map f es)) k (outs-Apply id (map f es)) h in
        elim oc [
          | inl c ↦ any_front es 0 ms k sound st.0 kp.0 c (call_parts k j ps (option_map f o) none)
          | inr c ↦ call_front o qs k j ps have (all_length walk env es ms) (λ body e. low_sound t (slice_get p.functions id.0) j body (plan.bodies id.0) e) st.1 kp.1 c none
        ]
    shape_front (Low-F.Operator o es) ms k s st kp oc h =
        let qs = place_all walk env es ms in
        let inner = behind_cell (of_operator o) k in
        let ps = parts ev vs inner 0 (map f es) in
        let sound = outer_sound t (length env) es s.inside in
        let have = have_all es 0 ms inner sound st.0 kp.0 in
        let line = state_now (of_operator o) (form_cell (of_operator o) k) ps.values no_call in
        let none = opens (core.Operator o (map f es)) (Core-F.Operator o (map f es)) k (outs-Operator o (map f es)) h in
        elim oc [
          | inl c ↦ any_front es 0 ms inner sound st.0 kp.0 c (line_parts ps line none)
          | inr c ↦ operator_front o qs.parts ps.values qs.left (form_cell (of_operator o) k) (ap (operator_takes o) (all_length walk env es ms) ∙ s.parts) st.1 c have kp.1 (line_clean ps line none)
        ]
    shape_front (Low-F.Handler g' es id ss) ms k s st kp oc h =
        let qs = place_all walk env es ms in
        let inner = behind_cell (of_handler g') k in
        let ps = parts ev vs inner 0 (map f es) in
        let sound = outer_sound t (length env) es s.inside in
        let have = have_all es 0 ms inner sound st.0 kp.0 in
        let slots = slots_on g known p pr plan sources before closed settled eras means n few (agrees_at n below) x env vs en ss st.1 in
        let others = map (slot_seen sources vs) ss in
        let cell = form_cell (of_handler g') k in
        let body = kernel_expr t.kernels id.0 in
        let count : length ps.values ≡ handler_parts g' = sym (have_length g known qs.parts ps.values have) ∙ all_length walk env es ms ∙ s.parts in
        let front : take (handler_parts g') (ps.values ++ others) ≡ ps.values = ap (λ m. take m (ps.values ++ others)) (sym count) ∙ take-append_seam ps.values others in
        let behind : drop (handler_parts g') (ps.values ++ others) ≡ others = ap (λ m. drop m (ps.values ++ others)) (sym count) ∙ drop-append_seam ps.values others in
        let told = state_now (of_handler g') cell ps.values (handler ev vs (length (map f es)) body) in
        let none = opens (core.Handler g' (map f es) body) (Core-F.Handler g' (map f es) body) k (outs-Handler g' (map f es) body) h in
        let line = handler_clean g' cell ps.values (handler ev vs (length (map f es)) body) (kernel_call t n id.0 others)
        (λ args e. let same = kernel_means g known p pr plan sources before closed settled eras means n few (agrees_at n below) x env vs en n id.0 (handler_binds g') ss args kept.Nothing below s.fits e in
        (sym same.value, λ e. same.first ∙ none_under (length (map f es)) _ e)) (line_clean ps told none) in
        let line' = subst (λ xs. IsClean (state_now (of_handler g') cell xs (kernel_call t n id.0 (drop (handler_parts g') (ps.values ++ others))))) (sym front)
        (subst (λ xs. IsClean (state_now (of_handler g') cell ps.values (kernel_call t n id.0 xs))) (sym behind) line) in
        elim oc [
          | inl c ↦ any_front es 0 ms inner sound st.0 kp.0 c (line_parts ps told none)
          | inr c ↦ other_errs x n (handles g' id.0) (qs.parts ++ slot_parts p env ss) (ps.values ++ others) qs.left cell refl st.2 c
              (have_append g known qs.parts ps.values (slot_parts p env ss) others have slots) kp.1 (λ late. absurd (false≢true late)) line'
        ]
    shape_front (Low-F.Loop l es id ss) ms k s st kp oc h =
        let qs = place_all walk env es ms in
        let ps = parts ev vs k 0 (map f es) in
        let sound = outer_sound t (length env) es s.inside in
        let have = have_all es 0 ms k sound st.0 kp in
        let slots = slots_on g known p pr plan sources before closed settled eras means n few (agrees_at n below) x env vs en ss st.1 in
        let others = map (slot_seen sources vs) ss in
        let body = kernel_expr t.kernels id.0 in
        let count : length ps.values ≡ 2 = sym (have_length g known qs.parts ps.values have) ∙ all_length walk env es ms ∙ s.parts in
        let none = opens (core.Loop l (map f es) body) (Core-F.Loop l (map f es) body) k (outs-Loop l (map f es) body) h in
        let turns_none = none_under (length (map f es)) _ (none_right ps.first _ (none_left _ _ none)) in
        elim oc [
          | inl c ↦ any_front es 0 ms k sound st.0 kp c (none_left ps.first _ (none_left _ _ none))
          | inr c ↦ plain_errs x n (loops l id.0) (qs.parts ++ slot_parts p env ss) (ps.values ++ others) qs.left refl (λ c. refl) st.2 c
              (have_append g known qs.parts ps.values (slot_parts p env ss) others have slots)
              (loop_line t n l id.0 ps.values others (body_with ev vs body) count
              (λ args e. let same = kernel_means g known p pr plan sources before closed settled eras means n few (agrees_at n below) x env vs en n id.0 (loop_binds l) ss args kept.Nothing below s.fits e in (sym same.value, λ e. same.first ∙ e))
              (none_right _ _ none) turns_none).0
        ]
    shape_front (Low-F.Feedback init body) ms k s st kp oc h =
        let i = walk init env ms in
        let inner = behind_cell of_feedback k in
        let cell = form_cell of_feedback k in
        let d = ev (f init) vs (child inner 0) in
        let sound0 = subst (λ m. Sound t m init) (zero_more (length env)) (s.inside 0 (0, init) refl) in
        let r = agrees_at n below init x env vs ms (child inner 0) sound0 en st.0 kp.0 in
        let c = first i.left in
        let inside = env ++ signal c ∷ [] in
        let x0 = fed cell d.value in
        let last = (walk body inside (rest i.left)).part in
        let name : known c → g.value c ≡ x0 = λ kc.
        let rule = rule_on g known t sources before closed settled x n (works feeds) (i.part ∷ []) (Some last) i.left kc st.2 in
        let ki = (inputs_on g known t sources before closed settled x n (works feeds) (i.part ∷ []) (Some last) i.left kc st.2).0 in
        rule.value ∙ ap (λ o. fed o (part_value g i.part)) kp.2 ∙ ap (fed cell) (r ki) in
        let wide : length inside ≡ length env + 1 = length-append env (signal c ∷ []) in
        let sound1 = subst (λ m. Sound t m body) (sym wide) (s.inside 1 (1, body) refl) in
        let b = ev (f body) (vs ++ x0 ∷ []) (child inner 1) in
        let have = have_append g known env vs (signal c ∷ []) (x0 ∷ []) en (name, tt) in
        let ps = join_part 0 d (join_part 1 b no_parts) in
        let none = opens (core.Feedback (f init) (f body)) (Core-F.Feedback (f init) (f body)) k (outs-Feedback (f init) (f body)) h in
        let told = state_now of_feedback cell (d.value ∷ b.value ∷ []) no_call in
        let parts_none = line_parts ps told none in
        let line = line_clean ps told none in
        let d_none = none_under 0 d.first (none_left (under 0 d.first) _ parts_none) in
        elim oc [
          | inl o ↦ ih init x env vs ms (child inner 0) sound0 en st.0 kp.0 o d_none
          | inr more ↦ elim more [
            | inl o ↦ ih body x inside (vs ++ x0 ∷ []) (rest i.left) (child inner 1) sound1 have st.1 kp.1 o (none_under 1 b.first (none_left (under 1 b.first) None (none_right (under 0 d.first) _ parts_none)))
            | inr is ↦ node_errs x n feeds (i.part ∷ []) (d.value ∷ []) i.left cell (Some last) is st.2 (r, tt) kp.2
                (λ late part later kp'. let found : part ≡ last = same_part part last (sym later ∙ ap g.later is ∙ st.2.later) in
                subst IsTaken (sym (ap (latch feeds) (ap (part_value g) found ∙ agrees_at n below body x inside (vs ++ x0 ∷ []) (rest i.left) (child inner 1) sound1 have st.1 kp.1 (subst (IsKnown known) found kp'))))
                (fed_taken (refusal_in (base_of cell d.value)) b.value (state_next of_feedback (d.value ∷ b.value ∷ [])) line.refusal))
                (record {
                  value = fed_good cell d.value (value_good n w (f init) vs (child inner 0) d_none);
                  inner = refl;
                  refusal = refused_left (refusal_in (base_of cell d.value)) (beside b.value (state_next of_feedback (d.value ∷ b.value ∷ []))).refusal line.refusal;
                })
          ]
        ]
      where
        zero_more : (m : ℕ) → m + 0 ≡ m
        zero_more m = omega arith

        fed_good : (c : Option Cell) (v : Seen) → own v ≡ None → own (fed c v) ≡ None
        fed_good None v h = h
        fed_good (Some (Rattle.fr_meaning.specs.Cells.datum u)) v h = refl
        fed_good (Some (Rattle.fr_meaning.specs.Cells.payload u)) v h = h

        refused_left : (r s : Option Bad) → option_or r s ≡ None → option_or r None ≡ None
        refused_left None s h = refl
        refused_left (Some b) s h = cc
    shape_front (Low-F.Collapse id ss) ms k s st kp oc h =
        let others = map (slot_seen sources vs) ss in
        let slots = slots_on g known p pr plan sources before closed settled eras means n few (agrees_at n below) x env vs en ss st.0 in
        let same = kernel_means g known p pr plan sources before closed settled eras means n few (agrees_at n below) x env vs en (suc n) id.0 0 ss [] k few s.fits refl in
        let none = ap (λ us. (eval_to (suc n) w (kernel_expr t.kernels id.0) us k).first) (append-nil vs) ∙ h in
        let good = value_good (suc n) w (kernel_expr t.kernels id.0) (vs ++ []) k none in
        plain_errs x n (runs id.0) (slot_parts p env ss) others ms refl (λ c. refl) st.1 oc slots (record { value = ap own same.value ∙ good; inner = same.first ∙ none; refusal = refl })

  -- THE FRONT. Where a node errs on the values of known inputs, every evaluation in whose walk it stands errs.
  pub front_on : (n : ℕ) → n ≤ 2001 → FrontAt n
  unfolding place eval_to Wired Keeps Occurs
  front_on zero few e x env vs ms k s en st kp oc h = oc
  front_on (suc n) few e x env vs ms k s en st kp oc h =
      let below : n ≤ 2001 = omega (arith, few) in
      shape_front n few (front_on n below) x env vs en (out-Low e) ms k (sound_shape t (length env) e s) st kp oc
      (subst (λ c. (eval_to (suc n) w c vs k).first ≡ None) (erase-opens t.kernels e) h)
