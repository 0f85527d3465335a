-- The graph stands for the tree that evaluating afresh keeps.
use Rattle.std.proofs.Common.{◌≡◌, ◌≤◌, ◌+◌, ℕ, zero, suc, Bool, true, false, List, [], ◌∷◌, ◌++◌, map, take, drop, length, slice_get, unwrap_or, refl, ap, sym, ◌∙◌, subst, append_assoc, append-nil, arith, Option, Some, None, Result, Ok, Err}
use Rattle.std.specs.Option.{option_map}
use Rattle.std.proofs.lemmas.Bool.{false≢true}
use Rattle.std.proofs.lemmas.List.{length-map, length-append, length_push}
use Rattle.std.proofs.Math.Seq.{take-append_seam, drop-append_seam}
use Rattle.fr_value.specs.declared.now.Now.{Now}
use Rattle.fr_value.specs.declared.now.Bad.{Bad}
use Rattle.fr_core.specs.Shapes.{operator_takes, handler_parts, handler_binds}
use Rattle.fr_core.specs.declared.core_form.Core.{Core, out-Core}
use Rattle.fr_core.specs.declared.core_form.Core.TheOpen.{Core-F}
use Rattle.fr_core.specs.declared.core_form.Core.TheVariants as core
use Rattle.fr_core.specs.declared.core_form.Core.TheVariants.{outs-Let, outs-If, outs-Apply, outs-Operator, outs-Handler, outs-Loop, outs-Feedback}
use Rattle.fr_core.specs.declared.core_form.Operator.{Operator}
use Rattle.fr_core.specs.declared.core_form.Operator.TheVariants as operator
use Rattle.fr_core.specs.declared.kept.Key.TheVariants as key
use Rattle.fr_core.specs.declared.kept.Kept.{Kept}
use Rattle.fr_core.specs.declared.kept.Kept.TheVariants as kept
use Rattle.fr_core.specs.declared.lowered.Low.{Low, out-Low, map-Low}
use Rattle.fr_core.specs.declared.lowered.Low.TheOpen.{Low-F}
use Rattle.fr_core.specs.declared.program.Program.{Program}
use Rattle.fr_meaning.specs.Words.{Seen, Env, Done, own, part, on_ok, test_of}
use Rattle.fr_meaning.specs.Cells.{Cell, child, with_cell, under_key, keeps_datum}
use Rattle.fr_meaning.specs.States.{StateForm, of_operator, of_handler, of_feedback, cell_kind, fed, no_call, state_now, early_value, beside, state_next, datum_next, payload_next}
use Rattle.fr_meaning.specs.Evaluation.{World, world_of, Ev, Parts, parts, chosen_by, switch_done, call_done, body_for, handler, form_cell, behind_cell, layer, eval_to}
use Rattle.fr_meaning.proofs.Levels.{evaluates}
use Rattle.fr_kernel.specs.Kernels.{Kernels, slot_seen}
use Rattle.fr_kernel.specs.Erasure.{erase, erase_step, kernel_expr}
use Rattle.fr_graph.specs.Graph.{Part, steady, signal, Work, operates, handles, feeds, works, watch, Graph, part_value, kernel_call, work_line, is_plain, is_late}
use Rattle.fr_graph.specs.Walk.{Plan, first, rest, Walk, AllPlaced, place_all, variable_part, slot_parts, low_body, place}
use Rattle.fr_graph.specs.Wired.{Unless, WorkStands, later_of, AllStand, Chosen, SwitchStands, CallStands, ShapeStands, Wired, EraStands}
use Rattle.fr_graph.specs.Keeps.{Asked, AllKeep, SwitchKeeps, CallKeeps, CellKeeps, ShapeKeeps, Keeps, asks_nothing, everything, HasKey, StandsFor}
use Rattle.fr_graph.specs.Known.{AllKnown, IsClosed, IsKnown, Have, IsWatched, IsWorked, SettledOn, ErasStandOn, latch, HasEnded}
use Rattle.fr_graph.specs.Sound.{Sound, IsPlanOf, KernelsMean}
use Rattle.fr_graph.proofs.Parts.{have_at, have_append, have_length}
use Rattle.fr_graph.proofs.Works.{operator_value, prompt_line, stands_next, node_line, node_rule, rule_on, work_clean}
use Rattle.fr_graph.proofs.Calls.{handler_value, handler_next}
use Rattle.fr_graph.proofs.Cells.{child_group, under_same, chose_key, CellFits, reads_back, operator_fits, handler_fits}
use Rattle.fr_graph.proofs.Inside.{erase-opens, SoundShape, sound_shape, AllSound, outer_sound, body_sound, all_length, bodies_match, low_sound}
use Rattle.fr_graph.proofs.Values.{AgreesAt, values_on, all_on, slots_on, kernel_means}

-- the next of a list behind others
at_seam : (pre : List Kept) (k : Kept) (ks : List Kept) → unwrap_or (slice_get (pre ++ k ∷ ks) (length pre)) kept.Nothing ≡ k
at_seam [] k ks = refl
at_seam (p ∷ pre) k ks = at_seam pre k ks

pub next_child : (pre : List Kept) (k : Kept) (ks : List Kept) (i : ℕ) → length pre ≡ i → child (kept.Group (pre ++ k ∷ ks)) i ≡ k
next_child pre k ks i len = child_group (pre ++ k ∷ ks) i ∙ ap (λ j. unwrap_or (slice_get (pre ++ k ∷ ks) j) kept.Nothing) (sym len) ∙ at_seam pre k ks

parts_kepts : (ev : Ev) (env : Env) (k : Kept) (i : ℕ) (es : List Core) → length (parts ev env k i es).kepts ≡ length es
parts_kepts ev env k i [] = refl
parts_kepts ev env k i (e ∷ es) = ap suc (parts_kepts ev env k (i + 1) es)

pub all_everything : (ps : List Part) → AllKnown everything ps
all_everything [] = tt
all_everything (steady v ∷ ps) = (tt, all_everything ps)
all_everything (signal m ∷ ps) = (tt, all_everything ps)

pub each_known : (h : Part) → IsKnown everything h
each_known (steady v) = tt
each_known (signal m) = tt

-- what a late operator's cell takes is the last of its parts
abbrev pub late_part : Operator → ℕ
late_part operator.Delay = 1
late_part o = 0

pub late_next : (o : Operator) (xs : List Seen) → is_late (operates o) ≡ true → latch (operates o) (part xs (late_part o)) ≡ state_next (of_operator o) xs
late_next operator.Delay xs e = refl
late_next operator.DelayE xs e = refl
late_next (operator.Prim p) xs e = absurd (false≢true e)
late_next operator.MergeE xs e = absurd (false≢true e)
late_next operator.Hold xs e = absurd (false≢true e)
late_next operator.Changes xs e = absurd (false≢true e)
late_next operator.OnceE xs e = absurd (false≢true e)

datum_fits : (r : Result Rattle.fr_value.specs.declared.value.Value.Value Bad) (c : Cell) → datum_next r ≡ Ok c → CellFits keeps_datum (Some c)
datum_fits (Err b) c e = absurd cc
datum_fits (Ok v) c e = (v, cc)

late_fits : (o : Operator) (xs : List Seen) (c : Cell) → is_late (operates o) ≡ true → state_next (of_operator o) xs ≡ Ok c → CellFits (cell_kind (of_operator o)) (Some c)
late_fits operator.Delay xs c late e = datum_fits _ c e
late_fits operator.DelayE xs c late e = payload_fits _ e
  where
    payload_fits : (r : Result (Option Rattle.fr_value.specs.declared.value.Value.Value) Bad) → payload_next r ≡ Ok c → CellFits (cell_kind (of_operator operator.DelayE)) (Some c)
    payload_fits (Err b) e = absurd cc
    payload_fits (Ok o) e = (o, cc)
late_fits (operator.Prim p) xs c late e = absurd (false≢true late)
late_fits operator.MergeE xs c late e = absurd (false≢true late)
late_fits operator.Hold xs c late e = absurd (false≢true late)
late_fits operator.Changes xs c late e = absurd (false≢true late)
late_fits operator.OnceE xs c late e = absurd (false≢true late)

-- the line of a late operator keeps what comes next
late_line : (o : Operator) (cell : Option Cell) (xs : List Seen) (c : Cell) → is_late (operates o) ≡ true → state_next (of_operator o) xs ≡ Ok c → (state_now (of_operator o) cell xs no_call).next ≡ Some c
late_line operator.Delay cell xs c late e = ap (λ r. (beside (early_value (of_operator operator.Delay) cell xs) r).next) e
late_line operator.DelayE cell xs c late e = ap (λ r. (beside (early_value (of_operator operator.DelayE) cell xs) r).next) e
late_line (operator.Prim p) cell xs c late e = absurd (false≢true late)
late_line operator.MergeE cell xs c late e = absurd (false≢true late)
late_line operator.Hold cell xs c late e = absurd (false≢true late)
late_line operator.Changes cell xs c late e = absurd (false≢true late)
late_line operator.OnceE cell xs c late e = absurd (false≢true late)

-- the last part of a late operator is there
pub late_there : (o : Operator) (ps : List Part) → is_late (operates o) ≡ true → operator_takes o (length ps) ≡ true → (h : Part) × (slice_get ps (late_part o) ≡ Some h) × (later_of (operates o) ps ≡ Some h)
late_there operator.Delay (a ∷ b ∷ ps) late e = (b, refl, refl)
late_there operator.Delay (a ∷ []) late e = absurd (false≢true e)
late_there operator.Delay [] late e = absurd (false≢true e)
late_there operator.DelayE (a ∷ ps) late e = (a, refl, refl)
late_there operator.DelayE [] late e = absurd (false≢true e)
late_there (operator.Prim p) ps late e = absurd (false≢true late)
late_there operator.MergeE ps late e = absurd (false≢true late)
late_there operator.Hold ps late e = absurd (false≢true late)
late_there operator.Changes ps late e = absurd (false≢true late)
late_there operator.OnceE ps late e = absurd (false≢true late)

has_value : (v : Seen) → own v ≡ None → (n : Now) × (v ≡ Ok n)
has_value (Ok n) h = (n, refl)
has_value (Err b) h = absurd cc

module _ (g : Graph) (p : Plan) (pr : Program) (plan : IsPlanOf pr p) (sources : List Now) (before : ℕ → Option Cell)
    (settled : SettledOn g everything p.table sources before) (eras : ErasStandOn g everything p) (means : KernelsMean p pr sources) (ended : HasEnded g) where
  abbrev t : Kernels
  t = p.table

  abbrev w : World
  w = world_of pr sources

  abbrev f : Low → Core
  f = erase t.kernels

  closed : IsClosed g everything
  closed = record { input = λ m j a b c. tt; watched = λ w a b env lv k kn. tt }

  abbrev old : Asked
  old = record { known = everything; cell = before; asks = asks_nothing }

  abbrev new : Asked
  new = record { known = everything; cell = g.cell; asks = HasKey g }

  agrees_at : (n : ℕ) → n ≤ 2001 → AgreesAt g everything p pr plan sources before closed settled eras means n
  agrees_at = values_on g everything p pr plan sources before closed settled eras means

  -- the graph stands for what evaluating every expression on so many levels keeps
  abbrev pub StandsAt : ℕ → Type 0
  StandsAt n = (e : Low) (x : ℕ) (env : List Part) (vs : Env) (ms : List ℕ) (k : Kept) → Sound t (length env) e → Have g everything env vs → Wired g p x n e env ms → Keeps g p old n e env ms k
      → StandsFor g p n e env ms (eval_to n w (f e) vs k).kept

  module _ (n : ℕ) (few : suc n ≤ 2001) (ih : StandsAt n) (x : ℕ) (env : List Part) (vs : Env) (en : Have g everything env vs) where
    below : n ≤ 2001
    below = omega (arith, few)

    abbrev ev : Ev
    ev = eval_to n w

    abbrev walk : Walk
    walk = place p n

    abbrev Stands : Low → List Part → List ℕ → Type 0
    Stands = Wired g p x n

    abbrev Trees : Low → List Part → List ℕ → Kept → Type 0
    Trees = Keeps g p old n

    abbrev News : Low → List Part → List ℕ → Kept → Type 0
    News = Keeps g p new n

    have_all : (es : List Low) (i : ℕ) (ms : List ℕ) (k : Kept) → AllSound t (length env) es → AllStand walk Stands env es ms → AllKeep walk Trees env i es ms k
        → Have g everything (place_all walk env es ms).parts (parts ev vs k i (map f es)).values
    have_all = all_on g everything p pr plan sources before closed settled eras means n few (agrees_at n below) x env vs en

    -- parts keep their trees in a group, behind some and before others
    all_keep : (es : List Low) (i : ℕ) (ms : List ℕ) (k : Kept) (pre more : List Kept) → length pre ≡ i → AllSound t (length env) es → AllStand walk Stands env es ms → AllKeep walk Trees env i es ms k
        → AllKeep walk News env i es ms (kept.Group (pre ++ ((parts ev vs k i (map f es)).kepts ++ more)))
    all_keep [] i ms k pre more len s st kp = tt
    all_keep (e ∷ es) i ms k pre more len s st kp =
        let d = ev (f e) vs (child k i) in
        let ks = (parts ev vs k (i + 1) (map f es)).kepts in
        let group = pre ++ (d.kept ∷ (ks ++ more)) in
        let here : child (kept.Group group) i ≡ d.kept
        = child_group group i ∙ ap (λ j. unwrap_or (slice_get group j) kept.Nothing) (sym len) ∙ at_seam pre d.kept (ks ++ more) in
        let behind = all_keep es (i + 1) (walk e env ms).left k (pre ++ d.kept ∷ []) more (length_push pre d.kept ∙ ap (λ j. j + 1) len) s.1 st.1 kp.1 in (
          subst (News e env ms) (sym here) (ih e x env vs ms (child k i) s.0 en st.0 kp.0),
          subst (λ l. AllKeep walk News env (i + 1) es (walk e env ms).left (kept.Group l)) (append_assoc pre (d.kept ∷ []) (ks ++ more)) behind,
        )

    -- the last of a group
    last_child : (ks : List Kept) (d : Kept) (m : ℕ) → length ks ≡ m → child (kept.Group (ks ++ d ∷ [])) m ≡ d
    last_child ks d m len = child_group (ks ++ d ∷ []) m ∙ ap (λ j. unwrap_or (slice_get (ks ++ d ∷ []) j) kept.Nothing) (sym len) ∙ at_seam ks d []

    opens : (c : Core) (l : Core-F Core) (k : Kept) → out-Core c ≡ l → (layer w ev vs k l).kept ≡ (eval_to (suc n) w c vs k).kept
    opens c l k h = ap (λ l. (layer w ev vs k l).kept) (sym h) ∙ ap (λ d. d.kept) (sym (evaluates n w c vs k))

    -- the trees of a switch, whose choice stands at these members
    chosen_keeps : (a b : Low) (y : ℕ) (ms : List ℕ) (k tree : Kept) (d : Done) (o : Result Bool Bad) → Sound t (length env) a → Sound t (length env) b
        → Chosen o (Wired g p y n a env ms) (Wired g p y n b env ms)
        → Chosen o (Trees a env ms (under_key (key.Test true) (child k 1))) (Trees b env ms (under_key (key.Test false) (child k 1)))
        → child (switch_done ev vs k d (on_ok (chosen_by (f a) (f b)) o)).kept 1 ≡ tree
        → Chosen o (News a env ms (under_key (key.Test true) tree)) (News b env ms (under_key (key.Test false) tree))
    chosen_keeps a b y ms k tree d (Err bad) sa sb st kp is = absurd st
    chosen_keeps a b y ms k tree d (Ok true) sa sb st kp is =
        let r = ih a y env vs ms (under_key (key.Test true) (child k 1)) sa en st kp in
        let below = (ev (f a) vs (under_key (key.Test true) (child k 1))).kept in
        subst (λ u. News a env ms (under_key (key.Test true) u)) (sym (child_group (d.kept ∷ kept.Switch (key.Test true) below ∷ []) 1) ∙ is) (subst (News a env ms) (sym (under_same true below)) r)
    chosen_keeps a b y ms k tree d (Ok false) sa sb st kp is =
        let r = ih b y env vs ms (under_key (key.Test false) (child k 1)) sb en st kp in
        let below = (ev (f b) vs (under_key (key.Test false) (child k 1))).kept in
        subst (λ u. News b env ms (under_key (key.Test false) u)) (sym (child_group (d.kept ∷ kept.Switch (key.Test false) below ∷ []) 1) ∙ is) (subst (News b env ms) (sym (under_same false below)) r)

    -- the era of a watch, where its value is this key
    era_keeps : (a b : Low) (m : ℕ) (k : Kept) (d : Done) (holds : Bool) → Sound t (length env) a → Sound t (length env) b → g.level m ≡ n
        → Chosen (Ok holds) (EraStands g p m a env) (EraStands g p m b env)
        → Chosen (Ok holds) (Trees a env (g.members (suc m)) (under_key (key.Test true) (child k 1))) (Trees b env (g.members (suc m)) (under_key (key.Test false) (child k 1)))
        → (let tree = child (switch_done ev vs k d (on_ok (chosen_by (f a) (f b)) (Ok holds))).kept 1 in
        Chosen (Ok holds) (News a env (g.members (suc m)) (under_key (key.Test true) tree)) (News b env (g.members (suc m)) (under_key (key.Test false) tree)))
    era_keeps a b m k d true sa sb level era kp = chosen_keeps a b (suc m) (g.members (suc m)) k _ d (Ok true) sa sb (subst (λ j. Wired g p (suc m) j a env (g.members (suc m))) level era.wired) kp refl
    era_keeps a b m k d false sa sb level era kp = chosen_keeps a b (suc m) (g.members (suc m)) k _ d (Ok false) sa sb (subst (λ j. Wired g p (suc m) j b env (g.members (suc m))) level era.wired) kp refl

    key_kept : (a b : Low) (k : Kept) (d : Done) (holds : Bool) → Rattle.fr_graph.specs.Keeps.switch_key (child (switch_done ev vs k d (on_ok (chosen_by (f a) (f b)) (Ok holds))).kept 1) ≡ Some (key.Test holds)
    key_kept a b k d true = ap Rattle.fr_graph.specs.Keeps.switch_key (child_group (d.kept ∷ _ ∷ []) 1) ∙ chose_key true _
    key_kept a b k d false = ap Rattle.fr_graph.specs.Keeps.switch_key (child_group (d.kept ∷ _ ∷ []) 1) ∙ chose_key false _

    switch_keeps : (a b : Low) (h : Part) (ms : List ℕ) (k : Kept) (d : Done) → Sound t (length env) a → Sound t (length env) b → (IsKnown everything h → part_value g h ≡ d.value)
        → SwitchStands g x n Stands a b env h ms → SwitchKeeps g old Trees a b env h ms (child k 1)
        → SwitchKeeps g new News a b env h ms (child (switch_done ev vs k d (on_ok (chosen_by (f a) (f b)) (test_of d.value))).kept 1)
    switch_keeps a b (steady v) ms k d sa sb r st kp = chosen_keeps a b x ms k _ d (test_of v) sa sb st kp (ap (λ u. child (switch_done ev vs k d (on_ok (chosen_by (f a) (f b)) (test_of u))).kept 1) (r tt))
    switch_keeps a b (signal m) ms k d sa sb r st kp = λ kw.
        let c = first ms in
        let rule : IsWatched g c (signal m) = rule_on g everything t sources before closed settled x n (watch a b env) (signal m ∷ []) None ms tt st.watch in
        let tested : test_of d.value ≡ Ok rule.holds = ap test_of (sym (r tt)) ∙ rule.test in
        let era = subst (λ o. Chosen o (EraStands g p c a env) (EraStands g p c b env)) rule.value (eras c a b env tt st.watch.live st.watch.kind) in
        let trees = subst (λ o. Chosen o (Trees a env (g.members (suc c)) (under_key (key.Test true) (child k 1))) (Trees b env (g.members (suc c)) (under_key (key.Test false) (child k 1)))) rule.value (kp tt).1 in
        let tree = child (switch_done ev vs k d (on_ok (chosen_by (f a) (f b)) (Ok rule.holds))).kept 1 in
        let news = era_keeps a b c k d rule.holds sa sb st.watch.level era trees in
        subst (λ o. (let tree = child (switch_done ev vs k d (on_ok (chosen_by (f a) (f b)) o)).kept 1 in
        HasKey g c tree × Chosen (test_of (g.value c)) (News a env (g.members (suc c)) (under_key (key.Test true) tree)) (News b env (g.members (suc c)) (under_key (key.Test false) tree)))) (sym tested) (
          record { holds = rule.holds; value = rule.value; chose = key_kept a b k d rule.holds },
          subst (λ o. Chosen o (News a env (g.members (suc c)) (under_key (key.Test true) tree)) (News b env (g.members (suc c)) (under_key (key.Test false) tree))) (sym rule.value) news,
        )

    -- the value of a work's node
    node_good : (wk : Work) (ps : List Part) (us : List Seen) (ms : List ℕ) (c : Option Cell) → is_plain wk ≡ false → WorkStands g p x n wk ps ms → Have g everything ps us → before (first ms) ≡ c
        → (v : Now) × ((work_line t n wk c us).value ≡ Ok v)
    node_good wk ps us ms c plain st have is =
        let clean = work_clean g everything t sources before closed settled p x n wk ps us ms c refl st have (λ e kn. is) tt in
        has_value (work_line t n wk c us).value clean.value

    -- the cell of a work's node that isn't late
    node_cell : (wk : Work) (ps : List Part) (us : List Seen) (ms : List ℕ) (c : Option Cell) → is_plain wk ≡ false → is_late wk ≡ false
        → WorkStands g p x n wk ps ms → Have g everything ps us → before (first ms) ≡ c → g.cell (first ms) ≡ (work_line t n wk c us).next
    node_cell wk ps us ms c plain late st have is =
        let next = stands_next g p x n wk ps ms plain st in
        (node_rule g everything t sources before closed settled x n wk ps ms tt next).cell late
        ∙ ap (λ l. l.next) (node_line g everything t sources before closed settled x n wk ps us ms c tt next have is)

    -- what an operator keeps is of its kind, and its node has it
    record Kept_by (form : StateForm) (plain : Bool) (ms : List ℕ) (next : Option Cell) : Type 0 where
      fits : CellFits (cell_kind form) next
      cell : Unless plain (g.cell (first ms) ≡ next)

    prompt_kept : (o : Operator) (ps : List Part) (us : List Seen) (ms : List ℕ) (c : Option Cell) → is_plain (operates o) ≡ false → is_late (operates o) ≡ false
        → WorkStands g p x n (operates o) ps ms → Have g everything ps us → before (first ms) ≡ c → Kept_by (of_operator o) (is_plain (operates o)) ms (state_now (of_operator o) c us no_call).next
    prompt_kept o ps us ms c plain late st have is =
        let good = node_good (operates o) ps us ms c plain st have is in
        record {
          fits = operator_fits o c us late good.0 (sym (operator_value o c us) ∙ good.1);
          cell = subst (λ b. Unless b (g.cell (first ms) ≡ (state_now (of_operator o) c us no_call).next)) (sym plain) (node_cell (operates o) ps us ms c plain late st have is ∙ ap (λ l. l.next) (prompt_line o c us late));
        }

    -- what a late operator's cell took comes next in the table
    pub late_comes : (o : Operator) (ps : List Part) (us : List Seen) (ms : List ℕ) → is_plain (operates o) ≡ false → is_late (operates o) ≡ true → operator_takes o (length ps) ≡ true
        → WorkStands g p x n (operates o) ps ms → Have g everything ps us → (taken : Cell) × (state_next (of_operator o) us ≡ Ok taken) × (g.cell (first ms) ≡ Some taken)
    late_comes o ps us ms plain late takes st have =
        let next = stands_next g p x n (operates o) ps ms plain st in
        let last = late_there o ps late takes in
        let latched = ended.latched (first ms) (operates o) last.0 next.live next.kind late (next.later ∙ last.2) in
        let same : part_value g last.0 ≡ part us (late_part o)
        = ap (λ h. part_value g (variable_part h)) (sym last.1) ∙ have_at g everything ps us (late_part o) have (each_known _) in
        (latched.taken, sym (late_next o us late) ∙ ap (latch (operates o)) (sym same) ∙ latched.takes, latched.kept)

    late_kept : (o : Operator) (ps : List Part) (us : List Seen) (ms : List ℕ) (c : Option Cell) → is_plain (operates o) ≡ false → is_late (operates o) ≡ true → operator_takes o (length ps) ≡ true
        → WorkStands g p x n (operates o) ps ms → Have g everything ps us → Kept_by (of_operator o) (is_plain (operates o)) ms (state_now (of_operator o) c us no_call).next
    late_kept o ps us ms c plain late takes st have =
        let comes = late_comes o ps us ms plain late takes st have in
        let line = late_line o c us comes.0 late comes.1 in
        record {
          fits = subst (CellFits (cell_kind (of_operator o))) (sym line) (late_fits o us comes.0 late comes.1);
          cell = subst (λ b. Unless b (g.cell (first ms) ≡ (state_now (of_operator o) c us no_call).next)) (sym plain) (comes.2 ∙ sym line);
        }

    operator_kept : (o : Operator) (ps : List Part) (us : List Seen) (ms : List ℕ) (c : Option Cell) → operator_takes o (length ps) ≡ true
        → WorkStands g p x n (operates o) ps ms → Have g everything ps us → Unless (is_plain (operates o)) (before (first ms) ≡ c)
        → Kept_by (of_operator o) (is_plain (operates o)) ms (state_now (of_operator o) c us no_call).next
    operator_kept (operator.Prim q) ps us ms c takes st have is = record { fits = refl; cell = tt }
    operator_kept operator.MergeE ps us ms c takes st have is = prompt_kept operator.MergeE ps us ms c refl refl st have is
    operator_kept operator.Hold ps us ms c takes st have is = prompt_kept operator.Hold ps us ms c refl refl st have is
    operator_kept operator.Changes ps us ms c takes st have is = prompt_kept operator.Changes ps us ms c refl refl st have is
    operator_kept operator.OnceE ps us ms c takes st have is = prompt_kept operator.OnceE ps us ms c refl refl st have is
    operator_kept operator.Delay ps us ms c takes st have is = late_kept operator.Delay ps us ms c refl refl takes st have
    operator_kept operator.DelayE ps us ms c takes st have is = late_kept operator.DelayE ps us ms c refl refl takes st have

    -- the trees of a form behind its cell
    form_keeps : (form : StateForm) (es : List Low) (ms : List ℕ) (k : Kept) (c : Option Cell) → AllSound t (length env) es → AllStand walk Stands env es ms → AllKeep walk Trees env 0 es ms k
        → CellFits (cell_kind form) c
        → (let tree = with_cell c (kept.Group (parts ev vs k 0 (map f es)).kepts) in AllKeep walk News env 0 es ms (behind_cell form tree) × (c ≡ form_cell form tree))
    form_keeps form es ms k c s st kp fits =
        let ks = (parts ev vs k 0 (map f es)).kepts in
        let back = reads_back (cell_kind form) c (kept.Group ks) fits in
        (subst (AllKeep walk News env 0 es ms) (sym back.tree) (subst (λ l. AllKeep walk News env 0 es ms (kept.Group l)) (append-nil ks) (all_keep es 0 ms k [] [] refl s st kp)), sym back.cell)

    call_keeps : (o : Option Low) (qs : AllPlaced) (k : Kept) (m : ℕ) (ps : Parts) → length ps.kepts ≡ m → Have g everything qs.parts ps.values → length qs.parts ≡ m
        → ((body : Low) → o ≡ Some body → Sound t m body) → CallStands Stands o qs → CallKeeps Trees o qs (child k m)
        → CallKeeps News o qs (child (call_done ev k m ps (option_map f o)).kept m)
    call_keeps None qs k m ps count h len s st kp = absurd st
    call_keeps (Some body) qs k m ps count h len s st kp =
        let d = ev (f body) ps.values (child k m) in
        subst (News body qs.parts qs.left) (sym (last_child ps.kepts d.kept m count)) (ih body x qs.parts ps.values qs.left (child k m) (subst (λ j. Sound t j body) (sym len) (s body refl)) h st kp)

    call_parts : (o : Option Low) (es : List Low) (ms : List ℕ) (k : Kept) (m : ℕ) → AllSound t (length env) es → AllStand walk Stands env es ms → AllKeep walk Trees env 0 es ms k
        → AllKeep walk News env 0 es ms (call_done ev k m (parts ev vs k 0 (map f es)) (option_map f o)).kept
    call_parts None es ms k m s st kp =
        let ks = (parts ev vs k 0 (map f es)).kepts in
        subst (λ l. AllKeep walk News env 0 es ms (kept.Group l)) (append-nil ks) (all_keep es 0 ms k [] [] refl s st kp)
    call_parts (Some body) es ms k m s st kp = all_keep es 0 ms k [] (_ ∷ []) refl s st kp

    -- one case for each shape
    shape_keeps : (l : Low-F Low) (ms : List ℕ) (k : Kept) → SoundShape t (length env) l → ShapeStands g p x n walk Stands env ms l → ShapeKeeps g p old walk Trees env ms k l
        → ShapeKeeps g p new walk News env ms (eval_to (suc n) w (erase_step t.kernels (map-Low Low Core f l)) vs k).kept l
    shape_keeps (Low-F.Lit v) ms k s st kp = tt
    shape_keeps (Low-F.Var v) ms k s st kp = tt
    shape_keeps (Low-F.Source s) ms k sound st kp = tt
    shape_keeps (Low-F.Let es b) ms k s st kp =
        let qs = place_all walk env es ms in
        let ps = parts ev vs k 0 (map f es) in
        let inside = body_sound t (length env) (length es) es b s.inside in
        let have = have_all es 0 ms k inside.0 st.0 kp.0 in
        let wide : length (env ++ qs.parts) ≡ length env + length es = length-append env qs.parts ∙ ap (λ m. length env + m) (all_length walk env es ms) in
        let count : length ps.kepts ≡ length es = parts_kepts ev vs k 0 (map f es) ∙ length-map es f in
        let d = ev (f b) (vs ++ ps.values) (child k (length es)) in
        let body : News b (env ++ qs.parts) qs.left d.kept
        = ih b x (env ++ qs.parts) (vs ++ ps.values) qs.left (child k (length es)) (subst (λ m. Sound t m b) (sym wide) inside.1) (have_append g everything env vs qs.parts ps.values en have) st.1 kp.1 in
        subst (λ u. AllKeep walk News env 0 es ms u × News b (env ++ qs.parts) qs.left (child u (length es))) (ap (λ j. kept.Group (ps.kepts ++ (ev (f b) (vs ++ ps.values) (child k j)).kept ∷ [])) (sym (length-map es f)) ∙ opens (core.Let (map f es) (f b)) (Core-F.Let (map f es) (f b)) k (outs-Let (map f es) (f b)))
        (all_keep es 0 ms k [] (d.kept ∷ []) refl inside.0 st.0 kp.0, subst (News b (env ++ qs.parts) qs.left) (sym (last_child ps.kepts d.kept (length es) count)) body)
    shape_keeps (Low-F.If site test a b) ms k s st kp =
        let inside = outer_sound t (length env) (test ∷ a ∷ b ∷ []) s.inside in
        let d = ev (f test) vs (child k 0) in
        let placed = walk test env ms in
        let r = agrees_at n below test x env vs ms (child k 0) inside.0 en st.0 kp.0 in
        let here = ih test x env vs ms (child k 0) inside.0 en st.0 kp.0 in
        subst (λ u. News test env ms (child u 0) × SwitchKeeps g new News a b env placed.part placed.left (child u 1)) (opens (core.If (f test) (f a) (f b)) (Core-F.If (f test) (f a) (f b)) k (outs-If (f test) (f a) (f b))) (
          test_first (on_ok (chosen_by (f a) (f b)) (test_of d.value)) test ms k d here,
          switch_keeps a b placed.part placed.left k d inside.1.0 inside.1.1.0 r st.1 kp.1,
        )
      where
        test_first : (r : Result Rattle.fr_meaning.specs.Evaluation.Choice Bad) (test : Low) (ms : List ℕ) (k : Kept) (d : Done) → News test env ms d.kept → News test env ms (child (switch_done ev vs k d r).kept 0)
        test_first (Err bad) test ms k d h = subst (News test env ms) (sym (child_group (d.kept ∷ kept.Nothing ∷ []) 0)) h
        test_first (Ok c) test ms k d h = subst (News test env ms) (sym (child_group (d.kept ∷ _ ∷ []) 0)) h
    shape_keeps (Low-F.Apply id es) ms k s st kp =
        let qs = place_all walk env es ms in
        let ps = parts ev vs k 0 (map f es) in
        let sound = outer_sound t (length env) es s.inside in
        let have = have_all es 0 ms k sound st.0 kp.0 in
        let m = length es in
        let o = low_body (slice_get p.functions id.0) m in
        let same : option_map f o ≡ body_for (slice_get w.functions id.0) m = sym (bodies_match t.kernels p.functions id.0 m) ∙ ap (λ fs. body_for (slice_get fs id.0) m) (sym plan.functions) in
        let count : length ps.kepts ≡ m = parts_kepts ev vs k 0 (map f es) ∙ length-map es f in
        subst (λ u. AllKeep walk News env 0 es ms u × CallKeeps News o qs (child u m))
        (ap (λ b. (call_done ev k m ps b).kept) same ∙ ap (λ j. (call_done ev k j ps (body_for (slice_get w.functions id.0) j)).kept) (sym (length-map es f)) ∙ opens (core.Apply id (map f es)) (Core-F.Apply id (map f es)) k (outs-Apply id (map f es)))
        (call_parts o es ms k m sound st.0 kp.0, call_keeps o qs k m ps count have (all_length walk env es ms) (λ body e. low_sound t (slice_get p.functions id.0) m body (plan.bodies id.0) e) st.1 kp.1)
    shape_keeps (Low-F.Operator o es) ms k s st kp =
        let qs = place_all walk env es ms in
        let inner = behind_cell (of_operator o) k in
        let ps = parts ev vs inner 0 (map f es) in
        let sound = outer_sound t (length env) es s.inside in
        let have = have_all es 0 ms inner sound st.0 kp.0 in
        let line = state_now (of_operator o) (form_cell (of_operator o) k) ps.values no_call in
        let kept_by = operator_kept o qs.parts ps.values qs.left (form_cell (of_operator o) k) (ap (operator_takes o) (all_length walk env es ms) ∙ s.parts) st.1 have (known_cell (is_plain (operates o)) qs.left (of_operator o) k kp.1) in
        let trees = form_keeps (of_operator o) es ms inner line.next sound st.0 kp.0 kept_by.fits in
        subst (λ u. AllKeep walk News env 0 es ms (behind_cell (of_operator o) u) × Unless (is_plain (operates o)) (CellKeeps new (of_operator o) qs.left u)) (opens (core.Operator o (map f es)) (Core-F.Operator o (map f es)) k (outs-Operator o (map f es)))
        (trees.0, new_cell (is_plain (operates o)) qs.left (of_operator o) _ line.next trees.1 kept_by.cell)
      where
        known_cell : (b : Bool) (ns : List ℕ) (form : StateForm) (k : Kept) → Unless b (CellKeeps old form ns k) → Unless b (before (first ns) ≡ form_cell form k)
        known_cell true ns form k h = tt
        known_cell false ns form k h = h

        new_cell : (b : Bool) (ns : List ℕ) (form : StateForm) (tree : Kept) (c : Option Cell) → c ≡ form_cell form tree → Unless b (g.cell (first ns) ≡ c) → Unless b (CellKeeps new form ns tree)
        new_cell true ns form tree c e h = tt
        new_cell false ns form tree c e h = h ∙ e
    shape_keeps (Low-F.Handler h es id ss) ms k s st kp =
        let qs = place_all walk env es ms in
        let inner = behind_cell (of_handler h) k in
        let ps = parts ev vs inner 0 (map f es) in
        let sound = outer_sound t (length env) es s.inside in
        let have = have_all es 0 ms inner sound st.0 kp.0 in
        let slots = slots_on g everything p pr plan sources before closed settled eras means n few (agrees_at n below) x env vs en ss st.1 in
        let others = map (slot_seen sources vs) ss in
        let cell = form_cell (of_handler h) k in
        let body = kernel_expr t.kernels id.0 in
        let count : length ps.values ≡ handler_parts h = sym (have_length g everything qs.parts ps.values have) ∙ all_length walk env es ms ∙ s.parts in
        let front : take (handler_parts h) (ps.values ++ others) ≡ ps.values = ap (λ m. take m (ps.values ++ others)) (sym count) ∙ take-append_seam ps.values others in
        let behind : drop (handler_parts h) (ps.values ++ others) ≡ others = ap (λ m. drop m (ps.values ++ others)) (sym count) ∙ drop-append_seam ps.values others in
        let call = handler ev vs (length (map f es)) body in
        let means_here = λ (args : List Seen) (e : length args ≡ handler_binds h). (kernel_means g everything p pr plan sources before closed settled eras means n few (agrees_at n below) x env vs en n id.0 (handler_binds h) ss args kept.Nothing below s.fits e).value in
        let both = have_append g everything qs.parts ps.values (slot_parts p env ss) others have slots in
        let good = node_good (handles h id.0) (qs.parts ++ slot_parts p env ss) (ps.values ++ others) qs.left cell refl st.2 both kp.1 in
        let value : (state_now (of_handler h) cell ps.values call).value ≡ (work_line t n (handles h id.0) cell (ps.values ++ others)).value
        = sym (ap (λ xs. (state_now (of_handler h) cell xs (kernel_call t n id.0 (drop (handler_parts h) (ps.values ++ others)))).value) front
        ∙ ap (λ xs. (state_now (of_handler h) cell ps.values (kernel_call t n id.0 xs)).value) behind ∙ handler_value h cell ps.values (kernel_call t n id.0 others) call means_here) in
        let next : (work_line t n (handles h id.0) cell (ps.values ++ others)).next ≡ (state_now (of_handler h) cell ps.values call).next
        = ap (λ xs. (state_now (of_handler h) cell xs (kernel_call t n id.0 (drop (handler_parts h) (ps.values ++ others)))).next) front
        ∙ ap (λ xs. (state_now (of_handler h) cell ps.values (kernel_call t n id.0 xs)).next) behind ∙ handler_next h cell ps.values (kernel_call t n id.0 others) call means_here in
        let line = state_now (of_handler h) cell ps.values call in
        let trees = form_keeps (of_handler h) es ms inner line.next sound st.0 kp.0 (handler_fits h cell ps.values call good.0 (value ∙ good.1)) in
        let has = node_cell (handles h id.0) (qs.parts ++ slot_parts p env ss) (ps.values ++ others) qs.left cell refl refl st.2 both kp.1 in
        subst (λ u. AllKeep walk News env 0 es ms (behind_cell (of_handler h) u) × CellKeeps new (of_handler h) qs.left u) (opens (core.Handler h (map f es) body) (Core-F.Handler h (map f es) body) k (outs-Handler h (map f es) body))
        (trees.0, has ∙ next ∙ trees.1)
    shape_keeps (Low-F.Loop l es id ss) ms k s st kp =
        let ks = (parts ev vs k 0 (map f es)).kepts in
        let body = kernel_expr t.kernels id.0 in
        subst (AllKeep walk News env 0 es ms) (opens (core.Loop l (map f es) body) (Core-F.Loop l (map f es) body) k (outs-Loop l (map f es) body))
        (subst (λ l. AllKeep walk News env 0 es ms (kept.Group l)) (append-nil ks) (all_keep es 0 ms k [] [] refl (outer_sound t (length env) es s.inside) st.0 kp))
    shape_keeps (Low-F.Feedback init body) ms k s st kp =
        let i = walk init env ms in
        let inner = behind_cell of_feedback k in
        let cell = form_cell of_feedback k in
        let d = ev (f init) vs (child inner 0) in
        let sound0 = subst (λ m. Sound t m init) (zero_more (length env)) (s.inside 0 (0, init) refl) in
        let r = agrees_at n below init x env vs ms (child inner 0) sound0 en st.0 kp.0 in
        let c = first i.left in
        let inside = env ++ signal c ∷ [] in
        let x0 = fed cell d.value in
        let last = (walk body inside (rest i.left)).part in
        let rule : IsWorked g t (before c) c feeds (i.part ∷ []) = rule_on g everything t sources before closed settled x n (works feeds) (i.part ∷ []) (Some last) i.left tt st.2 in
        let name : g.value c ≡ x0 = rule.value ∙ ap (λ o. fed o (part_value g i.part)) kp.2 ∙ ap (fed cell) (r (each_known i.part)) in
        let wide : length inside ≡ length env + 1 = length-append env (signal c ∷ []) in
        let sound1 = subst (λ m. Sound t m body) (sym wide) (s.inside 1 (1, body) refl) in
        let b = ev (f body) (vs ++ x0 ∷ []) (child inner 1) in
        let have = have_append g everything env vs (signal c ∷ []) (x0 ∷ []) en (λ kn. name, tt) in
        let value : part_value g last ≡ b.value = agrees_at n below body x inside (vs ++ x0 ∷ []) (rest i.left) (child inner 1) sound1 have st.1 kp.1 (each_known last) in
        let latched = ended.latched c feeds last st.2.live st.2.kind refl st.2.later in
        let comes : state_next of_feedback (d.value ∷ b.value ∷ []) ≡ Ok latched.taken = ap (latch feeds) (sym value) ∙ latched.takes in
        let next : (beside b.value (state_next of_feedback (d.value ∷ b.value ∷ []))).next ≡ Some latched.taken = ap (λ r. (beside b.value r).next) comes in
        let ks = d.kept ∷ b.kept ∷ [] in
        let back = reads_back keeps_datum (Some latched.taken) (kept.Group ks) (datum_fits _ latched.taken comes) in
        let here = ih init x env vs ms (child inner 0) sound0 en st.0 kp.0 in
        let there = ih body x inside (vs ++ x0 ∷ []) (rest i.left) (child inner 1) sound1 have st.1 kp.1 in
        subst (λ u. News init env ms (child (behind_cell of_feedback u) 0) × News body inside (rest i.left) (child (behind_cell of_feedback u) 1) × CellKeeps new of_feedback i.left u)
        (ap (λ o. with_cell o (kept.Group ks)) (sym next) ∙ opens (core.Feedback (f init) (f body)) (Core-F.Feedback (f init) (f body)) k (outs-Feedback (f init) (f body))) (
          subst (News init env ms) (sym (ap (λ u. child u 0) back.tree ∙ child_group ks 0)) here,
          subst (News body inside (rest i.left)) (sym (ap (λ u. child u 1) back.tree ∙ child_group ks 1)) there,
          latched.kept ∙ sym back.cell,
        )
      where
        zero_more : (m : ℕ) → m + 0 ≡ m
        zero_more m = omega arith
    shape_keeps (Low-F.Collapse id ss) ms k s st kp = tt

  -- THE TREES. Where an instant has ended, the graph stands for the tree that evaluating afresh keeps.
  pub trees_on : (n : ℕ) → n ≤ 2001 → StandsAt n
  unfolding place eval_to Wired Keeps
  trees_on zero few e x env vs ms k s en st kp = absurd st
  trees_on (suc n) few e x env vs ms k s en st kp =
      let below : n ≤ 2001 = omega (arith, few) in
      subst (λ c. ShapeKeeps g p new (place p n) (Keeps g p new n) env ms (eval_to (suc n) w c vs k).kept (out-Low e)) (sym (erase-opens t.kernels e))
      (shape_keeps n few (trees_on n below) x env vs en (out-Low e) ms k (sound_shape t (length env) e s) st kp)
