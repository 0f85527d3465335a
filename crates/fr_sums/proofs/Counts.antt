-- The nodes along a walk are the sites of the evaluation, and what stands for an expression varies where the expression does.
use Rattle.std.proofs.Common.{◌≡◌, ◌≤◌, ◌+◌, ◌&&◌, ◌||◌, not, ℕ, zero, suc, Bool, true, false, if◌then◌else◌, List, [], ◌∷◌, ◌++◌, map, length, slice_get, refl, ap, sym, ◌∙◌, subst, arith, Option, Some, None, Result, Ok, Err}
use Rattle.std.proofs.lemmas.List.{length-append, map-append}
use Rattle.fr_value.specs.declared.now.Now.{Now}
use Rattle.fr_value.specs.declared.now.Bad.{Bad}
use Rattle.fr_core.specs.declared.core_form.Core.{Core}
use Rattle.fr_core.specs.declared.core_form.Operator.{Operator}
use Rattle.fr_core.specs.declared.core_form.Operator.TheVariants as operator
use Rattle.fr_core.specs.declared.kept.Key.TheVariants as key
use Rattle.fr_core.specs.declared.kept.Kept.{Kept}
use Rattle.fr_core.specs.declared.lowered.Low.{Low, out-Low}
use Rattle.fr_core.specs.declared.lowered.Low.TheOpen.{Low-F}
use Rattle.fr_core.specs.declared.lowered.Slot.{Slot}
use Rattle.fr_core.specs.declared.lowered.Slot.TheVariants as slot
use Rattle.fr_core.specs.declared.program.Program.{Program}
use Rattle.fr_meaning.specs.Words.{Seen, Env, test_of}
use Rattle.fr_meaning.specs.Cells.{Cell, child, under_key}
use Rattle.fr_meaning.specs.States.{of_operator, of_handler, of_feedback, fed}
use Rattle.fr_meaning.specs.Evaluation.{World, world_of, Ev, parts, form_cell, behind_cell, eval_to}
use Rattle.fr_kernel.specs.Kernels.{Kernels}
use Rattle.fr_kernel.specs.Erasure.{erase}
use Rattle.fr_graph.specs.Graph.{Part, steady, signal, Work, operates, handles, loops, runs, feeds, works, watch, Graph, part_value, IsClean, work_line, is_plain}
use Rattle.fr_graph.specs.Walk.{Plan, first, rest, Walk, AllPlaced, by_value, by_next, place_all, all_steady, steady_values, place_work, place_chosen, place_switch, place_call, variable_part, slot_parts, low_body, place_shape, place}
use Rattle.fr_graph.specs.Wired.{IsNext, inputs_of, later_of, Either, WorkStands, AllStand, Chosen, SwitchStands, CallStands, ShapeStands, Wired, EraStands}
use Rattle.fr_graph.specs.Keeps.{Asked, AllKeep, SwitchKeeps, CallKeeps, ShapeKeeps, Keeps, asks_nothing, everything}
use Rattle.fr_graph.specs.Known.{IsClosed, Have, IsWatched, IsWorked, SettledOn, ErasStandOn}
use Rattle.fr_graph.specs.Sound.{Sound, IsPlanOf, KernelsMean}
use Rattle.fr_graph.proofs.Parts.{have_append}
use Rattle.fr_graph.proofs.Works.{rule_on}
use Rattle.fr_graph.proofs.Inside.{SoundShape, sound_shape, AllSound, outer_sound, body_sound, all_length, low_sound}
use Rattle.fr_graph.proofs.Values.{AgreesAt, values_on, all_on}
use Rattle.fr_graph.proofs.Trees.{each_known}
use Rattle.fr_sums.specs.Sites.{Site, of_kernel, of_form, of_watch, of_result, Setting, Scope, with_more, Marking, Counting, marks_from, any_varies, found_varies, slot_varies, operator_varies, branch_varies, call_varies, shape_varies, varies, sites_from, when, operator_site, branch_sites, call_sites, shape_sites, sites}
use Rattle.fr_sums.specs.Along.{Adding, add_all, add_work, add_chosen, add_switch, add_call, add_shape, along, all_entered}
use Rattle.fr_sums.specs.Members.{work_site, site_of}
use Rattle.fr_sums.specs.Spent.{setting_of}

-- what stands for an expression varies where it is a signal
abbrev pub mark_of : Part → Bool
mark_of (steady v) = false
mark_of (signal m) = true

abbrev pub marks_of : List Part → List Bool
marks_of ps = map mark_of ps

variable_mark : (env : List Part) (i : ℕ) → mark_of (variable_part (slice_get env i)) ≡ found_varies (slice_get (marks_of env) i)
variable_mark [] i = refl
variable_mark (h ∷ env) zero = refl
variable_mark (h ∷ env) (suc i) = variable_mark env i

slot_marks : (p : Plan) (env : List Part) (ss : List Slot) → marks_of (slot_parts p env ss) ≡ map (slot_varies (marks_of env)) ss
slot_marks p env [] = refl
slot_marks p env (slot.Var x ∷ ss) = ap (λ b. b ∷ marks_of (slot_parts p env ss)) (variable_mark env x.0) ∙ ap (λ bs. found_varies (slice_get (marks_of env) x.0) ∷ bs) (slot_marks p env ss)
slot_marks p env (slot.Source s ∷ ss) = ap (λ bs. true ∷ bs) (slot_marks p env ss)

steady_marks : (ps : List Part) → any_varies (marks_of ps) ≡ not (all_steady ps)
steady_marks [] = refl
steady_marks (steady v ∷ ps) = steady_marks ps
steady_marks (signal m ∷ ps) = refl

-- a work that isn't plain varies, and a plain one where one of its parts does
plain_mark : (p : Plan) (n : ℕ) (w : Work) (ps : List Part) (ms : List ℕ) → is_plain w ≡ true → mark_of (place_work p n w ps ms).part ≡ any_varies (marks_of ps)
plain_mark p n w ps ms plain =
    ap (λ b. mark_of (if b && all_steady ps then by_value (work_line p.table n w None (steady_values ps)).value ms else by_next ms).part) plain
    ∙ by_steady (all_steady ps) ∙ sym (steady_marks ps)
  where
    by_steady : (b : Bool) → mark_of (if b then by_value (work_line p.table n w None (steady_values ps)).value ms else by_next ms).part ≡ not b
    by_steady true = refl
    by_steady false = refl

other_mark : (p : Plan) (n : ℕ) (w : Work) (ps : List Part) (ms : List ℕ) → is_plain w ≡ false → mark_of (place_work p n w ps ms).part ≡ true
other_mark p n w ps ms plain = ap (λ b. mark_of (if b && all_steady ps then by_value (work_line p.table n w None (steady_values ps)).value ms else by_next ms).part) plain

operator_mark : (p : Plan) (n : ℕ) (o : Operator) (ps : List Part) (ms : List ℕ) → mark_of (place_work p n (operates o) ps ms).part ≡ operator_varies o (marks_of ps)
operator_mark p n (operator.Prim q) ps ms = plain_mark p n (operates (operator.Prim q)) ps ms refl
operator_mark p n operator.MergeE ps ms = refl
operator_mark p n operator.Hold ps ms = refl
operator_mark p n operator.Changes ps ms = refl
operator_mark p n operator.OnceE ps ms = refl
operator_mark p n operator.Delay ps ms = refl
operator_mark p n operator.DelayE ps ms = refl

module _ (g : Graph) (p : Plan) (pr : Program) (plan : IsPlanOf pr p) (sources : List Now) (before : ℕ → Option Cell)
    (settled : SettledOn g everything p.table sources before) (eras : ErasStandOn g everything p) (means : KernelsMean p pr sources) (weigh : Site → ℕ) where
  abbrev t : Kernels
  t = p.table

  abbrev w : World
  w = world_of pr sources

  abbrev f : Low → Core
  f = erase t.kernels

  abbrev s : Setting
  s = setting_of pr p sources

  closed : IsClosed g everything
  closed = record { input = λ m j a b c. tt; watched = λ w a b env lv is kn. tt }

  abbrev old : Asked
  old = record { known = everything; cell = before; asks = asks_nothing }

  agrees_at : (n : ℕ) → n ≤ 2001 → AgreesAt g everything p pr plan sources before closed settled eras means n
  agrees_at = values_on g everything p pr plan sources before closed settled eras means

  -- what a node counts, by what it stands for
  abbrev pub weight : ℕ → ℕ
  weight m = weigh (site_of (g.kind m))

  -- the scope of what stands for variables, with their values
  abbrev scope : List Part → Env → Scope
  scope env vs = record { varies = marks_of env; values = vs }

  -- what stands for an expression varies where this says so, and its nodes count as much
  abbrev pub Fits : Bool → Bool → ℕ → ℕ → Type 0
  Fits mark varying sum count = (mark ≡ varying) × (sum ≡ count)

  abbrev pub CountsAt : ℕ → Type 0
  CountsAt n = (e : Low) (x : ℕ) (env : List Part) (vs : Env) (ms : List ℕ) (k : Kept) → Sound t (length env) e → Have g everything env vs → Wired g p x n e env ms → Keeps g p old n e env ms k
      → Fits (mark_of (place p n e env ms).part) (varies s n e (scope env vs) k) (along g p all_entered weight n e env ms) (sites s weigh n e (scope env vs) k)

  -- the node of a work counts as the work's site
  node_weight : (x n : ℕ) (wk : Work) (ins : List Part) (later : Option Part) (ms : List ℕ) → IsNext g x n (works wk) ins later ms → weight (first ms) ≡ weigh (work_site wk)
  node_weight x n wk ins later ms st = ap (λ j. weigh (site_of j)) st.kind

  plain_count : (x n : ℕ) (wk : Work) (ps : List Part) (ms : List ℕ) → is_plain wk ≡ true → work_site wk ≡ of_kernel → WorkStands g p x n wk ps ms → add_work weight wk ps ms ≡ when (any_varies (marks_of ps)) (weigh of_kernel)
  plain_count x n wk ps ms plain site st =
      ap (λ b. when (not (b && all_steady ps)) (weight (first ms))) plain
      ∙ by_steady (all_steady ps) (subst (λ b. Either (b && all_steady ps) (IsClean (work_line t n wk None (steady_values ps))) (IsNext g x n (works wk) (inputs_of wk ps) (later_of wk ps) ms)) plain st)
      ∙ ap (λ b. when b (weigh of_kernel)) (sym (steady_marks ps))
    where
      by_steady : (b : Bool) → Either b (IsClean (work_line t n wk None (steady_values ps))) (IsNext g x n (works wk) (inputs_of wk ps) (later_of wk ps) ms) → when (not b) (weight (first ms)) ≡ when (not b) (weigh of_kernel)
      by_steady true st = refl
      by_steady false st = node_weight x n wk (inputs_of wk ps) (later_of wk ps) ms st ∙ ap weigh site

  other_count : (x n : ℕ) (wk : Work) (ps : List Part) (ms : List ℕ) → is_plain wk ≡ false → WorkStands g p x n wk ps ms → add_work weight wk ps ms ≡ weigh (work_site wk)
  other_count x n wk ps ms plain st =
      ap (λ b. when (not (b && all_steady ps)) (weight (first ms))) plain
      ∙ node_weight x n wk (inputs_of wk ps) (later_of wk ps) ms (subst (λ b. Either (b && all_steady ps) (IsClean (work_line t n wk None (steady_values ps))) (IsNext g x n (works wk) (inputs_of wk ps) (later_of wk ps) ms)) plain st)

  operator_count : (x n : ℕ) (o : Operator) (ps : List Part) (ms : List ℕ) → WorkStands g p x n (operates o) ps ms → add_work weight (operates o) ps ms ≡ operator_site weigh o (marks_of ps)
  operator_count x n (operator.Prim q) ps ms st = plain_count x n (operates (operator.Prim q)) ps ms refl refl st
  operator_count x n operator.MergeE ps ms st = other_count x n (operates operator.MergeE) ps ms refl st
  operator_count x n operator.Hold ps ms st = other_count x n (operates operator.Hold) ps ms refl st
  operator_count x n operator.Changes ps ms st = other_count x n (operates operator.Changes) ps ms refl st
  operator_count x n operator.OnceE ps ms st = other_count x n (operates operator.OnceE) ps ms refl st
  operator_count x n operator.Delay ps ms st = other_count x n (operates operator.Delay) ps ms refl st
  operator_count x n operator.DelayE ps ms st = other_count x n (operates operator.DelayE) ps ms refl st

  module _ (n : ℕ) (few : suc n ≤ 2001) (ih : CountsAt n) (x : ℕ) (env : List Part) (vs : Env) (en : Have g everything env vs) where
    below : n ≤ 2001
    below = omega (arith, few)

    abbrev ev : Ev
    ev = eval_to n w

    abbrev walk : Walk
    walk = place p n

    abbrev Stands : Low → List Part → List ℕ → Type 0
    Stands = Wired g p x n

    abbrev Trees : Low → List Part → List ℕ → Kept → Type 0
    Trees = Keeps g p old n

    abbrev add : Adding
    add = along g p all_entered weight n

    abbrev mark : Marking
    mark = varies s n

    abbrev count : Counting
    count = sites s weigh n

    abbrev c : Scope
    c = scope env vs

    have_all : (es : List Low) (i : ℕ) (ms : List ℕ) (k : Kept) → AllSound t (length env) es → AllStand walk Stands env es ms → AllKeep walk Trees env i es ms k
        → Have g everything (place_all walk env es ms).parts (parts ev vs k i (map f es)).values
    have_all = all_on g everything p pr plan sources before closed settled eras means n few (agrees_at n below) x env vs en

    all_count : (es : List Low) (i : ℕ) (ms : List ℕ) (k : Kept) → AllSound t (length env) es → AllStand walk Stands env es ms → AllKeep walk Trees env i es ms k
        → (marks_of (place_all walk env es ms).parts ≡ marks_from mark c k i es) × (add_all walk add env es ms ≡ sites_from count c k i es)
    all_count [] i ms k s st kp = (refl, refl)
    all_count (e ∷ es) i ms k s st kp =
        let h = ih e x env vs ms (child k i) s.0 en st.0 kp.0 in
        let t = all_count es (i + 1) (walk e env ms).left k s.1 st.1 kp.1 in (
          ap (λ b. b ∷ marks_of (place_all walk env es (walk e env ms).left).parts) h.0 ∙ ap (λ bs. mark e c (child k i) ∷ bs) t.0,
          ap (λ a. a + add_all walk add env es (walk e env ms).left) h.1 ∙ ap (λ a. count e c (child k i) + a) t.1,
        )

    -- a switch whose test never changes
    chosen_count : (a b : Low) (y : ℕ) (ms ns : List ℕ) (k : Kept) (o : Result Bool Bad) → Sound t (length env) a → Sound t (length env) b
        → Chosen o (Wired g p y n a env ms) (Wired g p y n b env ms) → Chosen o (Trees a env ms (under_key (key.Test true) k)) (Trees b env ms (under_key (key.Test false) k))
        → Fits (mark_of (place_chosen walk a b env ms o).part) (branch_varies mark a b c k o) (add_chosen add a b env ms o) (branch_sites count a b c k o)
    chosen_count a b y ms ns k (Err bad) sa sb st kp = absurd st
    chosen_count a b y ms ns k (Ok true) sa sb st kp = ih a y env vs ms (under_key (key.Test true) k) sa en st kp
    chosen_count a b y ms ns k (Ok false) sa sb st kp = ih b y env vs ms (under_key (key.Test false) k) sb en st kp

    -- the era of a watch
    era_count : (a b : Low) (m : ℕ) (k : Kept) (o : Result Bool Bad) → Sound t (length env) a → Sound t (length env) b → g.level m ≡ n
        → Chosen o (EraStands g p m a env) (EraStands g p m b env) → Chosen o (Trees a env (g.members (suc m)) (under_key (key.Test true) k)) (Trees b env (g.members (suc m)) (under_key (key.Test false) k))
        → add_chosen add a b env (g.members (suc m)) o ≡ branch_sites count a b c k o
    era_count a b m k (Err bad) sa sb level st kp = absurd st
    era_count a b m k (Ok true) sa sb level st kp = (ih a (suc m) env vs (g.members (suc m)) (under_key (key.Test true) k) sa en (subst (λ j. Wired g p (suc m) j a env (g.members (suc m))) level st.wired) kp).1
    era_count a b m k (Ok false) sa sb level st kp = (ih b (suc m) env vs (g.members (suc m)) (under_key (key.Test false) k) sb en (subst (λ j. Wired g p (suc m) j b env (g.members (suc m))) level st.wired) kp).1

    -- behind a test that varies where this says so
    switch_count : (a b : Low) (h : Part) (ms : List ℕ) (k : Kept) (d : Seen) (varying : Bool) → Sound t (length env) a → Sound t (length env) b → part_value g h ≡ d → mark_of h ≡ varying
        → SwitchStands g x n Stands a b env h ms → SwitchKeeps g old Trees a b env h ms k
        → Fits (mark_of (place_switch walk a b env h ms).part) (varying || branch_varies mark a b c k (test_of d))
        (add_switch g all_entered weight add a b env h ms) (when varying (weigh of_watch + weigh of_result) + branch_sites count a b c k (test_of d))
    switch_count a b (steady v) ms k d varying sa sb value marked st kp =
        subst (λ u. Fits (mark_of (place_chosen walk a b env ms (test_of v)).part) (u || branch_varies mark a b c k (test_of d)) (add_chosen add a b env ms (test_of v)) (when u (weigh of_watch + weigh of_result) + branch_sites count a b c k (test_of d))) marked
        (subst (λ u. Fits (mark_of (place_chosen walk a b env ms (test_of v)).part) (branch_varies mark a b c k (test_of u)) (add_chosen add a b env ms (test_of v)) (0 + branch_sites count a b c k (test_of u))) value
        (let h = chosen_count a b x ms ms k (test_of v) sa sb st kp in (h.0, omega (arith, h.1))))
    switch_count a b (signal m) ms k d varying sa sb value marked st kp =
        let i = first ms in
        let r = first (rest ms) in
        let rule : IsWatched g i (signal m) = rule_on g everything t sources before closed settled x n (watch a b env) (signal m ∷ []) None ms tt st.watch in
        let told : test_of (g.value i) ≡ test_of d = rule.value ∙ sym rule.test ∙ ap test_of value in
        let era : add_chosen add a b env (g.members (suc i)) (test_of (g.value i)) ≡ branch_sites count a b c k (test_of (g.value i))
        = era_count a b i k (test_of (g.value i)) sa sb st.watch.level (eras i a b env tt st.watch.live st.watch.kind) (kp tt).1 in
        let one : weight i ≡ weigh of_watch = ap (λ j. weigh (site_of j)) st.watch.kind in
        let two : weight r ≡ weigh of_result = ap (λ j. weigh (site_of j)) st.kind in
        subst (λ u. Fits true (u || branch_varies mark a b c k (test_of d)) (weight i + (weight r + add_chosen add a b env (g.members (suc i)) (test_of (g.value i)))) (when u (weigh of_watch + weigh of_result) + branch_sites count a b c k (test_of d))) marked
        (refl, (let last : add_chosen add a b env (g.members (suc i)) (test_of (g.value i)) ≡ branch_sites count a b c k (test_of d) = era ∙ ap (branch_sites count a b c k) told in omega (arith, one, two, last)))

    call_count : (o : Option Low) (q : AllPlaced) (us : Env) (marks : List Bool) (k : Kept) (m : ℕ) → Have g everything q.parts us → marks_of q.parts ≡ marks → length q.parts ≡ m
        → ((body : Low) → o ≡ Some body → Sound t m body) → CallStands Stands o q → CallKeeps Trees o q k
        → Fits (mark_of (place_call walk o q).part) (call_varies mark o (record { varies = marks; values = us }) k) (add_call add o q) (call_sites count o (record { varies = marks; values = us }) k)
    call_count None q us marks k m h marked len s st kp = absurd st
    call_count (Some body) q us marks k m h marked len sound st kp =
        subst (λ bs. Fits (mark_of (walk body q.parts q.left).part) (mark body (record { varies = bs; values = us }) k) (add body q.parts q.left) (count body (record { varies = bs; values = us }) k)) marked
        (ih body x q.parts us q.left k (subst (λ j. Sound t j body) (sym len) (sound body refl)) h st kp)

    -- a body with further variables in scope
    inside_count : (body : Low) (ps : List Part) (us : Env) (marks : List Bool) (ms : List ℕ) (k : Kept) → Sound t (length (env ++ ps)) body → Have g everything ps us → marks_of ps ≡ marks
        → Stands body (env ++ ps) ms → Trees body (env ++ ps) ms k
        → Fits (mark_of (walk body (env ++ ps) ms).part) (mark body (with_more c marks us) k) (add body (env ++ ps) ms) (count body (with_more c marks us) k)
    inside_count body ps us marks ms k sound h marked st kp =
        subst (λ bs. Fits (mark_of (walk body (env ++ ps) ms).part) (mark body (record { varies = bs; values = vs ++ us }) k) (add body (env ++ ps) ms) (count body (record { varies = bs; values = vs ++ us }) k))
        (map-append mark_of env ps ∙ ap (λ bs. marks_of env ++ bs) marked)
        (ih body x (env ++ ps) (vs ++ us) ms k sound (have_append g everything env vs ps us en h) st kp)

    -- one case for each shape
    shape_count : (l : Low-F Low) (ms : List ℕ) (k : Kept) → SoundShape t (length env) l → ShapeStands g p x n walk Stands env ms l → ShapeKeeps g p old walk Trees env ms k l
        → Fits (mark_of (place_shape p n walk env ms l).part) (shape_varies s n mark c k l) (add_shape g p all_entered weight walk add env ms l) (shape_sites s weigh n mark count c k l)
    shape_count (Low-F.Lit v) ms k sound st kp = (refl, refl)
    shape_count (Low-F.Var v) ms k sound st kp = (variable_mark env v.0, refl)
    shape_count (Low-F.Source i) ms k sound st kp = (refl, refl)
    shape_count (Low-F.Let es b) ms k sound st kp =
        let qs = place_all walk env es ms in
        let ps = parts ev vs k 0 (map f es) in
        let inside = body_sound t (length env) (length es) es b sound.inside in
        let all = all_count es 0 ms k inside.0 st.0 kp.0 in
        let wide : length (env ++ qs.parts) ≡ length env + length es = length-append env qs.parts ∙ ap (λ m. length env + m) (all_length walk env es ms) in
        let body = inside_count b qs.parts ps.values (marks_from mark c k 0 es) qs.left (child k (length es)) (subst (λ m. Sound t m b) (sym wide) inside.1) (have_all es 0 ms k inside.0 st.0 kp.0) all.0 st.1 kp.1 in
        (body.0, ap (λ a. a + add b (env ++ qs.parts) qs.left) all.1 ∙ ap (λ a. sites_from count c k 0 es + a) body.1)
    shape_count (Low-F.If site test a b) ms k sound st kp =
        let inside = outer_sound t (length env) (test ∷ a ∷ b ∷ []) sound.inside in
        let placed = walk test env ms in
        let d = ev (f test) vs (child k 0) in
        let value = agrees_at n below test x env vs ms (child k 0) inside.0 en st.0 kp.0 (each_known placed.part) in
        let front = ih test x env vs ms (child k 0) inside.0 en st.0 kp.0 in
        let behind = switch_count a b placed.part placed.left (child k 1) d.value (mark test c (child k 0)) inside.1.0 inside.1.1.0 value front.0 st.1 kp.1 in
        (behind.0, ap (λ u. u + add_switch g all_entered weight add a b env placed.part placed.left) front.1 ∙ ap (λ u. count test c (child k 0) + u) behind.1)
    shape_count (Low-F.Apply id es) ms k sound st kp =
        let qs = place_all walk env es ms in
        let ps = parts ev vs k 0 (map f es) in
        let m = length es in
        let o = low_body (slice_get p.functions id.0) m in
        let parts_sound = outer_sound t (length env) es sound.inside in
        let all = all_count es 0 ms k parts_sound st.0 kp.0 in
        let call = call_count o qs ps.values (marks_from mark c k 0 es) (child k m) m (have_all es 0 ms k parts_sound st.0 kp.0) all.0 (all_length walk env es ms)
        (λ body e. low_sound t (slice_get p.functions id.0) m body (plan.bodies id.0) e) st.1 kp.1 in
        (call.0, ap (λ a. a + add_call add o qs) all.1 ∙ ap (λ a. sites_from count c k 0 es + a) call.1)
    shape_count (Low-F.Operator o es) ms k sound st kp =
        let qs = place_all walk env es ms in
        let inner = behind_cell (of_operator o) k in
        let all = all_count es 0 ms inner (outer_sound t (length env) es sound.inside) st.0 kp.0 in (
          operator_mark p n o qs.parts qs.left ∙ ap (operator_varies o) all.0,
          ap (λ a. a + add_work weight (operates o) qs.parts qs.left) all.1
              ∙ ap (λ a. sites_from count c inner 0 es + a) (operator_count x n o qs.parts qs.left st.1 ∙ ap (operator_site weigh o) all.0),
        )
    shape_count (Low-F.Handler h es id ss) ms k sound st kp =
        let qs = place_all walk env es ms in
        let ps = qs.parts ++ slot_parts p env ss in
        let inner = behind_cell (of_handler h) k in
        let all = all_count es 0 ms inner (outer_sound t (length env) es sound.inside) st.0 kp.0 in (
          other_mark p n (handles h id.0) ps qs.left refl,
          ap (λ a. a + add_work weight (handles h id.0) ps qs.left) all.1 ∙ ap (λ a. sites_from count c inner 0 es + a) (other_count x n (handles h id.0) ps qs.left refl st.2),
        )
    shape_count (Low-F.Loop l es id ss) ms k sound st kp =
        let qs = place_all walk env es ms in
        let ps = qs.parts ++ slot_parts p env ss in
        let all = all_count es 0 ms k (outer_sound t (length env) es sound.inside) st.0 kp in
        let marked : marks_of ps ≡ marks_from mark c k 0 es ++ map (slot_varies c.varies) ss
        = map-append mark_of qs.parts (slot_parts p env ss) ∙ ap (λ bs. bs ++ marks_of (slot_parts p env ss)) all.0 ∙ ap (λ bs. marks_from mark c k 0 es ++ bs) (slot_marks p env ss) in (
          plain_mark p n (loops l id.0) ps qs.left refl ∙ ap any_varies marked,
          ap (λ a. a + add_work weight (loops l id.0) ps qs.left) all.1
              ∙ ap (λ a. sites_from count c k 0 es + a) (plain_count x n (loops l id.0) ps qs.left refl refl st.2 ∙ ap (λ bs. when (any_varies bs) (weigh of_kernel)) marked),
        )
    shape_count (Low-F.Feedback init body) ms k sound st kp =
        let i = walk init env ms in
        let inner = behind_cell of_feedback k in
        let cell = form_cell of_feedback k in
        let d = ev (f init) vs (child inner 0) in
        let sound0 = subst (λ m. Sound t m init) (zero_more (length env)) (sound.inside 0 (0, init) refl) in
        let r = agrees_at n below init x env vs ms (child inner 0) sound0 en st.0 kp.0 in
        let front = ih init x env vs ms (child inner 0) sound0 en st.0 kp.0 in
        let m = first i.left in
        let last = (walk body (env ++ signal m ∷ []) (rest i.left)).part in
        let rule : IsWorked g t (before m) m feeds (i.part ∷ []) = rule_on g everything t sources before closed settled x n (works feeds) (i.part ∷ []) (Some last) i.left tt st.2 in
        let name : g.value m ≡ fed cell d.value = rule.value ∙ ap (λ o. fed o (part_value g i.part)) kp.2 ∙ ap (fed cell) (r (each_known i.part)) in
        let wide : length (env ++ signal m ∷ []) ≡ length env + 1 = length-append env (signal m ∷ []) in
        let inside = inside_count body (signal m ∷ []) (fed cell d.value ∷ []) (true ∷ []) (rest i.left) (child inner 1) (subst (λ m. Sound t m body) (sym wide) (sound.inside 1 (1, body) refl)) (λ kn. name, tt) refl st.1 kp.1 in
        let node : weight m ≡ weigh (of_form of_feedback) = node_weight x n feeds (i.part ∷ []) (Some last) i.left st.2 in (
          inside.0,
          ap (λ a. a + (weight m + add body (env ++ signal m ∷ []) (rest i.left))) front.1
              ∙ ap (λ a. count init c (child inner 0) + (a + add body (env ++ signal m ∷ []) (rest i.left))) node
              ∙ ap (λ a. count init c (child inner 0) + (weigh (of_form of_feedback) + a)) inside.1,
        )
      where
        zero_more : (m : ℕ) → m + 0 ≡ m
        zero_more m = omega arith
    shape_count (Low-F.Collapse id ss) ms k sound st kp =
        let ps = slot_parts p env ss in (
          plain_mark p n (runs id.0) ps ms refl ∙ ap any_varies (slot_marks p env ss),
          plain_count x n (runs id.0) ps ms refl refl st.1 ∙ ap (λ bs. when (any_varies bs) (weigh of_kernel)) (slot_marks p env ss),
        )

  -- THE COUNTS. In a settled graph what stands for an expression varies where the expression does, and its nodes, those of eras too, are the sites of its evaluation.
  pub counts_on : (n : ℕ) → n ≤ 2001 → CountsAt n
  unfolding place eval_to Wired Keeps varies sites along
  counts_on zero few e x env vs ms k sound en st kp = absurd st
  counts_on (suc n) few e x env vs ms k sound en st kp =
      let below : n ≤ 2001 = omega (arith, few) in
      shape_count n few (counts_on n below) x env vs en (out-Low e) ms k (sound_shape t (length env) e sound) st kp
