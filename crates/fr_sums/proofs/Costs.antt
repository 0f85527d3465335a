-- What is spent along a walk, by the cost of the evaluation.
use Rattle.std.proofs.Common.{◌≡◌, ◌⊎◌, inl, inr, ◌≤◌, ◌+◌, ◌&&◌, not, ℕ, zero, suc, Bool, true, false, List, [], ◌∷◌, ◌++◌, map, take, drop, length, slice_get, refl, ap, sym, ◌∙◌, subst, append-nil, arith, Option, Some, None, Result, Ok, Err}
use Rattle.std.specs.Option.{option_map}
use Rattle.std.proofs.lemmas.Bool.{false≢true}
use Rattle.std.proofs.lemmas.List.{length-map, length-append}
use Rattle.std.proofs.Math.Seq.{take-append_seam, drop-append_seam}
use Rattle.fr_value.specs.declared.now.Now.{Now}
use Rattle.fr_value.specs.declared.now.Bad.{Bad}
use Rattle.fr_links.proofs.Has.{by_truth}
use Rattle.fr_core.specs.Shapes.{handler_parts, handler_binds, loop_binds}
use Rattle.fr_core.specs.declared.core_form.Core.{Core, out-Core}
use Rattle.fr_core.specs.declared.core_form.Core.TheOpen.{Core-F}
use Rattle.fr_core.specs.declared.core_form.Core.TheVariants as core
use Rattle.fr_core.specs.declared.core_form.Core.TheVariants.{outs-Lit, outs-Var, outs-Source, outs-Let, outs-If, outs-Apply, outs-Operator, outs-Handler, outs-Loop, outs-Feedback}
use Rattle.fr_core.specs.declared.core_form.Loop.{Loop}
use Rattle.fr_core.specs.declared.kept.Key.TheVariants as key
use Rattle.fr_core.specs.declared.kept.Kept.{Kept}
use Rattle.fr_core.specs.declared.kept.Kept.TheVariants as kept
use Rattle.fr_core.specs.declared.lowered.Low.{Low, out-Low, map-Low}
use Rattle.fr_core.specs.declared.lowered.Low.TheOpen.{Low-F}
use Rattle.fr_core.specs.declared.program.Program.{Program}
use Rattle.fr_meaning.specs.Words.{Seen, Env, Done, part, on_ok, test_of}
use Rattle.fr_meaning.specs.Cells.{Cell, child, under_key}
use Rattle.fr_meaning.specs.States.{of_operator, of_handler, of_feedback, fed, state_now, beside, state_next}
use Rattle.fr_meaning.specs.Evaluation.{World, world_of, Ev, Parts, parts, chosen_by, switch_done, call_done, body_for, handler, body_with, rounds, all_turns, form_cell, behind_cell, layer, eval_to}
use Rattle.fr_meaning.proofs.Levels.{evaluates}
use Rattle.fr_kernel.specs.Kernels.{Kernels, slot_seen}
use Rattle.fr_kernel.specs.Erasure.{erase, erase_step, kernel_expr}
use Rattle.fr_graph.specs.Graph.{Part, steady, signal, Work, operates, handles, loops, runs, feeds, Kind, works, watch, result, Graph, part_value, part_values, kernel_run, kernel_call, IsClean, work_line, is_plain}
use Rattle.fr_graph.specs.Walk.{Plan, first, rest, Walk, AllPlaced, place_all, all_steady, steady_values, slot_parts, low_body, place}
use Rattle.fr_graph.specs.Wired.{IsNext, inputs_of, later_of, Either, Unless, WorkStands, AllStand, Chosen, SwitchStands, CallStands, ShapeStands, Wired, EraStands}
use Rattle.fr_graph.specs.Keeps.{Asked, AllKeep, SwitchKeeps, CallKeeps, CellKeeps, ShapeKeeps, Keeps, asks_nothing}
use Rattle.fr_graph.specs.Known.{AllKnown, IsClosed, IsKnown, Have, IsWatched, IsWorked, SettledOn, ErasStandOn}
use Rattle.fr_graph.specs.Sound.{Sound, IsPlanOf, KernelsMean}
use Rattle.fr_graph.proofs.Parts.{have_append, have_length, have_steady}
use Rattle.fr_graph.proofs.Parts.{both_true}
use Rattle.fr_graph.proofs.Works.{plain_any, input_line, rule_on, inputs_on}
use Rattle.fr_graph.proofs.Calls.{handler_cost, loop_cost}
use Rattle.fr_graph.proofs.Inside.{erase-opens, SoundShape, sound_shape, AllSound, outer_sound, body_sound, all_length, bodies_match, low_sound}
use Rattle.fr_graph.proofs.Values.{AgreesAt, values_on, all_on, slots_on, kernel_means}
use Rattle.fr_sums.specs.Sites.{when}
use Rattle.fr_sums.specs.Along.{Adding, add_all, add_work, add_chosen, add_switch, add_call, add_shape, along}
use Rattle.fr_sums.specs.Members.{is_watch}
use Rattle.fr_sums.proofs.Operators.{beside_cost, operator_cost}
use Rattle.fr_sums.proofs.Builds.{builds_on}
use Rattle.fr_sums.specs.Spent.{choice_to_build, build_work, build_switch, build_call, build_shape, built, Paid, choice_built, spent_at, cost_at, is_work}

-- what is spent in two places where one building is counted
pub apart : (b : Bool) (a a' c c' : ℕ) → (a + when b a') + (c + when b c') ≡ (a + c) + when b (a' + c')
apart true a a' c c' = omega arith
apart false a a' c c' = omega arith

one_more : (b : Bool) (a a' : ℕ) → (a + when b a') + when b 1 ≡ a + when b (1 + a')
one_more true a a' = omega arith
one_more false a a' = omega arith

pub when_none : (b : Bool) → when b 0 ≡ 0
when_none true = refl
when_none false = refl

-- what is held where some nodes are known is held where none is
have_none : (g : Graph) (known : ℕ → Type 0) (ps : List Part) (vs : List Seen) → Have g known ps vs → Have g (λ m. ⊥) ps vs
have_none g known [] [] h = tt
have_none g known [] (v ∷ vs) h = absurd h
have_none g known (p ∷ ps) [] h = absurd h
have_none g known (steady u ∷ ps) (v ∷ vs) h = (h.0, have_none g known ps vs h.1)
have_none g known (signal m ∷ ps) (v ∷ vs) h = (λ kn. absurd kn, have_none g known ps vs h.1)

-- a relation of what is spent to what is evaluated, that goes along sums
pub record IsMeasure (R : ℕ → ℕ → Type 0) : Type 0 where
  pub none : R 0 0
  pub both : (a b c d : ℕ) → R a b → R c d → R (a + c) (b + d)

-- what was paid for each work whose inputs are known, and each building, stands so to what it costs, whatever a work costs whose inputs aren't; what was paid for a watch that isn't known stands so to whatever costs at least the building of its choice; nothing else is paid for, and nothing in the era of such a watch
pub record Measures (R : ℕ → ℕ → Type 0) (g : Graph) (known : ℕ → Bool) (p : Plan) (before : ℕ → Option Cell) (q : Paid) : Type 0 where
  pub sums : IsMeasure R
  pub work : (m : ℕ) (w : Work) (c : ℕ) → g.live m ≡ true → g.kind m ≡ works w → (AllKnown (λ j. known j ≡ true) (g.inputs m) → cost_at g p before m w ≡ c) → R (q.node m) c
  pub other : (m : ℕ) → g.live m ≡ true → is_work (g.kind m) ≡ false → (is_watch (g.kind m) ≡ false) ⊎ (known m ≡ true) → q.node m ≡ 0
  pub building : (x c : ℕ) → R (when (q.begun x) c) c
  pub unbegun : (w : ℕ) → known w ≡ false → q.begun (suc w) ≡ false
  pub unknown : (w c : ℕ) → known w ≡ false → g.live w ≡ true → is_watch (g.kind w) ≡ true
      → ((ms : List ℕ) → AllKnown (λ j. known j ≡ true) (g.inputs w) → choice_to_build g p (g.level w) ms (g.kind w) (g.inputs w) ≤ c) → R (q.node w) c

module _ (R : ℕ → ℕ → Type 0) (g : Graph) (known : ℕ → Bool) (p : Plan) (pr : Program) (plan : IsPlanOf pr p) (sources : List Now) (before : ℕ → Option Cell) (closed : IsClosed g (λ m. known m ≡ true))
    (settled : SettledOn g (λ m. known m ≡ true) p.table sources before) (eras : ErasStandOn g (λ m. known m ≡ true) p) (means : KernelsMean p pr sources) (q : Paid) (pays : Measures R g known p before q) where
  -- the nodes that are known to be right
  abbrev K : ℕ → Type 0
  K m = known m ≡ true

  abbrev t : Kernels
  t = p.table

  abbrev w : World
  w = world_of pr sources

  abbrev f : Low → Core
  f = erase t.kernels

  abbrev old : Asked
  old = record { known = K; cell = before; asks = asks_nothing }

  agrees_at : (n : ℕ) → n ≤ 2001 → AgreesAt g K p pr plan sources before closed settled eras means n
  agrees_at = values_on g K p pr plan sources before closed settled eras means

  abbrev spent : ℕ → ℕ
  spent m = spent_at g p q m

  -- what is spent along a walk in an era, and in building it there
  abbrev pub Costs : ℕ → ℕ → ℕ → ℕ → Type 0
  Costs x sum building cost = R (sum + when (q.begun x) building) cost

  abbrev pub CostsAt : ℕ → Type 0
  CostsAt n = (e : Low) (x : ℕ) (env : List Part) (vs : Env) (ms : List ℕ) (k : Kept) → Sound t (length env) e → Have g K env vs → Wired g p x n e env ms → Keeps g p old n e env ms k
      → Costs x (along g p known spent n e env ms) (built p n e env ms) (eval_to n w (f e) vs k).cost

  same_cost : (a u v : ℕ) → u ≡ v → R a u → R a v
  same_cost a u v e h = subst (R a) e h

  same_sum : (a b u : ℕ) → a ≡ b → R a u → R b u
  same_sum a b u e h = subst (λ z. R z u) e h

  free : (x : ℕ) → Costs x 0 0 0
  free x = same_sum 0 (0 + when (q.begun x) 0) 0 (let e = when_none (q.begun x) in omega (arith, e)) pays.sums.none

  two : (x a a' u c c' v : ℕ) → Costs x a a' u → Costs x c c' v → Costs x (a + c) (a' + c') (u + v)
  two x a a' u c c' v h k = same_sum _ _ (u + v) (apart (q.begun x) a a' c c') (pays.sums.both _ u _ v h k)

  -- what is spent at a node that owns no era
  spent_alone : (m : ℕ) (k : Kind) → g.kind m ≡ k → ((j : ℕ) → choice_built g p j k ≡ 0) → spent m ≡ q.node m
  spent_alone m k e none =
      let building : when (q.begun (suc m)) (choice_built g p m (g.kind m)) ≡ 0
      = ap (λ j. when (q.begun (suc m)) (choice_built g p m j)) e ∙ ap (when (q.begun (suc m))) (none m) ∙ when_none (q.begun (suc m)) in
      omega (arith, building)

  spent_work : (x n : ℕ) (wk : Work) (ins : List Part) (later : Option Part) (ms : List ℕ) (u : ℕ) → IsNext g x n (works wk) ins later ms → (AllKnown K ins → cost_at g p before (first ms) wk ≡ u) → R (spent (first ms)) u
  spent_work x n wk ins later ms u st costs =
      same_sum _ _ _ (sym (spent_alone (first ms) (works wk) st.kind (λ j. refl))) (pays.work (first ms) wk u st.live st.kind (λ kn. costs (subst (AllKnown K) st.inputs kn)))

  -- what a work costs, at its node or in the building
  work_costs : (x n : ℕ) (wk : Work) (ps : List Part) (us : List Seen) (ms : List ℕ) (c : Option Cell) → WorkStands g p x n wk ps ms → Have g K ps us → (is_plain wk ≡ false → before (first ms) ≡ c)
      → Costs x (add_work spent wk ps ms) (build_work p n wk ps) (work_line t n wk c us).cost
  work_costs x n wk ps us ms c st have cell = by_steady (is_plain wk && all_steady ps) refl st
    where
      by_cell : (d : Option Cell) → before (first ms) ≡ d → IsNext g x n (works wk) (inputs_of wk ps) (later_of wk ps) ms → R (spent (first ms)) (work_line t n wk d us).cost
      by_cell d e st =
          spent_work x n wk (inputs_of wk ps) (later_of wk ps) ms _ st (λ kn.
          ap (λ l. (work_line t (g.level (first ms)) wk (before (first ms)) (part_values g l)).cost) st.inputs
          ∙ ap (λ j. (work_line t j wk (before (first ms)) (part_values g (inputs_of wk ps))).cost) st.level
          ∙ ap (λ o. (work_line t n wk o (part_values g (inputs_of wk ps))).cost) e
          ∙ ap (λ l. l.cost) (input_line g K t n wk d ps us have kn))

      by_plain : (b : Bool) → is_plain wk ≡ b → IsNext g x n (works wk) (inputs_of wk ps) (later_of wk ps) ms → R (spent (first ms)) (work_line t n wk c us).cost
      by_plain true e st = same_cost _ _ _ (ap (λ l. l.cost) (plain_any t n wk (before (first ms)) c us e)) (by_cell (before (first ms)) refl st)
      by_plain false e st = by_cell c (cell e) st

      by_steady : (b : Bool) → is_plain wk && all_steady ps ≡ b → Either b (IsClean (work_line t n wk None (steady_values ps))) (IsNext g x n (works wk) (inputs_of wk ps) (later_of wk ps) ms)
          → R (when (not b) (spent (first ms)) + when (q.begun x) (when b (work_line t n wk None (steady_values ps)).cost)) (work_line t n wk c us).cost
      by_steady true e st =
          let both = both_true (is_plain wk) (all_steady ps) e in
          let cost = (work_line t n wk None (steady_values ps)).cost in
          same_sum (when (q.begun x) cost) (0 + when (q.begun x) cost) _ (omega arith)
          (same_cost _ cost _ (ap (λ xs. (work_line t n wk None xs).cost) (have_steady g K ps us both.1 have) ∙ ap (λ l. l.cost) (plain_any t n wk None c us both.0)) (pays.building x cost))
      by_steady false e st =
          same_sum (spent (first ms)) (spent (first ms) + when (q.begun x) 0) _ (let e = when_none (q.begun x) in omega (arith, e)) (by_plain (is_plain wk) refl st)

  module _ (n : ℕ) (few : suc n ≤ 2001) (ih : CostsAt n) (x : ℕ) (env : List Part) (vs : Env) (en : Have g K env vs) where
    below : n ≤ 2001
    below = omega (arith, few)

    abbrev ev : Ev
    ev = eval_to n w

    abbrev walk : Walk
    walk = place p n

    abbrev Stands : Low → List Part → List ℕ → Type 0
    Stands = Wired g p x n

    abbrev Trees : Low → List Part → List ℕ → Kept → Type 0
    Trees = Keeps g p old n

    abbrev add : Adding
    add = along g p known spent n

    abbrev build : Adding
    build = built p n

    have_all : (es : List Low) (i : ℕ) (ms : List ℕ) (k : Kept) → AllSound t (length env) es → AllStand walk Stands env es ms → AllKeep walk Trees env i es ms k
        → Have g K (place_all walk env es ms).parts (parts ev vs k i (map f es)).values
    have_all = all_on g K p pr plan sources before closed settled eras means n few (agrees_at n below) x env vs en

    all_cost : (es : List Low) (i : ℕ) (ms : List ℕ) (k : Kept) → AllSound t (length env) es → AllStand walk Stands env es ms → AllKeep walk Trees env i es ms k
        → Costs x (add_all walk add env es ms) (add_all walk build env es ms) (parts ev vs k i (map f es)).cost
    all_cost [] i ms k s st kp = free x
    all_cost (e ∷ es) i ms k s st kp = two x _ _ _ _ _ _ (ih e x env vs ms (child k i) s.0 en st.0 kp.0) (all_cost es (i + 1) (walk e env ms).left k s.1 st.1 kp.1)

    opens : (c : Core) (l : Core-F Core) (k : Kept) (a : ℕ) → out-Core c ≡ l → R a (layer w ev vs k l).cost → R a (eval_to (suc n) w c vs k).cost
    opens c l k a h r = same_cost a _ _ (ap (λ l. (layer w ev vs k l).cost) (sym h) ∙ ap (λ d. d.cost) (sym (evaluates n w c vs k))) r

    -- a switch whose test never changes, behind what the test costs
    chosen_cost : (a b : Low) (ms : List ℕ) (k : Kept) (d : Done) (at bt : ℕ) (o : Result Bool Bad) → Sound t (length env) a → Sound t (length env) b → Costs x at bt d.cost
        → Chosen o (Stands a env ms) (Stands b env ms) → Chosen o (Trees a env ms (under_key (key.Test true) (child k 1))) (Trees b env ms (under_key (key.Test false) (child k 1)))
        → Costs x (at + add_chosen add a b env ms o) (bt + add_chosen build a b env ms o) (switch_done ev vs k d (on_ok (chosen_by (f a) (f b)) o)).cost
    chosen_cost a b ms k d at bt (Err bad) sa sb h st kp = absurd st
    chosen_cost a b ms k d at bt (Ok true) sa sb h st kp = two x _ _ _ _ _ _ h (ih a x env vs ms (under_key (key.Test true) (child k 1)) sa en st kp)
    chosen_cost a b ms k d at bt (Ok false) sa sb h st kp = two x _ _ _ _ _ _ h (ih b x env vs ms (under_key (key.Test false) (child k 1)) sb en st kp)

    -- a watch whose choice is known, its era, and its result
    watch_sum : (at bt sw sr era building : ℕ) (b : Bool) → sw ≡ building → sr ≡ 0 → (at + when b bt) + (era + building) ≡ (at + (sw + (sr + era))) + when b (bt + 0)
    watch_sum at bt sw sr era building true e h = omega (arith, e, h)
    watch_sum at bt sw sr era building false e h = omega (arith, e, h)

    branch_cost : (e : Low) (m : ℕ) (tree : Kept) (d at bt sw sr : ℕ) → Sound t (length env) e → g.level m ≡ n → EraStands g p m e env → Trees e env (g.members (suc m)) tree → Costs x at bt d
        → sw ≡ when (q.begun (suc m)) (build e env (g.members (suc m))) → sr ≡ 0
        → Costs x (at + (sw + (sr + add e env (g.members (suc m))))) (bt + 0) (d + (ev (f e) vs tree).cost)
    branch_cost e m tree d at bt sw sr sound level st kp h is none =
        let ms = g.members (suc m) in
        let era : Costs (suc m) (add e env ms) (build e env ms) (ev (f e) vs tree).cost = ih e (suc m) env vs ms tree sound en (subst (λ j. Wired g p (suc m) j e env ms) level st.wired) kp in
        same_sum _ _ _ (watch_sum at bt sw sr (add e env ms) (when (q.begun (suc m)) (build e env ms)) (q.begun x) is none) (pays.sums.both _ d _ _ h era)

    era_cost : (a b : Low) (m : ℕ) (k : Kept) (d : Done) (at bt sw sr : ℕ) (o : Result Bool Bad) → Sound t (length env) a → Sound t (length env) b → g.level m ≡ n
        → Chosen o (EraStands g p m a env) (EraStands g p m b env)
        → Chosen o (Trees a env (g.members (suc m)) (under_key (key.Test true) (child k 1))) (Trees b env (g.members (suc m)) (under_key (key.Test false) (child k 1)))
        → Costs x at bt d.cost → sw ≡ when (q.begun (suc m)) (add_chosen build a b env (g.members (suc m)) o) → sr ≡ 0
        → Costs x (at + (sw + (sr + add_chosen add a b env (g.members (suc m)) o))) (bt + 0) (switch_done ev vs k d (on_ok (chosen_by (f a) (f b)) o)).cost
    era_cost a b m k d at bt sw sr (Err bad) sa sb level st kp h is none = absurd st
    era_cost a b m k d at bt sw sr (Ok true) sa sb level st kp h is none = branch_cost a m (under_key (key.Test true) (child k 1)) d.cost at bt sw sr sa level st kp h is none
    era_cost a b m k d at bt sw sr (Ok false) sa sb level st kp h is none = branch_cost b m (under_key (key.Test false) (child k 1)) d.cost at bt sw sr sb level st kp h is none

    -- a watch that isn't known: what was paid for it is within what its choice costs
    unknown_sum : (at bt paid sw sr : ℕ) (z : Bool) → sw ≡ paid → sr ≡ 0 → (at + when z bt) + paid ≡ (at + (sw + (sr + 0))) + when z (bt + 0)
    unknown_sum at bt paid sw sr true is none = omega (arith, is, none)
    unknown_sum at bt paid sw sr false is none = omega (arith, is, none)

    no_cost : (a : ℕ) → a + 0 ≡ a
    no_cost a = omega arith

    unknown_cost : (a b : Low) (m j : ℕ) (k : Kept) (d : Done) (at bt sw sr : ℕ) (o : Result Bool Bad) → Sound t (length env) a → Sound t (length env) b
        → known m ≡ false → g.live m ≡ true → g.kind m ≡ watch a b env → g.inputs m ≡ signal j ∷ [] → g.level m ≡ n → (known j ≡ true → test_of (g.value j) ≡ o)
        → Costs x at bt d.cost → sw ≡ q.node m → sr ≡ 0
        → Costs x (at + (sw + (sr + 0))) (bt + 0) (switch_done ev vs k d (on_ok (chosen_by (f a) (f b)) o)).cost
    unknown_cost a b m j k d at bt sw sr o sa sb kn lv kind inputs level told h is none = by_test o told
      where
        chosen : (o : Result Bool Bad) → (known j ≡ true → test_of (g.value j) ≡ o) → (ns : List ℕ) → AllKnown K (g.inputs m)
            → choice_to_build g p (g.level m) ns (g.kind m) (g.inputs m) ≡ add_chosen build a b env ns o
        chosen o told ns test =
            ap (λ l. choice_to_build g p (g.level m) ns l (g.inputs m)) kind
            ∙ ap (λ l. choice_to_build g p (g.level m) ns (watch a b env) l) inputs
            ∙ ap (λ l. add_chosen (built p l) a b env ns (test_of (g.value j))) level
            ∙ ap (λ l. add_chosen build a b env ns l) (told (subst (AllKnown K) inputs test).0)

        builds : (e : Low) (ns : List ℕ) (tree : Kept) → Sound t (length env) e → build e env ns ≤ (ev (f e) vs tree).cost
        builds e ns tree s = (builds_on g p pr plan sources means n below e env vs ns tree s (have_none g K env vs en)).1

        paid : (o : Result Bool Bad) (c : ℕ) → (known j ≡ true → test_of (g.value j) ≡ o) → ((ns : List ℕ) → add_chosen build a b env ns o ≤ c) → R (q.node m) c
        paid o c told most = pays.unknown m c kn lv (ap is_watch kind) (λ ns test. let e = chosen o told ns test in let l = most ns in omega (arith, e, l))

        by_test : (o : Result Bool Bad) → (known j ≡ true → test_of (g.value j) ≡ o) → Costs x (at + (sw + (sr + 0))) (bt + 0) (switch_done ev vs k d (on_ok (chosen_by (f a) (f b)) o)).cost
        by_test (Err bad) told =
            same_cost _ _ _ (no_cost d.cost)
            (same_sum _ _ _ (unknown_sum at bt (q.node m) sw sr (q.begun x) is none) (pays.sums.both _ d.cost _ 0 h (paid (Err bad) 0 told (λ ns. omega arith))))
        by_test (Ok true) told =
            let c = (ev (f a) vs (under_key (key.Test true) (child k 1))).cost in
            same_sum _ _ _ (unknown_sum at bt (q.node m) sw sr (q.begun x) is none) (pays.sums.both _ d.cost _ c h (paid (Ok true) c told (λ ns. builds a ns (under_key (key.Test true) (child k 1)) sa)))
        by_test (Ok false) told =
            let c = (ev (f b) vs (under_key (key.Test false) (child k 1))).cost in
            same_sum _ _ _ (unknown_sum at bt (q.node m) sw sr (q.begun x) is none) (pays.sums.both _ d.cost _ c h (paid (Ok false) c told (λ ns. builds b ns (under_key (key.Test false) (child k 1)) sb)))

    switch_cost : (a b : Low) (h : Part) (ms : List ℕ) (k : Kept) (d : Done) (at bt : ℕ) → Sound t (length env) a → Sound t (length env) b → (IsKnown K h → part_value g h ≡ d.value) → Costs x at bt d.cost
        → SwitchStands g x n Stands a b env h ms → SwitchKeeps g old Trees a b env h ms (child k 1)
        → Costs x (at + add_switch g known spent add a b env h ms) (bt + build_switch build a b env h ms) (switch_done ev vs k d (on_ok (chosen_by (f a) (f b)) (test_of d.value))).cost
    switch_cost a b (steady v) ms k d at bt sa sb value h st kp =
        subst (λ u. Costs x (at + add_chosen add a b env ms (test_of v)) (bt + add_chosen build a b env ms (test_of v)) (switch_done ev vs k d (on_ok (chosen_by (f a) (f b)) (test_of u))).cost) (value tt)
        (chosen_cost a b ms k d at bt (test_of v) sa sb h st kp)
    switch_cost a b (signal m) ms k d at bt sa sb value h st kp = elim (by_truth (known (first ms))) [
      | inl there ↦ subst (λ u. Costs x (at + (spent (first ms) + (spent (first (rest ms)) + when u (add_chosen add a b env (g.members (suc (first ms))) (test_of (g.value (first ms))))))) (bt + 0) (switch_done ev vs k d (on_ok (chosen_by (f a) (f b)) (test_of d.value))).cost) (sym there) (entering there)
      | inr apart ↦ subst (λ u. Costs x (at + (spent (first ms) + (spent (first (rest ms)) + when u (add_chosen add a b env (g.members (suc (first ms))) (test_of (g.value (first ms))))))) (bt + 0) (switch_done ev vs k d (on_ok (chosen_by (f a) (f b)) (test_of d.value))).cost) (sym apart)
          (unknown_cost a b (first ms) m k d at bt (spent (first ms)) (spent (first (rest ms))) (test_of d.value) sa sb apart st.watch.live st.watch.kind st.watch.inputs st.watch.level (λ kn. ap test_of (value kn)) h (unspent apart) none)
    ]
      where
        none : spent (first (rest ms)) ≡ 0
        none = spent_alone (first (rest ms)) result st.kind (λ j. refl) ∙ pays.other (first (rest ms)) st.live (ap is_work st.kind) (inl (ap is_watch st.kind))

        nothing : known (first ms) ≡ true → q.node (first ms) ≡ 0
        nothing kn = pays.other (first ms) st.watch.live (ap is_work st.watch.kind) (inr kn)

        unspent : known (first ms) ≡ false → spent (first ms) ≡ q.node (first ms)
        unspent kn =
            let building : when (q.begun (suc (first ms))) (choice_built g p (first ms) (g.kind (first ms))) ≡ 0 = ap (λ b. when b (choice_built g p (first ms) (g.kind (first ms)))) (pays.unbegun (first ms) kn) in
            omega (arith, building)

        entering : known (first ms) ≡ true → Costs x (at + (spent (first ms) + (spent (first (rest ms)) + add_chosen add a b env (g.members (suc (first ms))) (test_of (g.value (first ms)))))) (bt + 0) (switch_done ev vs k d (on_ok (chosen_by (f a) (f b)) (test_of d.value))).cost
        entering kn =
            let rule : IsWatched g (first ms) (signal m) = rule_on g K t sources before closed settled x n (watch a b env) (signal m ∷ []) None ms kn st.watch in
            let km : known m ≡ true = (inputs_on g K t sources before closed settled x n (watch a b env) (signal m ∷ []) None ms kn st.watch).0 in
            let told : test_of (g.value (first ms)) ≡ test_of d.value = rule.value ∙ sym rule.test ∙ ap test_of (value km) in
            let era : choice_built g p (first ms) (g.kind (first ms)) ≡ add_chosen build a b env (g.members (suc (first ms))) (test_of (g.value (first ms)))
            = ap (choice_built g p (first ms)) st.watch.kind ∙ ap (λ j. add_chosen (built p j) a b env (g.members (suc (first ms))) (test_of (g.value (first ms)))) st.watch.level in
            let building : when (q.begun (suc (first ms))) (choice_built g p (first ms) (g.kind (first ms))) ≡ when (q.begun (suc (first ms))) (add_chosen build a b env (g.members (suc (first ms))) (test_of (g.value (first ms)))) = ap (when (q.begun (suc (first ms)))) era in
            let is : spent (first ms) ≡ when (q.begun (suc (first ms))) (add_chosen build a b env (g.members (suc (first ms))) (test_of (g.value (first ms)))) = (let paid_none = nothing kn in omega (arith, paid_none, building)) in
            subst (λ o. Costs x (at + (spent (first ms) + (spent (first (rest ms)) + add_chosen add a b env (g.members (suc (first ms))) (test_of (g.value (first ms)))))) (bt + 0) (switch_done ev vs k d (on_ok (chosen_by (f a) (f b)) o)).cost) told
            (era_cost a b (first ms) k d at bt (spent (first ms)) (spent (first (rest ms))) (test_of (g.value (first ms))) sa sb st.watch.level (eras (first ms) a b env kn st.watch.live st.watch.kind) (kp kn).1 h is none)

    call_cost : (o : Option Low) (qs : AllPlaced) (k : Kept) (m at bt : ℕ) (ps : Parts) → Have g K qs.parts ps.values → length qs.parts ≡ m → ((body : Low) → o ≡ Some body → Sound t m body)
        → Costs x at bt ps.cost → CallStands Stands o qs → CallKeeps Trees o qs (child k m)
        → Costs x (at + add_call add o qs) (bt + build_call build o qs) (call_done ev k m ps (option_map f o)).cost
    call_cost None qs k m at bt ps have len s h st kp = absurd st
    call_cost (Some body) qs k m at bt ps have len s h st kp =
        let inside = ih body x qs.parts ps.values qs.left (child k m) (subst (λ j. Sound t j body) (sym len) (s body refl)) have st kp in
        let called : Costs x (add body qs.parts qs.left) (1 + build body qs.parts qs.left) ((ev (f body) ps.values (child k m)).cost + 1)
        = same_sum _ _ _ (one_more (q.begun x) (add body qs.parts qs.left) (build body qs.parts qs.left)) (pays.sums.both _ _ _ 1 inside (pays.building x 1)) in
        two x _ _ _ _ _ _ h called

    -- one case for each shape
    shape_cost : (l : Low-F Low) (ms : List ℕ) (k : Kept) → SoundShape t (length env) l → ShapeStands g p x n walk Stands env ms l → ShapeKeeps g p old walk Trees env ms k l
        → Costs x (add_shape g p known spent walk add env ms l) (build_shape p n walk build env ms l) (eval_to (suc n) w (erase_step t.kernels (map-Low Low Core f l)) vs k).cost
    shape_cost (Low-F.Lit v) ms k s st kp = opens (core.Lit v) (Core-F.Lit v) k _ (outs-Lit v) (free x)
    shape_cost (Low-F.Var v) ms k s st kp = opens (core.Var v) (Core-F.Var v) k _ (outs-Var v) (free x)
    shape_cost (Low-F.Source i) ms k s st kp = opens (core.Source i) (Core-F.Source i) k _ (outs-Source i) (free x)
    shape_cost (Low-F.Let es b) ms k s st kp =
        let qs = place_all walk env es ms in
        let ps = parts ev vs k 0 (map f es) in
        let inside = body_sound t (length env) (length es) es b s.inside in
        let have = have_all es 0 ms k inside.0 st.0 kp.0 in
        let wide : length (env ++ qs.parts) ≡ length env + length es = length-append env qs.parts ∙ ap (λ m. length env + m) (all_length walk env es ms) in
        let body = ih b x (env ++ qs.parts) (vs ++ ps.values) qs.left (child k (length es)) (subst (λ m. Sound t m b) (sym wide) inside.1) (have_append g K env vs qs.parts ps.values en have) st.1 kp.1 in
        opens (core.Let (map f es) (f b)) (Core-F.Let (map f es) (f b)) k _ (outs-Let (map f es) (f b))
        (two x _ _ ps.cost _ _ _ (all_cost es 0 ms k inside.0 st.0 kp.0) (same_cost _ _ _ (ap (λ m. (ev (f b) (vs ++ ps.values) (child k m)).cost) (sym (length-map es f))) body))
    shape_cost (Low-F.If site test a b) ms k s st kp =
        let inside = outer_sound t (length env) (test ∷ a ∷ b ∷ []) s.inside in
        let placed = walk test env ms in
        let d = ev (f test) vs (child k 0) in
        let value = agrees_at n below test x env vs ms (child k 0) inside.0 en st.0 kp.0 in
        let front = ih test x env vs ms (child k 0) inside.0 en st.0 kp.0 in
        opens (core.If (f test) (f a) (f b)) (Core-F.If (f test) (f a) (f b)) k _ (outs-If (f test) (f a) (f b))
        (switch_cost a b placed.part placed.left k d _ _ inside.1.0 inside.1.1.0 value front st.1 kp.1)
    shape_cost (Low-F.Apply id es) ms k s st kp =
        let qs = place_all walk env es ms in
        let ps = parts ev vs k 0 (map f es) in
        let sound = outer_sound t (length env) es s.inside in
        let m = length es in
        let o = low_body (slice_get p.functions id.0) m in
        let same : option_map f o ≡ body_for (slice_get w.functions id.0) m = sym (bodies_match t.kernels p.functions id.0 m) ∙ ap (λ fs. body_for (slice_get fs id.0) m) (sym plan.functions) in
        let call = call_cost o qs k m _ _ ps (have_all es 0 ms k sound st.0 kp.0) (all_length walk env es ms) (λ body e. low_sound t (slice_get p.functions id.0) m body (plan.bodies id.0) e) (all_cost es 0 ms k sound st.0 kp.0) st.1 kp.1 in
        opens (core.Apply id (map f es)) (Core-F.Apply id (map f es)) k _ (outs-Apply id (map f es))
        (same_cost _ _ _ (ap (λ b. (call_done ev k m ps b).cost) same ∙ ap (λ j. (call_done ev k j ps (body_for (slice_get w.functions id.0) j)).cost) (sym (length-map es f))) call)
    shape_cost (Low-F.Operator o es) ms k s st kp =
        let qs = place_all walk env es ms in
        let inner = behind_cell (of_operator o) k in
        let cell = form_cell (of_operator o) k in
        let ps = parts ev vs inner 0 (map f es) in
        let sound = outer_sound t (length env) es s.inside in
        let work = work_costs x n (operates o) qs.parts ps.values qs.left cell st.1 (have_all es 0 ms inner sound st.0 kp.0) (λ e. subst (λ b. Unless b (CellKeeps old (of_operator o) qs.left k)) e kp.1) in
        opens (core.Operator o (map f es)) (Core-F.Operator o (map f es)) k _ (outs-Operator o (map f es))
        (two x _ _ ps.cost _ _ _ (all_cost es 0 ms inner sound st.0 kp.0) (same_cost _ _ _ (operator_cost t n o cell ps.values) work))
    shape_cost (Low-F.Handler h es id ss) ms k s st kp =
        let qs = place_all walk env es ms in
        let inner = behind_cell (of_handler h) k in
        let ps = parts ev vs inner 0 (map f es) in
        let sound = outer_sound t (length env) es s.inside in
        let have = have_all es 0 ms inner sound st.0 kp.0 in
        let slots = slots_on g K p pr plan sources before closed settled eras means n few (agrees_at n below) x env vs en ss st.1 in
        let others = map (slot_seen sources vs) ss in
        let cell = form_cell (of_handler h) k in
        let body = kernel_expr t.kernels id.0 in
        let count : length ps.values ≡ handler_parts h = sym (have_length g K qs.parts ps.values have) ∙ all_length walk env es ms ∙ s.parts in
        let front : take (handler_parts h) (ps.values ++ others) ≡ ps.values = ap (λ m. take m (ps.values ++ others)) (sym count) ∙ take-append_seam ps.values others in
        let behind : drop (handler_parts h) (ps.values ++ others) ≡ others = ap (λ m. drop m (ps.values ++ others)) (sym count) ∙ drop-append_seam ps.values others in
        let work = work_costs x n (handles h id.0) (qs.parts ++ slot_parts p env ss) (ps.values ++ others) qs.left cell st.2 (have_append g K qs.parts ps.values (slot_parts p env ss) others have slots) (λ e. kp.1) in
        let line : (work_line t n (handles h id.0) cell (ps.values ++ others)).cost ≡ (state_now (of_handler h) cell ps.values (handler ev vs (length (map f es)) body)).cost
        = ap (λ xs. (state_now (of_handler h) cell xs (kernel_call t n id.0 (drop (handler_parts h) (ps.values ++ others)))).cost) front
        ∙ ap (λ xs. (state_now (of_handler h) cell ps.values (kernel_call t n id.0 xs)).cost) behind
        ∙ handler_cost h cell ps.values (kernel_call t n id.0 others) (handler ev vs (length (map f es)) body)
        (λ args e. ap (λ c. c + 1) (kernel_means g K p pr plan sources before closed settled eras means n few (agrees_at n below) x env vs en n id.0 (handler_binds h) ss args kept.Nothing below s.fits e).cost) in
        opens (core.Handler h (map f es) body) (Core-F.Handler h (map f es) body) k _ (outs-Handler h (map f es) body)
        (two x _ _ ps.cost _ _ _ (all_cost es 0 ms inner sound st.0 kp.0) (same_cost _ _ _ line work))
    shape_cost (Low-F.Loop l es id ss) ms k s st kp =
        let qs = place_all walk env es ms in
        let ps = parts ev vs k 0 (map f es) in
        let sound = outer_sound t (length env) es s.inside in
        let have = have_all es 0 ms k sound st.0 kp in
        let slots = slots_on g K p pr plan sources before closed settled eras means n few (agrees_at n below) x env vs en ss st.1 in
        let others = map (slot_seen sources vs) ss in
        let body = kernel_expr t.kernels id.0 in
        let count : length ps.values ≡ 2 = sym (have_length g K qs.parts ps.values have) ∙ all_length walk env es ms ∙ s.parts in
        let work = work_costs x n (loops l id.0) (qs.parts ++ slot_parts p env ss) (ps.values ++ others) qs.left None st.2 (have_append g K qs.parts ps.values (slot_parts p env ss) others have slots) (λ e. absurd (false≢true (sym e))) in
        let turns = loop_line l id.0 ps.values others body count
        (λ args e. let m = kernel_means g K p pr plan sources before closed settled eras means n few (agrees_at n below) x env vs en n id.0 (loop_binds l) ss args kept.Nothing below s.fits e in (m.value, m.cost)) in
        opens (core.Loop l (map f es) body) (Core-F.Loop l (map f es) body) k _ (outs-Loop l (map f es) body)
        (two x _ _ ps.cost _ _ _ (all_cost es 0 ms k sound st.0 kp) (same_cost _ _ _ turns work))
      where
        loop_line : (l : Loop) (id : ℕ) (xs others : List Seen) (body : Core) → length xs ≡ 2
            → ((args : List Seen) → length args ≡ loop_binds l → ((kernel_run t n id others args).value ≡ (body_with ev vs body args).value) × ((kernel_run t n id others args).cost ≡ (body_with ev vs body args).cost))
            → (work_line t n (loops l id) None (xs ++ others)).cost ≡ (all_turns (body_with ev vs body) (part xs 0) (rounds l (part xs 1))).cost
        loop_line l id [] others body e same = absurd (omega (arith, e))
        loop_line l id (a ∷ []) others body e same = absurd (omega (arith, e))
        loop_line l id (a ∷ b ∷ []) others body e same = loop_cost l a b (kernel_run t n id others) (body_with ev vs body) same
        loop_line l id (a ∷ b ∷ c ∷ xs) others body e same = absurd (omega (arith, e))
    shape_cost (Low-F.Feedback init body) ms k s st kp =
        let i = walk init env ms in
        let inner = behind_cell of_feedback k in
        let cell = form_cell of_feedback k in
        let d = ev (f init) vs (child inner 0) in
        let sound0 = subst (λ m. Sound t m init) (zero_more (length env)) (s.inside 0 (0, init) refl) in
        let r = agrees_at n below init x env vs ms (child inner 0) sound0 en st.0 kp.0 in
        let front = ih init x env vs ms (child inner 0) sound0 en st.0 kp.0 in
        let m = first i.left in
        let inside = env ++ signal m ∷ [] in
        let last = (walk body inside (rest i.left)).part in
        let x0 = fed cell d.value in
        let name : known m ≡ true → g.value m ≡ x0 = λ km.
        let rule : IsWorked g t (before m) m feeds (i.part ∷ []) = rule_on g K t sources before closed settled x n (works feeds) (i.part ∷ []) (Some last) i.left km st.2 in
        let ki = (inputs_on g K t sources before closed settled x n (works feeds) (i.part ∷ []) (Some last) i.left km st.2).0 in
        rule.value ∙ ap (λ o. fed o (part_value g i.part)) kp.2 ∙ ap (fed cell) (r ki) in
        let wide : length inside ≡ length env + 1 = length-append env (signal m ∷ []) in
        let b = ev (f body) (vs ++ x0 ∷ []) (child inner 1) in
        let behind = ih body x inside (vs ++ x0 ∷ []) (rest i.left) (child inner 1) (subst (λ m. Sound t m body) (sym wide) (s.inside 1 (1, body) refl))
        (have_append g K env vs (signal m ∷ []) (x0 ∷ []) en (name, tt)) st.1 kp.1 in
        let node : R (spent m) 0 = spent_work x n feeds (i.part ∷ []) (Some last) i.left 0 st.2 (λ kn. refl) in
        let both = pays.sums.both _ _ _ 0 (two x _ _ _ _ _ _ front behind) node in
        let own : (beside b.value (state_next of_feedback (d.value ∷ b.value ∷ []))).cost ≡ 0 = beside_cost b.value (state_next of_feedback (d.value ∷ b.value ∷ [])) in
        opens (core.Feedback (f init) (f body)) (Core-F.Feedback (f init) (f body)) k _ (outs-Feedback (f init) (f body))
        (same_cost _ _ _ (line_cost d.cost b.cost _ own) (same_sum _ _ _ (named (add init env ms) (spent m) (add body inside (rest i.left)) (when (q.begun x) (build init env ms + build body inside (rest i.left)))) both))
      where
        zero_more : (m : ℕ) → m + 0 ≡ m
        zero_more m = omega arith

        named : (a m c z : ℕ) → (a + c) + z + m ≡ (a + (m + c)) + z
        named a m c z = omega arith

        line_cost : (a b l : ℕ) → l ≡ 0 → a + b + 0 ≡ (a + (b + 0)) + l
        line_cost a b l e = omega (arith, e)
    shape_cost (Low-F.Collapse id ss) ms k s st kp =
        let others = map (slot_seen sources vs) ss in
        let slots = slots_on g K p pr plan sources before closed settled eras means n few (agrees_at n below) x env vs en ss st.0 in
        let work = work_costs x n (runs id.0) (slot_parts p env ss) others ms None st.1 slots (λ e. absurd (false≢true (sym e))) in
        let m = kernel_means g K p pr plan sources before closed settled eras means n few (agrees_at n below) x env vs en (suc n) id.0 0 ss [] k few s.fits refl in
        same_cost _ _ _ (m.cost ∙ ap (λ us. (eval_to (suc n) w (kernel_expr t.kernels id.0) us k).cost) (append-nil vs)) work

  -- THE COSTS. What is spent along the walk of an expression, eras of known watches too, and in building its era stands so to the cost of its evaluation.
  pub costs_on : (n : ℕ) → n ≤ 2001 → CostsAt n
  unfolding place eval_to Wired Keeps along built
  costs_on zero few e x env vs ms k s en st kp = absurd st
  costs_on (suc n) few e x env vs ms k s en st kp =
      let below : n ≤ 2001 = omega (arith, few) in
      subst (λ c. Costs x (add_shape g p known spent (place p n) (along g p known spent n) env ms (out-Low e)) (build_shape p n (place p n) (built p n) env ms (out-Low e)) (eval_to (suc n) w c vs k).cost) (sym (erase-opens t.kernels e))
      (shape_cost n few (costs_on n below) x env vs en (out-Low e) ms k (sound_shape t (length env) e s) st kp)
