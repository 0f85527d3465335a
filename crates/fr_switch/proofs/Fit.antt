-- Each node that stands in the walk of what can be built is fit.
use Rattle.std.proofs.Common.{◌≡◌, ◌⊎◌, inl, inr, ◌+◌, ◌<◌, ℕ, zero, suc, Bool, true, false, ◌&&◌, if◌then◌else◌, List, [], ◌∷◌, ◌++◌, length, slice_get, refl, ap, sym, ◌∙◌, subst, length-append, nat_eq, Option, Some, None, Result, Ok, Err}
use Rattle.std.proofs.lemmas.Option.{slice_get_within}
use Rattle.fr_value.specs.declared.now.Bad.{Bad}
use Rattle.fr_core.specs.declared.lowered.Low.{Low, out-Low}
use Rattle.fr_core.specs.declared.lowered.Low.TheOpen.{Low-F}
use Rattle.fr_core.specs.declared.lowered.LowFunction.{LowFunction}
use Rattle.fr_core.specs.declared.lowered.LowItem.{LowItem}
use Rattle.fr_core.specs.declared.lowered.LowItem.TheVariants as low_item
use Rattle.fr_core.specs.Shapes.{outer}
use Rattle.fr_meaning.specs.Words.{test_of}
use Rattle.fr_links.specs.Lists.{has_item}
use Rattle.fr_links.proofs.Has.{eq_is, or_case}
use Rattle.fr_kernel.specs.Kernels.{Kernels}
use Rattle.fr_kernel.specs.Erasure.{Named, Fits}
use Rattle.fr_graph.specs.Graph.{Part, steady, signal, Work, operates, handles, loops, runs, feeds, Kind, works, watch, result, Graph, IsClean, work_line, is_plain}
use Rattle.fr_graph.specs.Walk.{Plan, first, rest, Walk, AllPlaced, place_all, by_value, by_next, all_steady, steady_values, place_work, slot_parts, low_body, place_chosen, place_switch, place_call, place_shape, place}
use Rattle.fr_graph.specs.Wired.{IsNext, inputs_of, later_of, Either, WorkStands, AllStand, Chosen, SwitchStands, CallStands, ShapeStands, Wired}
use Rattle.fr_graph.specs.Items.{place_items, ItemsStand, body_walk}
use Rattle.fr_graph.proofs.Inside.{all_length}
use Rattle.fr_events.specs.Works.{HasKernel}
use Rattle.fr_way.specs.Frame.{is_watch}
use Rattle.fr_nodes.specs.Kinds.{Sites}
use Rattle.fr_ready.specs.Planning.{ItemsReady}
use Rattle.fr_ready.specs.Ready.{Planned, plan_of, IsReady, IsPlanReady, Matches, PlanMatches}
use Rattle.fr_ready.specs.Switches.{ItemsMatch}
use Rattle.fr_switch.specs.Fit.{IsBuildable, IsFit}
use Rattle.fr_switch.proofs.Parts.{At, InsideAt, both_at, ready_at, matches_at, IsShapeAt, shape_at, in_place, before_body, body_at, called_at, bodies_at}

-- a member is the next one or among the rest
next_or_rest : (ms : List ℕ) (m : ℕ) → has_item ms m ≡ true → (m ≡ first ms) ⊎ (has_item (rest ms) m ≡ true)
next_or_rest [] m h = absurd cc
next_or_rest (k ∷ ms) m h = or_case (nat_eq k m) (has_item ms m) h (λ e. inl (sym (eq_is k m e))) (λ e. inr e)

none_there : (ms : List ℕ) (m : ℕ) → ms ≡ [] → has_item ms m ≡ true → ⊥
none_there [] m e h = cc
none_there (k ∷ ms) m e h = cc

-- the choices and the scope of a watch
parts_in : Low × Low × List Part → Kind → Low × Low × List Part
parts_in d (watch a b scope) = (a, b, scope)
parts_in d k = d

same_parts : (a b c d : Low) (env scope : List Part) → watch a b env ≡ watch c d scope → Path (Low × Low × List Part) (a, b, env) (c, d, scope)
unfolding parts_in
same_parts a b c d env scope e = ap (parts_in (a, b, env)) e

-- the work of a kind
work_in : Work → Kind → Work
work_in d (works v) = v
work_in d k = d

same_work : (w v : Work) → works w ≡ works v → w ≡ v
unfolding work_in
same_work w v e = ap (work_in w) e

module _ (planned : Planned) (sites : Sites) (g : Graph) (m : ℕ) where
  -- a node of a work
  work_fits : (w : Work) → HasKernel planned.table w → g.kind m ≡ works w → IsFit planned sites g m
  work_fits w has k = record {
    kernel = λ v e. subst (HasKernel planned.table) (same_work w v (sym k ∙ e)) has;
    test = λ i. let no : is_watch (g.kind m) ≡ false = ap is_watch k in absurd cc;
    choices = λ a b scope e. absurd (let no : works w ≡ watch a b scope = sym k ∙ e in cc);
  }

  result_fits : g.kind m ≡ result → IsFit planned sites g m
  result_fits k = record {
    kernel = λ v e. absurd (let no : result ≡ works v = sym k ∙ e in cc);
    test = λ i. let no : is_watch (g.kind m) ≡ false = ap is_watch k in absurd cc;
    choices = λ a b scope e. absurd (let no : result ≡ watch a b scope = sym k ∙ e in cc);
  }

  watch_fits : (a b : Low) (env : List Part) (test : Part) → At planned sites (length env) a → At planned sites (length env) b → g.kind m ≡ watch a b env → g.inputs m ≡ test ∷ []
      → IsFit planned sites g m
  watch_fits a b env test ya nb k reads = record {
    kernel = λ v e. absurd (let no : watch a b env ≡ works v = sym k ∙ e in cc);
    test = λ i. (test, reads);
    choices = λ c d scope e. subst (λ (q : Low × Low × List Part). IsBuildable planned sites q.0 q.1 q.2) (same_parts a b c d env scope (sym k ∙ e)) here;
  }
    where
      here : IsBuildable planned sites a b env
      here = record {
        yes = ready_at planned sites (length env) a ya;
        no = ready_at planned sites (length env) b nb;
        yes_matches = matches_at planned sites (length env) a ya;
        no_matches = matches_at planned sites (length env) b nb;
      }

-- the kernel that a shape names is there
named_there : (t : Kernels) (n : ℕ) (named : Named) → Fits t.kernels n named → named.id < length t.kernels
named_there t n named f = slice_get_within t.kernels named.id f.kernel f.stands

-- a member is fit, or left over
module _ (planned : Planned) (sites : Sites) (bodies : (i : ℕ) (f : LowFunction) → slice_get planned.functions i ≡ Some f → At planned sites f.params f.body) (g : Graph) (m : ℕ) where
  abbrev p : Plan
  p = plan_of planned

  abbrev Fit : Type 0
  Fit = IsFit planned sites g m

  abbrev IsLeft : List ℕ → Type 0
  IsLeft ms = has_item ms m ≡ true

  abbrev pub FitAt : ℕ → Type 0
  FitAt n = (e : Low) (x : ℕ) (env : List Part) (ms : List ℕ) → At planned sites (length env) e → Wired g p x n e env ms → IsLeft ms → Fit ⊎ IsLeft (place p n e env ms).left

  fit_work : (x n : ℕ) (w : Work) (ps : List Part) (ms : List ℕ) → HasKernel planned.table w → WorkStands g p x n w ps ms → IsLeft ms → Fit ⊎ IsLeft (place_work p n w ps ms).left
  fit_work x n w ps ms has st h = by_steady (is_plain w && all_steady ps) st
    where
      by_steady : (b : Bool) → Either b (IsClean (work_line p.table n w None (steady_values ps))) (IsNext g x n (works w) (inputs_of w ps) (later_of w ps) ms)
          → Fit ⊎ IsLeft (if b then by_value (work_line p.table n w None (steady_values ps)).value ms else by_next ms).left
      by_steady true st = inr h
      by_steady false st = elim (next_or_rest ms m h) [
        | inl e ↦ inl (work_fits planned sites g m w has (ap g.kind e ∙ st.kind))
        | inr k ↦ inr k
      ]

  module _ (n : ℕ) (ih : FitAt n) (x : ℕ) (env : List Part) where
    abbrev walk : Walk
    walk = place p n

    abbrev Stands : Low → List Part → List ℕ → Type 0
    Stands = Wired g p x n

    fit_all : (es : List Low) (ms : List ℕ) → InsideAt planned sites (length env) (outer es) → AllStand walk Stands env es ms → IsLeft ms → Fit ⊎ IsLeft (place_all walk env es ms).left
    fit_all [] ms at st h = inr h
    fit_all (e ∷ es) ms at st h = elim (ih e x env ms (in_place planned sites (length env) e (at zero (0, e) refl)) st.0 h) [
      | inl o ↦ inl o
      | inr l ↦ fit_all es (walk e env ms).left (λ i y k. at (suc i) y k) st.1 l
    ]

    fit_chosen : (a b : Low) (ms : List ℕ) (o : Result Bool Bad) → At planned sites (length env) a → At planned sites (length env) b → Chosen o (Stands a env ms) (Stands b env ms) → IsLeft ms
        → Fit ⊎ IsLeft (place_chosen walk a b env ms o).left
    fit_chosen a b ms (Err bad) ya nb st h = absurd st
    fit_chosen a b ms (Ok true) ya nb st h = ih a x env ms ya st h
    fit_chosen a b ms (Ok false) ya nb st h = ih b x env ms nb st h

    fit_switch : (a b : Low) (t : Part) (ms : List ℕ) → At planned sites (length env) a → At planned sites (length env) b → SwitchStands g x n Stands a b env t ms → IsLeft ms
        → Fit ⊎ IsLeft (place_switch walk a b env t ms).left
    fit_switch a b (steady v) ms ya nb st h = fit_chosen a b ms (test_of v) ya nb st h
    fit_switch a b (signal i) ms ya nb st h = elim (next_or_rest ms m h) [
      | inl e ↦ inl (watch_fits planned sites g m a b env (signal i) ya nb (ap g.kind e ∙ st.watch.kind) (ap g.inputs e ∙ st.watch.inputs))
      | inr l ↦ elim (next_or_rest (rest ms) m l) [
        | inl e ↦ inl (result_fits planned sites g m (ap g.kind e ∙ st.kind))
        | inr k ↦ inr k
      ]
    ]

    fit_call : (o : Option Low) (qs : AllPlaced) → ((body : Low) → o ≡ Some body → At planned sites (length qs.parts) body) → CallStands Stands o qs → IsLeft qs.left → Fit ⊎ IsLeft (place_call walk o qs).left
    fit_call None qs at st h = absurd st
    fit_call (Some body) qs at st h = ih body x qs.parts qs.left (at body refl) st h

    -- the parts, then a work
    fit_over : (es : List Low) (ms : List ℕ) (w : Work) (ps : List Part) → InsideAt planned sites (length env) (outer es) → HasKernel planned.table w → AllStand walk Stands env es ms
        → WorkStands g p x n w ps (place_all walk env es ms).left → IsLeft ms → Fit ⊎ IsLeft (place_work p n w ps (place_all walk env es ms).left).left
    fit_over es ms w ps at has st work h = elim (fit_all es ms at st h) [
      | inl o ↦ inl o
      | inr l ↦ fit_work x n w ps (place_all walk env es ms).left has work l
    ]

    fit_shape : (l : Low-F Low) (ms : List ℕ) → IsShapeAt planned sites (length env) l → ShapeStands g p x n walk Stands env ms l → IsLeft ms → Fit ⊎ IsLeft (place_shape p n walk env ms l).left
    fit_shape (Low-F.Lit v) ms at st h = inr h
    fit_shape (Low-F.Var v) ms at st h = inr h
    fit_shape (Low-F.Source s) ms at st h = inr h
    fit_shape (Low-F.Let es body) ms at st h =
        let qs = place_all walk env es ms in
        let long : length env + length es ≡ length (env ++ qs.parts) = sym (length-append env qs.parts ∙ ap (λ k. length env + k) (all_length walk env es ms)) in
        let inner = subst (λ k. At planned sites k body) long (body_at planned sites (length env) es (length es, body) at.inside) in
        elim (fit_all es ms (before_body planned sites (length env) es (length es, body) at.inside) st.0 h) [
          | inl o ↦ inl o
          | inr k ↦ ih body x (env ++ qs.parts) qs.left inner st.1 k
        ]
    fit_shape (Low-F.If site test a b) ms at st h =
        let t = walk test env ms in
        let part : (i : ℕ) (e : Low) → slice_get (outer (test ∷ a ∷ b ∷ [])) i ≡ Some (0, e) → At planned sites (length env) e = λ i e k. in_place planned sites (length env) e (at.inside i (0, e) k) in
        elim (ih test x env ms (part 0 test refl) st.0 h) [
          | inl o ↦ inl o
          | inr l ↦ fit_switch a b t.part t.left (part 1 a refl) (part 2 b refl) st.1 l
        ]
    fit_shape (Low-F.Apply f es) ms at st h =
        let qs = place_all walk env es ms in
        let o = low_body (slice_get p.functions f.0) (length es) in
        let long : length es ≡ length qs.parts = sym (all_length walk env es ms) in
        elim (fit_all es ms at.inside st.0 h) [
          | inl o ↦ inl o
          | inr l ↦ fit_call o qs (λ body e. subst (λ k. At planned sites k body) long (called_at planned sites bodies f.0 (length es) body e)) st.1 l
        ]
    fit_shape (Low-F.Operator o es) ms at st h = fit_over es ms (operates o) (place_all walk env es ms).parts at.inside tt st.0 st.1 h
    fit_shape (Low-F.Handler f es id ss) ms at st h =
        fit_over es ms (handles f id.0) ((place_all walk env es ms).parts ++ slot_parts p env ss) at.inside (named_there planned.table (length env) _ at.fits) st.0 st.2 h
    fit_shape (Low-F.Loop f es id ss) ms at st h =
        fit_over es ms (loops f id.0) ((place_all walk env es ms).parts ++ slot_parts p env ss) at.inside (named_there planned.table (length env) _ at.fits) st.0 st.2 h
    fit_shape (Low-F.Feedback init body) ms at st h =
        let i = walk init env ms in
        let fed : List Part = signal (first i.left) ∷ [] in
        let long : length env + 1 ≡ length (env ++ fed) = sym (length-append env fed) in
        let inner = subst (λ k. At planned sites k body) long (at.inside 1 (1, body) refl) in
        elim (ih init x env ms (in_place planned sites (length env) init (at.inside 0 (0, init) refl)) st.0 h) [
          | inl o ↦ inl o
          | inr l ↦ elim (next_or_rest i.left m l) [
            | inl e ↦ inl (work_fits planned sites g m feeds tt (ap g.kind e ∙ st.2.kind))
            | inr k ↦ ih body x (env ++ fed) (rest i.left) inner st.1 k
          ]
        ]
    fit_shape (Low-F.Collapse id ss) ms at st h = fit_work x n (runs id.0) (slot_parts p env ss) ms (named_there planned.table (length env) _ at.fits) st.1 h

  pub fit_on : (n : ℕ) → FitAt n
  unfolding place Wired
  fit_on zero e x env ms at st h = absurd st
  fit_on (suc n) e x env ms at st h = fit_shape n (fit_on n) x env (out-Low e) ms (shape_at planned sites (length env) e at) st h

  pub items_fit_on : (n : ℕ) (is : List LowItem) (x : ℕ) (env : List Part) (ms : List ℕ) → ItemsReady planned (length env) is → ItemsMatch sites (length env) is
      → ItemsStand (place p n) (Wired g p x n) env is ms → IsLeft ms → Fit ⊎ IsLeft (place_items (place p n) env is ms).left
  items_fit_on n [] x env ms ready matches st h = inr h
  items_fit_on n (low_item.Define e ∷ is) x env ms ready matches st h =
      let r = place p n e env ms in
      let one : List Part = r.part ∷ [] in
      let long : length env + 1 ≡ length (env ++ one) = sym (length-append env one) in
      elim (fit_on n e x env ms (both_at planned sites (length env) e ready.0 matches.0) st.0 h) [
        | inl o ↦ inl o
        | inr l ↦ items_fit_on n is x (env ++ one) r.left (subst (λ k. ItemsReady planned k is) long ready.1) (subst (λ k. ItemsMatch sites k is) long matches.1) st.1 l
      ]
  items_fit_on n (low_item.Show name e ∷ is) x env ms ready matches st h =
      let r = place p n e env ms in
      elim (fit_on n e x env ms (both_at planned sites (length env) e ready.0 matches.0) st.0 h) [
        | inl o ↦ inl o
        | inr l ↦ items_fit_on n is x env r.left ready.1 matches.1 st.1 l
      ]

-- where each member is used, each is fit

pub expression_fits : (planned : Planned) (sites : Sites) (g : Graph) (x n : ℕ) (e : Low) (env : List Part) (ms : List ℕ) (m : ℕ) → IsPlanReady planned → PlanMatches sites planned
    → IsReady planned (length env) e → Matches sites (length env) e → Wired g (plan_of planned) x n e env ms → (place (plan_of planned) n e env ms).left ≡ [] → has_item ms m ≡ true → IsFit planned sites g m
expression_fits planned sites g x n e env ms m plan whole ready matches st all h =
    elim (fit_on planned sites (bodies_at planned sites plan whole) g m n e x env ms (both_at planned sites (length env) e ready matches) st h) [
      | inl o ↦ o
      | inr l ↦ absurd (none_there (place (plan_of planned) n e env ms).left m all l)
    ]

pub items_fit : (planned : Planned) (sites : Sites) (g : Graph) (is : List LowItem) (ms : List ℕ) (m : ℕ) → IsPlanReady planned → PlanMatches sites planned → ItemsReady planned 0 is → ItemsMatch sites 0 is
    → ItemsStand (body_walk (plan_of planned)) (Wired g (plan_of planned) 0 2000) [] is ms → (place_items (body_walk (plan_of planned)) [] is ms).left ≡ [] → has_item ms m ≡ true → IsFit planned sites g m
items_fit planned sites g is ms m plan whole ready matches st all h =
    elim (items_fit_on planned sites (bodies_at planned sites plan whole) g m 2000 is 0 [] ms ready matches st h) [
      | inl o ↦ o
      | inr l ↦ absurd (none_there (place_items (body_walk (plan_of planned)) [] is ms).left m all l)
    ]
