-- What stands for an expression never changes or is the value of a live node.
use Rattle.std.proofs.Common.{◌≡◌, inl, inr, ℕ, zero, suc, Bool, true, false, ◌&&◌, if◌then◌else◌, List, [], ◌∷◌, ◌++◌, length, slice_get, refl, subst, Option, Some, None, Result, Ok, Err}
use Rattle.fr_value.specs.declared.now.Bad.{Bad}
use Rattle.fr_core.specs.declared.lowered.Low.{Low, out-Low}
use Rattle.fr_core.specs.declared.lowered.Low.TheOpen.{Low-F}
use Rattle.fr_core.specs.declared.lowered.LowItem.{LowItem}
use Rattle.fr_core.specs.declared.lowered.LowItem.TheVariants as low_item
use Rattle.fr_meaning.specs.Words.{test_of}
use Rattle.fr_graph.specs.Graph.{Part, steady, signal, Work, operates, handles, loops, runs, works, Graph, IsClean, work_line, is_plain}
use Rattle.fr_graph.specs.Walk.{Plan, first, rest, Walk, AllPlaced, place_all, by_next, by_value, all_steady, steady_values, place_work, variable_part, slot_parts, place_chosen, place_switch, low_body, place_call, place_shape, place}
use Rattle.fr_graph.specs.Wired.{IsNext, inputs_of, later_of, Either, WorkStands, AllStand, Chosen, SwitchStands, CallStands, ShapeStands, Wired}
use Rattle.fr_graph.specs.Known.{Reads}
use Rattle.fr_graph.specs.Items.{place_items, ItemsStand}

module _ (g : Graph) (p : Plan) (x : ℕ) where
  -- the signals among parts are nodes that live
  abbrev pub AreLive : List Part → Type 0
  AreLive ps = (j : ℕ) → Reads j ps → g.live j ≡ true

  live_one : (m : ℕ) → g.live m ≡ true → AreLive (signal m ∷ [])
  live_one m lv j rd = elim rd [
    | inl e ↦ subst (λ (i : ℕ). g.live i ≡ true) e lv
    | inr none ↦ absurd none
  ]

  live_append : (ps qs : List Part) → AreLive ps → AreLive qs → AreLive (ps ++ qs)
  live_append [] qs a b = b
  live_append (steady v ∷ ps) qs a b = live_append ps qs a b
  live_append (signal m ∷ ps) qs a b = λ j rd. elim rd [
    | inl e ↦ a j (inl e)
    | inr more ↦ live_append ps qs (λ i r. a i (inr r)) b j more
  ]

  live_variable : (env : List Part) (i : ℕ) → AreLive env → AreLive (variable_part (slice_get env i) ∷ [])
  live_variable [] i live = λ j rd. absurd rd
  live_variable (steady v ∷ env) zero live = λ j rd. absurd rd
  live_variable (signal m ∷ env) zero live = live_one m (live m (inl refl))
  live_variable (steady v ∷ env) (suc i) live = live_variable env i live
  live_variable (signal m ∷ env) (suc i) live = live_variable env i (λ j rd. live j (inr rd))

  -- what stands for an expression on so many levels lives where the variables in scope do
  abbrev pub LivesAt : ℕ → Type 0
  LivesAt n = (e : Low) (env : List Part) (ms : List ℕ) → AreLive env → Wired g p x n e env ms → AreLive ((place p n e env ms).part ∷ [])

  live_work : (n : ℕ) (w : Work) (ps : List Part) (ms : List ℕ) → WorkStands g p x n w ps ms → AreLive ((place_work p n w ps ms).part ∷ [])
  live_work n w ps ms st = by_steady (is_plain w && all_steady ps) st
    where
      by_steady : (b : Bool) → Either b (IsClean (work_line p.table n w None (steady_values ps))) (IsNext g x n (works w) (inputs_of w ps) (later_of w ps) ms)
          → AreLive ((if b then by_value (work_line p.table n w None (steady_values ps)).value ms else by_next ms).part ∷ [])
      by_steady true st = λ j rd. absurd rd
      by_steady false st = live_one (first ms) st.live

  module _ (n : ℕ) (ih : LivesAt n) (env : List Part) (live : AreLive env) where
    abbrev walk : Walk
    walk = place p n

    abbrev Stands : Low → List Part → List ℕ → Type 0
    Stands = Wired g p x n

    live_all : (es : List Low) (ms : List ℕ) → AllStand walk Stands env es ms → AreLive (place_all walk env es ms).parts
    live_all [] ms st = λ j rd. absurd rd
    live_all (e ∷ es) ms st = live_append ((walk e env ms).part ∷ []) (place_all walk env es (walk e env ms).left).parts (ih e env ms live st.0) (live_all es (walk e env ms).left st.1)

    live_chosen : (a b : Low) (ms : List ℕ) (o : Result Bool Bad) → Chosen o (Stands a env ms) (Stands b env ms) → AreLive ((place_chosen walk a b env ms o).part ∷ [])
    live_chosen a b ms (Err bad) st = absurd st
    live_chosen a b ms (Ok true) st = ih a env ms live st
    live_chosen a b ms (Ok false) st = ih b env ms live st

    live_switch : (a b : Low) (h : Part) (ms : List ℕ) → SwitchStands g x n Stands a b env h ms → AreLive ((place_switch walk a b env h ms).part ∷ [])
    live_switch a b (steady v) ms st = live_chosen a b ms (test_of v) st
    live_switch a b (signal m) ms st = live_one (first (rest ms)) st.live

    live_call : (o : Option Low) (qs : AllPlaced) → AreLive qs.parts → CallStands Stands o qs → AreLive ((place_call walk o qs).part ∷ [])
    live_call None qs lq st = absurd st
    live_call (Some body) qs lq st = ih body qs.parts qs.left lq st

    live_shape : (l : Low-F Low) (ms : List ℕ) → ShapeStands g p x n walk Stands env ms l → AreLive ((place_shape p n walk env ms l).part ∷ [])
    live_shape (Low-F.Lit v) ms st = λ j rd. absurd rd
    live_shape (Low-F.Var v) ms st = live_variable env v.0 live
    live_shape (Low-F.Source s) ms st = live_one (p.node_of s.0) st.live
    live_shape (Low-F.Let es body) ms st =
        let qs = place_all walk env es ms in
        ih body (env ++ qs.parts) qs.left (live_append env qs.parts live (live_all es ms st.0)) st.1
    live_shape (Low-F.If site test a b) ms st = live_switch a b (walk test env ms).part (walk test env ms).left st.1
    live_shape (Low-F.Apply f es) ms st = live_call (low_body (slice_get p.functions f.0) (length es)) (place_all walk env es ms) (live_all es ms st.0) st.1
    live_shape (Low-F.Operator o es) ms st = let qs = place_all walk env es ms in live_work n (operates o) qs.parts qs.left st.1
    live_shape (Low-F.Handler h es id ss) ms st = let qs = place_all walk env es ms in live_work n (handles h id.0) (qs.parts ++ slot_parts p env ss) qs.left st.2
    live_shape (Low-F.Loop l es id ss) ms st = let qs = place_all walk env es ms in live_work n (loops l id.0) (qs.parts ++ slot_parts p env ss) qs.left st.2
    live_shape (Low-F.Feedback init body) ms st =
        let i = walk init env ms in
        ih body (env ++ signal (first i.left) ∷ []) (rest i.left) (live_append env (signal (first i.left) ∷ []) live (live_one (first i.left) st.2.live)) st.1
    live_shape (Low-F.Collapse id ss) ms st = live_work n (runs id.0) (slot_parts p env ss) ms st.1

  -- WHAT STANDS FOR AN EXPRESSION LIVES, or never changes.
  pub placed_lives : (n : ℕ) → LivesAt n
  unfolding place Wired
  placed_lives zero e env ms live st = absurd st
  placed_lives (suc n) e env ms live st = live_shape n (placed_lives n) env live (out-Low e) ms st

  -- so does what is shown
  pub shown_lives : (n : ℕ) (is : List LowItem) (env : List Part) (ms : List ℕ) → AreLive env → ItemsStand (place p n) (Wired g p x n) env is ms → AreLive (place_items (place p n) env is ms).parts
  shown_lives n [] env ms live st = λ j rd. absurd rd
  shown_lives n (low_item.Define e ∷ is) env ms live st =
      let r = place p n e env ms in
      shown_lives n is (env ++ r.part ∷ []) r.left (live_append env (r.part ∷ []) live (placed_lives n e env ms live st.0)) st.1
  shown_lives n (low_item.Show name e ∷ is) env ms live st =
      let r = place p n e env ms in
      live_append (r.part ∷ []) (place_items (place p n) env is r.left).parts (placed_lives n e env ms live st.0) (shown_lives n is env r.left live st.1)
