-- Each node of a work or a watch stands in the walk of the items.
use Rattle.std.proofs.Common.{◌≡◌, ◌⊎◌, inl, inr, ◌<◌, ℕ, zero, suc, Bool, true, false, ◌&&◌, if◌then◌else◌, List, [], ◌∷◌, ◌++◌, length, slice_get, nat_eq, refl, ap, sym, ◌∙◌, subst, arith, Option, Some, None, Result, Ok, Err}
use Rattle.fr_value.specs.declared.now.Bad.{Bad}
use Rattle.fr_core.specs.declared.lowered.Low.{Low, out-Low}
use Rattle.fr_core.specs.declared.lowered.Low.TheOpen.{Low-F}
use Rattle.fr_core.specs.declared.lowered.LowItem.{LowItem}
use Rattle.fr_core.specs.declared.lowered.LowItem.TheVariants as low_item
use Rattle.fr_meaning.specs.Words.{test_of}
use Rattle.fr_links.specs.Lists.{has_item}
use Rattle.fr_links.proofs.Has.{eq_is, or_case}
use Rattle.fr_graph.specs.Graph.{Part, steady, signal, Work, operates, handles, loops, runs, feeds, Kind, source, works, watch, result, Graph, IsClean, work_line, is_plain}
use Rattle.fr_graph.specs.Walk.{Plan, first, rest, Walk, AllPlaced, place_all, by_value, by_next, all_steady, steady_values, place_work, slot_parts, low_body, place_chosen, place_switch, place_call, place_shape, place}
use Rattle.fr_graph.specs.Wired.{IsNext, inputs_of, later_of, Either, WorkStands, AllStand, Chosen, SwitchStands, CallStands, ShapeStands, Wired, EraStands}
use Rattle.fr_graph.specs.Known.{ErasStandOn}
use Rattle.fr_graph.specs.Items.{place_items, ItemsStand}
use Rattle.fr_graph.specs.Front.{AnyOccurs, WorkOccurs, SwitchOccurs, CallOccurs, ShapeOccurs, Occurs, ItemsOccur}
use Rattle.fr_way.specs.Frame.{is_source, is_watch, IsFramed}
use Rattle.fr_way.specs.Fronts.{stands_itself}

-- a member is the next one or among the rest
next_or_rest : (ms : List ℕ) (m : ℕ) → has_item ms m ≡ true → (m ≡ first ms) ⊎ (has_item (rest ms) m ≡ true)
next_or_rest [] m h = absurd cc
next_or_rest (k ∷ ms) m h = or_case (nat_eq k m) (has_item ms m) h (λ e. inl (sym (eq_is k m e))) (λ e. inr e)

none_there : (ms : List ℕ) (m : ℕ) → ms ≡ [] → has_item ms m ≡ true → ⊥
none_there [] m e h = cc
none_there (k ∷ ms) m e h = cc

result_not_itself : {A : Type 0} (k : Kind) → k ≡ result → stands_itself k ≡ true → A
result_not_itself k e s = let h : stands_itself k ≡ false = ap stands_itself e in cc

work_no_watch : {A : Type 0} (k : Kind) (w : Work) → k ≡ works w → is_watch k ≡ true → A
work_no_watch k w e s = let h : is_watch k ≡ false = ap is_watch e in cc

watch_itself : (k : Kind) → is_watch k ≡ true → stands_itself k ≡ true
watch_itself (source s) e = cc
watch_itself (works w) e = refl
watch_itself (watch a b env) e = refl
watch_itself result e = cc

itself_no_source : (k : Kind) → stands_itself k ≡ true → is_source k ≡ false
itself_no_source (source s) e = cc
itself_no_source (works w) e = refl
itself_no_source (watch a b env) e = refl
itself_no_source result e = refl

-- a node among the members stands in the walk or is left over
module _ (g : Graph) (known : ℕ → Type 0) (p : Plan) (m : ℕ) (itself : stands_itself (g.kind m) ≡ true) where
  abbrev IsLeft : List ℕ → Type 0
  IsLeft ms = has_item ms m ≡ true

  abbrev pub UsedAt : ℕ → Type 0
  UsedAt n = (e : Low) (x : ℕ) (env : List Part) (ms : List ℕ) → Wired g p x n e env ms → IsLeft ms → Occurs g p known m n e env ms ⊎ IsLeft (place p n e env ms).left

  used_work : (n : ℕ) (w : Work) (ps : List Part) (ms : List ℕ) → IsLeft ms → WorkOccurs m w ps ms ⊎ IsLeft (place_work p n w ps ms).left
  used_work n w ps ms h = by_steady (is_plain w && all_steady ps)
    where
      by_steady : (b : Bool) → Either b ⊥ (m ≡ first ms) ⊎ IsLeft (if b then by_value (work_line p.table n w None (steady_values ps)).value ms else by_next ms).left
      by_steady true = inr h
      by_steady false = next_or_rest ms m h

  module _ (n : ℕ) (ih : UsedAt n) (x : ℕ) (env : List Part) where
    abbrev walk : Walk
    walk = place p n

    abbrev Stands : Low → List Part → List ℕ → Type 0
    Stands = Wired g p x n

    abbrev O : Low → List Part → List ℕ → Type 0
    O = Occurs g p known m n

    used_all : (es : List Low) (ms : List ℕ) → AllStand walk Stands env es ms → IsLeft ms → AnyOccurs walk O env es ms ⊎ IsLeft (place_all walk env es ms).left
    used_all [] ms st h = inr h
    used_all (e ∷ es) ms st h = elim (ih e x env ms st.0 h) [
      | inl o ↦ inl (inl o)
      | inr l ↦ elim (used_all es (walk e env ms).left st.1 l) [ inl o ↦ inl (inr o) | inr k ↦ inr k ]
    ]

    used_chosen : (a b : Low) (ms : List ℕ) (o : Result Bool Bad) → Chosen o (Stands a env ms) (Stands b env ms) → IsLeft ms → Chosen o (O a env ms) (O b env ms) ⊎ IsLeft (place_chosen walk a b env ms o).left
    used_chosen a b ms (Err bad) st h = absurd st
    used_chosen a b ms (Ok true) st h = ih a x env ms st h
    used_chosen a b ms (Ok false) st h = ih b x env ms st h

    used_switch : (a b : Low) (t : Part) (ms : List ℕ) → SwitchStands g x n Stands a b env t ms → IsLeft ms → SwitchOccurs g known m O a b env t ms ⊎ IsLeft (place_switch walk a b env t ms).left
    used_switch a b (steady v) ms st h = used_chosen a b ms (test_of v) st h
    used_switch a b (signal i) ms st h = elim (next_or_rest ms m h) [
      | inl e ↦ inl (inl e)
      | inr l ↦ elim (next_or_rest (rest ms) m l) [
        | inl e ↦ result_not_itself (g.kind m) (ap g.kind e ∙ st.kind) itself
        | inr k ↦ inr k
      ]
    ]

    used_call : (o : Option Low) (qs : AllPlaced) → CallStands Stands o qs → IsLeft qs.left → CallOccurs O o qs ⊎ IsLeft (place_call walk o qs).left
    used_call None qs st h = absurd st
    used_call (Some body) qs st h = ih body x qs.parts qs.left st h

    used_shape : (l : Low-F Low) (ms : List ℕ) → ShapeStands g p x n walk Stands env ms l → IsLeft ms → ShapeOccurs g p known m walk O env ms l ⊎ IsLeft (place_shape p n walk env ms l).left
    used_shape (Low-F.Lit v) ms st h = inr h
    used_shape (Low-F.Var v) ms st h = inr h
    used_shape (Low-F.Source s) ms st h = inr h
    used_shape (Low-F.Let es body) ms st h =
        let qs = place_all walk env es ms in
        elim (used_all es ms st.0 h) [
          | inl o ↦ inl (inl o)
          | inr l ↦ elim (ih body x (env ++ qs.parts) qs.left st.1 l) [ inl o ↦ inl (inr o) | inr k ↦ inr k ]
        ]
    used_shape (Low-F.If site test a b) ms st h = elim (ih test x env ms st.0 h) [
      | inl o ↦ inl (inl o)
      | inr l ↦ elim (used_switch a b (walk test env ms).part (walk test env ms).left st.1 l) [ inl o ↦ inl (inr o) | inr k ↦ inr k ]
    ]
    used_shape (Low-F.Apply f es) ms st h = elim (used_all es ms st.0 h) [
      | inl o ↦ inl (inl o)
      | inr l ↦ elim (used_call (low_body (slice_get p.functions f.0) (length es)) (place_all walk env es ms) st.1 l) [ inl o ↦ inl (inr o) | inr k ↦ inr k ]
    ]
    used_shape (Low-F.Operator o es) ms st h =
        let qs = place_all walk env es ms in
        elim (used_all es ms st.0 h) [
          | inl u ↦ inl (inl u)
          | inr l ↦ elim (used_work n (operates o) qs.parts qs.left l) [ inl u ↦ inl (inr u) | inr k ↦ inr k ]
        ]
    used_shape (Low-F.Handler f es id ss) ms st h =
        let qs = place_all walk env es ms in
        elim (used_all es ms st.0 h) [
          | inl u ↦ inl (inl u)
          | inr l ↦ elim (used_work n (handles f id.0) (qs.parts ++ slot_parts p env ss) qs.left l) [ inl u ↦ inl (inr u) | inr k ↦ inr k ]
        ]
    used_shape (Low-F.Loop f es id ss) ms st h =
        let qs = place_all walk env es ms in
        elim (used_all es ms st.0 h) [
          | inl u ↦ inl (inl u)
          | inr l ↦ elim (used_work n (loops f id.0) (qs.parts ++ slot_parts p env ss) qs.left l) [ inl u ↦ inl (inr u) | inr k ↦ inr k ]
        ]
    used_shape (Low-F.Feedback init body) ms st h =
        let i = walk init env ms in
        let inside = env ++ signal (first i.left) ∷ [] in
        elim (ih init x env ms st.0 h) [
          | inl o ↦ inl (inl o)
          | inr l ↦ elim (next_or_rest i.left m l) [
            | inl e ↦ inl (inr (inr e))
            | inr k ↦ elim (ih body x inside (rest i.left) st.1 k) [ inl o ↦ inl (inr (inl o)) | inr j ↦ inr j ]
          ]
        ]
    used_shape (Low-F.Collapse id ss) ms st h = used_work n (runs id.0) (slot_parts p env ss) ms h

  pub used_on : (n : ℕ) → UsedAt n
  unfolding place Wired Occurs
  used_on zero e x env ms st h = absurd st
  used_on (suc n) e x env ms st h = used_shape n (used_on n) x env (out-Low e) ms st h

  pub items_used : (n : ℕ) (is : List LowItem) (x : ℕ) (env : List Part) (ms : List ℕ) → ItemsStand (place p n) (Wired g p x n) env is ms → IsLeft ms
      → ItemsOccur (place p n) (Occurs g p known m n) env is ms ⊎ IsLeft (place_items (place p n) env is ms).left
  items_used n [] x env ms st h = inr h
  items_used n (low_item.Define e ∷ is) x env ms st h =
      let r = place p n e env ms in
      elim (used_on n e x env ms st.0 h) [
        | inl o ↦ inl (inl o)
        | inr l ↦ elim (items_used n is x (env ++ r.part ∷ []) r.left st.1 l) [ inl o ↦ inl (inr o) | inr k ↦ inr k ]
      ]
  items_used n (low_item.Show name e ∷ is) x env ms st h =
      let r = place p n e env ms in
      elim (used_on n e x env ms st.0 h) [
        | inl o ↦ inl (inl o)
        | inr l ↦ elim (items_used n is x env r.left st.1 l) [ inl o ↦ inl (inr o) | inr k ↦ inr k ]
      ]

-- a member of the era of a known watch stands wherever that does
module _ (g : Graph) (known : ℕ → Type 0) (p : Plan) (eras : ErasStandOn g known p) (m w : ℕ) (itself : stands_itself (g.kind m) ≡ true)
    (watches : is_watch (g.kind w) ≡ true) (kw : known w) (joined : has_item (g.members (suc w)) m ≡ true) where
  abbrev pub RisesAt : ℕ → Type 0
  RisesAt n = (e : Low) (x : ℕ) (env : List Part) (ms : List ℕ) → Wired g p x n e env ms → Occurs g p known w n e env ms → Occurs g p known m n e env ms

  rises_work : (x n : ℕ) (v : Work) (ps : List Part) (ms : List ℕ) → WorkStands g p x n v ps ms → WorkOccurs w v ps ms → WorkOccurs m v ps ms
  rises_work x n v ps ms st oc = by_steady (is_plain v && all_steady ps) st oc
    where
      by_steady : (b : Bool) → Either b (IsClean (work_line p.table n v None (steady_values ps))) (IsNext g x n (works v) (inputs_of v ps) (later_of v ps) ms)
          → Either b ⊥ (w ≡ first ms) → Either b ⊥ (m ≡ first ms)
      by_steady true st oc = oc
      by_steady false st oc = work_no_watch (g.kind w) v (ap g.kind oc ∙ st.kind) watches

  module _ (n : ℕ) (ih : RisesAt n) (x : ℕ) (env : List Part) where
    abbrev step : Walk
    step = place p n

    abbrev Wires : Low → List Part → List ℕ → Type 0
    Wires = Wired g p x n

    abbrev Rises : Low → List Part → List ℕ → Type 0
    Rises = Occurs g p known m n

    abbrev Owner : Low → List Part → List ℕ → Type 0
    Owner = Occurs g p known w n

    rises_all : (es : List Low) (ms : List ℕ) → AllStand step Wires env es ms → AnyOccurs step Owner env es ms → AnyOccurs step Rises env es ms
    rises_all [] ms st oc = oc
    rises_all (e ∷ es) ms st oc = elim oc [
      | inl o ↦ inl (ih e x env ms st.0 o)
      | inr o ↦ inr (rises_all es (step e env ms).left st.1 o)
    ]

    rises_chosen : (a b : Low) (y : ℕ) (ms : List ℕ) (o : Result Bool Bad) → Chosen o (Wired g p y n a env ms) (Wired g p y n b env ms) → Chosen o (Owner a env ms) (Owner b env ms) → Chosen o (Rises a env ms) (Rises b env ms)
    rises_chosen a b y ms (Err bad) st oc = absurd st
    rises_chosen a b y ms (Ok true) st oc = ih a y env ms st oc
    rises_chosen a b y ms (Ok false) st oc = ih b y env ms st oc

    -- the era of a watch at this level
    era_wired : (a b : Low) (c : ℕ) (o : Result Bool Bad) → g.level c ≡ n → Chosen o (EraStands g p c a env) (EraStands g p c b env)
        → Chosen o (Wired g p (suc c) n a env (g.members (suc c))) (Wired g p (suc c) n b env (g.members (suc c)))
    era_wired a b c (Err bad) level st = absurd st
    era_wired a b c (Ok true) level st = subst (λ j. Wired g p (suc c) j a env (g.members (suc c))) level st.wired
    era_wired a b c (Ok false) level st = subst (λ j. Wired g p (suc c) j b env (g.members (suc c))) level st.wired

    branch_holds : (e : Low) (c : ℕ) → g.level c ≡ n → has_item (g.members (suc c)) m ≡ true → EraStands g p c e env → Rises e env (g.members (suc c))
    branch_holds e c level h st =
        let wired = subst (λ j. Wired g p (suc c) j e env (g.members (suc c))) level st.wired in
        let all = subst (λ j. (place p j e env (g.members (suc c))).left ≡ []) level st.all in
        elim (used_on g known p m itself n e (suc c) env (g.members (suc c)) wired h) [
          | inl o ↦ o
          | inr l ↦ absurd (none_there (step e env (g.members (suc c))).left m all l)
        ]

    era_holds : (a b : Low) (c : ℕ) (o : Result Bool Bad) → g.level c ≡ n → has_item (g.members (suc c)) m ≡ true → Chosen o (EraStands g p c a env) (EraStands g p c b env)
        → Chosen o (Rises a env (g.members (suc c))) (Rises b env (g.members (suc c)))
    era_holds a b c (Err bad) level h st = absurd st
    era_holds a b c (Ok true) level h st = branch_holds a c level h st
    era_holds a b c (Ok false) level h st = branch_holds b c level h st

    rises_switch : (a b : Low) (t : Part) (ms : List ℕ) → SwitchStands g x n Wires a b env t ms → SwitchOccurs g known w Owner a b env t ms → SwitchOccurs g known m Rises a b env t ms
    rises_switch a b (steady v) ms st oc = rises_chosen a b x ms (test_of v) st oc
    rises_switch a b (signal i) ms st oc =
        let c = first ms in
        elim oc [
          | inl e ↦
              let kc = subst known e kw in
              inr (kc, era_holds a b c (test_of (g.value c)) st.watch.level (subst (λ v. has_item (g.members (suc v)) m ≡ true) e joined) (eras c a b env kc st.watch.live st.watch.kind))
          | inr o ↦
              inr (o.0, rises_chosen a b (suc c) (g.members (suc c)) (test_of (g.value c)) (era_wired a b c (test_of (g.value c)) st.watch.level (eras c a b env o.0 st.watch.live st.watch.kind)) o.1)
        ]

    rises_call : (o : Option Low) (qs : AllPlaced) → CallStands Wires o qs → CallOccurs Owner o qs → CallOccurs Rises o qs
    rises_call None qs st oc = oc
    rises_call (Some body) qs st oc = ih body x qs.parts qs.left st oc

    rises_shape : (l : Low-F Low) (ms : List ℕ) → ShapeStands g p x n step Wires env ms l → ShapeOccurs g p known w step Owner env ms l → ShapeOccurs g p known m step Rises env ms l
    rises_shape (Low-F.Lit v) ms st oc = oc
    rises_shape (Low-F.Var v) ms st oc = oc
    rises_shape (Low-F.Source s) ms st oc = oc
    rises_shape (Low-F.Let es body) ms st oc =
        let qs = place_all step env es ms in
        elim oc [ inl o ↦ inl (rises_all es ms st.0 o) | inr o ↦ inr (ih body x (env ++ qs.parts) qs.left st.1 o) ]
    rises_shape (Low-F.If site test a b) ms st oc =
        elim oc [ inl o ↦ inl (ih test x env ms st.0 o) | inr o ↦ inr (rises_switch a b (step test env ms).part (step test env ms).left st.1 o) ]
    rises_shape (Low-F.Apply f es) ms st oc =
        elim oc [ inl o ↦ inl (rises_all es ms st.0 o) | inr o ↦ inr (rises_call (low_body (slice_get p.functions f.0) (length es)) (place_all step env es ms) st.1 o) ]
    rises_shape (Low-F.Operator v es) ms st oc =
        let qs = place_all step env es ms in
        elim oc [ inl o ↦ inl (rises_all es ms st.0 o) | inr o ↦ inr (rises_work x n (operates v) qs.parts qs.left st.1 o) ]
    rises_shape (Low-F.Handler f es id ss) ms st oc =
        let qs = place_all step env es ms in
        elim oc [ inl o ↦ inl (rises_all es ms st.0 o) | inr o ↦ inr (rises_work x n (handles f id.0) (qs.parts ++ slot_parts p env ss) qs.left st.2 o) ]
    rises_shape (Low-F.Loop f es id ss) ms st oc =
        let qs = place_all step env es ms in
        elim oc [ inl o ↦ inl (rises_all es ms st.0 o) | inr o ↦ inr (rises_work x n (loops f id.0) (qs.parts ++ slot_parts p env ss) qs.left st.2 o) ]
    rises_shape (Low-F.Feedback init body) ms st oc =
        let i = step init env ms in
        let inside = env ++ signal (first i.left) ∷ [] in
        elim oc [
          | inl o ↦ inl (ih init x env ms st.0 o)
          | inr more ↦ elim more [
            | inl o ↦ inr (inl (ih body x inside (rest i.left) st.1 o))
            | inr e ↦ work_no_watch (g.kind w) feeds (ap g.kind e ∙ st.2.kind) watches
          ]
        ]
    rises_shape (Low-F.Collapse id ss) ms st oc = rises_work x n (runs id.0) (slot_parts p env ss) ms st.1 oc

  pub rises_on : (n : ℕ) → RisesAt n
  unfolding place Wired Occurs
  rises_on zero e x env ms st oc = absurd st
  rises_on (suc n) e x env ms st oc = rises_shape n (rises_on n) x env (out-Low e) ms st oc

  pub items_rise : (n : ℕ) (is : List LowItem) (x : ℕ) (env : List Part) (ms : List ℕ) → ItemsStand (place p n) (Wired g p x n) env is ms
      → ItemsOccur (place p n) (Occurs g p known w n) env is ms → ItemsOccur (place p n) (Occurs g p known m n) env is ms
  items_rise n [] x env ms st oc = oc
  items_rise n (low_item.Define e ∷ is) x env ms st oc =
      let r = place p n e env ms in
      elim oc [ inl o ↦ inl (rises_on n e x env ms st.0 o) | inr o ↦ inr (items_rise n is x (env ++ r.part ∷ []) r.left st.1 o) ]
  items_rise n (low_item.Show name e ∷ is) x env ms st oc =
      let r = place p n e env ms in
      elim oc [ inl o ↦ inl (rises_on n e x env ms st.0 o) | inr o ↦ inr (items_rise n is x env r.left st.1 o) ]

-- up the owners
module _ (g : Graph) (height : ℕ → ℕ) (known : ℕ → Type 0) (p : Plan) (n : ℕ) (is : List LowItem) (ms : List ℕ) (f : IsFramed g height) (eras : ErasStandOn g known p)
    (items : ItemsStand (place p n) (Wired g p 0 n) [] is ms) (among : (m : ℕ) → g.live m ≡ true → g.era m ≡ 0 → is_source (g.kind m) ≡ false → has_item ms m ≡ true)
    (all : (place_items (place p n) [] is ms).left ≡ []) (above : (v w : ℕ) → known v → g.live v ≡ true → g.era v ≡ suc w → known w) where
  abbrev There : ℕ → Type 0
  There m = ItemsOccur (place p n) (Occurs g p known m n) [] is ms

  in_body : (m : ℕ) → g.live m ≡ true → stands_itself (g.kind m) ≡ true → g.era m ≡ 0 → There m
  in_body m lv itself e = elim (items_used g known p m itself n is 0 [] ms items (among m lv e (itself_no_source (g.kind m) itself))) [
    | inl o ↦ o
    | inr l ↦ absurd (none_there (place_items (place p n) [] is ms).left m all l)
  ]

  occur_below : (k m : ℕ) → f.order.rank m < k → g.live m ≡ true → stands_itself (g.kind m) ≡ true → ((w : ℕ) → g.era m ≡ suc w → known w) → There m
  occur_below zero m few lv itself owner = absurd (omega arith)
  occur_below (suc k) m few lv itself owner = by_era (g.era m) refl (λ w e.
      let o = f.members.owner m w lv e in
      occur_below k w (let r : f.order.rank w < f.order.rank m = f.order.owner m w lv e in omega arith) o.0 (watch_itself (g.kind w) o.1) (λ v h. above w v (owner w e) o.0 h))
    where
      by_era : (x : ℕ) → g.era m ≡ x → ((w : ℕ) → g.era m ≡ suc w → There w) → There m
      by_era zero e up = in_body m lv itself e
      by_era (suc w) e up =
          items_rise g known p eras m w itself (f.members.owner m w lv e).1 (owner w e) (subst (λ x. has_item (g.members x) m ≡ true) e (f.members.joined m lv)) n is 0 [] ms items (up w e)

  -- EVERY NODE OCCURS. A node of a work or a watch whose owners are known stands in the walk of the items.
  pub occurs_at : (m : ℕ) → g.live m ≡ true → stands_itself (g.kind m) ≡ true → ((w : ℕ) → g.era m ≡ suc w → known w) → There m
  occurs_at m lv itself owner = occur_below (suc (f.order.rank m)) m (omega arith) lv itself owner
