-- What stands in a graph stands in another in which the members that are walked over are the same.
use Rattle.std.proofs.Common.{◌≡◌, ℕ, zero, suc, ◌<◌, Bool, true, false, ◌&&◌, if◌then◌else◌, List, [], ◌∷◌, ◌++◌, length, slice_get, refl, ap, sym, ◌∙◌, subst, append_assoc, arith, Option, Some, None, Result, Ok, Err}
use Rattle.std.proofs.lemmas.List.{append_cancel_right}
use Rattle.fr_value.specs.declared.now.Bad.{Bad}
use Rattle.fr_links.specs.Lists.{has_item}
use Rattle.fr_links.proofs.Has.{here, there, has_append_left, has_append_right}
use Rattle.fr_core.specs.declared.lowered.Low.{Low, out-Low}
use Rattle.fr_core.specs.declared.lowered.Low.TheOpen.{Low-F}
use Rattle.fr_core.specs.declared.lowered.LowItem.{LowItem}
use Rattle.fr_core.specs.declared.lowered.LowItem.TheVariants as low_item
use Rattle.fr_core.specs.declared.lowered.Slot.{Slot}
use Rattle.fr_core.specs.declared.lowered.Slot.TheVariants as slot
use Rattle.fr_meaning.specs.Words.{test_of}
use Rattle.fr_graph.specs.Graph.{Part, steady, signal, Work, operates, handles, loops, runs, feeds, Kind, works, watch, result, Graph, IsClean, work_line, is_plain}
use Rattle.fr_graph.specs.Walk.{Plan, first, rest, Walk, AllPlaced, by_value, by_next, place_all, all_steady, steady_values, slot_parts, place_work, place_chosen, place_switch, low_body, place_call, place_shape, place}
use Rattle.fr_graph.specs.Wired.{IsNext, AreNext, inputs_of, later_of, Either, WorkStands, IsSource, SlotsStand, AllStand, Chosen, SwitchStands, CallStands, ShapeStands, Wired}
use Rattle.fr_graph.specs.Items.{place_items, ItemsStand}
use Rattle.fr_way.specs.Frame.{is_watch}

-- a node is the same in two graphs, and so is its result, where it is a watch that has one
pub record IsAlike (g h : Graph) (m : ℕ) : Type 0 where
  pub live : h.live m ≡ g.live m
  pub kind : h.kind m ≡ g.kind m
  pub inputs : h.inputs m ≡ g.inputs m
  pub later : h.later m ≡ g.later m
  pub level : h.level m ≡ g.level m
  pub era : h.era m ≡ g.era m
  pub result_of : is_watch (g.kind m) ≡ true → g.live (g.result_of m) ≡ true → g.kind (g.result_of m) ≡ result → h.result_of m ≡ g.result_of m

-- each of these is the same
abbrev pub AreAlike : Graph → Graph → List ℕ → Type 0
AreAlike g h ms = (m : ℕ) → has_item ms m ≡ true → IsAlike g h m

-- some members were walked over, and where each of them is the same, this stands
pub record Carries (g h : Graph) (ms behind : List ℕ) (A : Type 0) : Type 0 where
  pub walked : List ℕ
  pub split : ms ≡ walked ++ behind
  pub goes : AreAlike g h walked → A

-- it stands, if exactly these were walked over and each of them is the same
pub carried : (g h : Graph) (added behind l : List ℕ) (A : Type 0) → Carries g h (added ++ behind) l A → l ≡ behind → AreAlike g h added → A
carried g h added behind l A c e alike =
    let same : added ≡ c.walked = append_cancel_right added c.walked behind (c.split ∙ ap (λ (k : List ℕ). c.walked ++ k) e) in
    c.goes (λ m o. alike m (subst (λ (k : List ℕ). has_item k m ≡ true) (sym same) o))

module _ (g h : Graph) where
  none_walked : (A : Type 0) (ms : List ℕ) → A → Carries g h ms ms A
  none_walked A ms a = record { walked = []; split = refl; goes = λ alike. a }

  one_by_one : (A B : Type 0) (ms ls ks : List ℕ) → Carries g h ms ls A → Carries g h ls ks B → Carries g h ms ks (A × B)
  one_by_one A B ms ls ks c d = record {
    walked = c.walked ++ d.walked;
    split = c.split ∙ ap (λ (k : List ℕ). c.walked ++ k) d.split ∙ sym (append_assoc c.walked d.walked ks);
    goes = λ alike. (c.goes (λ m o. alike m (has_append_left c.walked d.walked m o)), d.goes (λ m o. alike m (has_append_right c.walked d.walked m o)));
  }

  told : (A B : Type 0) (ms ls : List ℕ) → (A → B) → Carries g h ms ls A → Carries g h ms ls B
  told A B ms ls f c = record { walked = c.walked; split = c.split; goes = λ alike. f (c.goes alike) }

  next_on : (x n : ℕ) (k : Kind) (ins : List Part) (last : Option Part) (m : ℕ) (ms : List ℕ) → IsAlike g h m → IsNext g x n k ins last (m ∷ ms) → IsNext h x n k ins last (m ∷ ms)
  next_on x n k ins last m ms a i = record {
    there = i.there;
    live = a.live ∙ i.live;
    era = a.era ∙ i.era;
    level = a.level ∙ i.level;
    kind = a.kind ∙ i.kind;
    inputs = a.inputs ∙ i.inputs;
    later = a.later ∙ i.later;
  }

  next_carries : (x n : ℕ) (k : Kind) (ins : List Part) (last : Option Part) (ms : List ℕ) → IsNext g x n k ins last ms → Carries g h ms (rest ms) (IsNext h x n k ins last ms)
  next_carries x n k ins last [] i = absurd (let lt : 0 < length {A = ℕ} [] = i.there in omega arith)
  next_carries x n k ins last (m ∷ ms) i = record { walked = m ∷ []; split = refl; goes = λ alike. next_on x n k ins last m ms (alike m (here m [])) i }

  both_carry : (x n : ℕ) (a b : Low) (env : List Part) (m : ℕ) (ms : List ℕ) → AreNext g x n a b env m ms → Carries g h ms (rest (rest ms)) (AreNext h x n a b env m ms)
  both_carry x n a b env m [] i = absurd (let lt : 0 < length {A = ℕ} [] = i.watch.there in omega arith)
  both_carry x n a b env m (w ∷ []) i = absurd (let lt : 0 < length {A = ℕ} [] = i.there in omega arith)
  both_carry x n a b env m (w ∷ r ∷ ms) i = record {
    walked = w ∷ r ∷ [];
    split = refl;
    goes = λ alike.
        let s = alike w (here w (r ∷ [])) in
        let t = alike r (there w r (r ∷ []) (here r [])) in
        record {
          watch = next_on x n (watch a b env) (signal m ∷ []) None w (r ∷ ms) s i.watch;
          there = i.there;
          live = t.live ∙ i.live;
          era = t.era ∙ i.era;
          kind = t.kind ∙ i.kind;
          result = s.result_of (ap is_watch i.watch.kind) (ap g.live i.result ∙ i.live) (ap g.kind i.result ∙ i.kind) ∙ i.result;
        };
  }

module _ (g h : Graph) (p : Plan) (x : ℕ) (from_source : (s : ℕ) → IsSource g p s → IsSource h p s) where
  abbrev pub CarriesAt : ℕ → Type 0
  CarriesAt n = (e : Low) (env : List Part) (ms : List ℕ) → Wired g p x n e env ms → Carries g h ms (place p n e env ms).left (Wired h p x n e env ms)

  slots_on : (ss : List Slot) → SlotsStand g p ss → SlotsStand h p ss
  slots_on [] st = tt
  slots_on (slot.Var v ∷ ss) st = slots_on ss st
  slots_on (slot.Source s ∷ ss) st = (from_source s.0 st.0, slots_on ss st.1)

  work_carries : (n : ℕ) (w : Work) (ps : List Part) (ms : List ℕ) → WorkStands g p x n w ps ms → Carries g h ms (place_work p n w ps ms).left (WorkStands h p x n w ps ms)
  work_carries n w ps ms st = by_steady (is_plain w && all_steady ps) st
    where
      by_steady : (b : Bool) → Either b (IsClean (work_line p.table n w None (steady_values ps))) (IsNext g x n (works w) (inputs_of w ps) (later_of w ps) ms)
          → Carries g h ms (if b then by_value (work_line p.table n w None (steady_values ps)).value ms else by_next ms).left
          (Either b (IsClean (work_line p.table n w None (steady_values ps))) (IsNext h x n (works w) (inputs_of w ps) (later_of w ps) ms))
      by_steady true st = none_walked g h (IsClean (work_line p.table n w None (steady_values ps))) ms st
      by_steady false st = next_carries g h x n (works w) (inputs_of w ps) (later_of w ps) ms st

  module _ (n : ℕ) (ih : CarriesAt n) (env : List Part) where
    abbrev walk : Walk
    walk = place p n

    abbrev In : Low → List Part → List ℕ → Type 0
    In = Wired g p x n

    abbrev Out : Low → List Part → List ℕ → Type 0
    Out = Wired h p x n

    pub all_carry : (es : List Low) (ms : List ℕ) → AllStand walk In env es ms → Carries g h ms (place_all walk env es ms).left (AllStand walk Out env es ms)
    all_carry [] ms st = none_walked g h (Unit {0}) ms tt
    all_carry (e ∷ es) ms st =
        let ls = (walk e env ms).left in
        one_by_one g h (Out e env ms) (AllStand walk Out env es ls) ms ls (place_all walk env es ls).left (ih e env ms st.0) (all_carry es ls st.1)

    chosen_carries : (a b : Low) (ms : List ℕ) (o : Result Bool Bad) → Chosen o (In a env ms) (In b env ms) → Carries g h ms (place_chosen walk a b env ms o).left (Chosen o (Out a env ms) (Out b env ms))
    chosen_carries a b ms (Err bad) st = absurd st
    chosen_carries a b ms (Ok true) st = ih a env ms st
    chosen_carries a b ms (Ok false) st = ih b env ms st

    switch_carries : (a b : Low) (q : Part) (ms : List ℕ) → SwitchStands g x n In a b env q ms → Carries g h ms (place_switch walk a b env q ms).left (SwitchStands h x n Out a b env q ms)
    switch_carries a b (steady v) ms st = chosen_carries a b ms (test_of v) st
    switch_carries a b (signal m) ms st = both_carry g h x n a b env m ms st

    call_carries : (o : Option Low) (q : AllPlaced) → CallStands In o q → Carries g h q.left (place_call walk o q).left (CallStands Out o q)
    call_carries None q st = absurd st
    call_carries (Some body) q st = ih body q.parts q.left st

    -- the parts, then the slots and the work
    over_slots : (w : Work) (es : List Low) (ss : List Slot) (ms : List ℕ)
        → AllStand walk In env es ms × SlotsStand g p ss × WorkStands g p x n w ((place_all walk env es ms).parts ++ slot_parts p env ss) (place_all walk env es ms).left
        → Carries g h ms (place_work p n w ((place_all walk env es ms).parts ++ slot_parts p env ss) (place_all walk env es ms).left).left
        (AllStand walk Out env es ms × SlotsStand h p ss × WorkStands h p x n w ((place_all walk env es ms).parts ++ slot_parts p env ss) (place_all walk env es ms).left)
    over_slots w es ss ms st =
        let q = place_all walk env es ms in
        let ps = q.parts ++ slot_parts p env ss in
        let A = AllStand walk Out env es ms in
        let W = WorkStands h p x n w ps q.left in
        told g h (A × W) (A × SlotsStand h p ss × W) ms (place_work p n w ps q.left).left (λ t. (t.0, slots_on ss st.1, t.1))
        (one_by_one g h A W ms q.left (place_work p n w ps q.left).left (all_carry es ms st.0) (work_carries n w ps q.left st.2))

    shape_carries : (l : Low-F Low) (ms : List ℕ) → ShapeStands g p x n walk In env ms l → Carries g h ms (place_shape p n walk env ms l).left (ShapeStands h p x n walk Out env ms l)
    shape_carries (Low-F.Lit v) ms st = none_walked g h (Unit {0}) ms tt
    shape_carries (Low-F.Var v) ms st = none_walked g h (v.0 < length env) ms st
    shape_carries (Low-F.Source s) ms st = none_walked g h (IsSource h p s.0) ms (from_source s.0 st)
    shape_carries (Low-F.Let es body) ms st =
        let q = place_all walk env es ms in
        one_by_one g h (AllStand walk Out env es ms) (Out body (env ++ q.parts) q.left) ms q.left (walk body (env ++ q.parts) q.left).left (all_carry es ms st.0) (ih body (env ++ q.parts) q.left st.1)
    shape_carries (Low-F.If site test a b) ms st =
        let t = walk test env ms in
        one_by_one g h (Out test env ms) (SwitchStands h x n Out a b env t.part t.left) ms t.left (place_switch walk a b env t.part t.left).left (ih test env ms st.0) (switch_carries a b t.part t.left st.1)
    shape_carries (Low-F.Apply f es) ms st =
        let q = place_all walk env es ms in
        let o = low_body (slice_get p.functions f.0) (length es) in
        one_by_one g h (AllStand walk Out env es ms) (CallStands Out o q) ms q.left (place_call walk o q).left (all_carry es ms st.0) (call_carries o q st.1)
    shape_carries (Low-F.Operator o es) ms st =
        let q = place_all walk env es ms in
        one_by_one g h (AllStand walk Out env es ms) (WorkStands h p x n (operates o) q.parts q.left) ms q.left (place_work p n (operates o) q.parts q.left).left
        (all_carry es ms st.0) (work_carries n (operates o) q.parts q.left st.1)
    shape_carries (Low-F.Handler k es id ss) ms st = over_slots (handles k id.0) es ss ms st
    shape_carries (Low-F.Loop l es id ss) ms st = over_slots (loops l id.0) es ss ms st
    shape_carries (Low-F.Feedback init body) ms st =
        let i = walk init env ms in
        let inside = env ++ signal (first i.left) ∷ [] in
        let last = (walk body inside (rest i.left)).part in
        let A = Out init env ms in
        let B = Out body inside (rest i.left) in
        let N = IsNext h x n (works feeds) (i.part ∷ []) (Some last) i.left in
        told g h ((A × N) × B) (A × B × N) ms (walk body inside (rest i.left)).left (λ t. (t.0.0, t.1, t.0.1))
        (one_by_one g h (A × N) B ms (rest i.left) (walk body inside (rest i.left)).left
        (one_by_one g h A N ms i.left (rest i.left) (ih init env ms st.0) (next_carries g h x n (works feeds) (i.part ∷ []) (Some last) i.left st.2))
        (ih body inside (rest i.left) st.1))
    shape_carries (Low-F.Collapse id ss) ms st =
        let ps = slot_parts p env ss in
        let W = WorkStands h p x n (runs id.0) ps ms in
        told g h W (SlotsStand h p ss × W) ms (place_work p n (runs id.0) ps ms).left (λ t. (slots_on ss st.0, t)) (work_carries n (runs id.0) ps ms st.1)

  pub carries_at : (n : ℕ) → CarriesAt n
  unfolding place Wired
  carries_at zero e env ms st = absurd st
  carries_at (suc n) e env ms st = shape_carries n (carries_at n) env (out-Low e) ms st

  -- what stands goes on where exactly these members are walked over and each of them is the same
  pub wired_on : (n : ℕ) (e : Low) (env : List Part) (added behind : List ℕ) → (place p n e env (added ++ behind)).left ≡ behind → AreAlike g h added → Wired g p x n e env (added ++ behind)
      → Wired h p x n e env (added ++ behind)
  wired_on n e env added behind left alike st =
      carried g h added behind (place p n e env (added ++ behind)).left (Wired h p x n e env (added ++ behind)) (carries_at n e env (added ++ behind) st) left alike

  pub all_on : (n : ℕ) (es : List Low) (env : List Part) (added behind : List ℕ) → (place_all (place p n) env es (added ++ behind)).left ≡ behind → AreAlike g h added
      → AllStand (place p n) (Wired g p x n) env es (added ++ behind) → AllStand (place p n) (Wired h p x n) env es (added ++ behind)
  all_on n es env added behind left alike st =
      carried g h added behind (place_all (place p n) env es (added ++ behind)).left (AllStand (place p n) (Wired h p x n) env es (added ++ behind))
      (all_carry n (carries_at n) env es (added ++ behind) st) left alike

  -- items one after the other
  items_carry : (env : List Part) (is : List LowItem) (ms : List ℕ) → ItemsStand (place p 2000) (Wired g p x 2000) env is ms
      → Carries g h ms (place_items (place p 2000) env is ms).left (ItemsStand (place p 2000) (Wired h p x 2000) env is ms)
  items_carry env [] ms st = none_walked g h (Unit {0}) ms tt
  items_carry env (low_item.Define e ∷ is) ms st =
      let r = place p 2000 e env ms in
      one_by_one g h (Wired h p x 2000 e env ms) (ItemsStand (place p 2000) (Wired h p x 2000) (env ++ r.part ∷ []) is r.left) ms r.left (place_items (place p 2000) (env ++ r.part ∷ []) is r.left).left
      (carries_at 2000 e env ms st.0) (items_carry (env ++ r.part ∷ []) is r.left st.1)
  items_carry env (low_item.Show name e ∷ is) ms st =
      let r = place p 2000 e env ms in
      one_by_one g h (Wired h p x 2000 e env ms) (ItemsStand (place p 2000) (Wired h p x 2000) env is r.left) ms r.left (place_items (place p 2000) env is r.left).left
      (carries_at 2000 e env ms st.0) (items_carry env is r.left st.1)

  pub items_on : (is : List LowItem) (added behind : List ℕ) → (place_items (place p 2000) [] is (added ++ behind)).left ≡ behind → AreAlike g h added
      → ItemsStand (place p 2000) (Wired g p x 2000) [] is (added ++ behind) → ItemsStand (place p 2000) (Wired h p x 2000) [] is (added ++ behind)
  items_on is added behind left alike st =
      carried g h added behind (place_items (place p 2000) [] is (added ++ behind)).left (ItemsStand (place p 2000) (Wired h p x 2000) [] is (added ++ behind)) (items_carry [] is (added ++ behind) st) left alike
