-- The sum over all live nodes is that along the walk of the items.
use Rattle.std.proofs.Common.{◌≡◌, ◌<◌, ◌+◌, ◌&&◌, not, ℕ, zero, suc, inl, inr, Bool, true, false, if◌then◌else◌, List, [], ◌∷◌, ◌++◌, length, slice_get, refl, ap, sym, ◌∙◌, arith, sum_by, Option, Some, None, Result, Ok, Err}
use Rattle.std.proofs.lemmas.Bool.{false≢true}
use Rattle.std.proofs.lemmas.List.Sums.{sum_by-cons, sum_by-append}
use Rattle.fr_value.specs.declared.now.Bad.{Bad}
use Rattle.fr_links.specs.Lists.{has_item}
use Rattle.fr_links.proofs.Has.{by_truth, here, there}
use Rattle.fr_core.specs.declared.lowered.Low.{Low, out-Low}
use Rattle.fr_core.specs.declared.lowered.Low.TheOpen.{Low-F}
use Rattle.fr_core.specs.declared.lowered.LowItem.{LowItem}
use Rattle.fr_core.specs.declared.lowered.LowItem.TheVariants as low_item
use Rattle.fr_meaning.specs.Words.{test_of}
use Rattle.fr_graph.specs.Graph.{Part, steady, signal, Work, operates, handles, loops, runs, feeds, Kind, source, works, watch, result, Graph, IsClean, work_line, is_plain}
use Rattle.fr_graph.specs.Walk.{Plan, first, rest, Walk, AllPlaced, by_value, by_next, place_all, all_steady, steady_values, place_work, place_chosen, place_switch, place_call, slot_parts, low_body, place_shape, place}
use Rattle.fr_graph.specs.Wired.{IsNext, AreNext, inputs_of, later_of, Either, WorkStands, AllStand, Chosen, SwitchStands, CallStands, ShapeStands, Wired, EraStands}
use Rattle.fr_graph.specs.Known.{ErasStandOn}
use Rattle.fr_graph.specs.Items.{place_items, ItemsStand, body_walk}
use Rattle.fr_sums.specs.Sites.{when}
use Rattle.fr_sums.specs.Along.{Adding, add_all, add_work, add_chosen, add_switch, add_call, add_shape, along, add_items}
use Rattle.fr_sums.specs.Members.{sum_live, is_watch, AreMembers, AddsNothingElse, AreSources, HasProgramEra}
use Rattle.fr_sums.proofs.Totals.{AreApart, tree_sum}

-- what is along the era that a node owns
abbrev pub era_along : Graph → Plan → (ℕ → Bool) → (ℕ → ℕ) → ℕ → Kind → ℕ
era_along g p entered f w (watch a b env) = when (entered w) (add_chosen (along g p entered f (g.level w)) a b env (g.members (suc w)) (test_of (g.value w)))
era_along g p entered f w (source s) = 0
era_along g p entered f w (works k) = 0
era_along g p entered f w result = 0

abbrev pub owned : Graph → Plan → (ℕ → Bool) → (ℕ → ℕ) → ℕ → ℕ
owned g p entered f w = when (g.live w) (era_along g p entered f w (g.kind w))

module _ (g : Graph) (p : Plan) (entered : ℕ → Bool) (f : ℕ → ℕ) where
  -- a member with what is in its era
  abbrev all_of : ℕ → ℕ
  all_of m = f m + owned g p entered f m

  abbrev total : List ℕ → ℕ
  total ms = sum_by all_of ms

  owns_none : (m : ℕ) (b : Bool) (k : Kind) → is_watch k ≡ false → when b (era_along g p entered f m k) ≡ 0
  owns_none m false k h = refl
  owns_none m true (source s) h = refl
  owns_none m true (works w) h = refl
  owns_none m true (watch a b env) h = absurd (false≢true (sym h))
  owns_none m true result h = refl

  owned_none : (m : ℕ) (k : Kind) → g.kind m ≡ k → is_watch k ≡ false → owned g p entered f m ≡ 0
  owned_none m k e h = ap (λ j. when (g.live m) (era_along g p entered f m j)) e ∙ owns_none m (g.live m) k h

  -- the node of a work is the next member, and what is behind it
  next_adds : (x n : ℕ) (w : Work) (ins : List Part) (later : Option Part) (ms : List ℕ) → IsNext g x n (works w) ins later ms → total ms ≡ f (first ms) + total (rest ms)
  next_adds x n w ins later [] st = absurd (omega (arith, st.there))
  next_adds x n w ins later (m ∷ ms) st =
      let none : owned g p entered f m ≡ 0 = owned_none m (works w) st.kind refl in
      let opens : total (m ∷ ms) ≡ f m + owned g p entered f m + total ms = sum_by-cons all_of m ms in
      omega (arith, opens, none)

  -- so it is with a watch, its era and its result
  pair_adds : (x n : ℕ) (a b : Low) (env : List Part) (h : ℕ) (ms : List ℕ) → AreNext g x n a b env h ms
      → total ms ≡ (f (first ms) + (f (first (rest ms)) + when (entered (first ms)) (add_chosen (along g p entered f n) a b env (g.members (suc (first ms))) (test_of (g.value (first ms)))))) + total (rest (rest ms))
  pair_adds x n a b env h [] st = absurd (omega (arith, st.watch.there))
  pair_adds x n a b env h (w ∷ []) st = absurd (omega (arith, st.there))
  pair_adds x n a b env h (w ∷ r ∷ ms) st =
      let era : owned g p entered f w ≡ when (entered w) (add_chosen (along g p entered f n) a b env (g.members (suc w)) (test_of (g.value w)))
      = ap (λ l. when l (era_along g p entered f w (g.kind w))) st.watch.live ∙ ap (era_along g p entered f w) st.watch.kind
      ∙ ap (λ j. when (entered w) (add_chosen (along g p entered f j) a b env (g.members (suc w)) (test_of (g.value w)))) st.watch.level in
      let none : owned g p entered f r ≡ 0 = owned_none r result st.kind refl in
      let one : total (w ∷ r ∷ ms) ≡ f w + owned g p entered f w + total (r ∷ ms) = sum_by-cons all_of w (r ∷ ms) in
      let two : total (r ∷ ms) ≡ f r + owned g p entered f r + total ms = sum_by-cons all_of r ms in
      omega (arith, one, two, era, none)

  -- the members that the walk of an expression uses
  abbrev pub AddsAt : ℕ → Type 0
  AddsAt n = (e : Low) (x : ℕ) (env : List Part) (ms : List ℕ) → Wired g p x n e env ms → total ms ≡ along g p entered f n e env ms + total (place p n e env ms).left

  module _ (n : ℕ) (ih : AddsAt n) (x : ℕ) (env : List Part) where
    abbrev walk : Walk
    walk = place p n

    abbrev Stands : Low → List Part → List ℕ → Type 0
    Stands = Wired g p x n

    abbrev add : Adding
    add = along g p entered f n

    all_adds : (es : List Low) (ms : List ℕ) → AllStand walk Stands env es ms → total ms ≡ add_all walk add env es ms + total (place_all walk env es ms).left
    all_adds [] ms st = omega arith
    all_adds (e ∷ es) ms st =
        let here : total ms ≡ add e env ms + total (walk e env ms).left = ih e x env ms st.0 in
        let there : total (walk e env ms).left ≡ add_all walk add env es (walk e env ms).left + total (place_all walk env es (walk e env ms).left).left = all_adds es (walk e env ms).left st.1 in
        omega (arith, here, there)

    work_adds : (w : Work) (ps : List Part) (ms : List ℕ) → WorkStands g p x n w ps ms → total ms ≡ add_work f w ps ms + total (place_work p n w ps ms).left
    work_adds w ps ms st = by_steady (is_plain w && all_steady ps) st
      where
        by_steady : (b : Bool) → Either b (IsClean (work_line p.table n w None (steady_values ps))) (IsNext g x n (works w) (inputs_of w ps) (later_of w ps) ms)
            → total ms ≡ when (not b) (f (first ms)) + total (if b then by_value (work_line p.table n w None (steady_values ps)).value ms else by_next ms).left
        by_steady true st = omega arith
        by_steady false st = next_adds x n w (inputs_of w ps) (later_of w ps) ms st

    chosen_adds : (a b : Low) (ms : List ℕ) (o : Result Bool Bad) → Chosen o (Stands a env ms) (Stands b env ms) → total ms ≡ add_chosen add a b env ms o + total (place_chosen walk a b env ms o).left
    chosen_adds a b ms (Err bad) st = absurd st
    chosen_adds a b ms (Ok true) st = ih a x env ms st
    chosen_adds a b ms (Ok false) st = ih b x env ms st

    switch_adds : (a b : Low) (h : Part) (ms : List ℕ) → SwitchStands g x n Stands a b env h ms → total ms ≡ add_switch g entered f add a b env h ms + total (place_switch walk a b env h ms).left
    switch_adds a b (steady v) ms st = chosen_adds a b ms (test_of v) st
    switch_adds a b (signal m) ms st = pair_adds x n a b env m ms st

    call_adds : (o : Option Low) (q : AllPlaced) → CallStands Stands o q → total q.left ≡ add_call add o q + total (place_call walk o q).left
    call_adds None q st = absurd st
    call_adds (Some body) q st = ih body x q.parts q.left st

    shape_adds : (l : Low-F Low) (ms : List ℕ) → ShapeStands g p x n walk Stands env ms l → total ms ≡ add_shape g p entered f walk add env ms l + total (place_shape p n walk env ms l).left
    shape_adds (Low-F.Lit v) ms st = omega arith
    shape_adds (Low-F.Var v) ms st = omega arith
    shape_adds (Low-F.Source s) ms st = omega arith
    shape_adds (Low-F.Let es body) ms st =
        let q = place_all walk env es ms in
        let all : total ms ≡ add_all walk add env es ms + total q.left = all_adds es ms st.0 in
        let last : total q.left ≡ add body (env ++ q.parts) q.left + total (walk body (env ++ q.parts) q.left).left = ih body x (env ++ q.parts) q.left st.1 in
        omega (arith, all, last)
    shape_adds (Low-F.If site test a b) ms st =
        let t = walk test env ms in
        let front : total ms ≡ add test env ms + total t.left = ih test x env ms st.0 in
        let behind : total t.left ≡ add_switch g entered f add a b env t.part t.left + total (place_switch walk a b env t.part t.left).left = switch_adds a b t.part t.left st.1 in
        omega (arith, front, behind)
    shape_adds (Low-F.Apply id es) ms st =
        let q = place_all walk env es ms in
        let o = low_body (slice_get p.functions id.0) (length es) in
        let all : total ms ≡ add_all walk add env es ms + total q.left = all_adds es ms st.0 in
        let last : total q.left ≡ add_call add o q + total (place_call walk o q).left = call_adds o q st.1 in
        omega (arith, all, last)
    shape_adds (Low-F.Operator o es) ms st =
        let q = place_all walk env es ms in
        let all : total ms ≡ add_all walk add env es ms + total q.left = all_adds es ms st.0 in
        let last : total q.left ≡ add_work f (operates o) q.parts q.left + total (place_work p n (operates o) q.parts q.left).left = work_adds (operates o) q.parts q.left st.1 in
        omega (arith, all, last)
    shape_adds (Low-F.Handler h es id ss) ms st =
        let q = place_all walk env es ms in
        let ps = q.parts ++ slot_parts p env ss in
        let all : total ms ≡ add_all walk add env es ms + total q.left = all_adds es ms st.0 in
        let last : total q.left ≡ add_work f (handles h id.0) ps q.left + total (place_work p n (handles h id.0) ps q.left).left = work_adds (handles h id.0) ps q.left st.2 in
        omega (arith, all, last)
    shape_adds (Low-F.Loop l es id ss) ms st =
        let q = place_all walk env es ms in
        let ps = q.parts ++ slot_parts p env ss in
        let all : total ms ≡ add_all walk add env es ms + total q.left = all_adds es ms st.0 in
        let last : total q.left ≡ add_work f (loops l id.0) ps q.left + total (place_work p n (loops l id.0) ps q.left).left = work_adds (loops l id.0) ps q.left st.2 in
        omega (arith, all, last)
    shape_adds (Low-F.Feedback init body) ms st =
        let i = walk init env ms in
        let inside = env ++ signal (first i.left) ∷ [] in
        let front : total ms ≡ add init env ms + total i.left = ih init x env ms st.0 in
        let name : total i.left ≡ f (first i.left) + total (rest i.left) = next_adds x n feeds (i.part ∷ []) (Some (walk body inside (rest i.left)).part) i.left st.2 in
        let last : total (rest i.left) ≡ add body inside (rest i.left) + total (walk body inside (rest i.left)).left = ih body x inside (rest i.left) st.1 in
        omega (arith, front, name, last)
    shape_adds (Low-F.Collapse id ss) ms st = work_adds (runs id.0) (slot_parts p env ss) ms st.1

  pub adds_on : (n : ℕ) → AddsAt n
  unfolding place Wired along
  adds_on zero e x env ms st = absurd st
  adds_on (suc n) e x env ms st = shape_adds n (adds_on n) x env (out-Low e) ms st

  items_add : (n : ℕ) (is : List LowItem) (x : ℕ) (env : List Part) (ms : List ℕ) → ItemsStand (place p n) (Wired g p x n) env is ms
      → total ms ≡ add_items (place p n) (along g p entered f n) env is ms + total (place_items (place p n) env is ms).left
  items_add n [] x env ms st = omega arith
  items_add n (low_item.Define e ∷ is) x env ms st =
      let r = place p n e env ms in
      let here : total ms ≡ along g p entered f n e env ms + total r.left = adds_on n e x env ms st.0 in
      let there : total r.left ≡ add_items (place p n) (along g p entered f n) (env ++ r.part ∷ []) is r.left + total (place_items (place p n) (env ++ r.part ∷ []) is r.left).left = items_add n is x (env ++ r.part ∷ []) r.left st.1 in
      omega (arith, here, there)
  items_add n (low_item.Show name e ∷ is) x env ms st =
      let r = place p n e env ms in
      let here : total ms ≡ along g p entered f n e env ms + total r.left = adds_on n e x env ms st.0 in
      let there : total r.left ≡ add_items (place p n) (along g p entered f n) env is r.left + total (place_items (place p n) env is r.left).left = items_add n is x env r.left st.1 in
      omega (arith, here, there)

  sources_add : (i : ℕ) (ms : List ℕ) → AreSources g i ms → total ms ≡ sum_by f ms
  sources_add i [] h = refl
  sources_add i (m ∷ ms) h =
      let none : owned g p entered f m ≡ 0 = owned_none m (source i) h.0 refl in
      let opens : total (m ∷ ms) ≡ f m + owned g p entered f m + total ms = sum_by-cons all_of m ms in
      let there : total ms ≡ sum_by f ms = sources_add (i + 1) ms h.1 in
      let back : sum_by f (m ∷ ms) ≡ f m + sum_by f ms = sum_by-cons f m ms in
      omega (arith, opens, none, there, back)

  module _ (is : List LowItem) (bound : ℕ) (sources ms : List ℕ) (eras : ErasStandOn g (λ m. entered m ≡ true) p) (has : AreMembers g bound) (outside : AddsNothingElse g entered f) (program : HasProgramEra g p is sources ms)
      (items : ItemsStand (body_walk p) (Wired g p 0 2000) [] is ms) where
    -- what is in an era, and in those of its members
    abbrev deep : ℕ → ℕ
    deep zero = sum_by f sources + add_items (body_walk p) (along g p entered f 2000) [] is ms
    deep (suc w) = owned g p entered f w

    no_members : (xs : List ℕ) → ((m : ℕ) → has_item xs m ≡ true → ⊥) → xs ≡ []
    no_members [] h = refl
    no_members (x ∷ xs) h = absurd (h x (here x xs))

    none_left : (xs : List ℕ) → xs ≡ [] → total xs ≡ 0
    none_left xs e = ap total e

    -- a member that adds nothing, with its era, which isn't entered
    owned_apart : (m : ℕ) (b : Bool) (k : Kind) → entered m ≡ false → when b (era_along g p entered f m k) ≡ 0
    owned_apart m false k h = refl
    owned_apart m true (source s) h = refl
    owned_apart m true (works w) h = refl
    owned_apart m true (watch a b env) h = ap (λ u. when u (add_chosen (along g p entered f (g.level m)) a b env (g.members (suc m)) (test_of (g.value m)))) h
    owned_apart m true result h = refl

    adds_nothing : (xs : List ℕ) → ((m : ℕ) → has_item xs m ≡ true → (f m ≡ 0) × (entered m ≡ false)) → total xs ≡ 0
    adds_nothing [] h = refl
    adds_nothing (x ∷ xs) h =
        let own = h x (here x xs) in
        let opens : total (x ∷ xs) ≡ f x + owned g p entered f x + total xs = sum_by-cons all_of x xs in
        let apart : owned g p entered f x ≡ 0 = owned_apart x (g.live x) (g.kind x) own.1 in
        let rest : total xs ≡ 0 = adds_nothing xs (λ m e. h m (there x m xs e)) in
        omega (arith, own.0, opens, apart, rest)

    -- the era of a watch whose choice stands
    watch_opens : (w : ℕ) (a b : Low) (env : List Part) (o : Result Bool Bad) → Chosen o (EraStands g p w a env) (EraStands g p w b env)
        → add_chosen (along g p entered f (g.level w)) a b env (g.members (suc w)) o ≡ total (g.members (suc w))
    watch_opens w a b env (Err bad) st = absurd st
    watch_opens w a b env (Ok true) st =
        let adds : total (g.members (suc w)) ≡ along g p entered f (g.level w) a env (g.members (suc w)) + total (place p (g.level w) a env (g.members (suc w))).left = adds_on (g.level w) a (suc w) env (g.members (suc w)) st.wired in
        omega (arith, adds, none_left _ st.all)
    watch_opens w a b env (Ok false) st =
        let adds : total (g.members (suc w)) ≡ along g p entered f (g.level w) b env (g.members (suc w)) + total (place p (g.level w) b env (g.members (suc w))).left = adds_on (g.level w) b (suc w) env (g.members (suc w)) st.wired in
        omega (arith, adds, none_left _ st.all)

    by_kind : (w : ℕ) (k : Kind) → g.live w ≡ true → g.kind w ≡ k → era_along g p entered f w k ≡ total (g.members (suc w))
    by_kind w (watch a b env) live e = elim (by_truth (entered w)) [
      | inl there ↦ ap (λ u. when u (add_chosen (along g p entered f (g.level w)) a b env (g.members (suc w)) (test_of (g.value w)))) there
          ∙ watch_opens w a b env (test_of (g.value w)) (eras w a b env there live e)
      | inr apart ↦ ap (λ u. when u (add_chosen (along g p entered f (g.level w)) a b env (g.members (suc w)) (test_of (g.value w)))) apart
          ∙ sym (adds_nothing (g.members (suc w)) (λ m h. outside.outside w m apart h))
    ]
    by_kind w (source s) live e = sym (none_left _ (no_members (g.members (suc w)) (λ m h. false≢true (ap is_watch (sym e) ∙ (has.owner w m h).1))))
    by_kind w (works k) live e = sym (none_left _ (no_members (g.members (suc w)) (λ m h. false≢true (ap is_watch (sym e) ∙ (has.owner w m h).1))))
    by_kind w result live e = sym (none_left _ (no_members (g.members (suc w)) (λ m h. false≢true (ap is_watch (sym e) ∙ (has.owner w m h).1))))

    deep_opens : (x : ℕ) → deep x ≡ total (g.members x)
    deep_opens zero =
        let whole : total (g.members 0) ≡ total sources + total ms = ap total program.members ∙ sum_by-append all_of sources ms in
        let front : total sources ≡ sum_by f sources = sources_add 0 sources program.first in
        let walked : total ms ≡ add_items (body_walk p) (along g p entered f 2000) [] is ms + total (place_items (body_walk p) [] is ms).left = items_add 2000 is 0 [] ms items in
        omega (arith, whole, front, walked, none_left _ program.all)
    deep_opens (suc w) = elim (by_truth (g.live w)) [
      | inl live ↦ ap (λ b. when b (era_along g p entered f w (g.kind w))) live ∙ by_kind w (g.kind w) live refl
      | inr dead ↦ ap (λ b. when b (era_along g p entered f w (g.kind w))) dead
          ∙ sym (none_left _ (no_members (g.members (suc w)) (λ m h. false≢true (sym dead ∙ (has.owner w m h).0))))
    ]

    era_below : (x m : ℕ) → has_item (g.members x) m ≡ true → x < suc bound
    era_below zero m h = omega arith
    era_below (suc w) m h = let below = has.below w (has.owner w m h).0 in omega (arith, below)

    apart : AreApart bound g.live g.era g.members
    apart = record { once = has.once; here = has.here; only = has.only; number = λ i live. (has.below i live, era_below (g.era i) i (has.here i live)) }

    -- THE SUM OVER ALL LIVE NODES is that of the sources and along the walk of the items, where nothing is added in the eras that aren't entered.
    pub sum_along : sum_live g bound f ≡ sum_by f sources + add_items (body_walk p) (along g p entered f 2000) [] is ms
    sum_along = sym (tree_sum bound g.live g.era g.members apart f deep deep_opens (λ i dead. ap (λ b. when b (era_along g p entered f i (g.kind i))) dead))
