-- Where a queued node of least height is computed, an instant goes on.
use Rattle.std.proofs.Common.{◌≡◌, ◌≢◌, ◌⊎◌, inl, inr, ◌<◌, ◌≤◌, ℕ, suc, Bool, true, false, List, [], refl, ap, sym, ◌∙◌, subst, arith, Option, Some, None, IsSome}
use Rattle.fr_value.specs.declared.now.Now.{Now}
use Rattle.fr_core.specs.declared.lowered.Low.{Low}
use Rattle.fr_core.specs.declared.lowered.LowItem.{LowItem}
use Rattle.fr_meaning.specs.Words.{Seen, test_of}
use Rattle.fr_meaning.specs.Cells.{Cell}
use Rattle.fr_queue.specs.Queue.{Queued}
use Rattle.fr_graph.specs.Graph.{Part, works, watch, Graph}
use Rattle.fr_graph.specs.Walk.{Plan}
use Rattle.fr_graph.specs.Wired.{Chosen, EraStands}
use Rattle.fr_graph.specs.Known.{Reads, Rule}
use Rattle.fr_way.specs.Frame.{is_watch}
use Rattle.fr_way.specs.Way.{Way, cell_in, occurs_now, AreQuiet, AreUnderWay, HasChosen, ErasUnderWay, UnderWay}
use Rattle.fr_way.specs.Steps.{SameShape, Computes}
use Rattle.fr_way.proofs.Shapes.{by_number, by_bool, no_both, by_option, none_some, some_is, is_some, same_graph, framed_on, stays_shape, rule_on, goes_on}
use Rattle.fr_way.proofs.Stay.{items_on, eras_on}

not_below : {A : Type 0} (a b : ℕ) → a < b → b ≤ a → A
not_below a b l m = absurd (omega arith)

module _ (p : Plan) (is : List LowItem) (ms : List ℕ) (sources : List Now) (old : Graph) (at : Way) (value : ℕ → Seen) (cell : ℕ → Option Cell) (done : ℕ → Bool) (queued : Queued) where
  -- what differs once a node is computed
  abbrev new : Way
  new = record { graph = record at.graph { value = value; cell = cell }; taken = at.taken; height = at.height; done = done; queued = queued }

  module _ (m : ℕ) (u : UnderWay p is ms sources old at) (c : Computes p sources old at new m) where
    abbrev g : Graph
    g = at.graph

    same : SameShape g new.graph
    same = c.shape

    taken_height : c.height ≡ at.height m
    taken_height = (u.nodes.queue m c.height c.least.was).1

    taken_waits : at.done m ≡ false
    taken_waits = (u.nodes.queue m c.height c.least.was).2

    taken_lives : g.live m ≡ true
    taken_lives = (u.nodes.queue m c.height c.least.was).0

    -- what reads the node stands above it, and isn't computed
    reader_above : (j : ℕ) → g.live j ≡ true → Reads m (g.inputs j) → at.height m < at.height j
    reader_above j lv rd = u.frame.levelled.input j m lv rd

    reader_waits : (j : ℕ) → g.live j ≡ true → Reads m (g.inputs j) → at.done j ≡ false
    reader_waits j lv rd = elim (by_bool (at.done j)) [
      | inl d ↦ not_below (at.height m) (at.height j) (reader_above j lv rd) (subst (λ h. at.height j ≤ h) taken_height (u.nodes.ordered j m c.height lv d c.least.was))
      | inr d ↦ d
    ]

    reads_itself_not : Reads m (g.inputs m) → ⊥
    reads_itself_not rd = not_below (at.height m) (at.height m) (reader_above m taken_lives rd) (omega arith)

    -- a node that isn't computed is another
    other : (j : ℕ) → done j ≡ false → j ≢ m
    other j d e = no_both (done m) c.done (subst (λ i. done i ≡ false) e d)

    -- a node that is queued was queued or reads the one that was computed, and isn't that
    queued_other : (j h : ℕ) → queued j ≡ Some h → j ≢ m
    queued_other j h e s = none_some (queued m) c.out (some_is (queued m) h (subst (λ i. queued i ≡ Some h) s e))

    -- a node that isn't queued wasn't
    unqueued : (j : ℕ) → j ≢ m → queued j ≡ None → at.queued j ≡ None
    unqueued j ne out = elim (by_option (at.queued j)) [
      | inl e ↦ e
      | inr e ↦ none_some (queued j) out (some_is (queued j) e.0 (c.kept j e.0 ne e.1))
    ]

    queue_on : (j h : ℕ) → queued j ≡ Some h → (g.live j ≡ true) × (h ≡ at.height j) × (done j ≡ false)
    queue_on j h e =
        let ne = queued_other j h e in
        elim (c.only j h e) [
          | inl was ↦ let q = u.nodes.queue j h was in (q.0, q.1, c.others j ne ∙ q.2)
          | inr r ↦ (r.0, r.2, c.others j ne ∙ reader_waits j r.0 r.1)
        ]

    -- what is queued stands no lower than the node
    least_on : (j h : ℕ) → queued j ≡ Some h → at.height m ≤ h
    least_on j h e = elim (c.only j h e) [
      | inl was ↦ subst (λ k. k ≤ h) taken_height (c.least.least j h was)
      | inr r ↦ let a : at.height m < at.height j = reader_above j r.0 r.1 in subst (λ k. at.height m ≤ k) (sym r.2) (omega arith)
    ]

    ordered_on : (i j h : ℕ) → g.live i ≡ true → done i ≡ true → queued j ≡ Some h → at.height i ≤ h
    ordered_on i j h lv d e = elim (by_number i m) [
      | inl s ↦ subst (λ k. at.height k ≤ h) (sym s) (least_on j h e)
      | inr ne ↦
          let a : at.height i ≤ c.height = u.nodes.ordered i m c.height lv (sym (c.others i ne) ∙ d) c.least.was in
          let b : at.height m ≤ h = least_on j h e in
          let t : c.height ≡ at.height m = taken_height in
          omega arith
    ]

    -- a node other than this obeys its rule over the new values, if it reads this one only where its value stays
    rule_stays : (i : ℕ) → i ≢ m → (Reads m (g.inputs i) → value m ≡ g.value m) → Rule g p.table sources (cell_in old) i (g.kind i) (g.inputs i)
        → Rule new.graph p.table sources (cell_in old) i (g.kind i) (g.inputs i)
    rule_stays i ne stays r = rule_on g new.graph p.table sources (cell_in old) i (g.kind i) (g.inputs i) refl (c.value i ne) (λ w k late. c.cell i ne)
        (λ j rd. elim (by_number j m) [
          | inl s ↦ subst (λ k. value k ≡ g.value k) (sym s) (stays (subst (λ k. Reads k (g.inputs i)) s rd))
          | inr non ↦ c.value j non
        ]) r

    computed_on : (i : ℕ) → g.live i ≡ true → done i ≡ true → Rule new.graph p.table sources (cell_in old) i (g.kind i) (g.inputs i)
    computed_on i lv d = elim (by_number i m) [
      | inl s ↦ subst (λ k. Rule new.graph p.table sources (cell_in old) k (g.kind k) (g.inputs k)) (sym s) c.rule
      | inr ne ↦
          let was : at.done i ≡ true = sym (c.others i ne) ∙ d in
          rule_stays i ne (λ rd. no_both (at.done i) was (reader_waits i lv rd)) (u.nodes.computed i lv was)
    ]

    -- a reader that isn't queued reads a value that stays and doesn't occur
    unread : (i : ℕ) → g.live i ≡ true → queued i ≡ None → Reads m (g.inputs i) → (value m ≡ g.value m) × (occurs_now (value m) ≡ false)
    unread i lv out rd = elim (c.readers i lv rd) [
      | inl q ↦ none_some (queued i) out q
      | inr k ↦ k
    ]

    idle_on : (i j : ℕ) → g.live i ≡ true → done i ≡ false → queued i ≡ None → Reads j (g.inputs i) → IsSome (queued j) ⊎ (occurs_now (value j) ≡ false)
    idle_on i j lv d out rd =
        let ne = other i d in
        elim (by_number j m) [
          | inl s ↦ inr (subst (λ k. occurs_now (value k) ≡ false) (sym s) (unread i lv out (subst (λ k. Reads k (g.inputs i)) s rd)).1)
          | inr non ↦ elim (u.nodes.idle i j lv (sym (c.others i ne) ∙ d) (unqueued i ne out) rd) [
            | inl q ↦ let h = is_some (at.queued j) q in inl (some_is (queued j) h.0 (c.kept j h.0 non h.1))
            | inr q ↦ inr (ap occurs_now (c.value j non) ∙ q)
          ]
        ]

    rests_on : (i : ℕ) → g.live i ≡ true → done i ≡ false → queued i ≡ None → AreQuiet new.graph (g.inputs i) → Rule new.graph p.table sources (cell_in old) i (g.kind i) (g.inputs i)
    rests_on i lv d out quiet =
        let ne = other i d in
        let was : AreQuiet g (g.inputs i) = λ j rd. elim (by_number j m) [
          | inl s ↦ let k = unread i lv out (subst (λ k. Reads k (g.inputs i)) s rd) in
              subst (λ k. occurs_now (g.value k) ≡ false) (sym s) (ap occurs_now (sym k.0) ∙ k.1)
          | inr non ↦ ap occurs_now (sym (c.value j non)) ∙ quiet j rd
        ] in
        rule_stays i ne (λ rd. (unread i lv out rd).0) (u.nodes.rests i lv (sym (c.others i ne) ∙ d) (unqueued i ne out) was)

    born_on : (i : ℕ) → g.live i ≡ true → done i ≡ false → old.live i ≡ false → (cell i ≡ None) × IsSome (queued i)
    born_on i lv d further =
        let ne = other i d in
        let b = u.nodes.born i lv (sym (c.others i ne) ∙ d) further in
        let h = is_some (at.queued i) b.1 in
        (c.cell i ne ∙ b.0, some_is (queued i) h.0 (c.kept i h.0 ne h.1))

    nodes_on : AreUnderWay p sources old new
    nodes_on = record {
      queue = queue_on;
      ordered = ordered_on;
      computed = computed_on;
      waits = λ i lv d was. let ne = other i d in let w = u.nodes.waits i lv (sym (c.others i ne) ∙ d) was in (c.value i ne ∙ w.0, c.cell i ne ∙ w.1);
      born = born_on;
      idle = idle_on;
      rests = rests_on;
      late = λ i w lv k late. elim (by_number i m) [
        | inl s ↦ subst (λ j. cell j ≡ cell_in old j) (sym s)
            (c.late w (subst (λ j. g.kind j ≡ works w) s k) late ∙ u.nodes.late m w taken_lives (subst (λ j. g.kind j ≡ works w) s k) late)
        | inr ne ↦ c.cell i ne ∙ u.nodes.late i w lv k late
      ];
      taken = u.nodes.taken;
    }

    -- the eras stand on
    era_stays : (w : ℕ) (a b : Low) (env : List Part) → test_of (value w) ≡ test_of (g.value w) → Chosen (test_of (g.value w)) (EraStands g p w a env) (EraStands g p w b env)
        → Chosen (test_of (value w)) (EraStands new.graph p w a env) (EraStands new.graph p w b env)
    era_stays w a b env key st =
        eras_on g new.graph p w a b env (test_of (value w)) (stays_shape (suc w) g new.graph same) refl refl refl
        (subst (λ o. Chosen o (EraStands g p w a env) (EraStands g p w b env)) (sym key) st)

    stand_on : (w : ℕ) (a b : Low) (env : List Part) → g.live w ≡ true → HasChosen old new w → g.kind w ≡ watch a b env
        → Chosen (test_of (value w)) (EraStands new.graph p w a env) (EraStands new.graph p w b env)
    stand_on w a b env lv chosen k = elim (by_number w m) [
      | inl s ↦
          let key = c.same_key (subst (λ j. is_watch (g.kind j) ≡ true) s (ap is_watch k)) in
          era_stays w a b env (subst (λ j. test_of (value j) ≡ test_of (g.value j)) (sym s) key.1) (u.eras.stand w a b env lv (inr (subst (λ j. old.live j ≡ true) (sym s) key.0)) k)
      | inr ne ↦ era_stays w a b env (ap test_of (c.value w ne)) (u.eras.stand w a b env lv (chose ne chosen) k)
    ]
      where
        chose : w ≢ m → HasChosen old new w → HasChosen old at w
        chose ne (inl d) = inl (sym (c.others w ne) ∙ d)
        chose ne (inr was) = inr was

    eras_go_on : ErasUnderWay p old new
    eras_go_on = record {
      stand = stand_on;
      none = λ w i lv d further li er. let ne = other w d in u.eras.none w i lv (sym (c.others w ne) ∙ d) further li er;
    }

    keys_on : (w : ℕ) → old.live w ≡ true → g.live w ≡ true → (test_of (value w) ≡ test_of (g.value w)) ⊎ ((is_watch (g.kind w) ≡ false) × (g.value w ≡ old.value w))
    keys_on w was lv = elim (by_number w m) [
      | inl s ↦ elim (by_bool (is_watch (g.kind w))) [
        | inl k ↦ inl (subst (λ j. test_of (value j) ≡ test_of (g.value j)) (sym s) (c.same_key (subst (λ j. is_watch (g.kind j) ≡ true) s k)).1)
        | inr k ↦ inr (k, (u.nodes.waits w lv (subst (λ j. at.done j ≡ false) (sym s) taken_waits) was).0)
      ]
      | inr ne ↦ inl (ap test_of (c.value w ne))
    ]

    computed_with : UnderWay p is ms sources old new
    computed_with = record {
      frame = framed_on g new.graph at.height at.height same (λ j. refl) u.frame;
      nodes = nodes_on;
      eras = eras_go_on;
      goes = goes_on old g new.graph at.height (cell_in old) u.frame same u.goes keys_on;
      items = items_on g new.graph p 0 (stays_shape 0 g new.graph same) 2000 is [] ms u.items;
    }

-- A NODE IS COMPUTED. An instant that is under way goes on.
pub computed_keeps : (p : Plan) (is : List LowItem) (ms : List ℕ) (sources : List Now) (old : Graph) (at new : Way) (m : ℕ)
    → UnderWay p is ms sources old at → Computes p sources old at new m → UnderWay p is ms sources old new
computed_keeps p is ms sources old at new m u c =
    let e : Path Way new (record { graph = record at.graph { value = new.graph.value; cell = new.graph.cell }; taken = at.taken; height = at.height; done = new.done; queued = new.queued }) =
    λ i. record { graph = same_graph at.graph new.graph c.shape i; taken = λ j. c.taken j i; height = λ j. c.heights j i; done = new.done; queued = new.queued } in
    subst (λ (w : Way). UnderWay p is ms sources old w) (sym e)
    (computed_with p is ms sources old at new.graph.value new.graph.cell new.done new.queued m u (subst (λ (w : Way). Computes p sources old at w m) e c))
