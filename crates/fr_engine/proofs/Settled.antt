-- What it is for a node that was taken to be written: an instant goes on, and what was noted stays right.
use Rattle.std.proofs.Common.{◌≡◌, ◌≢◌, ◌⊎◌, inl, inr, ℕ, Bool, true, false, ◌||◌, not, ◌↔◌, IsTrue, OnOk, List, [], ◌∷◌, ◌++◌, refl, sym, ap, ◌∙◌, subst, Option, Some, None, IsSome, Result, Ok, Err}
use Rattle.std.specs.Option.{option_map}
use Rattle.fr_value.specs.declared.now.Now.{Now}
use Rattle.fr_value.specs.declared.ids.NodeId.{NodeId}
use Rattle.fr_core.specs.declared.lowered.Low.{Low}
use Rattle.fr_core.specs.declared.lowered.LowItem.{LowItem}
use Rattle.fr_meaning.specs.Words.{Seen, test_of}
use Rattle.fr_meaning.specs.Cells.{Cell}
use Rattle.fr_kernel.specs.Kernels.{Kernels}
use Rattle.fr_graph.specs.Graph.{Part, watch, Graph}
use Rattle.fr_graph.specs.Known.{Reads}
use Rattle.fr_graph.specs.Walk.{Plan}
use Rattle.fr_events.specs.Works.{cell_of}
use Rattle.fr_events.specs.declared.lines.Stepped.{Stepped}
use Rattle.fr_way.specs.Frame.{is_watch, occurs_now}
use Rattle.fr_way.specs.Way.{Way, cell_in, UnderWay}
use Rattle.fr_way.specs.Steps.{SameShape, Computes}
use Rattle.fr_nodes.specs.Signals.{Writes, TakesOut, QueuesReaders, IsNodeOf}
use Rattle.fr_nodes.specs.Kinds.{Sites}
use Rattle.fr_store.specs.declared.node.Node.{Node}
use Rattle.fr_engine.specs.declared.setting.Notes.{Notes}
use Rattle.fr_engine.specs.Rules.{HasKernels, Computed, Fits, AreUnread, KeepsKey}
use Rattle.fr_engine.specs.Notes.{Named, AreTaken, AreNoted, AreLate, Lists, Wakes, Settles, NotesNode}
use Rattle.fr_engine.proofs.Cases.{by_bool, by_number, no_both, not_below, none_some, some_is, reads_case, by_choice}
use Rattle.fr_engine.proofs.Comes.{cell_before}

cons_nil : {A : Type 0} {ps : List Part} {q : Part} → ps ≡ q ∷ [] → ps ≡ [] → A
cons_nil e n = absurd cc

same_number : (o : Option ℕ) (h k : ℕ) → o ≡ Some h → o ≡ Some k → h ≡ k
same_number o h k e f = cc

-- a node was written and its readers were queued
settles_awake : (at mid new : Way) (m : ℕ) (now : Now) (next : Option Cell) → Writes at mid m now next → QueuesReaders mid new m → Settles at new m now next
settles_awake at mid new m now next w q =
    let e = q.same.graph in
    record {
      shape = subst (λ (g : Graph). SameShape at.graph g) (sym e) w.shape;
      value_here = ap (λ (g : Graph). g.value m) e ∙ w.value_here;
      value = λ j ne. ap (λ (g : Graph). g.value j) e ∙ w.value j ne;
      cell_here = ap (λ (g : Graph). g.cell m) e ∙ w.cell_here;
      cell = λ j ne. ap (λ (g : Graph). g.cell j) e ∙ w.cell j ne;
      taken = λ j. q.same.taken j ∙ w.taken j;
      heights = λ j. q.same.heights j ∙ w.heights j;
      done_here = q.same.done m ∙ w.done_here;
      done = λ j ne. q.same.done j ∙ w.done j ne;
      queue = λ j.
          elim (by_bool (at.graph.live j)) [
            | inr dead ↦ inl (q.others j (inl (w.shape.live j ∙ dead)) ∙ w.queue j)
            | inl live ↦ elim (reads_case m (at.graph.inputs j)) [
              | inr not_read ↦ inl (q.others j (inr (λ r. not_read (subst (λ (ps : List Part). Reads m ps) (w.shape.inputs j) r))) ∙ w.queue j)
              | inl read ↦ inr (live, read, q.readers j (w.shape.live j ∙ live) (subst (λ (ps : List Part). Reads m ps) (sym (w.shape.inputs j)) read) ∙ ap (λ (h : ℕ). Some h) (w.heights j))
            ]
          ];
      readers = λ j live read. inl (q.readers j (w.shape.live j ∙ live) (subst (λ (ps : List Part). Reads m ps) (sym (w.shape.inputs j)) read) ∙ ap (λ (h : ℕ). Some h) (w.heights j));
    }

-- a node was written, and its value stayed and doesn't occur
settles_asleep : (at mid new : Way) (m : ℕ) (now : Now) (next : Option Cell) → Writes at mid m now next → new ≡ mid
    → at.graph.value m ≡ Ok now → occurs_now (Ok now) ≡ false → Settles at new m now next
settles_asleep at mid new m now next w e stays quiet =
    let settled : Settles at mid m now next = record {
      shape = w.shape;
      value_here = w.value_here;
      value = w.value;
      cell_here = w.cell_here;
      cell = w.cell;
      taken = w.taken;
      heights = w.heights;
      done_here = w.done_here;
      done = w.done;
      queue = λ j. inl (w.queue j);
      readers = λ j live read. inr (stays, quiet);
    } in
    subst (λ (v : Way). Settles at v m now next) (sym e) settled

pub settles : (occurs differs : Bool) (at mid new : Way) (m : ℕ) (now : Now) (next : Option Cell) → Writes at mid m now next → Wakes (occurs || differs) mid new m
    → occurs_now (Ok now) ≡ occurs → (differs ≡ false → at.graph.value m ≡ Ok now) → Settles at new m now next
settles true differs at mid new m now next w q o d = settles_awake at mid new m now next w q
settles false true at mid new m now next w q o d = settles_awake at mid new m now next w q
settles false false at mid new m now next w q o d = settles_asleep at mid new m now next w q (d refl) o

module _ (p : Plan) (is : List LowItem) (ms : List ℕ) (sources : List Now) (old : Graph) (at t : Way) (m : ℕ) (u : UnderWay p is ms sources old at) (tk : TakesOut at t m) where
  -- the node that was taken lives and isn't computed
  taken_there : (at.graph.live m ≡ true) × (tk.height ≡ at.height m) × (at.done m ≡ false)
  taken_there = u.nodes.queue m tk.height tk.least.was

  pub taken_lives : t.graph.live m ≡ true
  taken_lives = ap (λ (g : Graph). g.live m) tk.same.graph ∙ taken_there.0

  pub taken_waits : t.done m ≡ false
  taken_waits = tk.same.done m ∙ taken_there.2

  reads_itself_not : Reads m (at.graph.inputs m) → ⊥
  reads_itself_not r = not_below (at.height m) (u.frame.levelled.input m m taken_there.0 r)

  itself_unread : Reads m (t.graph.inputs m) → ⊥
  itself_unread r = reads_itself_not (subst (λ (g : Graph). Reads m (g.inputs m)) tk.same.graph r)

  taken_cell : cell_in old m ≡ t.graph.cell m
  taken_cell = cell_before p sources old at m u.nodes taken_there.0 taken_there.2 ∙ ap (λ (g : Graph). g.cell m) (sym tk.same.graph)

  -- a watch whose result has an input has chosen before
  chose : AreUnread old at → is_watch (t.graph.kind m) ≡ true → (t.graph.inputs (t.graph.result_of m) ≢ []) → old.live m ≡ true
  chose unread w read = elim (by_bool (old.live m)) [
    | inl y ↦ y
    | inr n ↦ absurd (read (subst (λ (g : Graph). g.inputs (g.result_of m) ≡ []) (sym tk.same.graph)
        (unread m taken_there.0 (ap (λ (g : Graph). is_watch (g.kind m)) (sym tk.same.graph) ∙ w) taken_there.2 n)))
  ]

  -- what a node has come to by its rule fits it
  pub fits : (s : Stepped) (before after : ℕ) → AreUnread old at → Computed s before after p.table sources t m
      → (is_watch (t.graph.kind m) ≡ true → KeepsKey true t.graph m s.value) → Fits p sources old t m s.value (option_map cell_of s.cell)
  fits s before after unread c keeps = record {
    obeys = c.obeys (cell_in old) taken_cell itself_unread;
    late = c.late;
    same_key = λ w. (chose unread w (keeps w).0, (keeps w).1);
  }

  -- where a watch doesn't keep its key, it has another or chooses for the first time
  read_result : (w : ℕ) (a b : Low) (env : List Part) → at.graph.live w ≡ true → old.live w ≡ true → at.graph.kind w ≡ watch a b env → at.graph.inputs (at.graph.result_of w) ≡ [] → ⊥
  read_result w a b env live was k none =
      by_choice (test_of (at.graph.value w)) (u.eras.stand w a b env live (inr was) k) (λ st. cons_nil st.input none) (λ st. cons_nil st.input none)

  pub other_key : (a b : Low) (env : List Part) (now : Now) → t.graph.kind m ≡ watch a b env → KeepsKey false t.graph m now → old.live m ≡ true → test_of (Ok now) ≢ test_of (at.graph.value m)
  other_key a b env now k (inl none) was same = read_result m a b env taken_there.0 was (ap (λ (g : Graph). g.kind m) (sym tk.same.graph) ∙ k)
      (subst (λ (g : Graph). g.inputs (g.result_of m) ≡ []) tk.same.graph none)
  other_key a b env now k (inr other) was same = other (same ∙ ap (λ (g : Graph). test_of (g.value m)) (sym tk.same.graph))

  module _ (new : Way) (now : Now) (next : Option Cell) (s : Settles t new m now next) where
    -- the rule holds in what the node is written into
    writes : Writes t (record { graph = new.graph; taken = new.taken; height = new.height; done = new.done; queued = t.queued }) m now next
    writes = record {
      shape = s.shape;
      value_here = s.value_here;
      value = s.value;
      cell_here = s.cell_here;
      cell = s.cell;
      taken = s.taken;
      heights = s.heights;
      done_here = s.done_here;
      done = s.done;
      queue = λ j. refl;
    }

    set_shape : SameShape at.graph new.graph
    set_shape = subst (λ (g : Graph). SameShape g new.graph) tk.same.graph s.shape

    set_value : (j : ℕ) → j ≢ m → new.graph.value j ≡ at.graph.value j
    set_value j ne = s.value j ne ∙ ap (λ (g : Graph). g.value j) tk.same.graph

    set_cell : (j : ℕ) → j ≢ m → new.graph.cell j ≡ at.graph.cell j
    set_cell j ne = s.cell j ne ∙ ap (λ (g : Graph). g.cell j) tk.same.graph

    set_height : (j : ℕ) → new.height j ≡ at.height j
    set_height j = s.heights j ∙ tk.same.heights j

    set_taken : (j : ℕ) → new.taken j ≡ at.taken j
    set_taken j = s.taken j ∙ tk.same.taken j

    set_done : (j : ℕ) → j ≢ m → new.done j ≡ at.done j
    set_done j ne = s.done j ne ∙ tk.same.done j

    -- what becomes of the agenda
    set_queue : (j : ℕ) → j ≢ m → (new.queued j ≡ at.queued j) ⊎ ((at.graph.live j ≡ true) × Reads m (at.graph.inputs j) × (new.queued j ≡ Some (at.height j)))
    set_queue j ne = elim (s.queue j) [
      | inl e ↦ inl (e ∙ tk.queue j ne)
      | inr r ↦ inr (
        ap (λ (g : Graph). g.live j) (sym tk.same.graph) ∙ r.0,
        subst (λ (g : Graph). Reads m (g.inputs j)) tk.same.graph r.1,
        r.2 ∙ ap (λ (h : ℕ). Some h) (tk.same.heights j),
      )
    ]

    out_of : new.queued m ≡ None
    out_of = elim (s.queue m) [
      | inl e ↦ e ∙ tk.out
      | inr r ↦ absurd (itself_unread r.1)
    ]

    stays_queued : (j h : ℕ) → j ≢ m → at.queued j ≡ Some h → new.queued j ≡ Some h
    stays_queued j h ne q = elim (set_queue j ne) [
      | inl e ↦ e ∙ q
      | inr r ↦ r.2 ∙ ap (λ (i : ℕ). Some i) (sym (u.nodes.queue j h q).1)
    ]

    was_queued : (j h : ℕ) → new.queued j ≡ Some h → (at.queued j ≡ Some h) ⊎ ((at.graph.live j ≡ true) × Reads m (at.graph.inputs j) × (h ≡ at.height j))
    was_queued j h q = elim (by_number j m) [
      | inl e ↦ none_some (new.queued j) h (ap (λ (i : ℕ). new.queued i) e ∙ out_of) q
      | inr ne ↦ elim (set_queue j ne) [
        | inl e ↦ inl (sym e ∙ q)
        | inr r ↦ inr (r.0, r.1, same_number (new.queued j) h (at.height j) q r.2)
      ]
    ]

    reader_woken : (j : ℕ) → at.graph.live j ≡ true → Reads m (at.graph.inputs j) → IsSome (new.queued j) ⊎ ((new.graph.value m ≡ at.graph.value m) × (occurs_now (new.graph.value m) ≡ false))
    reader_woken j live read = elim (s.readers j (ap (λ (g : Graph). g.live j) tk.same.graph ∙ live) (subst (λ (g : Graph). Reads m (g.inputs j)) (sym tk.same.graph) read)) [
      | inl e ↦ inl (some_is (new.queued j) (t.height j) e)
      | inr r ↦ inr (s.value_here ∙ sym r.0 ∙ ap (λ (g : Graph). g.value m) tk.same.graph, ap occurs_now s.value_here ∙ r.1)
    ]

    -- AN INSTANT GOES ON where a node that was taken is written
    pub computes : Fits p sources old t m now next → Computes p sources old at new m
    computes f = record {
      height = tk.height;
      least = tk.least;
      shape = set_shape;
      value = set_value;
      cell = set_cell;
      taken = set_taken;
      heights = set_height;
      done = s.done_here;
      others = set_done;
      rule = f.obeys (record { graph = new.graph; taken = new.taken; height = new.height; done = new.done; queued = t.queued }) writes;
      late = λ w k late. s.cell_here ∙ f.late w (ap (λ (g : Graph). g.kind m) tk.same.graph ∙ k) late ∙ ap (λ (g : Graph). g.cell m) tk.same.graph;
      out = out_of;
      kept = stays_queued;
      only = was_queued;
      readers = reader_woken;
      same_key = λ w. let k = f.same_key (ap (λ (g : Graph). is_watch (g.kind m)) tk.same.graph ∙ w) in
          (k.0, ap test_of s.value_here ∙ k.1 ∙ ap (λ (g : Graph). test_of (g.value m)) tk.same.graph);
    }

    still_queued : (j : ℕ) → j ≢ m → IsSome (at.queued j) → IsSome (new.queued j)
    still_queued j ne q = elim (set_queue j ne) [
      | inl e ↦ subst (λ (o : Option ℕ). IsSome o) (sym e) q
      | inr r ↦ some_is (new.queued j) (at.height j) r.2
    ]

    -- a node is in use that was
    still_taken : (ids more : List NodeId) → ((j : ℕ) → Named more j → (j ≡ m) ⊎ Named ids j) → AreTaken at ids → AreTaken new more
    still_taken ids more only there = λ j nm. set_taken j ∙ elim (only j nm) [
      | inl e ↦ ap at.taken e ∙ u.nodes.taken m (inl taken_there.0)
      | inr o ↦ there j o
    ]

    -- the node had the value that it had before the instant
    was_before : old.live m ≡ true → t.graph.value m ≡ old.value m
    was_before lived = ap (λ (g : Graph). g.value m) tk.same.graph ∙ (u.nodes.waits m taken_there.0 taken_there.2 lived).0

    -- what was noted stays right where this node is noted too
    pub noted : (before after : Notes) → NotesNode t m now before after → AreNoted old at before.wakes.items before.changed.items → AreNoted old new after.wakes.items after.changed.items
    noted before after n a = record {
      occurring = λ j live. elim (by_number j m) [
        | inl e ↦ elim n.occurs [
          | inl nm ↦ inl (subst (λ (i : ℕ). Named after.wakes.items i) (sym e) nm)
          | inr quiet ↦ inr (inr (ap (λ (i : ℕ). occurs_now (new.graph.value i)) e ∙ ap occurs_now s.value_here ∙ quiet))
        ]
        | inr ne ↦ elim (a.occurring j (sym (set_shape.live j) ∙ live)) [
          | inl nm ↦ inl (n.wakes j nm)
          | inr o ↦ inr (elim o [
            | inl q ↦ inl (still_queued j ne q)
            | inr quiet ↦ inr (ap occurs_now (set_value j ne) ∙ quiet)
          ])
        ]
      ];
      other = λ j live was. elim (by_number j m) [
        | inl e ↦ elim n.differs [
          | inl nm ↦ inl (subst (λ (i : ℕ). Named after.changed.items i) (sym e) nm)
          | inr stays ↦ inr (inr (subst (λ (i : ℕ). new.graph.value i ≡ old.value i) (sym e)
              (s.value_here ∙ sym stays ∙ ap (λ (g : Graph). g.value m) tk.same.graph ∙ (u.nodes.waits m taken_there.0 taken_there.2 (subst (λ (i : ℕ). old.live i ≡ true) e was)).0)))
        ]
        | inr ne ↦ elim (a.other j (sym (set_shape.live j) ∙ live) was) [
          | inl nm ↦ inl (n.changed j nm)
          | inr o ↦ inr (elim o [
            | inl q ↦ inl (still_queued j ne q)
            | inr stays ↦ inr (set_value j ne ∙ stays)
          ])
        ]
      ];
      occur = λ j nm live. elim (by_number j m) [
        | inl e ↦ elim (n.occurs_only (subst (λ (i : ℕ). Named after.wakes.items i) e nm)) [
          | inl was ↦ no_both (at.done m) (a.occur m was taken_there.0).0 taken_there.2
          | inr does ↦ (ap new.done e ∙ s.done_here, ap (λ (i : ℕ). occurs_now (new.graph.value i)) e ∙ ap occurs_now s.value_here ∙ does)
        ]
        | inr ne ↦ elim (n.wakes_only j nm) [
          | inl e ↦ absurd (ne e)
          | inr was ↦ let k = a.occur j was (sym (set_shape.live j) ∙ live) in (set_done j ne ∙ k.0, ap occurs_now (set_value j ne) ∙ k.1)
        ]
      ];
      differ = λ j nm live. elim (by_number j m) [
        | inl e ↦ elim (n.differs_only (subst (λ (i : ℕ). Named after.changed.items i) e nm)) [
          | inl was ↦ no_both (at.done m) (a.differ m was taken_there.0).0 taken_there.2
          | inr other ↦ (ap new.done e ∙ s.done_here, λ lived same. other (was_before (subst (λ (i : ℕ). old.live i ≡ true) e lived) ∙ sym (subst (λ (i : ℕ). new.graph.value i ≡ old.value i) e same) ∙ s.value_here))
        ]
        | inr ne ↦ elim (n.changed_only j nm) [
          | inl e ↦ absurd (ne e)
          | inr was ↦ let k = a.differ j was (sym (set_shape.live j) ∙ live) in (set_done j ne ∙ k.0, λ lived same. k.1 lived (sym (set_value j ne) ∙ same))
        ]
      ];
      wakes_taken = still_taken before.wakes.items after.wakes.items n.wakes_only a.wakes_taken;
      changed_taken = still_taken before.changed.items after.changed.items n.changed_only a.changed_taken;
    }

    -- the late works are listed as they were
    pub late_listed : (ids : List NodeId) → AreLate at ids → AreLate new ids
    late_listed ids l = record {
      listed = λ j w live k late. l.listed j w (sym (set_shape.live j) ∙ live) (sym (set_shape.kind j) ∙ k) late;
      taken = λ j nm. set_taken j ∙ l.taken j nm;
    }

    pub still_unread : AreUnread old at → AreUnread old new
    still_unread un = λ w live k waits was. elim (by_number w m) [
      | inl e ↦ no_both (new.done w) (ap new.done e ∙ s.done_here) waits
      | inr ne ↦ set_shape.inputs (new.graph.result_of w) ∙ ap at.graph.inputs (set_shape.result_of w)
          ∙ un w (sym (set_shape.live w) ∙ live) (ap is_watch (sym (set_shape.kind w)) ∙ k) (sym (set_done w ne) ∙ waits) was
    ]

-- kernels stay where they are in a graph of the same shape
pub kernels_on : (t : Kernels) (many : ℕ) (g h : Graph) → SameShape g h → HasKernels t many g → HasKernels t many h
kernels_on t many g h same k = record {
  kernels = λ m w live e. k.kernels m w (sym (same.live m) ∙ live) (sym (same.kind m) ∙ e);
  sources = λ m s live e. k.sources m s (sym (same.live m) ∙ live) (sym (same.kind m) ∙ e);
}

-- what a call gives, if it went well, gives more
pub on_ok : {A B P Q : Type 0} (r : Result A B) → (P → Q) → OnOk r P → OnOk r Q
on_ok (Ok a) f p = f p
on_ok (Err e) f p = p

named_more : (ids : List NodeId) (m j : ℕ) → Named ids j → Named (ids ++ record { 0 = m } ∷ []) j
named_more [] m j n = absurd n
named_more (x ∷ xs) m j (inl e) = inl e
named_more (x ∷ xs) m j (inr n) = inr (named_more xs m j n)

named_last : (ids : List NodeId) (m : ℕ) → Named (ids ++ record { 0 = m } ∷ []) m
named_last [] m = inl refl
named_last (x ∷ xs) m = inr (named_last xs m)

named_in : (ids : List NodeId) (m j : ℕ) → Named (ids ++ record { 0 = m } ∷ []) j → (j ≡ m) ⊎ Named ids j
named_in [] m j (inl e) = inl (sym e)
named_in [] m j (inr n) = absurd n
named_in (x ∷ xs) m j (inl e) = inr (inl e)
named_in (x ∷ xs) m j (inr n) = elim (named_in xs m j n) [ inl e ↦ inl e | inr k ↦ inr (inr k) ]

pub still_named : (b : Bool) (old new : List NodeId) (m j : ℕ) → Lists b old new m → Named old j → Named new j
still_named true old new m j l n = subst (λ (ids : List NodeId). Named ids j) (sym l) (named_more old m j n)
still_named false old new m j l n = subst (λ (ids : List NodeId). Named ids j) (sym l) n

pub newly_named : (b : Bool) (old new : List NodeId) (m : ℕ) → Lists b old new m → Named new m ⊎ (b ≡ false)
newly_named true old new m l = inl (subst (λ (ids : List NodeId). Named ids m) (sym l) (named_last old m))
newly_named false old new m l = inr refl

pub only_named : (b : Bool) (old new : List NodeId) (m j : ℕ) → Lists b old new m → Named new j → (j ≡ m) ⊎ Named old j
only_named true old new m j l n = named_in old m j (subst (λ (ids : List NodeId). Named ids j) l n)
only_named false old new m j l n = inr (subst (λ (ids : List NodeId). Named ids j) l n)

-- where a node is listed it was, or that was asked for
asked_named : (b : Bool) (old new : List NodeId) (m : ℕ) → Lists b old new m → Named new m → Named old m ⊎ (b ≡ true)
asked_named true old new m l n = inr refl
asked_named false old new m l n = inl (subst (λ (ids : List NodeId). Named ids m) l n)

pub notes_node : (occurs differs : Bool) (at : Way) (m : ℕ) (now : Now) (old new : Notes) → Lists occurs old.wakes.items new.wakes.items m → Lists differs old.changed.items new.changed.items m
    → occurs_now (Ok now) ≡ occurs → (differs ≡ false → at.graph.value m ≡ Ok now) → (differs ≡ true → at.graph.value m ≢ Ok now) → NotesNode at m now old new
notes_node occurs differs at m now old new l k o d x = record {
  wakes = λ j n. still_named occurs old.wakes.items new.wakes.items m j l n;
  changed = λ j n. still_named differs old.changed.items new.changed.items m j k n;
  occurs = elim (newly_named occurs old.wakes.items new.wakes.items m l) [ inl n ↦ inl n | inr f ↦ inr (o ∙ f) ];
  differs = elim (newly_named differs old.changed.items new.changed.items m k) [ inl n ↦ inl n | inr f ↦ inr (d f) ];
  occurs_only = λ n. elim (asked_named occurs old.wakes.items new.wakes.items m l n) [ inl was ↦ inl was | inr needed ↦ inr (o ∙ needed) ];
  differs_only = λ n. elim (asked_named differs old.changed.items new.changed.items m k n) [ inl was ↦ inl was | inr needed ↦ inr (x needed) ];
  wakes_only = λ j n. only_named occurs old.wakes.items new.wakes.items m j l n;
  changed_only = λ j n. only_named differs old.changed.items new.changed.items m j k n;
}

ok_same : (a b : Now) → a ≡ b → Path Seen (Ok a) (Ok b)
ok_same a b e = cc

-- a value that is the same as that of a stored node stayed
pub value_stays : (sites : Sites) (at : Way) (m : ℕ) (n : Node) (now : Now) (r : Bool) → IsNodeOf sites at m n → (IsTrue r ↔ (now ≡ n.value)) → not r ≡ false → at.graph.value m ≡ Ok now
value_stays sites at m n now true is same e = is.value ∙ ok_same n.value now (sym (same.0 refl))
value_stays sites at m n now false is same e = absurd cc

same_ok : (a b : Now) → Path Seen (Ok a) (Ok b) → a ≡ b
same_ok a b e = cc

-- a value that isn't the same as that of a stored node is another
pub value_differs : (sites : Sites) (at : Way) (m : ℕ) (n : Node) (now : Now) (r : Bool) → IsNodeOf sites at m n → (IsTrue r ↔ (now ≡ n.value)) → not r ≡ true → at.graph.value m ≢ Ok now
value_differs sites at m n now true is same e = λ kept. absurd cc
value_differs sites at m n now false is same e = λ kept. let t : IsTrue false = same.1 (same_ok now n.value (sym kept ∙ is.value)) in absurd cc
