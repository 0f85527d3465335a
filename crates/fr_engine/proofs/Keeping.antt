-- What is on its way stays so where a watch turns and where any other node is written.
use Rattle.std.proofs.Common.{◌≡◌, ◌≢◌, ◌⊎◌, inl, inr, ℕ, true, false, List, [], length, Option, None, Some, IsSome, Ok, Err, refl, ap, sym, ◌∙◌, subst}
use Rattle.std.specs.Option.{option_map}
use Rattle.fr_value.specs.declared.ids.NodeId.{NodeId}
use Rattle.fr_value.specs.declared.now.Now.{Now}
use Rattle.fr_value.specs.declared.now.Now.TheVariants.{Plain, Occ}
use Rattle.fr_meaning.specs.Words.{Seen, test_of}
use Rattle.fr_graph.specs.Graph.{result, Graph}
use Rattle.fr_graph.specs.Walk.{Plan}
use Rattle.fr_graph.specs.Wired.{Chosen, EraStands}
use Rattle.fr_way.specs.Frame.{is_source, is_watch, occurs_now}
use Rattle.fr_way.specs.Way.{Way, UnderWay}
use Rattle.fr_way.specs.Steps.{SameShape, Computes, Rebuilds}
use Rattle.fr_way.specs.Turns.{IsNew}
use Rattle.fr_way.proofs.Cases.{bool_case, both_bools, by_number, watch_no_result, watch_parts}
use Rattle.fr_way.proofs.Names.{inside_owned}
use Rattle.fr_way.proofs.Computed.{computed_keeps}
use Rattle.fr_way.proofs.Turn.{turned, turn_keeps, to_new}
use Rattle.fr_way.proofs.TurnOrder.{turn_dead, computed_dead}
use Rattle.fr_way.proofs.Used.{used_shape, used_rebuilt}
use Rattle.fr_engine.specs.declared.setting.Notes.{Notes}
use Rattle.fr_engine.specs.Choices.{Buildable, AreFit}
use Rattle.fr_engine.specs.Beginning.{HaveSources}
use Rattle.fr_engine.specs.Moment.{Moment}
use Rattle.fr_engine.specs.Notes.{Named, AreLate, AreNoted}
use Rattle.fr_engine.specs.Rules.{AreUnread, HasKernels}
use Rattle.fr_engine.specs.Running.{Advances, IsOnItsWay}
use Rattle.fr_engine.specs.Turning.{HasTurned}
use Rattle.fr_engine.proofs.Settled.{kernels_on}

-- what tells a key doesn't occur
told_quiet : (A B : Type 0) (v : Seen) → Chosen (test_of v) A B → occurs_now v ≡ false
told_quiet A B (Err b) h = refl
told_quiet A B (Ok (Plain x)) h = refl
told_quiet A B (Ok (Occ None)) h = refl
told_quiet A B (Ok (Occ (Some x))) h = absurd h

raised_some : (o : Option ℕ) (h : ℕ) → IsSome o → IsSome (option_map (λ (k : ℕ). h) o)
raised_some None h s = absurd cc
raised_some (Some k) h s = refl

some_queued : (o : Option ℕ) (h : ℕ) → o ≡ Some h → IsSome o
some_queued None h e = absurd cc
some_queued (Some k) h e = refl

module _ (can : Buildable) (p : Plan) (many : ℕ) (sources : List Now) (t : Moment) (at new : Way) (w : ℕ) (notes : Notes) (late more : List NodeId)
    (o : IsOnItsWay can p many sources t at notes late) (h : HasTurned can p sources t.old at new w late more) where
  abbrev g : Graph
  g = at.graph

  abbrev n : Graph
  n = new.graph

  abbrev r : ℕ
  r = g.result_of w

  under : UnderWay p t.items t.members sources t.old new
  under = turn_keeps p t.items t.members sources t.old at h.t1 h.t2 h.t3 h.t4 h.t5 new w o.under h.turns

  b : Rebuilds p sources t.old at new w
  b = turned p t.items t.members sources t.old at h.t1 h.t2 h.t3 h.t4 h.t5 new w o.under h.turns

  lives : g.live w ≡ true
  lives = (o.under.nodes.queue w b.height b.least.was).0

  result_was : g.live r ≡ true
  result_was = o.under.frame.results.live w lives b.watches

  result_is : g.kind r ≡ result
  result_is = o.under.frame.results.kind w lives b.watches

  same : n ≡ h.t4.graph
  same = h.turns.queues.graph ∙ h.turns.raises.graph

  -- a node that is new was built for the choice
  built_new : (m : ℕ) → g.live m ≡ false → n.live m ≡ true → IsNew h.t2.graph h.t3.graph m
  built_new m off nl = to_new p t.items t.members sources t.old at h.t1 h.t2 h.t3 h.t4 w o.under h.turns.replaces m (off, ap (λ (k : Graph). k.live m) (sym same) ∙ nl)

  kind_built : (m : ℕ) → h.t3.graph.kind m ≡ n.kind m
  kind_built m = sym (h.turns.replaces.rewires.kind m) ∙ ap (λ (k : Graph). k.kind m) (sym same)

  inputs_built : (m : ℕ) → m ≢ r → h.t3.graph.inputs m ≡ n.inputs m
  inputs_built m ne = sym (h.turns.replaces.rewires.inputs m ne) ∙ ap (λ (k : Graph). k.inputs m) (sym same)

  result_built : (m : ℕ) → h.t3.graph.result_of m ≡ n.result_of m
  result_built m = sym (h.turns.replaces.rewires.result_of m) ∙ ap (λ (k : Graph). k.result_of m) (sym same)

  new_apart : (m : ℕ) → g.live m ≡ false → m ≢ r
  new_apart m off e = both_bools (g.live m) (ap g.live e ∙ result_was) off

  -- a node that stays has its kind
  kind_on : (m : ℕ) → g.live m ≡ true → n.live m ≡ true → n.kind m ≡ g.kind m
  kind_on m lv nl = elim (by_number m w) [
    | inl e ↦ ap n.kind e ∙ b.kind ∙ ap g.kind (sym e)
    | inr ne ↦ (b.goes_on m ne lv nl).kind
  ]

  watch_apart : (m : ℕ) → g.live m ≡ true → n.live m ≡ true → is_watch (n.kind m) ≡ true → m ≢ r
  watch_apart m lv nl iw e = watch_no_result (g.kind m) (ap is_watch (sym (kind_on m lv nl)) ∙ iw) (ap g.kind e ∙ result_is)

  kernels : HasKernels p.table (length sources) n
  kernels = record {
    kernels = λ m v nl k. elim (bool_case (g.live m)) [
      | inl lv ↦ o.kernels.kernels m v lv (sym (kind_on m lv nl) ∙ k)
      | inr off ↦ h.choice.kernels m v (built_new m off nl) (kind_built m ∙ k)
    ];
    sources = λ m s nl k. elim (bool_case (g.live m)) [
      | inl lv ↦ o.kernels.sources m s lv (sym (kind_on m lv nl) ∙ k)
      | inr off ↦ both_bools (is_source (h.t3.graph.kind m)) (ap is_source (kind_built m ∙ k)) (h.turns.replaces.grows.built.no_source m (built_new m off nl))
    ];
  }

  fit : AreFit can n
  fit = record {
    tests = λ m nl iw. elim (bool_case (g.live m)) [
      | inl lv ↦
          let test = o.fit.tests m lv (ap is_watch (sym (kind_on m lv nl)) ∙ iw) in
          (test.0, b.same_inputs m lv nl (watch_apart m lv nl iw) ∙ test.1)
      | inr off ↦
          let test = h.choice.tests m (built_new m off nl) (ap is_watch (kind_built m) ∙ iw) in
          (test.0, sym (inputs_built m (new_apart m off)) ∙ test.1)
    ];
    fits = λ m x y env nl k. elim (bool_case (g.live m)) [
      | inl lv ↦ o.fit.fits m x y env lv (sym (kind_on m lv nl) ∙ k)
      | inr off ↦ h.choice.fits m x y env (built_new m off nl) (kind_built m ∙ k)
    ];
  }

  fed : HaveSources many n
  fed = record {
    there = λ s lt.
        let was = o.fed.there s lt in
        let is = ap is_source was.1 in
        let nl = b.stays s was.0 (λ i. inside_owned g w s i (o.under.frame.members.sources s was.0 is)) in
        (nl, kind_on s was.0 nl ∙ was.1);
    only = λ m s nl k. elim (bool_case (g.live m)) [
      | inl lv ↦ o.fed.only m s lv (sym (kind_on m lv nl) ∙ k)
      | inr off ↦ both_bools (is_source (h.t3.graph.kind m)) (ap is_source (kind_built m ∙ k)) (h.turns.replaces.grows.built.no_source m (built_new m off nl))
    ];
  }

  -- a watch that hasn't chosen
  unread_on : (v : ℕ) → v ≢ w → g.live v ≡ true → n.live v ≡ true → is_watch (n.kind v) ≡ true → new.done v ≡ false → t.old.live v ≡ false → n.inputs (n.result_of v) ≡ []
  unread_on v ne lv nl iw waits further =
      let goes = b.goes_on v ne lv nl in
      let was : is_watch (g.kind v) ≡ true = ap is_watch (sym goes.kind) ∙ iw in
      let res = goes.result_of was in
      let there : g.live (g.result_of v) ≡ true = o.under.frame.results.live v lv was in
      let still : n.live (g.result_of v) ≡ true = ap n.live (sym res) ∙ under.frame.results.live v nl iw in
      let apart : g.result_of v ≢ r = λ e. ne (o.under.frame.results.apart v w lv lives was b.watches e) in
      ap n.inputs res ∙ b.same_inputs (g.result_of v) there still apart ∙ o.unread v lv was (sym goes.done ∙ waits) further

  unread_new : (v : ℕ) → g.live v ≡ false → n.live v ≡ true → is_watch (n.kind v) ≡ true → n.inputs (n.result_of v) ≡ []
  unread_new v off nl iw =
      let built = h.turns.replaces.grows.built in
      let res = built.results v (built_new v off nl) (ap is_watch (kind_built v) ∙ iw) in
      let none = (built.unread (h.t3.graph.result_of v) res.0 res.1).0 in
      let fresh : g.live (h.t3.graph.result_of v) ≡ false = new_was_not (h.t3.graph.result_of v) res.0 in
      ap n.inputs (sym (result_built v)) ∙ sym (inputs_built (h.t3.graph.result_of v) (new_apart (h.t3.graph.result_of v) fresh)) ∙ none
    where
      new_was_not : (m : ℕ) → IsNew h.t2.graph h.t3.graph m → g.live m ≡ false
      new_was_not m is = elim (bool_case (g.live m)) [
        | inl lv ↦ both_bools (at.taken m) (o.under.nodes.taken m (inl lv))
            (sym (h.turns.replaces.sets.taken m) ∙ sym (h.turns.replaces.kills.taken m) ∙ (h.turns.replaces.grows.born m is).fresh)
        | inr off ↦ off
      ]

  unread : AreUnread t.old new
  unread v nl iw waits further = elim (by_number v w) [
    | inl e ↦ both_bools (new.done v) (ap new.done e ∙ b.done) waits
    | inr ne ↦ elim (bool_case (g.live v)) [
      | inl lv ↦ unread_on v ne lv nl iw waits further
      | inr off ↦ unread_new v off nl iw
    ]
  ]

  -- the agenda
  queued_on : (m : ℕ) → m ≢ w → g.live m ≡ true → n.live m ≡ true → IsSome (at.queued m) → IsSome (new.queued m)
  queued_on m ne lv nl q = elim (by_number m r) [
    | inl e ↦ some_queued (new.queued m) (new.height r) (ap new.queued e ∙ b.result_queued)
    | inr nr ↦ subst (λ (x : Option ℕ). IsSome x) (sym (b.queue m lv nl ne nr)) (raised_some (at.queued m) (new.height m) q)
  ]

  quiet : occurs_now (n.value w) ≡ false
  quiet =
      let k = watch_parts (g.kind w) b.watches in
      told_quiet (EraStands n p w k.0 k.2) (EraStands n p w k.1 k.2) (n.value w) (b.stands k.0 k.1 k.2 k.3)

  not_yet : at.done w ≡ false
  not_yet = (o.under.nodes.queue w b.height b.least.was).2

  -- a watch that turns has another value than before the instant
  another : t.old.live w ≡ true → n.value w ≢ t.old.value w
  another lived same = b.other_key lived (ap test_of (same ∙ sym (o.under.nodes.waits w lives not_yet lived).0))

  still_taken : (m : ℕ) → at.taken m ≡ true → new.taken m ≡ true
  still_taken m u = b.taken m (inl u)

  module _ (noting : Notes) (wakes : noting.wakes.items ≡ notes.wakes.items) (kept : (m : ℕ) → Named notes.changed.items m → Named noting.changed.items m) (here : Named noting.changed.items w)
      (only : (m : ℕ) → Named noting.changed.items m → (m ≡ w) ⊎ Named notes.changed.items m) where
    noted : AreNoted t.old new noting.wakes.items noting.changed.items
    noted = record {
      occurring = λ m nl. elim (by_number m w) [
        | inl e ↦ inr (inr (ap (λ (i : ℕ). occurs_now (n.value i)) e ∙ quiet))
        | inr ne ↦ elim (bool_case (g.live m)) [
          | inr off ↦ inr (inl (some_queued (new.queued m) (new.height m) (b.born m off nl).queued))
          | inl lv ↦ elim (o.noted.occurring m lv) [
            | inl nm ↦ inl (subst (λ (l : List NodeId). Named l m) (sym wakes) nm)
            | inr other ↦ inr (elim other [
              | inl q ↦ inl (queued_on m ne lv nl q)
              | inr silent ↦ inr (ap occurs_now (b.goes_on m ne lv nl).value ∙ silent)
            ])
          ]
        ]
      ];
      other = λ m nl was. elim (by_number m w) [
        | inl e ↦ inl (subst (Named noting.changed.items) (sym e) here)
        | inr ne ↦ elim (bool_case (g.live m)) [
          | inr off ↦ both_bools (at.taken m) (o.under.nodes.taken m (inr was)) (b.born m off nl).fresh
          | inl lv ↦ elim (o.noted.other m lv was) [
            | inl nm ↦ inl (kept m nm)
            | inr other ↦ inr (elim other [
              | inl q ↦ inl (queued_on m ne lv nl q)
              | inr stays ↦ inr ((b.goes_on m ne lv nl).value ∙ stays)
            ])
          ]
        ]
      ];
      occur = λ m nm nl.
          let was = subst (λ (l : List NodeId). Named l m) wakes nm in
          elim (by_number m w) [
            | inl e ↦ both_bools (at.done w) (o.noted.occur w (subst (Named notes.wakes.items) e was) lives).0 not_yet
            | inr ne ↦ elim (bool_case (g.live m)) [
              | inr off ↦ both_bools (at.taken m) (o.noted.wakes_taken m was) (b.born m off nl).fresh
              | inl lv ↦
                  let k = o.noted.occur m was lv in
                  let goes = b.goes_on m ne lv nl in
                  (goes.done ∙ k.0, ap occurs_now goes.value ∙ k.1)
            ]
          ];
      differ = λ m nm nl. elim (by_number m w) [
        | inl e ↦ (ap new.done e ∙ b.done, λ lived same. another (subst (λ (i : ℕ). t.old.live i ≡ true) e lived) (subst (λ (i : ℕ). n.value i ≡ t.old.value i) e same))
        | inr ne ↦ elim (only m nm) [
          | inl e ↦ absurd (ne e)
          | inr was ↦ elim (bool_case (g.live m)) [
            | inr off ↦ both_bools (at.taken m) (o.noted.changed_taken m was) (b.born m off nl).fresh
            | inl lv ↦
                let k = o.noted.differ m was lv in
                let goes = b.goes_on m ne lv nl in
                (goes.done ∙ k.0, λ lived same. k.1 lived (sym goes.value ∙ same))
          ]
        ]
      ];
      wakes_taken = λ m nm. still_taken m (o.noted.wakes_taken m (subst (λ (l : List NodeId). Named l m) wakes nm));
      changed_taken = λ m nm. still_taken m (elim (only m nm) [
        | inl e ↦ ap at.taken e ∙ o.under.nodes.taken w (inl lives)
        | inr was ↦ o.noted.changed_taken m was
      ]);
    }

    listed : AreLate new more
    listed = record {
      listed = λ m v nl k is. elim (bool_case (g.live m)) [
        | inl lv ↦ h.choice.kept m (o.listed.listed m v lv (sym (kind_on m lv nl) ∙ k) is)
        | inr off ↦ h.choice.late m v (built_new m off nl) (kind_built m ∙ k) is
      ];
      taken = λ m nm. elim (h.choice.only m nm) [
        | inl was ↦ still_taken m (o.listed.taken m was)
        | inr is ↦ b.taken m (inr (ap (λ (k : Graph). k.live m) same ∙ h.turns.replaces.rewires.live m ∙ is.1))
      ];
    }

    -- WHERE A WATCH TURNS what is on its way stays so
    pub turned_way : IsOnItsWay can p many sources t new noting more
    turned_way = record {
      under = under;
      dead = turn_dead p t.items t.members sources t.old at h.t1 h.t2 h.t3 h.t4 h.t5 new w o.under h.turns o.dead;
      used = used_rebuilt p t.items t.members sources t.old at new w b o.used;
      kernels = kernels;
      fit = fit;
      fed = fed;
      unread = unread;
      noted = noted;
      listed = listed;
    }

  -- and the watch counts as computed from now on
  pub turned_advances : Advances at new w
  turned_advances = record {
    was = (o.under.nodes.queue w b.height b.least.was).2;
    kept = λ j use_j dn.
        let s = h.turns.replaces in
        let use_1 : h.t1.taken j ≡ true = s.sets.taken j ∙ use_j in
        let use_2 : h.t2.taken j ≡ true = s.kills.taken j ∙ use_1 in (
          still_taken j use_j,
          h.turns.queues.done j ∙ h.turns.raises.done j ∙ s.rewires.done j ∙ (s.grows.same j use_2).done ∙ (s.kills.same j).done ∙ elim (by_number j w) [
            | inl e ↦ ap h.t1.done e ∙ s.sets.done
            | inr ne ↦ s.sets.others j ne ∙ dn
          ],
        );
    here = (b.taken w (inr b.live), b.done);
  }

-- WHERE ANY OTHER NODE IS WRITTEN it stays so too
module _ (can : Buildable) (p : Plan) (many : ℕ) (sources : List Now) (t : Moment) (at new : Way) (m : ℕ) (notes noting : Notes) (late : List NodeId)
    (o : IsOnItsWay can p many sources t at notes late) (c : Computes p sources t.old at new m) where
  abbrev s : SameShape at.graph new.graph
  s = c.shape

  pub computed_way : AreUnread t.old new → AreNoted t.old new noting.wakes.items noting.changed.items → AreLate new late → IsOnItsWay can p many sources t new noting late
  computed_way unread noted listed = record {
    under = computed_keeps p t.items t.members sources t.old at new m o.under c;
    dead = computed_dead p sources t.old at new m c o.dead;
    used = used_shape p t.items t.members at.graph new.graph s o.used;
    kernels = kernels_on p.table (length sources) at.graph new.graph s o.kernels;
    fit = record {
      tests = λ w nl iw.
          let test = o.fit.tests w (sym (s.live w) ∙ nl) (ap is_watch (sym (s.kind w)) ∙ iw) in
          (test.0, s.inputs w ∙ test.1);
      fits = λ w a b env nl k. o.fit.fits w a b env (sym (s.live w) ∙ nl) (sym (s.kind w) ∙ k);
    };
    fed = record {
      there = λ i lt. let was = o.fed.there i lt in (s.live i ∙ was.0, s.kind i ∙ was.1);
      only = λ j i nl k. o.fed.only j i (sym (s.live j) ∙ nl) (sym (s.kind j) ∙ k);
    };
    unread = unread;
    noted = noted;
    listed = listed;
  }

  pub computed_advances : Advances at new m
  computed_advances =
      let was = o.under.nodes.queue m c.height c.least.was in
      record {
        was = was.2;
        kept = λ j use_j dn. (
          c.taken j ∙ use_j,
          elim (by_number j m) [
            | inl e ↦ ap new.done e ∙ c.done
            | inr ne ↦ c.others j ne ∙ dn
          ],
        );
        here = (c.taken m ∙ o.under.nodes.taken m (inl was.0), c.done);
      }
