-- What grew can grow again.
use Rattle.std.proofs.Common.{◌≡◌, inl, inr, ℕ, suc, ◌<◌, true, false, List, [], ◌∷◌, ◌++◌, Some, refl, ap, sym, ◌∙◌, subst, append_assoc, append-nil}
use Rattle.fr_links.specs.Lists.{has_item}
use Rattle.fr_links.proofs.Has.{by_truth, true_false, there, has_append_left, has_append_right, has_append_cases}
use Rattle.fr_graph.specs.Graph.{Part, signal, result, Graph}
use Rattle.fr_graph.specs.Known.{Reads}
use Rattle.fr_way.specs.Frame.{AreCalm, Holds, Names, is_source, is_watch}
use Rattle.fr_way.specs.Way.{Way}
use Rattle.fr_nodes.specs.Makes.{AreThere}
use Rattle.fr_build.proofs.Cases.{no_item}
use Rattle.fr_build.specs.Ready.{LiveAreTaken}
use Rattle.fr_build.specs.Builds.{InReach, NamesBefore, InTurn, Stays, IsNewIn, AreSwitches, NamesNoWatch, Precedes, Grew}
use Rattle.fr_build.proofs.Lists.{AreAmong, first_or_rest, only_item, not_in_first, not_in_second, once_append, precedes_left, precedes_right, precedes_second}
use Rattle.fr_build.proofs.Reach.{reach_wider, turn_over, turn_append}

-- nothing was added
pub stays_same : (at : Way) (m : ℕ) → at.taken m ≡ true → Stays at at m
stays_same at m t = record {
  live = refl;
  taken = t;
  same = record { kind = refl; inputs = refl; later = refl; value = refl; cell = refl; level = refl; era = refl; done = refl };
  height = refl;
  queued = refl;
  result_of = λ w r k. refl;
}

pub not_taken : (at : Way) → LiveAreTaken at → (m : ℕ) → at.taken m ≡ false → at.graph.live m ≡ false
not_taken at live m n = elim (by_truth (at.graph.live m)) [
  | inl t ↦ true_false (at.taken m) (live m t) n
  | inr f ↦ f
]

pub grew_none : (at : Way) → LiveAreTaken at → (x : ℕ) (env : List Part) → Grew at at x env []
grew_none at live x env = record {
  members = sym (append-nil (at.graph.members x));
  others = λ y ne. refl;
  still = λ j t. stays_same at j t;
  free = λ j n off. record { live = not_taken at live j n; taken = n; queued = refl };
  once = tt;
  born = λ m h. no_item m h;
  above_owner = λ w m e t h. no_item m h;
  turn = tt;
  later = λ m j h e. no_item m h;
  switches = record {
    follows = λ w h is. no_item w h;
    results = λ w h is. no_item w h;
    apart = λ v w h i is it e. no_item v h;
    watched = λ m h is. no_item m h;
    unread = λ m h is. no_item m h;
  };
  no_watch = λ none m j h nm. no_item m h;
}

-- the numbers of live nodes are in use afterwards too
pub grew_live : (at new : Way) (x : ℕ) (env : List Part) (added : List ℕ) → LiveAreTaken at → Grew at new x env added → LiveAreTaken new
grew_live at new x env added live g m lv = elim (by_truth (at.taken m)) [
  | inl t ↦ (g.still m t).taken
  | inr f ↦ elim (by_truth (has_item added m)) [
    | inl h ↦ (g.born m h).taken
    | inr off ↦ true_false (new.graph.live m) lv (g.free m f off).live
  ]
]

-- what was named is named by the same node
pub names_back : (mid new : Way) (m j : ℕ) → Stays mid new m → Names new.graph m j → Names mid.graph m j
names_back mid new m j s nm = elim nm [
  | inl r ↦ inl (subst (Reads j) s.same.inputs r)
  | inr more ↦ elim more [
    | inl l ↦ inr (inl (sym s.same.later ∙ l))
    | inr h ↦ inr (inr (subst (Holds j) s.same.kind h))
  ]
]

-- a node in reach has a number in use, and stays in reach
module _ (at mid new : Way) (x : ℕ) (env : List Part) (a : List ℕ) (live : LiveAreTaken at) (given : AreThere at env) (one : Grew at mid x env a) (still : (j : ℕ) → mid.taken j ≡ true → Stays mid new j) where
  pub reach_taken : (ms : List ℕ) (j : ℕ) → AreAmong ms a → InReach mid.graph env ms j → mid.taken j ≡ true
  reach_taken ms j among r = elim r [
    | inl g ↦ elim g [
      | inl rd ↦ (one.still j (live j (given j rd))).taken
      | inr s ↦ grew_live at mid x env a live one j s.0
    ]
    | inr h ↦ (one.born j (among j h)).taken
  ]

  pub reach_on : (ms : List ℕ) (j : ℕ) → InReach mid.graph env ms j → InReach new.graph env ms j
  reach_on ms j r = elim r [
    | inl g ↦ elim g [
      | inl rd ↦ inl (inl rd)
      | inr s ↦
          let stays = still j (grew_live at mid x env a live one j s.0) in
          inl (inr (stays.live ∙ s.0, ap is_source stays.same.kind ∙ s.1))
    ]
    | inr h ↦ inr h
  ]

  pub names_on : (m : ℕ) (bs cs : List ℕ) → has_item a m ≡ true → AreAmong bs cs → NamesBefore mid.graph env bs m → NamesBefore new.graph env cs m
  names_on m bs cs h sub was =
      let stays = still m (one.born m h).taken in
      record {
        inputs = λ j r. reach_wider new.graph env bs cs j sub (reach_on bs j (was.inputs j (subst (Reads j) stays.same.inputs r)));
        held = λ j r. reach_wider new.graph env bs cs j sub (reach_on bs j (was.held j (subst (Holds j) stays.same.kind r)));
      }

-- each of these in turn names what is among those before and these
pub turn_names : (g : Graph) (env : List Part) (ms bs big : List ℕ) (m : ℕ) → InTurn g env bs ms → has_item ms m ≡ true → AreAmong bs big → AreAmong ms big → NamesBefore g env big m
turn_names g env [] bs big m t h sub among = no_item m h
turn_names g env (k ∷ ms) bs big m t h sub among = elim (first_or_rest k m ms h) [
  | inl l ↦
      let e = only_item k m l in
      let here = subst (NamesBefore g env bs) e t.0 in
      record { inputs = λ j r. reach_wider g env bs big j sub (here.inputs j r); held = λ j r. reach_wider g env bs big j sub (here.held j r) }
  | inr r ↦ turn_names g env ms (k ∷ bs) big m t.1 r
      (λ i o. elim (first_or_rest k i bs o) [
        | inl f ↦ among i (has_append_left (k ∷ []) ms i f)
        | inr s ↦ sub i s
      ])
      (λ i o. among i (there k i ms o))
]

-- a node that stays twice stays
pub stays_two : (at mid new : Way) → ((j : ℕ) → at.taken j ≡ true → Stays at mid j) → (m : ℕ) → at.taken m ≡ true → Stays mid new m → Stays at new m
stays_two at mid new one m t u =
    let s = one m t in
    record {
      live = u.live ∙ s.live;
      taken = u.taken;
      same = record {
        kind = u.same.kind ∙ s.same.kind;
        inputs = u.same.inputs ∙ s.same.inputs;
        later = u.same.later ∙ s.same.later;
        value = u.same.value ∙ s.same.value;
        cell = u.same.cell ∙ s.same.cell;
        level = u.same.level ∙ s.same.level;
        era = u.same.era ∙ s.same.era;
        done = u.same.done ∙ s.same.done;
      };
      height = u.height ∙ s.height;
      queued = u.queued ∙ s.queued;
      result_of = λ w r k.
          let e = s.result_of w r k in
          let o = one (at.graph.result_of m) r in
          u.result_of (ap is_watch s.same.kind ∙ w) (ap mid.taken e ∙ o.taken) (ap mid.graph.kind e ∙ o.same.kind ∙ k) ∙ e;
    }

-- MORE WAS ADDED. What is added over parts that are in reach comes behind what was added before.
module _ (at mid new : Way) (x : ℕ) (env scope : List Part) (a b : List ℕ) (live : LiveAreTaken at) (given : AreThere at env) (one : Grew at mid x env a) (two : Grew mid new x scope b)
    (reach : (j : ℕ) → Reads j scope → InReach mid.graph env a j) (watches : NamesNoWatch at.graph env → NamesNoWatch mid.graph scope) where
  on_first : AreAmong a (a ++ b)
  on_first m h = has_append_left a b m h

  on_second : AreAmong b (a ++ b)
  on_second m h = has_append_right a b m h

  was_taken : (m : ℕ) → has_item a m ≡ true → mid.taken m ≡ true
  was_taken m h = (one.born m h).taken

  taken_in : (ms : List ℕ) (j : ℕ) → AreAmong ms a → InReach mid.graph env ms j → mid.taken j ≡ true
  taken_in = reach_taken at mid new x env a live given one two.still

  stay : (m : ℕ) → has_item a m ≡ true → Stays mid new m
  stay m h = two.still m (was_taken m h)

  first_names : (m : ℕ) → has_item a m ≡ true → NamesBefore mid.graph env a m
  first_names m h = turn_names mid.graph env a [] a m one.turn h (λ k o. no_item k o) (λ k o. o)

  -- what a node of the first names has a number in use
  named_taken : (m j : ℕ) → has_item a m ≡ true → Names mid.graph m j → mid.taken j ≡ true
  named_taken m j h nm = elim nm [
    | inl r ↦ taken_in a j (λ k o. o) ((first_names m h).inputs j r)
    | inr more ↦ elim more [
      | inl l ↦ taken_in a j (λ k o. o) (one.later m j h l)
      | inr o ↦ taken_in a j (λ k o. o) ((first_names m h).held j o)
    ]
  ]

  stays_both : (m : ℕ) → at.taken m ≡ true → Stays at new m
  stays_both m t = stays_two at mid new one.still m t (two.still m (one.still m t).taken)

  -- a number that was free before the first was free before
  free_before : (m : ℕ) → mid.taken m ≡ false → at.taken m ≡ false
  free_before m n = elim (by_truth (at.taken m)) [
    | inl t ↦ true_false (mid.taken m) (one.still m t).taken n
    | inr f ↦ f
  ]

  born_first : (m : ℕ) → has_item a m ≡ true → IsNewIn at new x m
  born_first m h =
      let o = one.born m h in
      let s = stay m h in
      record {
        fresh = o.fresh;
        absent = o.absent;
        live = s.live ∙ o.live;
        taken = s.taken;
        era = s.same.era ∙ o.era;
        cell = s.same.cell ∙ o.cell;
        done = s.same.done ∙ o.done;
        queued = s.queued ∙ o.queued ∙ ap Some (sym s.height);
        no_source = ap is_source s.same.kind ∙ o.no_source;
        calm = subst AreCalm (sym s.same.inputs) o.calm;
        above_inputs = λ j r.
            let was = subst (Reads j) s.same.inputs r in
            let t = two.still j (named_taken m j h (inl was)) in
            subst (λ (i : ℕ). i < new.height m) (sym t.height) (subst (λ (i : ℕ). mid.height j < i) (sym s.height) (o.above_inputs j was));
      }

  born_second : (m : ℕ) → has_item b m ≡ true → IsNewIn at new x m
  born_second m h =
      let o = two.born m h in
      let free = free_before m o.fresh in
      record {
        fresh = free;
        absent = not_taken at live m free;
        live = o.live;
        taken = o.taken;
        era = o.era;
        cell = o.cell;
        done = o.done;
        queued = o.queued;
        no_source = o.no_source;
        calm = o.calm;
        above_inputs = o.above_inputs;
      }

  born_both : (m : ℕ) → has_item (a ++ b) m ≡ true → IsNewIn at new x m
  born_both m h = elim (has_append_cases a b m h) [ inl l ↦ born_first m l | inr r ↦ born_second m r ]

  above_both : (w m : ℕ) → x ≡ suc w → at.taken w ≡ true → has_item (a ++ b) m ≡ true → new.height w < new.height m
  above_both w m e t h =
      let owner = one.still w t in
      let on = two.still w owner.taken in
      elim (has_append_cases a b m h) [
        | inl l ↦ subst (λ (i : ℕ). i < new.height m) (sym on.height) (subst (λ (i : ℕ). mid.height w < i) (sym (stay m l).height) (one.above_owner w m e t l))
        | inr r ↦ two.above_owner w m e owner.taken r
      ]

  apart_both : (m : ℕ) → has_item a m ≡ true → has_item b m ≡ false
  apart_both m h = elim (by_truth (has_item b m)) [
    | inl t ↦ true_false (mid.taken m) (was_taken m h) (two.born m t).fresh
    | inr f ↦ f
  ]

  -- in turn
  reach_new : (ms : List ℕ) (j : ℕ) → InReach mid.graph env ms j → InReach new.graph env ms j
  reach_new = reach_on at mid new x env a live given one two.still

  pub scope_reach : (ms bs : List ℕ) (j : ℕ) → AreAmong a bs → AreAmong ms bs → InReach new.graph scope ms j → InReach new.graph env bs j
  scope_reach ms bs j has sub r = elim r [
    | inl g ↦ elim g [
      | inl rd ↦ reach_wider new.graph env a bs j has (reach_new a j (reach j rd))
      | inr s ↦ inl (inr s)
    ]
    | inr h ↦ inr (sub j h)
  ]

  turn_first : InTurn new.graph env [] a
  turn_first =
      turn_over mid.graph new.graph env env [] a (λ m bs cs h none sub was. names_on at mid new x env a live given one two.still m bs cs h sub was) a [] [] (λ k h. h) (λ k h. h) (λ k h. h) one.turn

  turn_second : InTurn new.graph env a b
  turn_second =
      turn_over new.graph new.graph scope env a b
      (λ m bs cs h has sub was. record { inputs = λ j r. scope_reach bs cs j has sub (was.inputs j r); held = λ j r. scope_reach bs cs j has sub (was.held j r) })
      b [] a (λ k h. h) (λ k h. h) (λ k h. no_item k h) two.turn

  turn_both : InTurn new.graph env [] (a ++ b)
  turn_both = turn_append new.graph env a b [] a turn_first turn_second (λ k h. inr h)

  later_both : (m j : ℕ) → has_item (a ++ b) m ≡ true → new.graph.later m ≡ Some (signal j) → InReach new.graph env (a ++ b) j
  later_both m j h e = elim (has_append_cases a b m h) [
    | inl l ↦ reach_wider new.graph env a (a ++ b) j on_first (reach_new a j (one.later m j l (sym (stay m l).same.later ∙ e)))
    | inr r ↦ scope_reach b (a ++ b) j on_first on_second (two.later m j r e)
  ]

  -- watches and results
  was_watch : (w : ℕ) → has_item a w ≡ true → is_watch (new.graph.kind w) ≡ true → is_watch (mid.graph.kind w) ≡ true
  was_watch w h is = ap is_watch (sym (stay w h).same.kind) ∙ is

  result_in : (w : ℕ) → has_item a w ≡ true → is_watch (mid.graph.kind w) ≡ true → has_item a (mid.graph.result_of w) ≡ true
  result_in w h is = precedes_second a w (mid.graph.result_of w) (one.switches.follows w h is)

  same_result : (w : ℕ) → has_item a w ≡ true → is_watch (mid.graph.kind w) ≡ true → new.graph.result_of w ≡ mid.graph.result_of w
  same_result w h is = (stay w h).result_of is (was_taken (mid.graph.result_of w) (result_in w h is)) (one.switches.results w h is).0

  results_first : (w : ℕ) → has_item a w ≡ true → is_watch (mid.graph.kind w) ≡ true → (new.graph.kind (mid.graph.result_of w) ≡ result) × (new.height w < new.height (mid.graph.result_of w))
  results_first w h is =
      let r = one.switches.results w h is in
      let s = stay (mid.graph.result_of w) (result_in w h is) in
      (s.same.kind ∙ r.0, subst (λ (i : ℕ). i < new.height (mid.graph.result_of w)) (sym (stay w h).height) (subst (λ (i : ℕ). mid.height w < i) (sym s.height) r.1))

  second_result : (w : ℕ) → has_item b w ≡ true → is_watch (new.graph.kind w) ≡ true → has_item b (new.graph.result_of w) ≡ true
  second_result w h is = precedes_second b w (new.graph.result_of w) (two.switches.follows w h is)

  -- a watch of the first and one of the second have not the same result
  never_same : (v w : ℕ) → has_item a v ≡ true → has_item b w ≡ true → is_watch (new.graph.kind v) ≡ true → is_watch (new.graph.kind w) ≡ true → new.graph.result_of v ≡ new.graph.result_of w → ⊥
  never_same v w h i is it e =
      let was = was_watch v h is in
      let same : new.graph.result_of w ≡ mid.graph.result_of v = sym e ∙ same_result v h was in
      true_false (has_item b (mid.graph.result_of v)) (subst (λ (k : ℕ). has_item b k ≡ true) same (second_result w i it)) (apart_both (mid.graph.result_of v) (result_in v h was))

  switches_both : AreSwitches new (a ++ b)
  switches_both = record {
    follows = λ w h is. elim (has_append_cases a b w h) [
      | inl l ↦
          let was = was_watch w l is in
          subst (λ (k : ℕ). Precedes (a ++ b) w k) (sym (same_result w l was)) (precedes_left a b w (mid.graph.result_of w) (one.switches.follows w l was))
      | inr r ↦ precedes_right a b w (new.graph.result_of w) (two.switches.follows w r is)
    ];
    results = λ w h is. elim (has_append_cases a b w h) [
      | inl l ↦
          let was = was_watch w l is in
          subst (λ (k : ℕ). (new.graph.kind k ≡ result) × (new.height w < new.height k)) (sym (same_result w l was)) (results_first w l was)
      | inr r ↦ two.switches.results w r is
    ];
    apart = λ v w h i is it e. elim (has_append_cases a b v h) [
      | inl l ↦ elim (has_append_cases a b w i) [
        | inl k ↦
            let was = was_watch v l is in
            let were = was_watch w k it in
            one.switches.apart v w l k was were (sym (same_result v l was) ∙ e ∙ same_result w k were)
        | inr k ↦ absurd (never_same v w l k is it e)
      ]
      | inr r ↦ elim (has_append_cases a b w i) [
        | inl k ↦ absurd (never_same w v k r it is (sym e))
        | inr k ↦ two.switches.apart v w r k is it e
      ]
    ];
    watched = λ m h is. elim (has_append_cases a b m h) [
      | inl l ↦
          let w = one.switches.watched m l (sym (stay m l).same.kind ∙ is) in
          (w.0, on_first w.0 w.1, ap is_watch (stay w.0 w.1).same.kind ∙ w.2, same_result w.0 w.1 w.2 ∙ w.3)
      | inr r ↦
          let w = two.switches.watched m r is in
          (w.0, on_second w.0 w.1, w.2, w.3)
    ];
    unread = λ m h is. elim (has_append_cases a b m h) [
      | inl l ↦
          let s = stay m l in
          let u = one.switches.unread m l (sym s.same.kind ∙ is) in
          (s.same.inputs ∙ u.0, s.same.later ∙ u.1)
      | inr r ↦ two.switches.unread m r is
    ];
  }

  no_watch_both : NamesNoWatch at.graph env → (m j : ℕ) → has_item (a ++ b) m ≡ true → Names new.graph m j → is_watch (new.graph.kind j) ≡ false
  no_watch_both none m j h nm = elim (has_append_cases a b m h) [
    | inl l ↦
        let was = names_back mid new m j (stay m l) nm in
        ap is_watch (two.still j (named_taken m j l was)).same.kind ∙ one.no_watch none m j l was
    | inr r ↦ two.no_watch (watches none) m j r nm
  ]

  pub seq : Grew at new x env (a ++ b)
  seq = record {
    members = two.members ∙ ap (λ (l : List ℕ). l ++ b) one.members ∙ append_assoc (at.graph.members x) a b;
    others = λ y ne. two.others y ne ∙ one.others y ne;
    still = stays_both;
    free = λ j n off.
        let f = one.free j n (not_in_first a b j off) in
        let s = two.free j f.taken (not_in_second a b j off) in
        record { live = s.live; taken = s.taken; queued = s.queued ∙ f.queued };
    once = once_append a b one.once two.once apart_both;
    born = born_both;
    above_owner = above_both;
    turn = turn_both;
    later = later_both;
    switches = switches_both;
    no_watch = no_watch_both;
  }
