-- A graph whose body was built is framed.
use Rattle.std.proofs.Common.{◌≡◌, ◌⊎◌, inl, inr, ℕ, suc, ◌<◌, true, false, List, [], sym, ◌∙◌, subst, arith}
use Rattle.std.proofs.lemmas.Bool.{cases_lt}
use Rattle.fr_links.specs.Lists.{has_item}
use Rattle.fr_links.proofs.Has.{true_false, by_number, has_append_left, has_append_right, has_append_cases}
use Rattle.fr_core.specs.declared.lowered.LowItem.{LowItem}
use Rattle.fr_graph.specs.Graph.{Work, works, result}
use Rattle.fr_graph.specs.Walk.{Plan}
use Rattle.fr_graph.specs.Known.{Reads}
use Rattle.fr_way.specs.Frame.{Holds, Names, AreCalm, InScope, AreMembers, HaveResults, AreScoped, HasOrder, IsLevelled, IsFramed, is_source, is_watch}
use Rattle.fr_way.specs.Way.{Way}
use Rattle.fr_way.proofs.Cases.{zero_suc}
use Rattle.fr_build.specs.Builds.{InReach}
use Rattle.fr_build.proofs.Cases.{no_item}
use Rattle.fr_build.proofs.Lists.{precedes_second}
use Rattle.fr_build.proofs.Grown.{turn_names}
use Rattle.fr_start.specs.Start.{BuildsBody}
use Rattle.fr_start.proofs.Places.{place_in, place_nowhere, place_there, place_precedes, StandsOn, reach_case, turn_precedes}
use Rattle.fr_start.proofs.Nodes.{source_no_work, source_live, source_kind, source_era, source_reads, source_holds, source_names, node_case, node_era, is_below, other_added, watch_added, result_added, source_not_added}

module _ (p : Plan) (is : List LowItem) (many : ℕ) (at new : Way) (added : List ℕ) (b : BuildsBody p is many at new added) where
  node : (m : ℕ) → new.graph.live m ≡ true → (m < many) ⊎ (has_item added m ≡ true)
  node = node_case p is many at new added b

  era_is : (m : ℕ) → new.graph.live m ≡ true → new.graph.era m ≡ 0
  era_is = node_era p is many at new added b

  no_owner {ℓ} : {A : Type ℓ} → (m w : ℕ) → new.graph.live m ≡ true → new.graph.era m ≡ suc w → A
  no_owner m w lv e = zero_suc (new.graph.era m) w (era_is m lv) e

  watch_in : (w : ℕ) → new.graph.live w ≡ true → is_watch (new.graph.kind w) ≡ true → has_item added w ≡ true
  watch_in = watch_added p is many at new added b

  result_in : (m : ℕ) → new.graph.live m ≡ true → new.graph.kind m ≡ result → has_item added m ≡ true
  result_in = result_added p is many at new added b

  -- MEMBERS
  was_member : (m : ℕ) → has_item (at.graph.members 0) m ≡ true → m < many
  was_member m h = elim (cases_lt m many) [
    | inl lt ↦ lt
    | inr le ↦ true_false (has_item (at.graph.members 0) m) h (b.begins.no_other m le).3
  ]

  member_zero : (m : ℕ) → has_item (new.graph.members 0) m ≡ true → (new.graph.live m ≡ true) × (new.graph.era m ≡ 0)
  member_zero m h = elim (has_append_cases (at.graph.members 0) added m (subst (λ (l : List ℕ). has_item l m ≡ true) b.grew.members h)) [
    | inl l ↦
        let lt = was_member m l in
        (source_live p is many at new added b m lt, source_era p is many at new added b m lt)
    | inr o ↦
        let born = b.grew.born m o in
        (born.live, born.era)
  ]

  member_of : (x m : ℕ) → has_item (new.graph.members x) m ≡ true → (new.graph.live m ≡ true) × (new.graph.era m ≡ x)
  member_of x m h = elim (by_number x 0) [
    | inl e ↦
        let here = member_zero m (subst (λ (i : ℕ). has_item (new.graph.members i) m ≡ true) e h) in
        (here.0, here.1 ∙ sym e)
    | inr ne ↦ no_item m (subst (λ (l : List ℕ). has_item l m ≡ true) (b.grew.others x ne ∙ b.begins.eras x ne) h)
  ]

  joined_zero : (m : ℕ) → new.graph.live m ≡ true → has_item (new.graph.members 0) m ≡ true
  joined_zero m lv =
      subst (λ (l : List ℕ). has_item l m ≡ true) (sym b.grew.members)
      (elim (node m lv) [
        | inl lt ↦ has_append_left (at.graph.members 0) added m (b.begins.member m lt)
        | inr h ↦ has_append_right (at.graph.members 0) added m h
      ])

  pub are_members : AreMembers new.graph
  are_members = record {
    member = member_of;
    joined = λ m lv. subst (λ (i : ℕ). has_item (new.graph.members i) m ≡ true) (sym (era_is m lv)) (joined_zero m lv);
    owner = λ m w lv e. no_owner m w lv e;
    sources = λ m lv s. era_is m lv;
  }

  -- RESULTS
  result_has : (w : ℕ) → new.graph.live w ≡ true → is_watch (new.graph.kind w) ≡ true → has_item added (new.graph.result_of w) ≡ true
  result_has w lv s = precedes_second added w (new.graph.result_of w) (b.grew.switches.follows w (watch_in w lv s) s)

  result_kind : (w : ℕ) → new.graph.live w ≡ true → is_watch (new.graph.kind w) ≡ true → new.graph.kind (new.graph.result_of w) ≡ result
  result_kind w lv s = (b.grew.switches.results w (watch_in w lv s) s).0

  pub have_results : HaveResults new.graph
  have_results = record {
    live = λ w lv s. (b.grew.born (new.graph.result_of w) (result_has w lv s)).live;
    kind = result_kind;
    era = λ w lv s. (b.grew.born (new.graph.result_of w) (result_has w lv s)).era ∙ sym (era_is w lv);
    apart = λ v w lv lw s t e. b.grew.switches.apart v w (watch_in v lv s) (watch_in w lw t) s t e;
    watched = λ m lv e.
        let w = b.grew.switches.watched m (result_in m lv e) e in
        (w.0, (b.grew.born w.0 w.1).live, w.2, w.3);
  }

  -- no watch has chosen yet
  pub none_chosen : (w : ℕ) → new.graph.live w ≡ true → is_watch (new.graph.kind w) ≡ true → new.graph.inputs (new.graph.result_of w) ≡ []
  none_chosen w lv s = (b.grew.switches.unread (new.graph.result_of w) (result_has w lv s) (result_kind w lv s)).0

  -- WHAT IS NAMED
  reach_in_scope : (m j : ℕ) → new.graph.live m ≡ true → InReach new.graph [] added j → InScope new.graph (new.graph.era m) j
  reach_in_scope m j lv r = elim (reach_case new.graph added j r) [
    | inl s ↦ record { live = s.0; where_from = inr (inr s.1) }
    | inr h ↦
        let born = b.grew.born j h in
        record { live = born.live; where_from = inl (born.era ∙ sym (era_is m lv)) }
  ]

  added_reach : (m j : ℕ) → has_item added m ≡ true → Names new.graph m j → InReach new.graph [] added j
  added_reach m j h nm =
      let before = turn_names new.graph [] added [] added m b.grew.turn h (λ k o. no_item k o) (λ k o. o) in
      elim nm [
        | inl r ↦ before.inputs j r
        | inr more ↦ elim more [
          | inl l ↦ b.grew.later m j h l
          | inr o ↦ before.held j o
        ]
      ]

  names_in_scope : (m j : ℕ) → new.graph.live m ≡ true → Names new.graph m j → InScope new.graph (new.graph.era m) j
  names_in_scope m j lv nm = elim (node m lv) [
    | inl lt ↦ source_names p is many at new added b m j lt nm
    | inr h ↦ reach_in_scope m j lv (added_reach m j h nm)
  ]

  names_no_watch : (m j : ℕ) → new.graph.live m ≡ true → Names new.graph m j → is_watch (new.graph.kind j) ≡ false
  names_no_watch m j lv nm = elim (node m lv) [
    | inl lt ↦ source_names p is many at new added b m j lt nm
    | inr h ↦ b.grew.no_watch (λ k r. absurd r) m j h nm
  ]

  calm_work : (m : ℕ) (w : Work) → new.graph.live m ≡ true → new.graph.kind m ≡ works w → AreCalm (new.graph.inputs m)
  calm_work m w lv e = elim (node m lv) [
    | inl lt ↦ source_no_work (new.graph.kind m) m w (source_kind p is many at new added b m lt) e
    | inr h ↦ (b.grew.born m h).calm
  ]

  pub are_scoped : AreScoped new.graph
  are_scoped = record {
    names = λ m j lv ne nm. names_in_scope m j lv nm;
    results = λ w j lv s r. absurd (subst (Reads j) (none_chosen w lv s) r);
    later = λ m lv e. (b.grew.switches.unread m (result_in m lv e) e).1;
    no_watch = names_no_watch;
    calm = calm_work;
  }

  -- THE ORDER: the sources first, and behind them the added nodes in turn
  source_first : (m : ℕ) → new.graph.live m ≡ true → is_source (new.graph.kind m) ≡ true → place_in added m ≡ 0
  source_first m lv s = place_nowhere added m (source_not_added p is many at new added b m (is_below p is many at new added b m lv s))

  added_behind : (m j : ℕ) → has_item added m ≡ true → StandsOn new.graph m j → place_in added j < place_in added m
  added_behind m j h on = elim (turn_precedes new.graph added [] m j b.grew.turn h on) [
    | inl s ↦
        let zero_place = source_first j s.0 s.1 in
        let some = place_there added m h in
        omega arith
    | inr more ↦ elim more [
      | inl o ↦ no_item j o
      | inr before ↦ place_precedes added j m b.grew.once before
    ]
  ]

  input_behind : (m j : ℕ) → new.graph.live m ≡ true → Reads j (new.graph.inputs m) → place_in added j < place_in added m
  input_behind m j lv r = elim (node m lv) [
    | inl lt ↦ source_reads p is many at new added b m j lt r
    | inr h ↦ added_behind m j h (inl r)
  ]

  held_behind : (m j : ℕ) → new.graph.live m ≡ true → Holds j (new.graph.kind m) → place_in added j < place_in added m
  held_behind m j lv o = elim (node m lv) [
    | inl lt ↦ source_holds p is many at new added b m j lt o
    | inr h ↦ added_behind m j h (inr o)
  ]

  watch_before : (w : ℕ) → new.graph.live w ≡ true → is_watch (new.graph.kind w) ≡ true → place_in added w < place_in added (new.graph.result_of w)
  watch_before w lv s = place_precedes added w (new.graph.result_of w) b.grew.once (b.grew.switches.follows w (watch_in w lv s) s)

  source_before : (s m : ℕ) → new.graph.live s ≡ true → new.graph.live m ≡ true → is_source (new.graph.kind s) ≡ true → is_source (new.graph.kind m) ≡ false → place_in added s < place_in added m
  source_before s m ls lv is_one is_none =
      let zero_place = source_first s ls is_one in
      let some = place_there added m (other_added p is many at new added b m lv is_none) in
      omega arith

  pub has_order : HasOrder new.graph
  has_order = record {
    rank = place_in added;
    input = input_behind;
    held = held_behind;
    owner = λ m w lv e. no_owner m w lv e;
    before_result = λ m w lv lw s c. elim c [
      | inl e ↦ subst (λ (i : ℕ). place_in added i < place_in added (new.graph.result_of w)) (sym e) (watch_before w lw s)
      | inr e ↦ no_owner m w lv e
    ];
    sources = source_before;
  }

  -- HEIGHTS
  input_below : (m j : ℕ) → new.graph.live m ≡ true → Reads j (new.graph.inputs m) → new.height j < new.height m
  input_below m j lv r = elim (node m lv) [
    | inl lt ↦ source_reads p is many at new added b m j lt r
    | inr h ↦ (b.grew.born m h).above_inputs j r
  ]

  pub is_levelled : IsLevelled new.graph new.height
  is_levelled = record {
    input = input_below;
    owner = λ m w lv e. no_owner m w lv e;
    result = λ w lv s. (b.grew.switches.results w (watch_in w lv s) s).1;
  }

  pub is_framed : IsFramed new.graph new.height
  is_framed = record { members = are_members; results = have_results; scoped = are_scoped; order = has_order; levelled = is_levelled }
