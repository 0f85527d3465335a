-- The steps of a turning, one after another, rebuild the era of a watch.
use Rattle.std.proofs.Common.{◌≡◌, ◌≢◌, ◌⊎◌, inl, inr, ℕ, suc, ◌<◌, ◌≤◌, Bool, true, false, List, [], ◌∷◌, Option, None, Result, Ok, ap, sym, ◌∙◌, subst, arith, if◌then◌else◌}
use Rattle.std.specs.Option.{option_map}
use Rattle.fr_value.specs.declared.now.Now.{Now}
use Rattle.fr_value.specs.declared.now.Bad.{Bad}
use Rattle.fr_core.specs.declared.lowered.Low.{Low}
use Rattle.fr_core.specs.declared.lowered.LowItem.{LowItem}
use Rattle.fr_meaning.specs.Words.{test_of}
use Rattle.fr_links.specs.Lists.{has_item}
use Rattle.fr_graph.specs.Graph.{Part, steady, signal, watch, result, Graph}
use Rattle.fr_graph.specs.Walk.{Plan, place}
use Rattle.fr_graph.specs.Wired.{Chosen, Wired, EraStands}
use Rattle.fr_graph.specs.Known.{Reads, IsKnown, Rule}
use Rattle.fr_graph.proofs.Parts.{read_known}
use Rattle.fr_way.specs.Frame.{AreCalm, is_watch, is_source, Holds, InScope, AreMembers, HaveResults, AreScoped, HasOrder, IsLevelled, IsFramed, Inside}
use Rattle.fr_way.specs.Way.{Way, cell_in, UnderWay}
use Rattle.fr_way.specs.Steps.{GoesOn, IsBorn, Rebuilds}
use Rattle.fr_way.specs.Stay.{StaysIn}
use Rattle.fr_way.specs.Turns.{IsNew, IsGiven, AreBuilt, Raises, Queues, Replaces, Turns}
use Rattle.fr_way.proofs.Cases.{bool_case, both_bools, suc_same, watch_no_result}
use Rattle.fr_way.proofs.Names.{inside_lives, inside_same, not_inside_own, result_outside, names_outside, named_lives, scoped_lives}
use Rattle.fr_way.proofs.Rules.{rule_goes_on}
use Rattle.fr_way.proofs.Stay.{wired_on}
use Rattle.fr_way.proofs.TurnPart.{part_from}
use Rattle.fr_way.proofs.TurnFrame.{Regrown, given_scope, given_no_watch, members_on, results_on, scoped_on, order_on}
use Rattle.fr_way.proofs.Rebuilt.{rebuilt_keeps}

-- what is read of one part is known if the part is
pub known_read : (known : ℕ → Type 0) (q : Part) → IsKnown known q → (j : ℕ) → Reads j (q ∷ []) → known j
known_read known (steady v) kn j rd = absurd rd
known_read known (signal m) kn j rd = elim rd [ inl e ↦ subst known e kn | inr off ↦ absurd off ]

-- the choices and the scope of a watch are told by its kind
same_true : (a b c d : Low) (e f : List Part) → watch a b e ≡ watch c d f → a ≡ c
same_true a b c d e f h = cc

same_false : (a b c d : Low) (e f : List Part) → watch a b e ≡ watch c d f → b ≡ d
same_false a b c d e f h = cc

same_scope : (a b c d : Low) (e f : List Part) → watch a b e ≡ watch c d f → e ≡ f
same_scope a b c d e f h = cc

by_choice : (g : Graph) (p : Plan) (w : ℕ) (a b : Low) (env : List Part) (holds : Bool) → EraStands g p w (if holds then a else b) env → Chosen (Ok holds) (EraStands g p w a env) (EraStands g p w b env)
by_choice g p w a b env true st = st
by_choice g p w a b env false st = st

module _ (p : Plan) (is : List LowItem) (ms : List ℕ) (sources : List Now) (old : Graph) (at t1 t2 t3 t4 : Way) (w : ℕ)
    (u : UnderWay p is ms sources old at) (t : Replaces p sources old at t1 t2 t3 t4 w) where
  abbrev g : Graph
  g = at.graph

  abbrev n : Graph
  n = t4.graph

  abbrev r : ℕ
  r = g.result_of w

  abbrev chosen : Low
  chosen = if t.holds then t.when_true else t.when_false

  abbrev part : Part
  part = (place p (g.level w) chosen t.scope (t3.graph.members (suc w))).part

  pub lives : g.live w ≡ true
  lives = (u.nodes.queue w t.height t.least.was).0

  pub stands : t.height ≡ at.height w
  stands = (u.nodes.queue w t.height t.least.was).1

  pub watches : is_watch (g.kind w) ≡ true
  watches = ap is_watch t.kind

  pub result_was : g.live r ≡ true
  result_was = u.frame.results.live w lives watches

  pub result_is : g.kind r ≡ result
  result_is = u.frame.results.kind w lives watches

  watch_apart : w ≢ r
  watch_apart e = watch_no_result (g.kind w) watches (ap g.kind e ∙ result_is)

  watch_outside : Inside g (suc w) w → ⊥
  watch_outside = not_inside_own g u.frame.order w

  -- WHO LIVES
  inside_set : (m : ℕ) → Inside g (suc w) m → Inside t1.graph (suc w) m
  inside_set m i = inside_same g t1.graph (suc w) m t.sets.shape.live t.sets.shape.era i

  inside_was : (m : ℕ) → Inside t1.graph (suc w) m → Inside g (suc w) m
  inside_was m i = inside_same t1.graph g (suc w) m (λ j. sym (t.sets.shape.live j)) (λ j. sym (t.sets.shape.era j)) i

  killed : (m : ℕ) → Inside g (suc w) m → t2.graph.live m ≡ false
  killed m i = (t.kills.ended m (inside_set m i)).0

  spared : (m : ℕ) → (Inside g (suc w) m → ⊥) → t2.graph.live m ≡ g.live m
  spared m out = (t.kills.stays m (λ i. out (inside_was m i))).0 ∙ t.sets.shape.live m

  spared_queue : (m : ℕ) → (Inside g (suc w) m → ⊥) → t2.queued m ≡ t1.queued m
  spared_queue m out = (t.kills.stays m (λ i. out (inside_was m i))).1

  stays_dead : (m : ℕ) → g.live m ≡ false → t2.graph.live m ≡ false
  stays_dead m off = spared m (λ i. both_bools (g.live m) (inside_lives g (suc w) m i) off) ∙ off

  -- a node that lives where the era has ended lived before, outside the era
  pub lived : (m : ℕ) → t2.graph.live m ≡ true → g.live m ≡ true
  lived m l2 = elim (bool_case (g.live m)) [
    | inl lv ↦ lv
    | inr off ↦ both_bools (t2.graph.live m) l2 (stays_dead m off)
  ]

  lived_outside : (m : ℕ) → t2.graph.live m ≡ true → Inside g (suc w) m → ⊥
  lived_outside m l2 i = both_bools (t2.graph.live m) l2 (killed m i)

  pub lives_on : (m : ℕ) → t2.graph.live m ≡ true → n.live m ≡ true
  lives_on m l2 = t.rewires.live m ∙ t.grows.stays m l2

  -- the numbers of new nodes weren't in use
  new_fresh : (m : ℕ) → IsNew t2.graph t3.graph m → at.taken m ≡ false
  new_fresh m new = sym (t.sets.taken m) ∙ sym (t.kills.taken m) ∙ (t.grows.born m new).fresh

  pub to_new : (m : ℕ) → IsNew g n m → IsNew t2.graph t3.graph m
  to_new m new = (stays_dead m new.0, sym (t.rewires.live m) ∙ new.1)

  from_new : (m : ℕ) → IsNew t2.graph t3.graph m → IsNew g n m
  from_new m new = (
    elim (bool_case (g.live m)) [
      | inl lv ↦ both_bools (at.taken m) (u.nodes.taken m (inl lv)) (new_fresh m new)
      | inr off ↦ off
    ],
    t.rewires.live m ∙ new.1,
  )

  -- a node that lives at both ends lives in between
  pub between : (m : ℕ) → g.live m ≡ true → n.live m ≡ true → t2.graph.live m ≡ true
  between m lv nl = elim (bool_case (t2.graph.live m)) [
    | inl l2 ↦ l2
    | inr off ↦ both_bools (g.live m) lv (from_new m (off, sym (t.rewires.live m) ∙ nl)).0
  ]

  pub watch_between : t2.graph.live w ≡ true
  watch_between = spared w watch_outside ∙ lives

  pub result_between : t2.graph.live r ≡ true
  result_between = spared r (result_outside g at.height u.frame w lives watches) ∙ result_was

  pub new_apart : (m : ℕ) → IsNew g n m → m ≢ r
  new_apart m new e = both_bools (g.live m) (ap g.live e ∙ result_was) new.0

  pub in_use : (m : ℕ) → t2.graph.live m ≡ true → t2.taken m ≡ true
  in_use m l2 = t.kills.taken m ∙ t.sets.taken m ∙ u.nodes.taken m (inl (lived m l2))

  -- WHAT GOES ON
  pub kind_on : (m : ℕ) → t2.graph.live m ≡ true → n.kind m ≡ g.kind m
  kind_on m l2 = t.rewires.kind m ∙ (t.grows.same m (in_use m l2)).kind ∙ (t.kills.same m).kind ∙ t.sets.shape.kind m

  pub inputs_on : (m : ℕ) → t2.graph.live m ≡ true → m ≢ r → n.inputs m ≡ g.inputs m
  inputs_on m l2 ne = t.rewires.inputs m ne ∙ (t.grows.same m (in_use m l2)).inputs ∙ (t.kills.same m).inputs ∙ t.sets.shape.inputs m

  later_on : (m : ℕ) → t2.graph.live m ≡ true → n.later m ≡ g.later m
  later_on m l2 = t.rewires.later m ∙ (t.grows.same m (in_use m l2)).later ∙ (t.kills.same m).later ∙ t.sets.shape.later m

  level_set : (m : ℕ) → t2.graph.live m ≡ true → n.level m ≡ t1.graph.level m
  level_set m l2 = t.rewires.level m ∙ (t.grows.same m (in_use m l2)).level ∙ (t.kills.same m).level

  level_on : (m : ℕ) → t2.graph.live m ≡ true → n.level m ≡ g.level m
  level_on m l2 = level_set m l2 ∙ t.sets.shape.level m

  pub era_on : (m : ℕ) → t2.graph.live m ≡ true → n.era m ≡ g.era m
  era_on m l2 = t.rewires.era m ∙ (t.grows.same m (in_use m l2)).era ∙ (t.kills.same m).era ∙ t.sets.shape.era m

  value_set : (m : ℕ) → t2.graph.live m ≡ true → n.value m ≡ t1.graph.value m
  value_set m l2 = t.rewires.value m ∙ (t.grows.same m (in_use m l2)).value ∙ (t.kills.same m).value

  cell_set : (m : ℕ) → t2.graph.live m ≡ true → n.cell m ≡ t1.graph.cell m
  cell_set m l2 = t.rewires.cell m ∙ (t.grows.same m (in_use m l2)).cell ∙ (t.kills.same m).cell

  pub result_on : (m : ℕ) → t2.graph.live m ≡ true → is_watch (g.kind m) ≡ true → n.result_of m ≡ g.result_of m
  result_on m l2 iw =
      let i1 = ap is_watch (t.sets.shape.kind m) ∙ iw in
      let i2 = ap is_watch ((t.kills.same m).kind) ∙ i1 in
      t.rewires.result_of m ∙ t.grows.result_of m l2 i2 ∙ t.kills.result_of m l2 i1 ∙ t.sets.shape.result_of m

  pub height_on : (m : ℕ) → t2.graph.live m ≡ true → t4.height m ≡ at.height m
  height_on m l2 = t.rewires.heights m ∙ t.grows.heights m (in_use m l2) ∙ t.kills.heights m ∙ t.sets.heights m

  -- THE NEW NODES
  given_on : (j : ℕ) → IsGiven t3.graph t.scope j → IsGiven n t.scope j
  given_on j given = elim given [ inl rd ↦ inl rd | inr s ↦ inr (t.rewires.live j ∙ s.0, ap is_source (t.rewires.kind j) ∙ s.1) ]

  built : AreBuilt g n (suc w) t.scope
  built =
      let b = t.grows.built in
      let result_same : (v : ℕ) → n.result_of v ≡ t3.graph.result_of v = t.rewires.result_of in
      record {
        era = λ m new. t.rewires.era m ∙ b.era m (to_new m new);
        no_source = λ m new. ap is_source (t.rewires.kind m) ∙ b.no_source m (to_new m new);
        joined = λ m new. subst (λ (l : List ℕ). has_item l m ≡ true) (sym (t.rewires.members (suc w))) (b.joined m (to_new m new));
        only = λ m has. from_new m (b.only m (subst (λ (l : List ℕ). has_item l m ≡ true) (t.rewires.members (suc w)) has));
        place = b.place;
        many = b.many;
        few = λ m new. b.few m (to_new m new);
        behind = λ m new.
            let c = b.behind m (to_new m new) in
            record {
              inputs = λ j rd. before_on j m (c.inputs j (subst (Reads j) (t.rewires.inputs m (new_apart m new)) rd));
              held = λ j h. before_on j m (c.held j (subst (Holds j) (t.rewires.kind m) h));
              later = λ j e. elim (c.later j (sym (t.rewires.later m) ∙ e)) [ inl given ↦ inl (given_on j given) | inr new_j ↦ inr (from_new j new_j) ];
            };
        no_watch = λ m j new nm. ap is_watch (t.rewires.kind j) ∙ b.no_watch m j (to_new m new) (elim nm [
          | inl rd ↦ inl (subst (Reads j) (t.rewires.inputs m (new_apart m new)) rd)
          | inr more ↦ inr (elim more [ inl e ↦ inl (sym (t.rewires.later m) ∙ e) | inr h ↦ inr (subst (Holds j) (t.rewires.kind m) h) ])
        ]);
        results = λ v new iw.
            let s = b.results v (to_new v new) (ap is_watch (sym (t.rewires.kind v)) ∙ iw) in (
              subst (IsNew g n) (sym (result_same v)) (from_new (t3.graph.result_of v) s.0),
              ap n.kind (result_same v) ∙ t.rewires.kind (t3.graph.result_of v) ∙ s.1,
              subst (λ (i : ℕ). b.place v < b.place i) (sym (result_same v)) s.2,
            );
        unread = λ m new k.
            let s = b.unread m (to_new m new) (sym (t.rewires.kind m) ∙ k) in
            (t.rewires.inputs m (new_apart m new) ∙ s.0, t.rewires.later m ∙ s.1);
        watched = λ m new k.
            let v = b.watched m (to_new m new) (sym (t.rewires.kind m) ∙ k) in
            (v.0, from_new v.0 v.1, ap is_watch (t.rewires.kind v.0) ∙ v.2, result_same v.0 ∙ v.3);
        calm = λ m v new k. subst AreCalm (sym (t.rewires.inputs m (new_apart m new))) (b.calm m v (to_new m new) (sym (t.rewires.kind m) ∙ k));
        apart = λ i j new_i new_j wi wj e.
            b.apart i j (to_new i new_i) (to_new j new_j) (ap is_watch (sym (t.rewires.kind i)) ∙ wi) (ap is_watch (sym (t.rewires.kind j)) ∙ wj) (sym (result_same i) ∙ e ∙ result_same j);
      }
    where
      before_on : (j m : ℕ) → IsGiven t3.graph t.scope j ⊎ (IsNew t2.graph t3.graph j × (t.grows.built.place j < t.grows.built.place m))
          → IsGiven n t.scope j ⊎ (IsNew g n j × (t.grows.built.place j < t.grows.built.place m))
      before_on j m c = elim c [ inl given ↦ inl (given_on j given) | inr o ↦ inr (from_new j o.0, o.1) ]

  regrown : Regrown g n w t.scope
  regrown = record {
    live = lives;
    watches = watches;
    scope = λ j rd. subst (Holds j) (sym t.kind) rd;
    decided = λ m. elim (t.kills.decided m) [ inl i ↦ inl (inside_was m i) | inr out ↦ inr (λ i. out (inside_set m i)) ];
    ended = λ m i. elim (bool_case (n.live m)) [
      | inl nl ↦ both_bools (t2.graph.live m) (between m (inside_lives g (suc w) m i) nl) (killed m i)
      | inr off ↦ off
    ];
    stays = λ m lv out. lives_on m (spared m out ∙ lv);
    kind = λ m lv nl. kind_on m (between m lv nl);
    later = λ m lv nl. later_on m (between m lv nl);
    era = λ m lv nl. era_on m (between m lv nl);
    inputs = λ m lv nl ne. inputs_on m (between m lv nl) ne;
    result_of = λ m lv nl iw. result_on m (between m lv nl) iw;
    built = built;
    inner = λ v i. t.rewires.members (suc v) ∙ t.grows.others (suc v) (λ e. watch_outside (subst (Inside g (suc w)) (suc_same v w e) i)) ∙ t.kills.inner v (inside_set v i);
    others = λ y ne out. t.rewires.members y ∙ t.grows.others y ne ∙ t.kills.others y ne (λ v e i. out v e (inside_was v i)) ∙ t.sets.shape.members y;
  }

  -- WHAT THE RESULT READS
  abbrev pub IsFit : ℕ → Type 0
  IsFit j = InScope n (suc w) j × (is_watch (n.kind j) ≡ false)

  fits : (j : ℕ) → IsGiven n t.scope j → IsFit j
  fits j given = (given_scope g n at.height u.frame w t.scope regrown j given, given_no_watch g n at.height u.frame w t.scope regrown j given)

  pub part_fits : IsKnown IsFit part
  part_fits =
      part_from t3.graph p (suc w) IsFit
      (λ s st. fits (p.node_of s) (inr (t.rewires.live (p.node_of s) ∙ st.live, ap is_source (t.rewires.kind (p.node_of s) ∙ st.kind))))
      (λ m lv er off. (record { live = t.rewires.live m ∙ lv; where_from = inl (t.rewires.era m ∙ er) }, ap is_watch (t.rewires.kind m) ∙ off))
      (g.level w) chosen t.scope (t3.graph.members (suc w)) (read_known IsFit t.scope (λ j rd. fits j (inl rd))) t.grows.wired

  read_fits : (j : ℕ) → Reads j (n.inputs r) → IsFit j
  read_fits j rd = known_read IsFit part part_fits j (subst (Reads j) t.rewires.here rd)

  -- THE FRAME, but for heights
  pub members_now : AreMembers n
  members_now = members_on g n at.height u.frame w t.scope regrown

  pub results_now : HaveResults n
  results_now = results_on g n at.height u.frame w t.scope regrown

  pub scoped_now : AreScoped n
  scoped_now = scoped_on g n at.height u.frame w t.scope regrown read_fits

  pub order_now : HasOrder n
  order_now = order_on g n at.height u.frame w t.scope regrown read_fits

  pub named_now : (m j : ℕ) → n.live m ≡ true → Reads j (n.inputs m) → n.live j ≡ true
  named_now m j nl rd = scoped_lives n results_now scoped_now m j nl (inl rd)

  -- THE WATCH
  watch_reads : (j : ℕ) → Reads j (t1.graph.inputs w) → n.value j ≡ t1.graph.value j
  watch_reads j rd =
      let was : Reads j (g.inputs w) = subst (Reads j) (t.sets.shape.inputs w) rd in
      let lv = named_lives g at.height u.frame w j lives (inl was) in
      value_set j (spared j (names_outside g at.height u.frame w lives watches w j lives watch_outside watch_apart (inl was)) ∙ lv)

  watch_rule : Rule n p.table sources (cell_in old) w (n.kind w) (n.inputs w)
  watch_rule =
      let same = t.grows.same w (in_use w watch_between) in
      let gone = t.kills.same w in
      rule_goes_on t1.graph n p.table sources (cell_in old) w (value_set w watch_between) (cell_set w watch_between) (level_set w watch_between)
      (t.rewires.kind w ∙ same.kind ∙ gone.kind) (t.rewires.inputs w watch_apart ∙ same.inputs ∙ gone.inputs) watch_reads t.rule

  -- THE ERA
  era_stays : StaysIn (suc w) t3.graph n
  era_stays = record {
    nodes = λ m lv er. record {
      live = t.rewires.live m ∙ lv;
      kind = t.rewires.kind m;
      later = t.rewires.later m;
      level = t.rewires.level m;
      era = t.rewires.era m;
      inputs = λ off. t.rewires.inputs m (λ e. off (ap t3.graph.kind e ∙ sym (t.rewires.kind r) ∙ kind_on r result_between ∙ result_is));
      result_of = λ iw. t.rewires.result_of m;
    };
    sources = λ m s lv k. (t.rewires.live m ∙ lv, t.rewires.kind m ∙ k);
  }

  era_stands : EraStands n p w chosen t.scope
  era_stands =
      let e = level_on w watch_between in
      let members = t.rewires.members (suc w) in
      record {
        wired = subst (λ i. Wired n p (suc w) i chosen t.scope (n.members (suc w))) (sym e)
            (subst (λ l. Wired n p (suc w) (g.level w) chosen t.scope l) (sym members) (wired_on t3.graph n p (suc w) era_stays (g.level w) chosen t.scope (t3.graph.members (suc w)) t.grows.wired));
        all = ap (λ i. (place p i chosen t.scope (n.members (suc w))).left) e ∙ ap (λ l. (place p (g.level w) chosen t.scope l).left) members ∙ t.grows.all;
        input = ap n.inputs (result_on w watch_between watches) ∙ t.rewires.here
            ∙ ap (λ l. (place p (g.level w) chosen t.scope l).part ∷ []) (sym members) ∙ ap (λ i. (place p i chosen t.scope (n.members (suc w))).part ∷ []) (sym e);
      }

  choice_stands : Chosen (test_of (n.value w)) (EraStands n p w t.when_true t.scope) (EraStands n p w t.when_false t.scope)
  choice_stands =
      subst (λ (o : Result Bool Bad). Chosen o (EraStands n p w t.when_true t.scope) (EraStands n p w t.when_false t.scope)) (sym (ap test_of (value_set w watch_between) ∙ t.told))
      (by_choice n p w t.when_true t.when_false t.scope t.holds era_stands)

  any_choice : (a b : Low) (env : List Part) → g.kind w ≡ watch a b env → Chosen (test_of (n.value w)) (EraStands n p w a env) (EraStands n p w b env)
  any_choice a b env k =
      let same = sym t.kind ∙ k in
      subst (λ (e : List Part). Chosen (test_of (n.value w)) (EraStands n p w a e) (EraStands n p w b e)) (same_scope _ _ _ _ _ _ same)
      (subst (λ (c : Low). Chosen (test_of (n.value w)) (EraStands n p w a t.scope) (EraStands n p w c t.scope)) (same_false _ _ _ _ _ _ same)
      (subst (λ (c : Low). Chosen (test_of (n.value w)) (EraStands n p w c t.scope) (EraStands n p w t.when_false t.scope)) (same_true _ _ _ _ _ _ same) choice_stands))

  module _ (t5 new : Way) (raises : Raises t4 t5 t.height) (queues : Queues t5 new (at.graph.result_of w)) where
    done_set : (m : ℕ) → t2.graph.live m ≡ true → new.done m ≡ t1.done m
    done_set m l2 = queues.done m ∙ raises.done m ∙ t.rewires.done m ∙ (t.grows.same m (in_use m l2)).done ∙ (t.kills.same m).done

    no_lower : (m : ℕ) → t2.graph.live m ≡ true → at.height m ≤ new.height m
    no_lower m l2 =
        let a : t4.height m ≡ at.height m = height_on m l2 in
        let b : t4.height m ≤ t5.height m = raises.no_lower m in
        let c : new.height m ≡ t5.height m = queues.heights m in
        omega arith

    low : (m : ℕ) → t2.graph.live m ≡ true → at.height m ≤ t.height → new.height m ≡ at.height m
    low m l2 le =
        let a : t4.height m ≡ at.height m = height_on m l2 in
        let b : t4.height m ≤ t.height = omega arith in
        queues.heights m ∙ raises.low m b ∙ a

    levelled : IsLevelled n new.height
    levelled = record {
      input = λ m j nl rd. raised j m (raises.input m j nl rd);
      owner = λ m v nl er. raised v m (raises.owner m v nl er);
      result = λ v nl iw. raised v (n.result_of v) (raises.result v nl iw);
    }
      where
        raised : (a b : ℕ) → t5.height a < t5.height b → new.height a < new.height b
        raised a b lt =
            let ea : new.height a ≡ t5.height a = queues.heights a in
            let eb : new.height b ≡ t5.height b = queues.heights b in
            omega arith

    framed : IsFramed n new.height
    framed = record {
      members = members_now;
      results = results_now;
      scoped = scoped_now;
      order = order_now;
      levelled = levelled;
    }

    -- THE AGENDA
    queue_on : (m : ℕ) → m ≢ r → new.queued m ≡ option_map (λ (k : ℕ). new.height m) (t3.queued m)
    queue_on m ne = queues.queue m ne ∙ raises.queue m
        ∙ ap (λ (o : Option ℕ). option_map (λ (k : ℕ). t5.height m) o) (t.rewires.queue m)
        ∙ ap (λ (h : ℕ). option_map (λ (k : ℕ). h) (t3.queued m)) (sym (queues.heights m))

    queue_set : (m : ℕ) → t2.graph.live m ≡ true → t3.queued m ≡ t1.queued m
    queue_set m l2 = t.grows.queue m l2 ∙ spared_queue m (lived_outside m l2)

    none_on : (m : ℕ) → m ≢ r → t3.queued m ≡ None → new.queued m ≡ None
    none_on m ne none = queue_on m ne ∙ ap (λ (o : Option ℕ). option_map (λ (k : ℕ). new.height m) o) none

    born : (m : ℕ) → IsNew g n m → IsBorn at (record new { graph = n }) t.height m
    born m new_m =
        let now = to_new m new_m in
        let b = t.grows.born m now in
        record {
          fresh = new_fresh m now;
          cell = t.rewires.cell m ∙ b.cell;
          done = queues.done m ∙ raises.done m ∙ t.rewires.done m ∙ b.done;
          queued = queue_on m (new_apart m new_m) ∙ ap (λ (o : Option ℕ). option_map (λ (k : ℕ). new.height m) o) b.queued;
          above =
              let above : t.height < t3.height m = b.above in
              let c : t4.height m ≡ t3.height m = t.rewires.heights m in
              let d : t4.height m ≤ t5.height m = raises.no_lower m in
              let e : new.height m ≡ t5.height m = queues.heights m in
              omega arith;
        }

    goes_on : (m : ℕ) → m ≢ w → t2.graph.live m ≡ true → GoesOn at (record new { graph = n }) t.height m
    goes_on m ne l2 = record {
      value = value_set m l2 ∙ t.sets.value m ne;
      cell = cell_set m l2 ∙ t.sets.cell m ne;
      done = done_set m l2 ∙ t.sets.others m ne;
      kind = kind_on m l2;
      later = later_on m l2;
      level = level_on m l2;
      era = era_on m l2;
      result_of = result_on m l2;
      no_lower = no_lower m l2;
      low = low m l2;
    }

    over_same : Rebuilds p sources old at (record new { graph = n }) w
    over_same = record {
      height = t.height;
      least = t.least;
      watches = watches;
      rule = watch_rule;
      other_key = λ o e. t.other_key o (ap test_of (sym (value_set w watch_between)) ∙ e);
      live = lives_on w watch_between;
      done = done_set w watch_between ∙ t.sets.done;
      kind = kind_on w watch_between;
      inputs = inputs_on w watch_between watch_apart;
      later = later_on w watch_between;
      level = level_on w watch_between;
      era = era_on w watch_between;
      result_of = result_on w watch_between watches;
      same_height = low w watch_between (at_most stands);
      ended = regrown.ended;
      stays = regrown.stays;
      goes_on = λ m ne lv nl. goes_on m ne (between m lv nl);
      same_inputs = regrown.inputs;
      born = λ m off nl. born m (off, nl);
      born_inside = λ m off nl. built.era m (off, nl);
      taken = λ m c. queues.taken m ∙ raises.taken m ∙ t.rewires.taken m ∙ t.grows.taken m (elim c [
        | inl use_m ↦ inl (t.kills.taken m ∙ t.sets.taken m ∙ use_m)
        | inr nl ↦ inr (sym (t.rewires.live m) ∙ nl)
      ]);
      out = none_on w watch_apart (queue_set w watch_between ∙ t.sets.out);
      result_queued = queues.here;
      queue = λ m lv nl ne nr. queue_on m nr ∙ ap (λ (o : Option ℕ). option_map (λ (k : ℕ). new.height m) o) (queue_set m (between m lv nl) ∙ t.sets.queue m ne);
      no_other = λ m off. none_on m (λ e. both_bools (n.live m) (ap n.live e ∙ lives_on r result_between) off) (t.grows.no_other m (sym (t.rewires.live m) ∙ off));
      frame = framed;
      stands = any_choice;
      members = λ v lv nl ne. regrown.others (suc v) (λ e. ne (suc_same v w e)) (λ x e i. both_bools (n.live v) nl (regrown.ended v (subst (Inside g (suc w)) (sym (suc_same v x e)) i)));
    }
      where
        at_most : t.height ≡ at.height w → at.height w ≤ t.height
        at_most e = omega arith

    rebuilt : Rebuilds p sources old at new w
    rebuilt =
        let same : new.graph ≡ n = queues.graph ∙ raises.graph in
        subst (λ (z : Way). Rebuilds p sources old at z w) (ap (λ (h : Graph). record new { graph = h }) (sym same)) over_same

-- THE STEPS REBUILD. Each node of the era and of those inside has ended, the choice of the new key stands in new nodes, and all else goes on.
pub turned : (p : Plan) (is : List LowItem) (ms : List ℕ) (sources : List Now) (old : Graph) (at t1 t2 t3 t4 t5 new : Way) (w : ℕ)
    → UnderWay p is ms sources old at → Turns p sources old at t1 t2 t3 t4 t5 new w → Rebuilds p sources old at new w
turned p is ms sources old at t1 t2 t3 t4 t5 new w u t = rebuilt p is ms sources old at t1 t2 t3 t4 w u t.replaces t5 new t.raises t.queues

-- and what is under way stays so
pub turn_keeps : (p : Plan) (is : List LowItem) (ms : List ℕ) (sources : List Now) (old : Graph) (at t1 t2 t3 t4 t5 new : Way) (w : ℕ)
    → UnderWay p is ms sources old at → Turns p sources old at t1 t2 t3 t4 t5 new w → UnderWay p is ms sources old new
turn_keeps p is ms sources old at t1 t2 t3 t4 t5 new w u t = rebuilt_keeps p is ms sources old at new w u (turned p is ms sources old at t1 t2 t3 t4 t5 new w u t)
