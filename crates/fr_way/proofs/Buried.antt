-- What burying keeps: all that is said of live nodes.
use Rattle.std.proofs.Common.{◌≡◌, inl, inr, ℕ, suc, ◌<◌, Bool, true, false, if◌then◌else◌, List, [], ◌∷◌, refl, ap, sym, ◌∙◌, subst, arith, Option, Some, None}
use Rattle.fr_links.specs.Lists.{has_item}
use Rattle.fr_value.specs.declared.now.Now.{Now}
use Rattle.fr_core.specs.declared.lowered.Low.{Low}
use Rattle.fr_core.specs.declared.lowered.LowItem.{LowItem}
use Rattle.fr_meaning.specs.Words.{Seen, test_of}
use Rattle.fr_meaning.specs.Cells.{Cell}
use Rattle.fr_kernel.specs.Kernels.{Kernels}
use Rattle.fr_graph.specs.Graph.{Part, steady, signal, Work, Kind, watch, Graph, part_value}
use Rattle.fr_graph.specs.Walk.{Plan}
use Rattle.fr_graph.specs.Wired.{Chosen, EraStands}
use Rattle.fr_graph.specs.Keeps.{everything}
use Rattle.fr_graph.specs.Known.{Reads, Have, Rule, latch, IsLatched}
use Rattle.fr_graph.specs.Goes.{Goes}
use Rattle.fr_graph.specs.Items.{HasNodes, IsSettled}
use Rattle.fr_way.specs.Frame.{AreCalm, is_source, is_watch, Holds, Names, InScope, AreMembers, HaveResults, AreScoped, HasOrder, IsLevelled, IsFramed}
use Rattle.fr_way.specs.Stay.{StaysIn}
use Rattle.fr_way.specs.Way.{cell_in}
use Rattle.fr_way.specs.Ends.{HasEndedWell}
use Rattle.fr_way.specs.Fronts.{AreUsed}
use Rattle.fr_way.specs.Burial.{Buries}
use Rattle.fr_way.proofs.Shapes.{by_bool, input_live, rule_on}
use Rattle.fr_way.proofs.Names.{scoped_lives, named_lives}
use Rattle.fr_way.proofs.Stay.{items_on, eras_on}

-- nothing needs to have been buried
pub buries_none : (g : Graph) → Buries g g
buries_none g = record {
  live = λ m. refl;
  kind = λ m lv. refl;
  inputs = λ m lv. refl;
  later = λ m lv. refl;
  value = λ m lv. refl;
  cell = λ m lv. refl;
  level = λ m lv. refl;
  era = λ m lv. refl;
  members = λ x. refl;
  result_of = λ m lv iw. refl;
}

module _ (old new : Graph) (b : Buries old new) where
  pub lived : (m : ℕ) → new.live m ≡ true → old.live m ≡ true
  lived m lv = sym (b.live m) ∙ lv

  pub watched_before : (w : ℕ) → old.live w ≡ true → is_watch (new.kind w) ≡ true → is_watch (old.kind w) ≡ true
  watched_before w lv iw = ap is_watch (sym (b.kind w lv)) ∙ iw

  -- either graph is the other, buried
  pub unburied : Buries new old
  unburied = record {
    live = λ m. sym (b.live m);
    kind = λ m lv. sym (b.kind m (lived m lv));
    inputs = λ m lv. sym (b.inputs m (lived m lv));
    later = λ m lv. sym (b.later m (lived m lv));
    value = λ m lv. sym (b.value m (lived m lv));
    cell = λ m lv. sym (b.cell m (lived m lv));
    level = λ m lv. sym (b.level m (lived m lv));
    era = λ m lv. sym (b.era m (lived m lv));
    members = λ x. sym (b.members x);
    result_of = λ m lv iw. sym (b.result_of m (lived m lv) (watched_before m (lived m lv) iw));
  }

  -- every node stays
  pub stays_buried : (x : ℕ) → StaysIn x old new
  stays_buried x = record {
    nodes = λ m lv er. record {
      live = b.live m ∙ lv;
      kind = b.kind m lv;
      later = b.later m lv;
      level = b.level m lv;
      era = b.era m lv;
      inputs = λ non. b.inputs m lv;
      result_of = λ iw. b.result_of m lv iw;
    };
    sources = λ m s lv k. (b.live m ∙ lv, b.kind m lv ∙ k);
  }

  -- the cells that an instant begins with are the same
  pub cells_buried : (m : ℕ) → cell_in new m ≡ cell_in old m
  cells_buried m = elim (by_bool (old.live m)) [
    | inl lv ↦ by_life (new.live m) (new.cell m) (b.live m ∙ lv) ∙ b.cell m lv ∙ sym (by_life (old.live m) (old.cell m) lv)
    | inr off ↦ by_none (new.live m) (new.cell m) (b.live m ∙ off) ∙ sym (by_none (old.live m) (old.cell m) off)
  ]
    where
      by_life : (l : Bool) (c : Option Cell) → l ≡ true → (if l then c else None) ≡ c
      by_life l c e = ap (λ (k : Bool). if k then c else None) e

      by_none : (l : Bool) (c : Option Cell) → l ≡ false → (if l then c else None) ≡ None
      by_none l c e = ap (λ (k : Bool). if k then c else None) e

  -- THE FRAME

  members_buried : AreMembers old → AreMembers new
  members_buried f = record {
    member = λ x m h.
        let was = f.member x m (subst (λ (l : List ℕ). has_item l m ≡ true) (b.members x) h) in
        (b.live m ∙ was.0, b.era m was.0 ∙ was.1);
    joined = λ m lv.
        let was = lived m lv in
        subst (λ (l : List ℕ). has_item l m ≡ true) (sym (ap new.members (b.era m was) ∙ b.members (old.era m))) (f.joined m was);
    owner = λ m w lv e.
        let was = lived m lv in
        let o = f.owner m w was (sym (b.era m was) ∙ e) in
        (b.live w ∙ o.0, ap is_watch (b.kind w o.0) ∙ o.1);
    sources = λ m lv s.
        let was = lived m lv in
        b.era m was ∙ f.sources m was (ap is_source (sym (b.kind m was)) ∙ s);
  }

  results_buried : HaveResults old → HaveResults new
  results_buried f = record {
    live = λ w lv iw.
        let was = lived w lv in
        let i = watched_before w was iw in
        ap new.live (b.result_of w was i) ∙ b.live (old.result_of w) ∙ f.live w was i;
    kind = λ w lv iw.
        let was = lived w lv in
        let i = watched_before w was iw in
        ap new.kind (b.result_of w was i) ∙ b.kind (old.result_of w) (f.live w was i) ∙ f.kind w was i;
    era = λ w lv iw.
        let was = lived w lv in
        let i = watched_before w was iw in
        ap new.era (b.result_of w was i) ∙ b.era (old.result_of w) (f.live w was i) ∙ f.era w was i ∙ sym (b.era w was);
    apart = λ v w lv lw iv iw e.
        let wv = lived v lv in
        let ww = lived w lw in
        let jv = watched_before v wv iv in
        let jw = watched_before w ww iw in
        f.apart v w wv ww jv jw (sym (b.result_of v wv jv) ∙ e ∙ b.result_of w ww jw);
    watched = λ m lv k.
        let was = lived m lv in
        let x = f.watched m was (sym (b.kind m was) ∙ k) in
        (x.0, b.live x.0 ∙ x.1, ap is_watch (b.kind x.0 x.1) ∙ x.2, b.result_of x.0 x.1 x.2 ∙ x.3);
  }

  named_before : (m j : ℕ) → old.live m ≡ true → Names new m j → Names old m j
  named_before m j lv nm = elim nm [
    | inl rd ↦ inl (subst (Reads j) (b.inputs m lv) rd)
    | inr more ↦ elim more [
      | inl e ↦ inr (inl (sym (b.later m lv) ∙ e))
      | inr h ↦ inr (inr (subst (Holds j) (b.kind m lv) h))
    ]
  ]

  scope_buried : (x j : ℕ) → InScope old x j → InScope new x j
  scope_buried x j s = record {
    live = b.live j ∙ s.live;
    where_from = elim s.where_from [
      | inl e ↦ inl (b.era j s.live ∙ e)
      | inr more ↦ elim more [
        | inl h ↦ inr (inl (h.0, h.1, b.live h.0 ∙ h.2, subst (Holds j) (sym (b.kind h.0 h.2)) h.3))
        | inr from_source ↦ inr (inr (ap is_source (b.kind j s.live) ∙ from_source))
      ]
    ];
  }

  -- what the result of a watch reads is the same
  result_inputs : HaveResults old → (w : ℕ) → old.live w ≡ true → is_watch (old.kind w) ≡ true → new.inputs (new.result_of w) ≡ old.inputs (old.result_of w)
  result_inputs r w lv iw = ap new.inputs (b.result_of w lv iw) ∙ b.inputs (old.result_of w) (r.live w lv iw)

  scoped_buried : HaveResults old → AreScoped old → AreScoped new
  scoped_buried r f = record {
    names = λ m j lv non nm.
        let was = lived m lv in
        subst (λ (x : ℕ). InScope new x j) (sym (b.era m was)) (scope_buried (old.era m) j (f.names m j was (λ e. non (b.kind m was ∙ e)) (named_before m j was nm)));
    results = λ w j lv iw rd.
        let was = lived w lv in
        let i = watched_before w was iw in
        scope_buried (suc w) j (f.results w j was i (subst (Reads j) (result_inputs r w was i) rd));
    later = λ m lv k. let was = lived m lv in b.later m was ∙ f.later m was (sym (b.kind m was) ∙ k);
    no_watch = λ m j lv nm.
        let was = lived m lv in
        let named = named_before m j was nm in
        ap is_watch (b.kind j (scoped_lives old r f m j was named)) ∙ f.no_watch m j was named;
    calm = λ m w lv k. let was = lived m lv in subst AreCalm (sym (b.inputs m was)) (f.calm m w was (sym (b.kind m was) ∙ k));
  }

  order_buried : HasOrder old → HasOrder new
  order_buried o = record {
    rank = o.rank;
    input = λ m j lv rd. let was = lived m lv in o.input m j was (subst (Reads j) (b.inputs m was) rd);
    held = λ m j lv h. let was = lived m lv in o.held m j was (subst (Holds j) (b.kind m was) h);
    owner = λ m w lv e. let was = lived m lv in o.owner m w was (sym (b.era m was) ∙ e);
    before_result = λ m w lm lw iw s.
        let wm = lived m lm in
        let ww = lived w lw in
        let i = watched_before w ww iw in
        subst (λ (r : ℕ). o.rank m < o.rank r) (sym (b.result_of w ww i)) (o.before_result m w wm ww i (elim s [ inl e ↦ inl e | inr e ↦ inr (sym (b.era m wm) ∙ e) ]));
    sources = λ s m ls lm src non.
        let ws = lived s ls in
        let wm = lived m lm in
        o.sources s m ws wm (ap is_source (sym (b.kind s ws)) ∙ src) (ap is_source (sym (b.kind m wm)) ∙ non);
  }

  module _ (h k : ℕ → ℕ) (same : (m : ℕ) → old.live m ≡ true → k m ≡ h m) (f : IsFramed old h) where
    lower : (i j : ℕ) → old.live i ≡ true → old.live j ≡ true → h i < h j → k i < k j
    lower i j li lj lt =
        let ei : k i ≡ h i = same i li in
        let ej : k j ≡ h j = same j lj in
        omega arith

    levelled_buried : IsLevelled new k
    levelled_buried = record {
      input = λ m j lv rd.
          let was = lived m lv in
          let read = subst (Reads j) (b.inputs m was) rd in
          lower j m (input_live old h m j f was read) was (f.levelled.input m j was read);
      owner = λ m w lv e.
          let was = lived m lv in
          let er = sym (b.era m was) ∙ e in
          lower w m (f.members.owner m w was er).0 was (f.levelled.owner m w was er);
      result = λ w lv iw.
          let was = lived w lv in
          let i = watched_before w was iw in
          subst (λ (r : ℕ). k w < k r) (sym (b.result_of w was i)) (lower w (old.result_of w) was (f.results.live w was i) (f.levelled.result w was i));
    }

    pub framed_buried : IsFramed new k
    framed_buried = record {
      members = members_buried f.members;
      results = results_buried f.results;
      scoped = scoped_buried f.results f.scoped;
      order = order_buried f.order;
      levelled = levelled_buried;
    }

  -- THE RULES

  module _ (height : ℕ → ℕ) (f : IsFramed old height) where
    rule_buried : (t : Kernels) (sources : List Now) (before : ℕ → Option Cell) (m : ℕ) → old.live m ≡ true → Rule old t sources before m (old.kind m) (old.inputs m)
        → Rule new t sources before m (new.kind m) (new.inputs m)
    rule_buried t sources before m lv r =
        subst (λ (k : Kind). Rule new t sources before m k (new.inputs m)) (sym (b.kind m lv))
        (subst (λ (ins : List Part). Rule new t sources before m (old.kind m) ins) (sym (b.inputs m lv))
        (rule_on old new t sources before m (old.kind m) (old.inputs m) (b.level m lv) (b.value m lv) (λ w k late. b.cell m lv) (λ j rd. b.value j (input_live old height m j f lv rd)) r))

    last_value : (m : ℕ) (last : Part) → old.live m ≡ true → old.later m ≡ Some last → part_value new last ≡ part_value old last
    last_value m (steady v) lv l = refl
    last_value m (signal j) lv l = b.value j (named_lives old height f m j lv (inr (inl l)))

    latched_buried : (m : ℕ) (w : Work) (last : Part) → old.live m ≡ true → old.later m ≡ Some last → IsLatched old m w last → IsLatched new m w last
    latched_buried m w last lv l t = record {
      taken = t.taken;
      takes = ap (λ (v : Seen). latch w v) (last_value m last lv l) ∙ t.takes;
      kept = b.cell m lv ∙ t.kept;
    }

    pub settled_buried : (p : Plan) (sources : List Now) (before : ℕ → Option Cell) → IsSettled old p sources before → IsSettled new p sources before
    settled_buried p sources before s = record {
      rules = λ m kn lv. let was = lived m lv in rule_buried p.table sources before m was (s.rules m tt was);
      ended = record {
        latched = λ m w last lv k late l.
            let was = lived m lv in
            let before_l = sym (b.later m was) ∙ l in
            latched_buried m w last was before_l (s.ended.latched m w last was (sym (b.kind m was) ∙ k) late before_l);
      };
    }

    -- THE NODES

    era_buried : (p : Plan) (w : ℕ) (a c : Low) (env : List Part) → old.live w ≡ true → old.kind w ≡ watch a c env → Chosen (test_of (old.value w)) (EraStands old p w a env) (EraStands old p w c env)
        → Chosen (test_of (new.value w)) (EraStands new p w a env) (EraStands new p w c env)
    era_buried p w a c env lv k st =
        eras_on old new p w a c env (test_of (new.value w)) (stays_buried (suc w)) (b.members (suc w)) (b.level w lv) (result_inputs f.results w lv (ap is_watch k))
        (subst (λ (v : Seen). Chosen (test_of v) (EraStands old p w a env) (EraStands old p w c env)) (sym (b.value w lv)) st)

    pub nodes_buried : (p : Plan) (is : List LowItem) (ms : List ℕ) → HasNodes old p is ms → HasNodes new p is ms
    nodes_buried p is ms has = record {
      items = items_on old new p 0 (stays_buried 0) 2000 is [] ms has.items;
      eras = λ w a c env kn lv k.
          let was = lived w lv in
          let kw = sym (b.kind w was) ∙ k in
          era_buried p w a c env was kw (has.eras w a c env tt was kw);
    }

  pub used_buried : (p : Plan) (is : List LowItem) (ms : List ℕ) → AreUsed old p is ms → AreUsed new p is ms
  used_buried p is ms u = record {
    among = λ m lv e s. let was = lived m lv in u.among m was (sym (b.era m was) ∙ e) (ap is_source (sym (b.kind m was)) ∙ s);
    all = u.all;
  }

  -- WHAT AN INSTANT MAY DO, to the graph that is buried and from it

  pub goes_to_buried : (was : Graph) (before : ℕ → Option Cell) → Goes was old before → Goes was new before
  goes_to_buried was before g = record {
    cell = λ m there lv. g.cell m there (lived m lv);
    cell_new = λ m non lv. g.cell_new m non (lived m lv);
    era_same = λ w there lv e. let now = lived w lv in b.members (suc w) ∙ g.era_same w there now (ap test_of (sym (b.value w now)) ∙ e);
    era_new = λ w m there lv ne lm er.
        let now = lived w lv in
        let there_m = lived m lm in
        g.era_new w m there now (λ e. ne (ap test_of (b.value w now) ∙ e)) there_m (sym (b.era m there_m) ∙ er);
    era_born = λ w m non lm er. let there_m = lived m lm in g.era_born w m non there_m (sym (b.era m there_m) ∙ er);
  }

  pub goes_from_buried : (next : Graph) (before : ℕ → Option Cell) → Goes old next before → Goes new next before
  goes_from_buried next before g = record {
    cell = λ m there lv. let was = lived m there in g.cell m was lv ∙ sym (b.cell m was);
    cell_new = λ m non lv. g.cell_new m (sym (b.live m) ∙ non) lv;
    era_same = λ w there lv e. let was = lived w there in g.era_same w was lv (e ∙ ap test_of (b.value w was)) ∙ sym (b.members (suc w));
    era_new = λ w m there lv ne lm er. let was = lived w there in b.live m ∙ g.era_new w m was lv (λ e. ne (e ∙ ap test_of (sym (b.value w was)))) lm er;
    era_born = λ w m non lm er. b.live m ∙ g.era_born w m (sym (b.live w) ∙ non) lm er;
  }

  -- THE END OF AN INSTANT
  pub ended_buried : (p : Plan) (is : List LowItem) (ms : List ℕ) (sources : List Now) (was : Graph) (h k : ℕ → ℕ) → ((m : ℕ) → old.live m ≡ true → k m ≡ h m)
      → HasEndedWell p is ms sources was old h → HasEndedWell p is ms sources was new k
  ended_buried p is ms sources was h k same e = record {
    settled = settled_buried h e.frame p sources (cell_in was) e.settled;
    has = nodes_buried h e.frame p is ms e.has;
    goes = goes_to_buried was (cell_in was) e.goes;
    frame = framed_buried h k same e.frame;
  }

  -- values that are shown
  pub have_buried : (ps : List Part) (vs : List Seen) → ((j : ℕ) → Reads j ps → old.live j ≡ true) → Have old everything ps vs → Have new everything ps vs
  have_buried [] [] live h = tt
  have_buried [] (v ∷ vs) live h = absurd h
  have_buried (p ∷ ps) [] live h = absurd h
  have_buried (steady u ∷ ps) (v ∷ vs) live h = (h.0, have_buried ps vs live h.1)
  have_buried (signal m ∷ ps) (v ∷ vs) live h = (λ kn. b.value m (live m (inl refl)) ∙ h.0 kn, have_buried ps vs (λ j rd. live j (inr rd)) h.1)
