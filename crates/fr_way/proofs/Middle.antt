-- What holds between the steps of a turning.
use Rattle.std.proofs.Common.{◌≡◌, ◌≢◌, ◌⊎◌, inl, inr, ℕ, suc, ◌<◌, ◌≤◌, Bool, true, false, if◌then◌else◌, eqb, List, [], ◌∷◌, Option, None, Some, refl, ap, sym, ◌∙◌, subst, arith}
use Rattle.std.proofs.lemmas.Bool.{ne_eqb}
use Rattle.std.proofs.lemmas.Bool.Decides.{eqb_tells}
use Rattle.fr_value.specs.declared.now.Now.{Now}
use Rattle.fr_core.specs.declared.lowered.Low.{Low}
use Rattle.fr_core.specs.declared.lowered.LowItem.{LowItem}
use Rattle.fr_graph.specs.Graph.{Part, watch, Graph}
use Rattle.fr_graph.specs.Walk.{Plan}
use Rattle.fr_graph.specs.Known.{Reads}
use Rattle.fr_way.specs.Frame.{is_watch, is_source, Holds, IsFramed, Inside, here, deeper}
use Rattle.fr_way.specs.Way.{Way, UnderWay}
use Rattle.fr_way.specs.Steps.{IsLeast}
use Rattle.fr_way.specs.Turns.{IsSet, Leaves, IsClear, Rewires, Rechooses, chosen_part, Replaces}
use Rattle.fr_way.proofs.Cases.{bool_case, both_bools, number_case, by_number, watch_no_result}
use Rattle.fr_way.proofs.Names.{inside_lives, inside_owned, inside_same, not_inside_own, names_outside, named_lives}
use Rattle.fr_way.proofs.Turn.{known_read, IsFit, part_fits, result_between}

-- what is inside the era of a watch stands above the watch
inside_above : (g : Graph) (height : ℕ → ℕ) → IsFramed g height → (w m : ℕ) → Inside g (suc w) m → height w < height m
inside_above g height f w m (here i lv er) = f.levelled.owner i w lv er
inside_above g height f w m (deeper i v lv er u) =
    let a : height w < height v = inside_above g height f w v u in
    let b : height v < height i = f.levelled.owner i v lv er in
    omega arith

-- what is in the era of something inside is inside
inside_beside : (g : Graph) (x m v : ℕ) → g.live v ≡ true → g.era m ≡ g.era v → Inside g x m → Inside g x v
inside_beside g x m v lv e (here i l er) = here v lv (sym e ∙ er)
inside_beside g x m v lv e (deeper i o l er u) = deeper v o lv (sym e ∙ er) u

module _ (p : Plan) (is : List LowItem) (ms : List ℕ) (sources : List Now) (old : Graph) (at t1 t2 : Way) (w h : ℕ) (u : UnderWay p is ms sources old at) (e : Leaves at t1 t2 w h) where
  abbrev g : Graph
  g = at.graph

  lives : g.live w ≡ true
  lives = (u.nodes.queue w h e.least.was).0

  watch_outside : Inside g (suc w) w → ⊥
  watch_outside = not_inside_own g u.frame.order w

  watch_apart : w ≢ g.result_of w
  watch_apart s = watch_no_result (g.kind w) e.watches (ap g.kind s ∙ u.frame.results.kind w lives e.watches)

  inside_was : (m : ℕ) → Inside t1.graph (suc w) m → Inside g (suc w) m
  inside_was m i = inside_same t1.graph g (suc w) m (λ j. sym (e.sets.shape.live j)) (λ j. sym (e.sets.shape.era j)) i

  spared : (m : ℕ) → (Inside g (suc w) m → ⊥) → t2.graph.live m ≡ g.live m
  spared m out = (e.kills.stays m (λ i. out (inside_was m i))).0 ∙ e.sets.shape.live m

  lived : (m : ℕ) → t2.graph.live m ≡ true → g.live m ≡ true
  lived m l2 = elim (bool_case (g.live m)) [
    | inl lv ↦ lv
    | inr off ↦ both_bools (t2.graph.live m) l2 (spared m (λ i. both_bools (g.live m) (inside_lives g (suc w) m i) off) ∙ off)
  ]

  kind_left : (m : ℕ) → t2.graph.kind m ≡ g.kind m
  kind_left m = (e.kills.same m).kind ∙ e.sets.shape.kind m

  result_left : (v : ℕ) → t2.graph.live v ≡ true → is_watch (g.kind v) ≡ true → t2.graph.result_of v ≡ g.result_of v
  result_left v l2 iw = e.kills.result_of v l2 (ap is_watch (e.sets.shape.kind v) ∙ iw) ∙ e.sets.shape.result_of v

  -- the result of a watch that stays stays too, in the same era
  result_spared : (v : ℕ) → t2.graph.live v ≡ true → is_watch (g.kind v) ≡ true → t2.graph.live (g.result_of v) ≡ g.live (g.result_of v)
  result_spared v l2 iw =
      let lv = lived v l2 in
      spared (g.result_of v) (λ i.
      let inner = inside_same g t1.graph (suc w) v e.sets.shape.live e.sets.shape.era (inside_beside g (suc w) (g.result_of v) v lv (u.frame.results.era v lv iw) i) in
      both_bools (t2.graph.live v) l2 (e.kills.ended v inner).0)

  queue_left : (m : ℕ) → t1.graph.live m ≡ false → t1.queued m ≡ None
  queue_left m off = elim (by_number m w) [
    | inl same ↦ ap t1.queued same ∙ e.sets.out
    | inr ne ↦ e.sets.queue m ne ∙ not_queued (number_case (at.queued m))
  ]
    where
      not_queued : (at.queued m ≡ None) ⊎ ((k : ℕ) × (at.queued m ≡ Some k)) → at.queued m ≡ None
      not_queued c = elim c [
        | inl none ↦ none
        | inr some ↦ both_bools (g.live m) (u.nodes.queue m some.0 some.1).0 (sym (e.sets.shape.live m) ∙ off)
      ]

  -- WHERE A CHOICE IS BUILT all that it may name is there
  pub left_clear : (a b : Low) (env : List Part) → g.kind w ≡ watch a b env → IsClear t2 w env
  left_clear a b env k = record {
    empty = e.kills.emptied;
    owner = spared w watch_outside ∙ lives;
    scope = λ j rd.
        let held : Holds j (g.kind w) = subst (Holds j) (sym k) rd in
        spared j (names_outside g at.height u.frame w lives e.watches w j lives watch_outside watch_apart (inr (inr held))) ∙ named_lives g at.height u.frame w j lives (inr (inr held));
    no_watch = λ j rd.
        let held : Holds j (g.kind w) = subst (Holds j) (sym k) rd in
        ap is_watch (kind_left j) ∙ u.frame.scoped.no_watch w j lives (inr (inr held));
    results = λ v l2 iw.
        let was : is_watch (g.kind v) ≡ true = ap is_watch (sym (kind_left v)) ∙ iw in
        let from = result_left v l2 was in
        let lv = lived v l2 in (
          ap t2.graph.live from ∙ result_spared v l2 was ∙ u.frame.results.live v lv was,
          kind_left (t2.graph.result_of v) ∙ ap g.kind from ∙ u.frame.results.kind v lv was,
        );
    taken = λ m l2. e.kills.taken m ∙ e.sets.taken m ∙ u.nodes.taken m (inl (lived m l2));
    queue = λ m off. elim (e.kills.decided m) [
      | inl i ↦ (e.kills.ended m i).1
      | inr out ↦ (e.kills.stays m out).1 ∙ queue_left m (sym ((e.kills.stays m out).0) ∙ off)
    ];
  }

  -- the nodes of the sources stay
  pub source_left : (m : ℕ) → g.live m ≡ true → is_source (g.kind m) ≡ true → t2.graph.live m ≡ true
  source_left m lv s = spared m (λ i. inside_owned g w m i (u.frame.members.sources m lv s)) ∙ lv

-- nothing that ends with the era of a watch was computed at this instant
pub ends_not_computed : (p : Plan) (is : List LowItem) (ms : List ℕ) (sources : List Now) (old : Graph) (at t1 : Way) (w h : ℕ)
    → UnderWay p is ms sources old at → IsLeast at w h → IsSet at t1 w → (m : ℕ) → Inside t1.graph (suc w) m → t1.done m ≡ false
ends_not_computed p is ms sources old at t1 w h u least sets m inner =
    let i : Inside at.graph (suc w) m = inside_same t1.graph at.graph (suc w) m (λ j. sym (sets.shape.live j)) (λ j. sym (sets.shape.era j)) inner in
    let ne : m ≢ w = λ e. not_inside_own at.graph u.frame.order w (subst (Inside at.graph (suc w)) e i) in
    let stands : h ≡ at.height w = (u.nodes.queue w h least.was).1 in
    let above : at.height w < at.height m = inside_above at.graph at.height u.frame w m i in
    elim (bool_case (at.done m)) [
      | inl dn ↦
          let low : at.height m ≤ h = u.nodes.ordered m w h (inside_lives at.graph (suc w) m i) dn least.was in
          absurd (omega arith)
      | inr off ↦ sets.others m ne ∙ off
    ]

-- a choice that was built is replaced once the result reads what stands for it
pub replaced : (p : Plan) (sources : List Now) (old : Graph) (at t1 t2 t3 t4 : Way) (w : ℕ) (c : Rechooses p sources old at t1 t2 t3 w)
    → Rewires t3 t4 (at.graph.result_of w) (chosen_part p sources old at t1 t2 t3 w c) → Replaces p sources old at t1 t2 t3 t4 w
replaced p sources old at t1 t2 t3 t4 w c rewires = record {
  height = c.height;
  least = c.least;
  when_true = c.when_true;
  when_false = c.when_false;
  scope = c.scope;
  kind = c.kind;
  holds = c.holds;
  told = c.told;
  rule = c.rule;
  other_key = c.other_key;
  sets = c.sets;
  kills = c.kills;
  grows = c.grows;
  rewires = rewires;
}

-- a way in which a node reads this part alone
inputs_with : ℕ → Part → (ℕ → List Part) → ℕ → List Part
inputs_with r q was m = if eqb m r then q ∷ [] else was m

there_with : (r : ℕ) (q : Part) (was : ℕ → List Part) → inputs_with r q was r ≡ q ∷ []
unfolding inputs_with
there_with r q was = elim (eqb_tells r r) [ inl t ↦ ap (λ b. if b then q ∷ [] else was r) t.0 | inr f ↦ absurd (f.1 refl) ]

other_with : (r : ℕ) (q : Part) (was : ℕ → List Part) (m : ℕ) → m ≢ r → inputs_with r q was m ≡ was m
unfolding inputs_with
other_with r q was m ne = ap (λ b. if b then q ∷ [] else was m) (ne_eqb m r ne)

wired_to : Way → ℕ → Part → Way
wired_to at r q = record at { graph = record at.graph { inputs = inputs_with r q at.graph.inputs } }

is_wired : (at : Way) (r : ℕ) (q : Part) → Rewires at (wired_to at r q) r q
unfolding wired_to
is_wired at r q = record {
  here = there_with r q at.graph.inputs;
  inputs = other_with r q at.graph.inputs;
  live = λ m. refl;
  kind = λ m. refl;
  later = λ m. refl;
  value = λ m. refl;
  cell = λ m. refl;
  level = λ m. refl;
  era = λ m. refl;
  members = λ y. refl;
  result_of = λ m. refl;
  taken = λ m. refl;
  heights = λ m. refl;
  done = λ m. refl;
  queue = λ m. refl;
}

-- BEFORE THE RESULT IS REWIRED it lives, and so does what it is to read
module _ (p : Plan) (is : List LowItem) (ms : List ℕ) (sources : List Now) (old : Graph) (at t1 t2 t3 : Way) (w : ℕ) (u : UnderWay p is ms sources old at) (c : Rechooses p sources old at t1 t2 t3 w) where
  abbrev q : Part
  q = chosen_part p sources old at t1 t2 t3 w c

  abbrev r : ℕ
  r = at.graph.result_of w

  whole : Replaces p sources old at t1 t2 t3 (wired_to t3 r q) w
  whole = replaced p sources old at t1 t2 t3 (wired_to t3 r q) w c (is_wired t3 r q)

  pub part_lives : (j : ℕ) → Reads j (q ∷ []) → t3.graph.live j ≡ true
  unfolding wired_to whole replaced
  part_lives j rd = (known_read (IsFit p is ms sources old at t1 t2 t3 (wired_to t3 r q) w u whole) q (part_fits p is ms sources old at t1 t2 t3 (wired_to t3 r q) w u whole) j rd).0.live

  pub result_lives : t3.graph.live r ≡ true
  result_lives = c.grows.stays r (result_between p is ms sources old at t1 t2 t3 (wired_to t3 r q) w u whole)

-- what is under way is told by the graph and what is beside it, number by number
pub same_way : (at next : Way) → next.graph ≡ at.graph → ((m : ℕ) → next.taken m ≡ at.taken m) → ((m : ℕ) → next.height m ≡ at.height m) → ((m : ℕ) → next.done m ≡ at.done m)
    → ((m : ℕ) → next.queued m ≡ at.queued m) → Path Way next at
same_way at next graph taken heights done queue = λ i. record {
  graph = graph i;
  taken = λ m. taken m i;
  height = λ m. heights m i;
  done = λ m. done m i;
  queued = λ m. queue m i;
}
