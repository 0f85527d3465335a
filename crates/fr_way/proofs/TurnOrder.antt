-- An order for all that is in use: what lives comes before what awaits burial.
use Rattle.std.proofs.Common.{◌≡◌, ◌≢◌, ◌⊎◌, inl, inr, ℕ, zero, suc, ◌+◌, ◌<◌, ◌≤◌, Bool, true, false, List, [], ◌∷◌, refl, ap, sym, ◌∙◌, subst, arith}
use Rattle.std.specs.Option.{option_map}
use Rattle.fr_value.specs.declared.now.Now.{Now}
use Rattle.fr_core.specs.declared.lowered.LowItem.{LowItem}
use Rattle.fr_meaning.specs.Words.{Seen}
use Rattle.fr_graph.specs.Graph.{Part, steady, signal, Graph}
use Rattle.fr_graph.specs.Walk.{Plan}
use Rattle.fr_graph.specs.Known.{Reads}
use Rattle.fr_way.specs.Frame.{is_watch, HasOrder}
use Rattle.fr_way.specs.Way.{Way, UnderWay}
use Rattle.fr_way.specs.Turns.{IsNew, Raises, Queues, Replaces, Turns}
use Rattle.fr_way.specs.Steps.{Computes}
use Rattle.fr_way.specs.Order.{IsOver, DeadAreLevelled, AreLevelledBut, AreBelow, IsOrdered}
use Rattle.fr_way.proofs.Cases.{bool_case, both_bools, by_number, suc_same}
use Rattle.fr_way.proofs.Names.{named_lives}
use Rattle.fr_way.proofs.Turn.{lives, lived, stands, watches, between, result_between, lives_on, to_new, kind_on, inputs_on, era_on, result_on, members_now, results_now, order_now, named_now}

-- a bound above what a function has below a number
top_below : ℕ → (ℕ → ℕ) → ℕ
top_below zero f = 0
top_below (suc n) f = top_below n f + f n

below_top : (n : ℕ) (f : ℕ → ℕ) (m : ℕ) → m < n → f m ≤ top_below n f
unfolding top_below
below_top zero f m lt = absurd (omega arith)
below_top (suc n) f m lt = elim (by_number m n) [
  | inl e ↦
      let s : f m ≡ f n = ap f e in
      omega arith
  | inr ne ↦
      let h : f m ≤ top_below n f = below_top n f m (omega arith) in
      omega arith
]

module _ (at : Way) (o : HasOrder at.graph) (numbers : ℕ) (few : AreBelow numbers at.graph) (read : (m j : ℕ) → at.graph.live m ≡ true → Reads j (at.graph.inputs m) → at.graph.live j ≡ true)
    (owned : (m w : ℕ) → at.graph.live m ≡ true → at.graph.era m ≡ suc w → at.graph.live w ≡ true)
    (shown : (w : ℕ) → at.graph.live w ≡ true → is_watch (at.graph.kind w) ≡ true → at.graph.live (at.graph.result_of w) ≡ true) (dead : DeadAreLevelled at) where
  top : ℕ
  top = top_below numbers o.rank

  rank_by : Bool → ℕ → ℕ
  rank_by true m = o.rank m
  rank_by false m = suc (top + at.height m)

  rank_all : ℕ → ℕ
  rank_all m = rank_by (at.graph.live m) m

  live_rank : (m : ℕ) → at.graph.live m ≡ true → rank_all m ≡ o.rank m
  unfolding rank_all rank_by
  live_rank m lv = ap (λ (b : Bool). rank_by b m) lv

  dead_rank : (m : ℕ) → at.graph.live m ≡ false → rank_all m ≡ suc (top + at.height m)
  unfolding rank_all rank_by
  dead_rank m off = ap (λ (b : Bool). rank_by b m) off

  low : (a : ℕ) → at.graph.live a ≡ true → o.rank a ≤ top
  unfolding top
  low a la = below_top numbers o.rank a (few a la)

  both_live : (a b : ℕ) → at.graph.live a ≡ true → at.graph.live b ≡ true → o.rank a < o.rank b → rank_all a < rank_all b
  both_live a b la lb lt =
      let ea : rank_all a ≡ o.rank a = live_rank a la in
      let eb : rank_all b ≡ o.rank b = live_rank b lb in
      omega arith

  dead_reads : (a b : ℕ) → at.taken b ≡ true → at.graph.live b ≡ false → Reads a (at.graph.inputs b) → rank_all a < rank_all b
  dead_reads a b use_b off rd =
      let eb : rank_all b ≡ suc (top + at.height b) = dead_rank b off in
      elim (bool_case (at.graph.live a)) [
        | inl la ↦
            let ea : rank_all a ≡ o.rank a = live_rank a la in
            let le : o.rank a ≤ top = low a la in
            omega arith
        | inr na ↦
            let ea : rank_all a ≡ suc (top + at.height a) = dead_rank a na in
            let lt : at.height a < at.height b = (dead b a use_b off rd).1 in
            omega arith
      ]

  -- THE ORDER. Ranks rise from what is read, owns or is watched to what stands above it.
  pub ordered : IsOrdered at
  ordered = record {
    rank = rank_all;
    rises = λ a b over. elim over [
      | inl rd ↦ elim (bool_case (at.graph.live b)) [
        | inl lb ↦ both_live a b (read b a lb rd.1) lb (o.input b a lb rd.1)
        | inr off ↦ dead_reads a b rd.0 off rd.1
      ]
      | inr more ↦ elim more [
        | inl own ↦ both_live a b (owned b a own.0 own.1) own.0 (o.owner b a own.0 own.1)
        | inr s ↦ subst (λ (i : ℕ). rank_all a < rank_all i) (sym s.2) (both_live a (at.graph.result_of a) s.0 (shown a s.0 s.1) (o.before_result a a s.0 s.0 s.1 (inl refl)))
      ]
    ];
  }

reads_one : (a j : ℕ) (ps : List Part) → ps ≡ signal j ∷ [] → Reads a ps → j ≡ a
reads_one a j ps e rd = elim (subst (Reads a) e rd) [ inl same ↦ same | inr none ↦ absurd none ]

reads_none : (a : ℕ) (v : Seen) (ps : List Part) → ps ≡ steady v ∷ [] → Reads a ps → ⊥
reads_none a v ps e rd = subst (Reads a) e rd

-- where one node reads one signal, only what stands above that signal may stand too low
pub levelled_but_from : (at : Way) (r j : ℕ) → AreLevelledBut at r → at.graph.inputs r ≡ signal j ∷ [] → (a b : ℕ) → IsOver at a b → a ≢ j → at.height a < at.height b
levelled_but_from at r j levelled e a b over ne = elim (by_number b r) [
  | inl same ↦ levelled a b over (inr (λ rd. ne (sym (reads_one a j (at.graph.inputs b) (ap at.graph.inputs same ∙ e) rd))))
  | inr other ↦ levelled a b over (inl other)
]

-- where it reads a value, nothing does
pub levelled_all : (at : Way) (r : ℕ) (v : Seen) → AreLevelledBut at r → at.graph.inputs r ≡ steady v ∷ [] → (a b : ℕ) → IsOver at a b → at.height a < at.height b
levelled_all at r v levelled e a b over = elim (by_number b r) [
  | inl same ↦ levelled a b over (inr (reads_none a v (at.graph.inputs b) (ap at.graph.inputs same ∙ e)))
  | inr other ↦ levelled a b over (inl other)
]

-- and what stands too low stands above each height that the node stands above
pub too_low_is_above : (at : Way) (r j h : ℕ) → AreLevelledBut at r → h < at.height r → (b : ℕ) → IsOver at j b → at.height b ≤ at.height j → h < at.height b
too_low_is_above at r j h levelled above b over low = elim (by_number b r) [
  | inl same ↦ subst (λ (i : ℕ). h < at.height i) (sym same) above
  | inr other ↦
      let lt : at.height j < at.height b = levelled j b over (inl other) in
      absurd (omega arith)
]

-- heights that lead upwards along every edge are raised
pub raises_by : (at new : Way) (h : ℕ) → new.graph ≡ at.graph → ((m : ℕ) → new.taken m ≡ at.taken m) → ((m : ℕ) → new.done m ≡ at.done m) → ((m : ℕ) → at.graph.live m ≡ true → at.taken m ≡ true)
    → ((a b : ℕ) → IsOver at a b → new.height a < new.height b) → ((m : ℕ) → at.height m ≤ new.height m) → ((m : ℕ) → at.height m ≤ h → new.height m ≡ at.height m)
    → ((m : ℕ) → new.queued m ≡ option_map (λ k. new.height m) (at.queued m)) → Raises at new h
raises_by at new h graph taken done in_use over no_lower low queue = record {
  graph = graph;
  taken = taken;
  done = done;
  input = λ m j lv rd. over j m (inl (in_use m lv, rd));
  owner = λ m w lv er. over w m (inr (inl (lv, er)));
  result = λ w lv iw. over w (at.graph.result_of w) (inr (inr (lv, iw, refl)));
  dead = λ m j use_m off rd. over j m (inl (use_m, rd));
  no_lower = no_lower;
  low = low;
  queue = queue;
}

module _ (p : Plan) (is : List LowItem) (ms : List ℕ) (sources : List Now) (old : Graph) (at t1 t2 t3 t4 : Way) (w : ℕ) (u : UnderWay p is ms sources old at) (t : Replaces p sources old at t1 t2 t3 t4 w)
    (dead : DeadAreLevelled at) where
  abbrev g : Graph
  g = at.graph

  abbrev n : Graph
  n = t4.graph

  abbrev r : ℕ
  r = g.result_of w

  whence : (m : ℕ) → n.live m ≡ true → (t2.graph.live m ≡ true) ⊎ IsNew g n m
  whence m nl = elim (bool_case (g.live m)) [
    | inl lv ↦ inl (between p is ms sources old at t1 t2 t3 t4 w u t m lv nl)
    | inr off ↦ inr (off, nl)
  ]

  was_live : (m : ℕ) → t2.graph.live m ≡ true → g.live m ≡ true
  was_live m l2 = lived p is ms sources old at t1 t2 t3 t4 w u t m l2

  -- the height of a node that was in use is as it was
  height_used : (m : ℕ) → at.taken m ≡ true → t4.height m ≡ at.height m
  height_used m use_m = t.rewires.heights m ∙ t.grows.heights m (t.kills.taken m ∙ t.sets.taken m ∙ use_m) ∙ t.kills.heights m ∙ t.sets.heights m

  used : (m : ℕ) → g.live m ≡ true → at.taken m ≡ true
  used m lv = u.nodes.taken m (inl lv)

  same_heights : (a b : ℕ) → at.taken a ≡ true → at.taken b ≡ true → at.height a < at.height b → t4.height a < t4.height b
  same_heights a b ua ub lt =
      let ea : t4.height a ≡ at.height a = height_used a ua in
      let eb : t4.height b ≡ at.height b = height_used b ub in
      omega arith

  -- what awaits burial read only what is in use and below it before
  dead_before : (m j : ℕ) → at.taken m ≡ true → Reads j (g.inputs m) → (at.taken j ≡ true) × (at.height j < at.height m)
  dead_before m j use_m rd = elim (bool_case (g.live m)) [
    | inl lv ↦ (used j (named_lives g at.height u.frame m j lv (inl rd)), u.frame.levelled.input m j lv rd)
    | inr off ↦ dead m j use_m off rd
  ]

  -- a node that doesn't live now, and is in use, was in use
  was_used : (m : ℕ) → t4.taken m ≡ true → n.live m ≡ false → at.taken m ≡ true
  was_used m use_m off = elim (t.grows.no_more m (sym (t.rewires.taken m) ∙ use_m)) [
    | inl use_2 ↦ sym (t.sets.taken m) ∙ sym (t.kills.taken m) ∙ use_2
    | inr lv ↦ both_bools (n.live m) (t.rewires.live m ∙ lv) off
  ]

  result_apart : (m : ℕ) → n.live m ≡ false → m ≢ r
  result_apart m off e = both_bools (n.live m) (ap n.live e ∙ lives_on p is ms sources old at t1 t2 t3 t4 w u t r (result_between p is ms sources old at t1 t2 t3 t4 w u t)) off

  used_inputs : (m : ℕ) → m ≢ r → at.taken m ≡ true → n.inputs m ≡ g.inputs m
  used_inputs m ne use_m = t.rewires.inputs m ne ∙ (t.grows.same m (t.kills.taken m ∙ t.sets.taken m ∙ use_m)).inputs ∙ (t.kills.same m).inputs ∙ t.sets.shape.inputs m

  -- what awaits burial stands above what it reads, also what ended now
  pub dead_on : DeadAreLevelled t4
  dead_on m j use_m off rd =
      let use_at = was_used m use_m off in
      let before = dead_before m j use_at (subst (Reads j) (used_inputs m (result_apart m off) use_at) rd) in
      (t.rewires.taken j ∙ t.grows.taken j (inl (t.kills.taken j ∙ t.sets.taken j ∙ before.0)), same_heights j m before.0 use_at before.1)

  new_over : (m : ℕ) → IsNew g n m → t4.height w < t4.height m
  new_over m new =
      let above : t.height < t3.height m = (t.grows.born m (to_new p is ms sources old at t1 t2 t3 t4 w u t m new)).above in
      let same : t4.height m ≡ t3.height m = t.rewires.heights m in
      let here : t4.height w ≡ at.height w = height_used w (used w (lives p is ms sources old at t1 t2 t3 t4 w u t)) in
      let st : t.height ≡ at.height w = stands p is ms sources old at t1 t2 t3 t4 w u t in
      omega arith

  -- heights as they were built
  built_heights : (a b : ℕ) → t3.height a < t3.height b → t4.height a < t4.height b
  built_heights a b lt =
      let ea : t4.height a ≡ t3.height a = t.rewires.heights a in
      let eb : t4.height b ≡ t3.height b = t.rewires.heights b in
      omega arith

  read_below : (a b : ℕ) → b ≢ r → t4.taken b ≡ true → Reads a (n.inputs b) → t4.height a < t4.height b
  read_below a b ne use_b rd = elim (bool_case (n.live b)) [
    | inr off ↦ (dead_on b a use_b off rd).1
    | inl nl ↦ elim (whence b nl) [
      | inr new ↦
          let now = to_new p is ms sources old at t1 t2 t3 t4 w u t b new in
          built_heights a b (t.grows.levelled b a now (subst (Reads a) (t.rewires.inputs b ne) rd))
      | inl l2 ↦
          let lv = was_live b l2 in
          let was : Reads a (g.inputs b) = subst (Reads a) (inputs_on p is ms sources old at t1 t2 t3 t4 w u t b l2 ne) rd in
          same_heights a b (used a (named_lives g at.height u.frame b a lv (inl was))) (used b lv) (u.frame.levelled.input b a lv was)
    ]
  ]

  owned_below : (a b : ℕ) → n.live b ≡ true → n.era b ≡ suc a → t4.height a < t4.height b
  owned_below a b nl er = elim (whence b nl) [
    | inr new ↦
        let e : w ≡ a = suc_same w a (sym (t.rewires.era b ∙ t.grows.built.era b (to_new p is ms sources old at t1 t2 t3 t4 w u t b new)) ∙ er) in
        subst (λ (i : ℕ). t4.height i < t4.height b) e (new_over b new)
    | inl l2 ↦
        let lv = was_live b l2 in
        let was : g.era b ≡ suc a = sym (era_on p is ms sources old at t1 t2 t3 t4 w u t b l2) ∙ er in
        same_heights a b (used a (u.frame.members.owner b a lv was).0) (used b lv) (u.frame.levelled.owner b a lv was)
  ]

  shown_over : (a : ℕ) → n.live a ≡ true → is_watch (n.kind a) ≡ true → t4.height a < t4.height (n.result_of a)
  shown_over a nl iw = elim (whence a nl) [
    | inr new ↦
        let now = to_new p is ms sources old at t1 t2 t3 t4 w u t a new in
        subst (λ (i : ℕ). t4.height a < t4.height i) (sym (t.rewires.result_of a)) (built_heights a (t3.graph.result_of a) (t.grows.result_over a now (ap is_watch (sym (t.rewires.kind a)) ∙ iw)))
    | inl l2 ↦
        let lv = was_live a l2 in
        let was : is_watch (g.kind a) ≡ true = ap is_watch (sym (kind_on p is ms sources old at t1 t2 t3 t4 w u t a l2)) ∙ iw in
        subst (λ (i : ℕ). t4.height a < t4.height i) (sym (result_on p is ms sources old at t1 t2 t3 t4 w u t a l2 was))
        (same_heights a (g.result_of a) (used a lv) (used (g.result_of a) (u.frame.results.live a lv was)) (u.frame.levelled.result a lv was))
  ]

  -- BEFORE HEIGHTS ARE RAISED only what the result reads may stand too high
  pub levelled_but : AreLevelledBut t4 r
  levelled_but a b over apart = elim over [
    | inl rd ↦ elim apart [
      | inl ne ↦ read_below a b ne rd.0 rd.1
      | inr none ↦ absurd (none rd.1)
    ]
    | inr more ↦ elim more [
      | inl own ↦ owned_below a b own.0 own.1
      | inr s ↦ subst (λ (i : ℕ). t4.height a < t4.height i) (sym s.2) (shown_over a s.0 s.1)
    ]
  ]

  -- the result stands above the height at which its watch was taken
  pub result_above : t.height < t4.height r
  result_above =
      let lv = lives p is ms sources old at t1 t2 t3 t4 w u t in
      let iw = watches p is ms sources old at t1 t2 t3 t4 w u t in
      let st : t.height ≡ at.height w = stands p is ms sources old at t1 t2 t3 t4 w u t in
      let lt : at.height w < at.height r = u.frame.levelled.result w lv iw in
      let same : t4.height r ≡ at.height r = height_used r (used r (u.frame.results.live w lv iw)) in
      omega arith

  -- and there is an order
  pub turn_ordered : (numbers : ℕ) → AreBelow numbers n → IsOrdered t4
  turn_ordered numbers few =
      ordered t4 (order_now p is ms sources old at t1 t2 t3 t4 w u t) numbers few
      (named_now p is ms sources old at t1 t2 t3 t4 w u t)
      (λ m v lv er. ((members_now p is ms sources old at t1 t2 t3 t4 w u t).owner m v lv er).0)
      (λ v lv iw. (results_now p is ms sources old at t1 t2 t3 t4 w u t).live v lv iw)
      dead_on

  module _ (t5 new : Way) (raises : Raises t4 t5 t.height) (queues : Queues t5 new r) where
    -- and so it does in the end
    dead_raised : DeadAreLevelled new
    dead_raised m j use_m off rd =
        let same : new.graph ≡ n = queues.graph ∙ raises.graph in
        let use_4 : t4.taken m ≡ true = sym (queues.taken m ∙ raises.taken m) ∙ use_m in
        let off_4 : n.live m ≡ false = ap (λ (h : Graph). h.live m) (sym same) ∙ off in
        let rd_4 : Reads j (n.inputs m) = subst (λ (h : Graph). Reads j (h.inputs m)) same rd in
        let ej : new.height j ≡ t5.height j = queues.heights j in
        let em : new.height m ≡ t5.height m = queues.heights m in
        let lt : t5.height j < t5.height m = raises.dead m j use_4 off_4 rd_4 in
        (queues.taken j ∙ raises.taken j ∙ (dead_on m j use_4 off_4 rd_4).0, omega arith)

pub turn_dead : (p : Plan) (is : List LowItem) (ms : List ℕ) (sources : List Now) (old : Graph) (at t1 t2 t3 t4 t5 new : Way) (w : ℕ)
    → UnderWay p is ms sources old at → Turns p sources old at t1 t2 t3 t4 t5 new w → DeadAreLevelled at → DeadAreLevelled new
turn_dead p is ms sources old at t1 t2 t3 t4 t5 new w u t dead = dead_raised p is ms sources old at t1 t2 t3 t4 w u t.replaces dead t5 new t.raises t.queues

-- a node that is computed leaves what awaits burial as it is
pub computed_dead : (p : Plan) (sources : List Now) (old : Graph) (at new : Way) (m : ℕ) → Computes p sources old at new m → DeadAreLevelled at → DeadAreLevelled new
computed_dead p sources old at new m c dead i j use_i off rd =
    let was = dead i j (sym (c.taken i) ∙ use_i) (sym (c.shape.live i) ∙ off) (subst (Reads j) (c.shape.inputs i) rd) in
    let ei : new.height i ≡ at.height i = c.heights i in
    let ej : new.height j ≡ at.height j = c.heights j in
    let lt : at.height j < at.height i = was.1 in
    (c.taken j ∙ was.0, omega arith)
