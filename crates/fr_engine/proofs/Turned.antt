-- The steps of a turning, each by what is known behind the one before.
use Rattle.std.proofs.Common.{◌≡◌, ℕ, suc, ◌-◌, ◌<◌, ◌≤◌, Bool, true, false, if◌then◌else◌, List, [], ◌∷◌, Option, None, Some, Result, Ok, refl, ap, sym, ◌∙◌, subst, arith}
use Rattle.std.specs.Option.{option_map}
use Rattle.fr_value.specs.declared.ids.NodeId.{NodeId}
use Rattle.fr_value.specs.declared.ids.SiteId.{SiteId}
use Rattle.fr_value.specs.declared.now.Held.{Held}
use Rattle.fr_value.specs.declared.now.Now.{Now}
use Rattle.fr_value.specs.declared.now.Bad.{Bad}
use Rattle.fr_core.specs.declared.lowered.Low.{Low}
use Rattle.fr_meaning.specs.Words.{Seen, test_of}
use Rattle.fr_meaning.specs.Cells.{Cell}
use Rattle.fr_meaning.specs.Evaluation.{most_levels}
use Rattle.fr_store.specs.declared.node.Node.{Node}
use Rattle.fr_store.specs.declared.node.NodeKind.{NodeKind}
use Rattle.fr_store.specs.declared.node.NodeKind.TheVariants as node
use Rattle.fr_store.specs.Nodes.{is_watch as is_stored_watch, most_nodes}
use Rattle.fr_graph.specs.Graph.{Part, steady, signal, Kind, watch, Graph, part_value}
use Rattle.fr_graph.specs.Walk.{Plan, place}
use Rattle.fr_graph.specs.Known.{Reads, Rule, IsWatched}
use Rattle.fr_graph.specs.Front.{Errs, ChoiceErrs}
use Rattle.fr_way.specs.Frame.{Inside, is_source, is_watch}
use Rattle.fr_way.specs.Fronts.{ErrsAt, stands_below}
use Rattle.fr_way.specs.Order.{AreBelow}
use Rattle.fr_way.specs.Steps.{SameShape}
use Rattle.fr_way.specs.Way.{Way, cell_in}
use Rattle.fr_way.specs.Turns.{IsSet, Kills, Leaves, Grows, Rewires, Queues, Rechooses, chosen_part, Replaces}
use Rattle.fr_way.proofs.Names.{inside_same}
use Rattle.fr_way.proofs.Middle.{ends_not_computed, left_clear, source_left, part_lives, result_lives}
use Rattle.fr_way.proofs.Turn.{results_now}
use Rattle.fr_way.proofs.TurnOrder.{levelled_but, turn_ordered, result_above, levelled_all, too_low_is_above, raises_by}
use Rattle.fr_nodes.specs.Kinds.{Sites, kind_of, parts_of}
use Rattle.fr_nodes.specs.Signals.{IsNodeOf, IsSound, Writes, RaisesFrom}
use Rattle.fr_engine.proofs.Comes.{value_on}
use Rattle.fr_engine.specs.declared.stops.RunStop.{RunStop}
use Rattle.fr_engine.specs.declared.stops.RunStop.TheVariants as stop
use Rattle.fr_engine.specs.Stops.{StopsWhere}
use Rattle.fr_engine.specs.Choices.{Buildable, Chooses, ChoiceFails}
use Rattle.fr_engine.specs.Moment.{Moment}
use Rattle.fr_engine.specs.Turning.{CanTurn, CanRenew, Renews, FailsToRenew, CanRaise, CanLead, Leads, HasTurned}

-- all choices at sites show the same but for kinds
pub live_at : (way : Sites → Way) → IsSound way → (a b : Sites) (m : ℕ) → (way a).graph.live m ≡ true → (way b).graph.live m ≡ true
live_at way sound a b m lv = (sound.alike a b).live m ∙ lv

pub inside_at : (way : Sites → Way) → IsSound way → (a b : Sites) (x m : ℕ) → Inside (way a).graph x m → Inside (way b).graph x m
inside_at way sound a b x m i = inside_same (way a).graph (way b).graph x m ((sound.alike a b).live) ((sound.alike a b).era) i

pub earlier_at : (way : Sites → Way) → IsSound way → (a b : Sites) (x : ℕ) → ((m : ℕ) → Inside (way a).graph x m → (way a).done m ≡ false) → (m : ℕ) → Inside (way b).graph x m → (way b).done m ≡ false
earlier_at way sound a b x earlier m i = (sound.alike a b).done m ∙ earlier m (inside_at way sound b a x m i)

-- THE NODE OF A WATCH
pub stored_watch : (s : Sites) (m : ℕ) (k : NodeKind) → is_watch (kind_of s m k) ≡ true → is_stored_watch k ≡ true
stored_watch s m node.Now e = absurd cc
stored_watch s m node.Input e = absurd cc
stored_watch s m node.Event e = absurd cc
stored_watch s m (node.Kernel c) e = absurd cc
stored_watch s m (node.IfWatch site held) e = refl
stored_watch s m node.Result e = absurd cc
stored_watch s m (node.MapE id) e = absurd cc
stored_watch s m (node.FilterE id) e = absurd cc
stored_watch s m node.MergeE e = absurd cc
stored_watch s m node.Hold e = absurd cc
stored_watch s m (node.CollectB id) e = absurd cc
stored_watch s m (node.CollectE id) e = absurd cc
stored_watch s m node.Changes e = absurd cc
stored_watch s m node.OnceE e = absurd cc
stored_watch s m node.Delay e = absurd cc
stored_watch s m node.DelayE e = absurd cc
stored_watch s m node.Feedback e = absurd cc

pub node_watch : (s : Sites) (at : Way) (w : ℕ) (n : Node) → IsNodeOf s at w n → is_watch (at.graph.kind w) ≡ true → is_stored_watch n.kind ≡ true
node_watch s at w n is e = stored_watch s w n.kind (ap is_watch (sym is.kind) ∙ e)

pub watch_kind : (s : Sites) (at : Way) (w : ℕ) (n : Node) (site : SiteId) (held : List Held) → IsNodeOf s at w n → n.kind ≡ node.IfWatch site held
    → at.graph.kind w ≡ watch (s site.0).yes (s site.0).no (parts_of held)
watch_kind s at w n site held is e = is.kind ∙ ap (kind_of s w) e

pub node_level : (s : Sites) (at : Way) (w : ℕ) (n : Node) (nest : ℕ) → IsNodeOf s at w n → nest ≡ n.nest → at.graph.level w ≡ most_levels - nest
node_level s at w n nest is e = is.level ∙ ap (λ (k : ℕ). most_levels - k) (sym e)

pub node_nest : (s : Sites) (at : Way) (w : ℕ) (n : Node) (nest : ℕ) → IsNodeOf s at w n → nest ≡ n.nest → nest ≤ most_levels
node_nest s at w n nest is e = subst (λ (k : ℕ). k ≤ most_levels) (sym e) is.nest

-- THE ERA IS ENDED AND BUILT ANEW
pub renewed : (can : Buildable) (p : Plan) (s : Sites) (at next new : Way) (w : ℕ) (n : Node) (site : SiteId) (held : List Held) (nest : ℕ) (holds : Bool) (part : Part) (listed more : List NodeId)
    → IsNodeOf s at w n → n.kind ≡ node.IfWatch site held → nest ≡ n.nest → Kills at next (suc w)
    → Chooses can p next new w (most_levels - nest) (if holds then (s site.0).yes else (s site.0).no) (parts_of held) part listed more → Renews can p at new w holds part listed more
renewed can p s at next new w n site held nest holds part listed more is e ne kills choice = record {
  between = next;
  kills = kills;
  when_true = (s site.0).yes;
  when_false = (s site.0).no;
  scope = parts_of held;
  kind = watch_kind s at w n site held is e;
  choice = subst (λ (k : ℕ). Chooses can p next new w k (if holds then (s site.0).yes else (s site.0).no) (parts_of held) part listed more) (sym (node_level s at w n nest is ne)) choice;
}

pub failed : (p : Plan) (s : Sites) (at : Way) (w : ℕ) (n : Node) (site : SiteId) (held : List Held) (nest : ℕ) (holds : Bool)
    → IsNodeOf s at w n → n.kind ≡ node.IfWatch site held → nest ≡ n.nest
    → ChoiceFails p (most_levels - nest) (if holds then (s site.0).yes else (s site.0).no) (parts_of held) → FailsToRenew p at.graph w holds
failed p s at w n site held nest holds is e ne fails = record {
  when_true = (s site.0).yes;
  when_false = (s site.0).no;
  scope = parts_of held;
  kind = watch_kind s at w n site held is e;
  fails = subst (λ (k : ℕ). ChoiceFails p k (if holds then (s site.0).yes else (s site.0).no) (parts_of held)) (sym (node_level s at w n nest is ne)) fails;
}

-- THE RESULT IS REWIRED AND HEIGHTS ARE RAISED
at_height : (o : Option ℕ) (h : ℕ) → ((k : ℕ) → o ≡ Some k → k ≡ h) → o ≡ option_map (λ (k : ℕ). h) o
at_height None h f = refl
at_height (Some k) h f = ap Some (f k refl)

pub lead_steady : (h : ℕ) (at new : Way) (r : ℕ) (q : Part) (v : Seen) → q ≡ steady v → CanLead h at r q → Rewires at new r (steady v) → Leads h at new r q
lead_steady h at new r q v e can rw =
    let rewires : Rewires at new r q = subst (Rewires at new r) (sym e) rw in
    let c = can.raise new rewires in
    record {
      between = new;
      rewires = rewires;
      raises = raises_by new new h refl (λ m. refl) (λ m. refl) c.taken (levelled_all new r v c.levelled rw.here) (λ m. omega arith) (λ m le. refl) (λ m. at_height (new.queued m) (new.height m) (c.queue m));
    }

pub lead_signal : (h : ℕ) (at between new : Way) (r : ℕ) (q : Part) (j : ℕ) → q ≡ signal j → CanLead h at r q → Rewires at between r (signal j) → RaisesFrom between new j → Leads h at new r q
lead_signal h at between new r q j e can rw rf =
    let rewires : Rewires at between r q = subst (Rewires at between r) (sym e) rw in
    let c = can.raise between rewires in
    record {
      between = between;
      rewires = rewires;
      raises = raises_by between new h rf.graph rf.taken rf.done c.taken rf.levelled rf.no_lower (rf.low h (too_low_is_above between r j h c.levelled c.above)) rf.queue;
    }

pub raise_results : (h : ℕ) (at between : Way) (r : ℕ) (q : Part) (j : ℕ) → q ≡ signal j → CanLead h at r q → Rewires at between r (signal j) → CanRaise h between r
raise_results h at between r q j e can rw = can.raise between (subst (Rewires at between r) (sym e) rw)

pub signal_there : (h : ℕ) (at : Way) (r : ℕ) (q : Part) (j : ℕ) → q ≡ signal j → CanLead h at r q → (i : ℕ) → Reads i (signal j ∷ []) → at.graph.live i ≡ true
signal_there h at r q j e can i rd = can.there i (subst (λ (o : Part). Reads i (o ∷ [])) (sym e) rd)

pub led_lives : (h : ℕ) (at new : Way) (r : ℕ) (q : Part) → CanLead h at r q → Leads h at new r q → new.graph.live r ≡ true
led_lives h at new r q can leads = ap (λ (k : Graph). k.live r) leads.raises.graph ∙ leads.rewires.live r ∙ can.live

-- what soundness tells of a graph, whatever the choices at sites
pub few_of : (way : Sites → Way) → IsSound way → (s : Sites) → AreBelow most_nodes (way s).graph
few_of way sound s m lv = sound.small s m (sound.taken s m lv)

pub queue_of : (way : Sites → Way) → IsSound way → (s : Sites) (m k : ℕ) → (way s).queued m ≡ Some k → k ≡ (way s).height m
queue_of way sound s m k e = (sound.queued s m k e).1

pub lives_taken : (can : Buildable) (p : Plan) (many : ℕ) (sources : List Now) (t : Moment) (at taken : Way) (w : ℕ) (value : Now) (cell : Option Cell) (holds : Bool)
    → CanTurn can p many sources t at taken w value cell holds → taken.graph.live w ≡ true
lives_taken can p many sources t at taken w value cell holds c = ap (λ (k : Graph). k.live w) c.takes.same.graph ∙ (c.under.nodes.queue w c.takes.height c.takes.least.was).0

same_ok : (a b : Bool) → Path (Result Bool Bad) (Ok a) (Ok b) → a ≡ b
same_ok a b e = cc

-- A WATCH TURNS
module _ (can : Buildable) (p : Plan) (many : ℕ) (sources : List Now) (t : Moment) (at taken t1 : Way) (w : ℕ) (value : Now) (cell : Option Cell) (holds : Bool)
    (c : CanTurn can p many sources t at taken w value cell holds) (writes : Writes taken t1 w value cell) where
  abbrev g : Graph
  g = at.graph

  abbrev h : ℕ
  h = c.takes.height

  abbrev same : taken.graph ≡ g
  same = c.takes.same.graph

  pub lives_first : g.live w ≡ true
  lives_first = (c.under.nodes.queue w h c.takes.least.was).0

  stands : h ≡ at.height w
  stands = (c.under.nodes.queue w h c.takes.least.was).1

  shape : SameShape g t1.graph
  shape = subst (λ (k : Graph). SameShape k t1.graph) same writes.shape

  sets : IsSet at t1 w
  sets = record {
    shape = shape;
    value = λ j ne. writes.value j ne ∙ ap (λ (k : Graph). k.value j) same;
    cell = λ j ne. writes.cell j ne ∙ ap (λ (k : Graph). k.cell j) same;
    taken = λ j. writes.taken j ∙ c.takes.same.taken j;
    heights = λ j. writes.heights j ∙ c.takes.same.heights j;
    done = writes.done_here;
    others = λ j ne. writes.done j ne ∙ c.takes.same.done j;
    out = writes.queue w ∙ c.takes.out;
    queue = λ j ne. writes.queue j ∙ c.takes.queue j ne;
  }

  leaves : (t2 : Way) → Kills t1 t2 (suc w) → Leaves at t1 t2 w h
  leaves t2 kills = record { least = c.takes.least; watches = c.watches; sets = sets; kills = kills }

  pub can_renew : CanRenew can many t1 w
  can_renew = record {
    live = shape.live w ∙ lives_first;
    watches = ap is_watch (shape.kind w) ∙ c.watches;
    computed = writes.done_here;
    earlier = ends_not_computed p t.items t.members sources t.old at t1 w h c.under c.takes.least sets;
    clear = λ t2 kills a b env k. left_clear p t.items t.members sources t.old at t1 t2 w h c.under (leaves t2 kills) a b env (sym (shape.kind w) ∙ k);
    fed = λ t2 kills s lt.
        let was = c.fed s lt in (
          source_left p t.items t.members sources t.old at t1 t2 w h c.under (leaves t2 kills) s was.0 (ap is_source was.1),
          (kills.same s).kind ∙ shape.kind s ∙ was.1,
        );
    fits = λ a b env k. c.fit.fits w a b env lives_first (sym (shape.kind w) ∙ k);
  }

  pub result_same : t1.graph.result_of w ≡ g.result_of w
  result_same = shape.result_of w

  pub result_there : t1.graph.live (t1.graph.result_of w) ≡ true
  result_there = shape.live (t1.graph.result_of w) ∙ ap g.live result_same ∙ c.under.frame.results.live w lives_first c.watches

  -- where the building of the choice fails, the watch errs
  reads_itself : Reads w (g.inputs w) → ⊥
  reads_itself rd =
      let lt : at.height w < at.height w = c.under.frame.levelled.input w w lives_first rd in
      absurd (omega arith)

  pub choice_errs : FailsToRenew p t1.graph w holds → ErrsAt at h p t.old w
  choice_errs f =
      let test = c.fit.tests w lives_first c.watches in
      let kind : g.kind w ≡ watch f.when_true f.when_false f.scope = sym (shape.kind w) ∙ f.kind in
      let rule : IsWatched t1.graph w test.0
      = subst (λ (i : List Part). Rule t1.graph p.table sources (cell_in t.old) w (watch f.when_true f.when_false f.scope) i) (shape.inputs w ∙ test.1)
      (subst (λ (k : Kind). Rule t1.graph p.table sources (cell_in t.old) w k (t1.graph.inputs w)) f.kind (c.obeys t1 writes)) in
      let apart : Reads w (test.0 ∷ []) → ⊥ = λ rd. reads_itself (subst (Reads w) (sym test.1) rd) in
      let read : part_value t1.graph test.0 ≡ part_value g test.0 = value_on g t1.graph w sets.value test.0 apart in
      let told : test_of (t1.graph.value w) ≡ Ok holds = ap test_of writes.value_here ∙ c.told in
      let fails : ChoiceFails p (g.level w) (if holds then f.when_true else f.when_false) f.scope
      = subst (λ (n : ℕ). ChoiceFails p n (if holds then f.when_true else f.when_false) f.scope) (shape.level w) f.fails in
      let errs : ChoiceErrs p (g.level w) f.when_true f.when_false f.scope (part_value g test.0)
      = λ key e. subst (λ (x : Bool). ChoiceFails p (g.level w) (if x then f.when_true else f.when_false) f.scope)
      (same_ok holds key (sym told ∙ rule.value ∙ sym rule.test ∙ ap test_of read ∙ e)) fails in
      subst (λ (k : Kind). Errs g (λ n. stands_below at h n ≡ true) p (cell_in t.old) w k (g.inputs w)) (sym kind)
      (subst (λ (i : List Part). Errs g (λ n. stands_below at h n ≡ true) p (cell_in t.old) w (watch f.when_true f.when_false f.scope) i) (sym test.1) errs)

  module _ (t3 : Way) (part : Part) (listed more : List NodeId) (r : Renews can p t1 t3 w holds part listed more) where
    abbrev chosen : Low
    chosen = if holds then r.when_true else r.when_false

    height_between : r.between.height w ≡ h
    height_between = r.kills.heights w ∙ sets.heights w ∙ sym stands

    grown : Grows r.between t3 p (suc w) h (g.level w) chosen r.scope
    grown = subst (λ (k : ℕ). Grows r.between t3 p (suc w) k (g.level w) chosen r.scope) height_between
        (subst (λ (k : ℕ). Grows r.between t3 p (suc w) (r.between.height w) k chosen r.scope) (shape.level w) r.choice.grows)

    abbrev rechosen : Rechooses p sources t.old at t1 r.between t3 w
    rechosen = record {
      height = h;
      least = c.takes.least;
      when_true = r.when_true;
      when_false = r.when_false;
      scope = r.scope;
      kind = sym (shape.kind w) ∙ r.kind;
      holds = holds;
      told = ap test_of writes.value_here ∙ c.told;
      rule = c.obeys t1 writes;
      other_key = λ lv e. c.other_key lv (ap test_of (sym writes.value_here) ∙ e);
      sets = sets;
      kills = r.kills;
      grows = grown;
    }

    stands_for : chosen_part p sources t.old at t1 r.between t3 w rechosen ≡ part
    stands_for = ap (λ (k : ℕ). (place p k chosen r.scope (t3.graph.members (suc w))).part) (sym (shape.level w)) ∙ r.choice.stands_for

    rewired : (t4 : Way) → Rewires t3 t4 (g.result_of w) part → Rewires t3 t4 (g.result_of w) (chosen_part p sources t.old at t1 r.between t3 w rechosen)
    rewired t4 rw = subst (Rewires t3 t4 (g.result_of w)) (sym stands_for) rw

    abbrev replaces : (t4 : Way) → Rewires t3 t4 (g.result_of w) part → Replaces p sources t.old at t1 r.between t3 t4 w
    replaces t4 rw = record {
      height = h;
      least = c.takes.least;
      when_true = r.when_true;
      when_false = r.when_false;
      scope = r.scope;
      kind = sym (shape.kind w) ∙ r.kind;
      holds = holds;
      told = ap test_of writes.value_here ∙ c.told;
      rule = c.obeys t1 writes;
      other_key = λ lv e. c.other_key lv (ap test_of (sym writes.value_here) ∙ e);
      sets = sets;
      kills = r.kills;
      grows = grown;
      rewires = rewired t4 rw;
    }

    pub can_lead : (numbers : ℕ) → AreBelow numbers t3.graph → ((m : ℕ) → t3.graph.live m ≡ true → t3.taken m ≡ true) → ((m k : ℕ) → t3.queued m ≡ Some k → k ≡ t3.height m)
        → CanLead h t3 (g.result_of w) part
    can_lead numbers few in_use queue = record {
      live = result_lives p t.items t.members sources t.old at t1 r.between t3 w c.under rechosen;
      there = λ j rd. part_lives p t.items t.members sources t.old at t1 r.between t3 w c.under rechosen j (subst (λ (q : Part). Reads j (q ∷ [])) (sym stands_for) rd);
      raise = λ t4 rw.
          let s = replaces t4 rw in
          record {
            results = (results_now p t.items t.members sources t.old at t1 r.between t3 t4 w c.under s).live;
            levelled = levelled_but p t.items t.members sources t.old at t1 r.between t3 t4 w c.under s c.dead;
            ordered = turn_ordered p t.items t.members sources t.old at t1 r.between t3 t4 w c.under s c.dead numbers (λ m lv. few m (sym (rw.live m) ∙ lv));
            above = result_above p t.items t.members sources t.old at t1 r.between t3 t4 w c.under s c.dead;
            taken = λ m lv. rw.taken m ∙ in_use m (sym (rw.live m) ∙ lv);
            queue = λ m k e. queue m k (sym (rw.queue m) ∙ e) ∙ sym (rw.heights m);
          };
    }

    -- so it is with the result by its number
    pub lead_at : (id : ℕ) → t1.graph.result_of w ≡ id → (numbers : ℕ) → AreBelow numbers t3.graph → ((m : ℕ) → t3.graph.live m ≡ true → t3.taken m ≡ true) → ((m k : ℕ) → t3.queued m ≡ Some k → k ≡ t3.height m)
        → CanLead h t3 id part
    lead_at id e numbers few in_use queue = subst (λ (i : ℕ). CanLead h t3 i part) (sym result_same ∙ e) (can_lead numbers few in_use queue)

    has_turned : (t5 new : Way) → Leads h t3 t5 (g.result_of w) part → Queues t5 new (g.result_of w) → HasTurned can p sources t.old at new w listed more
    has_turned t5 new leads queues = record {
      t1 = t1;
      t2 = r.between;
      t3 = t3;
      t4 = leads.between;
      t5 = t5;
      turns = record { replaces = replaces leads.between leads.rewires; raises = leads.raises; queues = queues };
      level = t1.graph.level w;
      chosen = chosen;
      scope = r.scope;
      part = part;
      choice = r.choice;
    }

    pub turned_by : (id : ℕ) → t1.graph.result_of w ≡ id → (numbers : ℕ) → AreBelow numbers t3.graph → ((m : ℕ) → t3.graph.live m ≡ true → t3.taken m ≡ true) → ((m k : ℕ) → t3.queued m ≡ Some k → k ≡ t3.height m)
        → (t5 new : Way) → ((k : ℕ) → CanLead k t3 id part → Leads k t3 t5 id part) → Queues t5 new id → HasTurned can p sources t.old at new w listed more
    turned_by id e numbers few in_use queue t5 new leads queues =
        let is : id ≡ g.result_of w = sym e ∙ result_same in
        has_turned t5 new (subst (λ (i : ℕ). Leads h t3 t5 i part) is (leads h (lead_at id e numbers few in_use queue))) (subst (Queues t5 new) is queues)

-- building refuses a choice only where its watch errs
pub turn_stops : (can : Buildable) (p : Plan) (many : ℕ) (taken t1 : Way) (w : ℕ) (value : Now) (cell : Option Cell) (holds : Bool) (s : RunStop)
    → Writes taken t1 w value cell → StopsWhere s (FailsToRenew p t1.graph w holds)
    → StopsWhere s ((t : Moment) (sources : List Now) (at : Way) (can_turn : CanTurn can p many sources t at taken w value cell holds) → ErrsAt at can_turn.takes.height p t.old w)
turn_stops can p many taken t1 w value cell holds (stop.Memory e) writes h = h
turn_stops can p many taken t1 w value cell holds (stop.Bad b) writes h = λ t sources at can_turn. choice_errs can p many sources t at taken t1 w value cell holds can_turn writes h
turn_stops can p many taken t1 w value cell holds stop.Fuel writes h = h
turn_stops can p many taken t1 w value cell holds stop.TooMany writes h = h
