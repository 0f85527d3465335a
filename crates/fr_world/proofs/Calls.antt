-- What the calls of an instant ask and give, by whether the world is whole.
use Rattle.std.proofs.Common.{◌≡◌, ◌≢◌, ℕ, suc, ◌+◌, ◌<◌, ◌≤◌, ◌^◌, ◌↔◌, List, [], ◌∷◌, length, inl, inr, Option, Some, None, IfSome, IsTrue, is_some, count_by, Bool, true, false, not, ◌&&◌, nat_eq, slice_get, refl, sym, ap, ◌∙◌, subst, arith}
use Rattle.fr_value.specs.declared.ids.NodeId.{NodeId}
use Rattle.fr_links.specs.Lists.{has_item}
use Rattle.fr_links.proofs.Has.{by_truth, eq_is, eq_self, true_false}
use Rattle.fr_queue.specs.Queue.{IsEmpty, Queued, Same, Takes}
use Rattle.fr_store.specs.declared.node.Node.{Node}
use Rattle.fr_store.specs.Nodes.{AreDependents, Edge, Stored, dependents_at, height_in, node_at, node_in}
use Rattle.fr_eras.specs.Lives.{BeginsEra, Lives, Under, grave, members}
use Rattle.fr_eras.specs.Heights.{AreEarlier, AreLevelledBut, OnlyHeights, QueueFollows, RaisesFrom, RisesAlong, above, height_at, top_height}
use Rattle.fr_eras.specs.Order.{node_of}
use Rattle.fr_eras.specs.Order as order
use Rattle.fr_way.specs.Frame.{Inside, is_watch}
use Rattle.fr_way.specs.Order.{IsOrdered, IsOver}
use Rattle.fr_way.specs.Turns.{Kills, Queues}
use Rattle.fr_nodes.specs.Kinds.{Sites}
use Rattle.fr_nodes.specs.Signals.{QueuesReaders, TakesNone, TakesOut, RaisesFrom as Raised}
use Rattle.fr_world.specs.Calls.{Ends, QueuesAll, QueuesOne}
use Rattle.fr_world.specs.World.{AreJoined, IsWorld, done_at, era_at, is_live, is_stamped, next_in, way_by, way_of}
use Rattle.fr_world.proofs.Changes.{joined_begun, queued_begun, world_raised}
use Rattle.fr_world.proofs.Killed.{ends_killed, joined_killed, kills_by, queued_killed, still_live, under_inside}
use Rattle.fr_world.proofs.Lists.{next_found}
use Rattle.fr_world.proofs.Queuing.{all_kept, one_kept, queues_readers}
use Rattle.fr_world.proofs.Raised.{levelled, long_dead, ordered, raises, same_watches}
use Rattle.fr_world.proofs.Whole.{both, one, some_sites}

pub not_false : (b : Bool) → not b ≡ false → b ≡ true
not_false true e = refl
not_false false e = cc

-- whether a node lives, by whether it lies in the grave
pub lives_is : (b : Bool) (s : Stored) (l : Lives) (q : Queued) (i m : ℕ) (r : Bool) → ((sites : Sites) → (way_by b (way_of sites s l q i)).taken m ≡ true) → (IsTrue r ↔ IsTrue (has_item (grave l) m))
    → (sites : Sites) → (way_by b (way_of sites s l q i)).graph.live m ≡ not r
lives_is true s l q i m r taken exact sites = ap (λ (b : Bool). b && not (has_item (grave l) m)) (taken some_sites) ∙ ap not (by r (has_item (grave l) m) exact)
  where
    by : (a b : Bool) → (IsTrue a ↔ IsTrue b) → b ≡ a
    by true b h = h.0 refl
    by false true h = sym (h.1 refl)
    by false false h = refl
lives_is false s l q i m r taken exact sites = let f : false ≡ true = taken some_sites in cc

pub takes_if : (b : Bool) (s : Stored) (l : Lives) (q r : Queued) (i : ℕ) (o : Option NodeId) → b ≡ true → IfSome o (λ id. Takes q r id.0)
    → IfSome o (λ id. (sites : Sites) → TakesOut (way_by b (way_of sites s l q i)) (way_by b (way_of sites s l r i)) id.0)
takes_if b s l q r i None e t = t
takes_if b s l q r i (Some id) e t = λ sites. both (λ at new. TakesOut at new id.0) b b (way_of sites s l q i) (way_of sites s l r i) e e (record {
  same = record { graph = refl; taken = λ j. refl; heights = λ j. refl; done = λ j. refl };
  height = t.height;
  least = record { was = t.was; least = t.least };
  out = t.sets.here;
  queue = t.sets.other;
})

pub takes_none : (b : Bool) (s : Stored) (l : Lives) (q r : Queued) (i : ℕ) → b ≡ true → IsEmpty q → Same q r → (sites : Sites) → TakesNone (way_by b (way_of sites s l q i)) (way_by b (way_of sites s l r i))
takes_none b s l q r i e empty same sites = both (λ at new. TakesNone at new) b b (way_of sites s l q i) (way_of sites s l r i) e e (record {
  same = record { graph = refl; taken = λ j. refl; heights = λ j. refl; done = λ j. refl };
  was_empty = empty;
  empty = λ m. same m ∙ empty m;
})

pub world_one : (s : Stored) (l : Lives) (q r : Queued) (i h m : ℕ) → IsWorld s l q i h → is_live s l m ≡ true → QueuesOne s l q r m → IsWorld s l r i h
world_one s l q r i h m w lives o = record {
  joined = w.joined;
  queue = one_kept s l q r m w.queue lives o;
  fit = w.fit;
  small = w.small;
  few = w.few;
  below = w.below;
  mild = w.mild;
}

pub world_all : (s : Stored) (l : Lives) (q r : Queued) (i h : ℕ) (es : List Edge) → IsWorld s l q i h → QueuesAll s l q r es → IsWorld s l r i h
world_all s l q r i h es w all = record {
  joined = w.joined;
  queue = all_kept s l q r es w.queue all;
  fit = w.fit;
  small = w.small;
  few = w.few;
  below = w.below;
  mild = w.mild;
}

pub way_all : (b : Bool) (s : Stored) (l : Lives) (q r : Queued) (i m : ℕ) → b ≡ true → AreDependents s m (dependents_at s m) → QueuesAll s l q r (dependents_at s m)
    → (sites : Sites) → QueuesReaders (way_by b (way_of sites s l q i)) (way_of sites s l r i) m
way_all b s l q r i m e exact all sites =
    both (λ at new. QueuesReaders at new m) b true (way_of sites s l q i) (way_of sites s l r i) e refl (queues_readers s l m exact sites q r i all)

pub way_one : (b : Bool) (s : Stored) (l : Lives) (q r : Queued) (i m : ℕ) → b ≡ true → is_live s l m ≡ true → QueuesOne s l q r m
    → (sites : Sites) → Queues (way_by b (way_of sites s l q i)) (way_of sites s l r i) m
way_one b s l q r i m e lives o sites = both (λ at new. Queues at new m) b true (way_of sites s l q i) (way_of sites s l r i) e refl (record {
  graph = refl;
  taken = λ j. refl;
  heights = λ j. refl;
  done = λ j. refl;
  here = o.here lives;
  queue = λ j ne. o.others j (inl ne);
})

-- the result of a watch is the next member
pub result_lives : (b : Bool) (s : Stored) (l : Lives) (q : Queued) (i m : ℕ) → b ≡ true
    → ((sites : Sites) × ((way_by b (way_of sites s l q i)).graph.live ((way_by b (way_of sites s l q i)).graph.result_of m) ≡ true))
    → is_live s l (next_in (length s.nodes) (members l (era_at (node_at s m))) m) ≡ true
result_lives true s l q i m e p = p.1
result_lives false s l q i m e p = cc

pub result_next : (s : Stored) (l : Lives) (m : ℕ) (o : Option NodeId) → is_live s l (next_in (length s.nodes) (members l (era_at (node_at s m))) m) ≡ true
    → ((era place : ℕ) → slice_get (members l era) place ≡ Some m → o ≡ order.node_at (slice_get (members l era) (place + 1))) → o ≡ Some (node_of (next_in (length s.nodes) (members l (era_at (node_at s m))) m))
result_next s l m o lives next =
    let n = next_found (length s.nodes) (members l (era_at (node_at s m))) m (long_dead s l (next_in (length s.nodes) (members l (era_at (node_at s m))) m) lives) in
    next (era_at (node_at s m)) n.place n.stands
    ∙ ap (λ (p : ℕ). order.node_at (slice_get (members l (era_at (node_at s m))) p)) (let up : n.place + 1 ≡ suc n.place = omega arith in up)
    ∙ ap order.node_at n.next

pub result_is : (b : Bool) (s : Stored) (l : Lives) (q : Queued) (i m : ℕ) (r : NodeId) → b ≡ true → Some r ≡ Some (node_of (next_in (length s.nodes) (members l (era_at (node_at s m))) m))
    → (sites : Sites) → (way_by b (way_of sites s l q i)).graph.result_of m ≡ r.0
result_is b s l q i m r e same sites =
    let is : r ≡ node_of (next_in (length s.nodes) (members l (era_at (node_at s m))) m) = cc in
    one (λ at. at.graph.result_of m ≡ r.0) b (way_of sites s l q i) e (sym (ap (λ (v : NodeId). v.0) is))

-- a node that was computed at an instant has its stamp
stamped : (i : ℕ) (o : Option Node) → done_at i o ≡ true → (v : Node) × (o ≡ Some v) × (v.stamp ≡ Some i)
stamped i None h = cc
stamped i (Some v) h = (v, refl, by v.stamp h)
  where
    by : (p : Option ℕ) → is_stamped i p ≡ true → p ≡ Some i
    by None e = cc
    by (Some k) e = ap Some (eq_is k i e)

one_more : (w : ℕ) → suc w ≡ w + 1
one_more w = omega arith

module _ (s : Stored) (l : Lives) (q : Queued) (i h w : ℕ) (world : IsWorld s l q i h) (b : Bool) (whole : b ≡ true)
    (done : (sites : Sites) → (way_by b (way_of sites s l q i)).done w ≡ true)
    (before : (sites : Sites) (m : ℕ) → Inside (way_by b (way_of sites s l q i)).graph (suc w) m → (way_by b (way_of sites s l q i)).done m ≡ false) where
  watch_done : done_at i (node_at s w) ≡ true
  watch_done = by b whole done
    where
      by : (c : Bool) → c ≡ true → ((sites : Sites) → (way_by c (way_of sites s l q i)).done w ≡ true) → done_at i (node_at s w) ≡ true
      by true e d = d some_sites
      by false e d = cc

  not_done : (m : ℕ) → Under l (suc w) m → done_at i (node_at s m) ≡ false
  not_done m u = by b whole before
    where
      by : (c : Bool) → c ≡ true → ((sites : Sites) (v : ℕ) → Inside (way_by c (way_of sites s l q i)).graph (suc w) v → (way_by c (way_of sites s l q i)).done v ≡ false) → done_at i (node_at s m) ≡ false
      by true e d = d some_sites m (under_inside s l world.joined some_sites (suc w) m u)
      by false e d = cc

  watch_out : Under l (suc w) w → ⊥
  watch_out u = true_false (done_at i (node_at s w)) watch_done (not_done w u)

  pub earlier : AreEarlier l s (w + 1)
  earlier m n stamp u at is latest =
      let v = stamped i (node_at s w) watch_done in
      let low : i ≤ stamp = latest w v.0 i v.1 v.2 in
      let high : stamp ≤ i = (world.fit m n at).early stamp is in
      let same : stamp ≡ i = omega arith in
      let out : done_at i (Some n) ≡ false = ap (done_at i) (sym at) ∙ not_done m (subst (λ (x : ℕ). Under l x m) (sym (one_more w)) u) in
      true_false (done_at i (Some n)) (ap (is_stamped i) is ∙ ap (λ (k : ℕ). nat_eq k i) same ∙ eq_self i) out

  module _ (k v : Lives) (r : Queued) (lives : is_live s l w ≡ true) (ends : Ends l k q r (w + 1)) (begins : BeginsEra k v (w + 1)) where
    pub world_renewed : IsWorld s v r i h
    world_renewed =
        let e = subst (Ends l k q r) (sym (one_more w)) ends in
        let p = ends_killed s l world.joined k q r (suc w) e in
        let out : has_item p.0.moved w ≡ false = unmoved p.0.moved (p.0.only w) in
        record {
          joined = joined_begun s k v (w + 1) w (joined_killed s l world.joined k (suc w) p.0) begins refl (still_live s l world.joined k (suc w) p.0 w lives out);
          queue = queued_begun s k v r (queued_killed s l world.joined k (suc w) p.0 q r world.queue p.1) begins.buried;
          fit = world.fit;
          small = world.small;
          few = world.few;
          below = world.below;
          mild = world.mild;
        }
      where
        unmoved : (moved : List ℕ) → (has_item moved w ≡ true → Under l (suc w) w) → has_item moved w ≡ false
        unmoved moved only = elim (by_truth (has_item moved w)) [ inl t ↦ absurd (watch_out (only t)) | inr f ↦ f ]

    pub way_renewed : (sites : Sites) → Kills (way_by b (way_of sites s l q i)) (way_of sites s v r i) (suc w)
    way_renewed sites =
        let e = subst (Ends l k q r) (sym (one_more w)) ends in
        let p = ends_killed s l world.joined k q r (suc w) e in
        both (λ at new. Kills at new (suc w)) b true (way_of sites s l q i) (way_of sites s v r i) whole refl
        (kills_by s l world.joined k (suc w) p.0 sites v q r i begins.each begins.buried p.1)

-- what a raising asks and gives
pub top_below : (nodes : List (Option Node)) (h : ℕ) → ((m : ℕ) → height_in (node_in nodes m) ≤ h) → top_height nodes ≤ h
top_below [] h all = omega arith
top_below (n ∷ nodes) h all =
    let first : height_in n ≤ h = all 0 in
    let rest : top_height nodes ≤ h = top_below nodes h (λ m. all (suc m)) in
    grind arith

module _ (s : Stored) (l : Lives) (q : Queued) (i from : ℕ) (j : AreJoined s l) where
  pub levelled_by : (b : Bool) → b ≡ true
      → ((sites : Sites) × ((x y : ℕ) → IsOver (way_by b (way_of sites s l q i)) x y → x ≢ from → (way_by b (way_of sites s l q i)).height x < (way_by b (way_of sites s l q i)).height y))
      → AreLevelledBut (above l s) (height_at s) from
  levelled_by true e p = levelled p.0 s l q i j from p.1
  levelled_by false e p = cc

  pub ordered_by : (b : Bool) → b ≡ true → ((sites : Sites) × IsOrdered (way_by b (way_of sites s l q i))) → (rank : ℕ → ℕ) × RisesAlong (above l s) rank
  ordered_by true e p = ordered p.0 s l q i j p.1
  ordered_by false e p = cc

  pub raises_by : (b : Bool) → b ≡ true
      → ((sites : Sites) × ((w : ℕ) → (way_by b (way_of sites s l q i)).graph.live w ≡ true → is_watch ((way_by b (way_of sites s l q i)).graph.kind w) ≡ true
      → (way_by b (way_of sites s l q i)).graph.live ((way_by b (way_of sites s l q i)).graph.result_of w) ≡ true))
      → (t : Stored) (k : Lives) (r : Queued) → k ≡ l → OnlyHeights s t → QueueFollows q r t → RaisesFrom l s t from
      → (sites : Sites) → Raised (way_by b (way_of sites s l q i)) (way_of sites t k r i) from
  raises_by true e p t k r same only follows rises sites =
      subst (λ (v : Lives). Raised (way_of sites s l q i) (way_of sites t v r i) from) (sym same)
      (raises sites s l q i j t r from (λ w lives watches. p.1 w lives (same_watches sites p.0 w (node_at s w) watches)) only follows rises)
  raises_by false e p t k r same only follows rises sites = cc

pub world_risen : (s t : Stored) (l k : Lives) (q r : Queued) (i h top count from : ℕ) → IsWorld s l q i h → k ≡ l → OnlyHeights s t → QueueFollows q r t → RaisesFrom l s t from
    → count ≡ count_by is_some s.nodes → top ≡ h + count → top ≤ 2 ^ 100 → IsWorld t k r i top
world_risen s t l k q r i h top count from w same only follows rises many is mild =
    subst (λ (v : Lives). IsWorld t v r i top) (sym same)
    (world_raised s t only l q r i h top w follows (λ m. (
    let high : height_at t m ≤ top_height s.nodes + count_by is_some s.nodes = rises.bounded m in
    let low : top_height s.nodes ≤ h = top_below s.nodes h w.below in
    omega arith)) mild)
