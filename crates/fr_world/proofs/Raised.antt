-- Which node stands above which, by a store and eras and by the graph under way.
use Rattle.std.proofs.Common.{◌≡◌, ◌≢◌, ℕ, suc, ◌+◌, ◌<◌, length, inl, inr, Option, Some, None, is_some, true, false, not, slice_get, refl, sym, ap, ◌∙◌, subst, arith}
use Rattle.std.proofs.lemmas.List.{get_or_past}
use Rattle.fr_links.specs.Lists.{has_item}
use Rattle.fr_queue.specs.Queue.{Queued}
use Rattle.fr_store.specs.declared.node.Node.{Node}
use Rattle.fr_store.specs.declared.node.NodeKind.{NodeKind}
use Rattle.fr_store.specs.declared.node.NodeKind.TheVariants as kind
use Rattle.fr_store.specs.Nodes.{Stored, is_watch, node_at}
use Rattle.fr_store.proofs.Tables.{some_of}
use Rattle.fr_eras.specs.Lives.{Lives, grave, members}
use Rattle.fr_eras.specs.Heights.{AreLevelledBut, OnlyHeights, QueueFollows, RaisesFrom, RisesAlong, above, height_at}
use Rattle.fr_graph.specs.Known.{Reads}
use Rattle.fr_way.specs.Frame as frame
use Rattle.fr_way.specs.Order.{IsOrdered, IsOver}
use Rattle.fr_nodes.specs.Kinds.{Sites, kind_of}
use Rattle.fr_nodes.specs.Signals.{RaisesFrom as Raised}
use Rattle.fr_world.specs.World.{AreJoined, era_at, inputs_at, is_live, kind_at, next_in, way_of}
use Rattle.fr_world.proofs.Heights.{of_reads, reads_of}
use Rattle.fr_world.proofs.Lists.{found_has, next_found, next_is}
use Rattle.fr_world.proofs.Whole.{live_there, member_live}
use Rattle.fr_world.proofs.Changes.{raised_done, raised_graph, raised_some}

-- a kind is a watch's on both sides
same_watch : (sites : Sites) (m : ℕ) (k : NodeKind) → frame.is_watch (kind_of sites m k) ≡ is_watch k
same_watch sites m kind.Now = refl
same_watch sites m kind.Input = refl
same_watch sites m kind.Event = refl
same_watch sites m (kind.Kernel c) = refl
same_watch sites m (kind.IfWatch site held) = refl
same_watch sites m kind.Result = refl
same_watch sites m (kind.MapE id) = refl
same_watch sites m (kind.FilterE id) = refl
same_watch sites m kind.MergeE = refl
same_watch sites m kind.Hold = refl
same_watch sites m (kind.CollectB id) = refl
same_watch sites m (kind.CollectE id) = refl
same_watch sites m kind.Changes = refl
same_watch sites m kind.OnceE = refl
same_watch sites m kind.Delay = refl
same_watch sites m kind.DelayE = refl
same_watch sites m kind.Feedback = refl

watches_of : (sites : Sites) (m : ℕ) (o : Option Node) (n : Node) → o ≡ Some n → frame.is_watch (kind_at sites m o) ≡ is_watch n.kind
watches_of sites m o n e = ap (λ (v : Option Node). frame.is_watch (kind_at sites m v)) e ∙ same_watch sites m n.kind

-- what is a watch by some choices is one by others
pub same_watches : (sites other : Sites) (m : ℕ) (o : Option Node) → frame.is_watch (kind_at sites m o) ≡ true → frame.is_watch (kind_at other m o) ≡ true
same_watches sites other m None h = h
same_watches sites other m (Some n) h = same_watch other m n.kind ∙ sym (same_watch sites m n.kind) ∙ h

one_more : (w : ℕ) → suc w ≡ w + 1
one_more w = omega arith

-- a number past the store's has no node
pub long_dead : (s : Stored) (l : Lives) (v : ℕ) → is_live s l v ≡ true → v ≢ length s.nodes
long_dead s l v h e =
    let none : node_at s v ≡ None = ap (node_at s) e ∙ get_or_past s.nodes (length s.nodes) None (omega arith) in
    let there = live_there (node_at s v) (not (has_item (grave l) v)) h in
    let f : false ≡ true = sym (ap is_some none) ∙ there in
    cc

module _ (sites : Sites) (s : Stored) (l : Lives) (q : Queued) (i : ℕ) (j : AreJoined s l) where
  pub above_over : (a b : ℕ) → above l s a b → IsOver (way_of sites s l q i) a b
  above_over a b (inl r) = inl (ap is_some r.here, subst (λ (o : Option Node). Reads a (inputs_at o)) (sym r.here) (of_reads r.node.inputs a r.does))
  above_over a b (inr (inl h)) = inr (inl (member_live s l j (a + 1) b h, j.era (a + 1) b h ∙ sym (one_more a)))
  above_over a b (inr (inr r)) =
      let has = found_has (members l r.era) r.place a r.stands in
      let next : slice_get (members l r.era) (suc r.place) ≡ Some b = ap (slice_get (members l r.era)) (one_more r.place) ∙ r.next in
      let is = next_is (length s.nodes) (members l r.era) a b r.place (j.once r.era) r.stands next in
      inr (inr (
        member_live s l j r.era a has,
        watches_of sites a (node_at s a) r.node r.here ∙ r.watches,
        sym is ∙ ap (λ (y : ℕ). next_in (length s.nodes) (members l y) a) (sym (j.era r.era a has)),
      ))

  pub over_above : ((w : ℕ) → is_live s l w ≡ true → frame.is_watch (kind_at sites w (node_at s w)) ≡ true → is_live s l (next_in (length s.nodes) (members l (era_at (node_at s w))) w) ≡ true)
      → (a b : ℕ) → IsOver (way_of sites s l q i) a b → above l s a b
  over_above results a b (inl p) =
      let n = some_of (node_at s b) p.0 in
      inl (record { node = n.0; here = n.1; does = reads_of n.0.inputs a (subst (λ (o : Option Node). Reads a (inputs_at o)) n.1 p.1) })
  over_above results a b (inr (inl p)) =
      inr (inl (subst (λ (y : ℕ). has_item (members l y) b ≡ true) (p.1 ∙ one_more a) (j.listed b p.0)))
  over_above results a b (inr (inr p)) =
      let n = some_of (node_at s a) (live_there (node_at s a) (not (has_item (grave l) a)) p.0) in
      let next = next_found (length s.nodes) (members l (era_at (node_at s a))) a (long_dead s l (next_in (length s.nodes) (members l (era_at (node_at s a))) a) (results a p.0 p.1)) in
      inr (inr (record {
        node = n.0;
        here = n.1;
        watches = sym (watches_of sites a (node_at s a) n.0 n.1) ∙ p.1;
        era = era_at (node_at s a);
        place = next.place;
        stands = next.stands;
        next = ap (slice_get (members l (era_at (node_at s a)))) (sym (one_more next.place)) ∙ next.next ∙ ap Some (sym p.2);
      }))

  pub levelled : (from : ℕ) → ((a b : ℕ) → IsOver (way_of sites s l q i) a b → a ≢ from → height_at s a < height_at s b) → AreLevelledBut (above l s) (height_at s) from
  levelled from h a b e ne = h a b (above_over a b e) ne

  pub ordered : IsOrdered (way_of sites s l q i) → (rank : ℕ → ℕ) × RisesAlong (above l s) rank
  ordered o = (o.rank, λ a b e. o.rises a b (above_over a b e))

  pub raises : (t : Stored) (r : Queued) (from : ℕ) → ((w : ℕ) → is_live s l w ≡ true → frame.is_watch (kind_at sites w (node_at s w)) ≡ true → is_live s l (next_in (length s.nodes) (members l (era_at (node_at s w))) w) ≡ true)
      → OnlyHeights s t → QueueFollows q r t → RaisesFrom l s t from → Raised (way_of sites s l q i) (way_of sites t l r i) from
  raises t r from results only follows rises = record {
    graph = raised_graph s t only sites l;
    taken = raised_some s t only;
    done = raised_done s t only i;
    levelled = λ a b e. rises.levelled a b (over_above results a b e);
    no_lower = rises.no_lower;
    low = λ h up m below. rises.low h (λ b e old. up b (above_over from b e) old) m below;
    queue = follows;
  }
