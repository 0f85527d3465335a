-- What holds of every world.
use Rattle.std.proofs.Common.{◌≡◌, ℕ, ◌<◌, ◌≤◌, Bool, true, false, Option, Some, None, IsSome, refl, arith}
use Rattle.std.proofs.lemmas.Bool.{false≢true}
use Rattle.fr_queue.specs.Queue.{Queued}
use Rattle.fr_store.specs.declared.node.Node.{Node}
use Rattle.fr_store.specs.declared.node.NodeKind.{NodeKind}
use Rattle.fr_store.specs.declared.node.NodeKind.TheVariants as kind
use Rattle.fr_store.specs.Nodes.{Stored, most_nodes, node_at}
use Rattle.fr_eras.specs.Lives.{Lives}
use Rattle.fr_events.specs.Works.{work_of}
use Rattle.fr_graph.specs.Graph.{Work}
use Rattle.fr_nodes.specs.Kinds.{Sites, kind_beside, kind_by}
use Rattle.fr_nodes.specs.Signals.{AreAlike, IsSound}
use Rattle.fr_way.specs.Frame.{is_watch}
use Rattle.fr_world.specs.World.{IsWorld, kind_at, way_by, way_of}
use Rattle.fr_world.proofs.Whole.{live_there}

-- only the kinds of watches depend on the choices at sites

beside_same : (a b : Sites) (m : ℕ) (k : NodeKind) → is_watch (kind_beside a m k) ≡ false → kind_beside b m k ≡ kind_beside a m k
beside_same a b m (kind.IfWatch site held) e = absurd (false≢true (let f : true ≡ false = e in cc))
beside_same a b m k e = refl

by_work : (a b : Sites) (m : ℕ) (k : NodeKind) (o : Option Work) → is_watch (kind_by o (kind_beside a m k)) ≡ false → kind_by o (kind_beside b m k) ≡ kind_by o (kind_beside a m k)
by_work a b m k None e = beside_same a b m k e
by_work a b m k (Some w) e = refl

kinds_same : (a b : Sites) (m : ℕ) (o : Option Node) → is_watch (kind_at a m o) ≡ false → kind_at b m o ≡ kind_at a m o
kinds_same a b m None e = refl
kinds_same a b m (Some n) e = by_work a b m n.kind (work_of n.kind) e

beside_watch : (a b : Sites) (m : ℕ) (k : NodeKind) → is_watch (kind_beside b m k) ≡ is_watch (kind_beside a m k)
beside_watch a b m (kind.IfWatch site held) = refl
beside_watch a b m k = refl

work_watch : (a b : Sites) (m : ℕ) (k : NodeKind) (o : Option Work) → is_watch (kind_by o (kind_beside b m k)) ≡ is_watch (kind_by o (kind_beside a m k))
work_watch a b m k None = beside_watch a b m k
work_watch a b m k (Some w) = refl

watches_same : (a b : Sites) (m : ℕ) (o : Option Node) → is_watch (kind_at b m o) ≡ is_watch (kind_at a m o)
watches_same a b m None = refl
watches_same a b m (Some n) = work_watch a b m n.kind (work_of n.kind)

alike : (v : Bool) (s : Stored) (l : Lives) (q : Queued) (k : ℕ) (a b : Sites) → AreAlike (way_by v (way_of a s l q k)) (way_by v (way_of b s l q k))
alike true s l q k a b = record {
  live = λ m. refl;
  inputs = λ m. refl;
  later = λ m. refl;
  value = λ m. refl;
  cell = λ m. refl;
  level = λ m. refl;
  era = λ m. refl;
  members = λ x. refl;
  result_of = λ m. refl;
  watches = λ m. watches_same a b m (node_at s m);
  kinds = λ m e. kinds_same a b m (node_at s m) e;
  taken = λ m. refl;
  heights = λ m. refl;
  done = λ m. refl;
  queue = λ m. refl;
}
alike false s l q k a b = record {
  live = λ m. refl;
  inputs = λ m. refl;
  later = λ m. refl;
  value = λ m. refl;
  cell = λ m. refl;
  level = λ m. refl;
  era = λ m. refl;
  members = λ x. refl;
  result_of = λ m. refl;
  watches = λ m. refl;
  kinds = λ m e. refl;
  taken = λ m. refl;
  heights = λ m. refl;
  done = λ m. refl;
  queue = λ m. refl;
}

queued_some : (o : Option ℕ) (h : ℕ) → o ≡ Some h → IsSome o
queued_some None h e = cc
queued_some (Some j) h e = refl

pub sound_world : (v : Bool) (s : Stored) (l : Lives) (q : Queued) (k high : ℕ) → (v ≡ true → IsWorld s l q k high) → IsSound (λ sites. way_by v (way_of sites s l q k))
sound_world true s l q k high w =
    let world = w refl in
    record {
      alike = alike true s l q k;
      taken = λ a m e. live_there (node_at s m) _ e;
      queued = λ a m h e. (live_there (node_at s m) _ (world.queue.live m (queued_some (q m) h e)), world.queue.right m h e);
      small = λ a m e. let low : m < s.limit = world.small m e in let few : s.limit ≤ most_nodes = world.few in omega arith;
    }
sound_world false s l q k high w = record {
  alike = alike false s l q k;
  taken = λ a m e. e;
  queued = λ a m h e. cc;
  small = λ a m e. absurd (false≢true e);
}
