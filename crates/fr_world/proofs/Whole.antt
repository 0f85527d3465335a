-- A world that is whole, and what lives in it.
use Rattle.std.proofs.Common.{◌≡◌, ℕ, Option, Some, None, IsSome, is_some, List, ◌++◌, inl, inr, ◌⊎◌, Bool, true, false, not, ◌&&◌, refl, ap}
use Rattle.fr_value.specs.declared.value.Value.TheVariants as Value
use Rattle.fr_core.specs.declared.lowered.Low.TheVariants.{Lit}
use Rattle.fr_links.specs.Lists.{has_item}
use Rattle.fr_links.proofs.Has.{by_truth, has_append_cases, true_false}
use Rattle.fr_queue.specs.Queue.{Queued}
use Rattle.fr_store.specs.declared.node.Node.{Node}
use Rattle.fr_store.specs.Nodes.{Stored, node_at}
use Rattle.fr_eras.specs.Lives.{Lives, grave, members}
use Rattle.fr_nodes.specs.Kinds.{Sites}
use Rattle.fr_way.specs.Way.{Way}
use Rattle.fr_world.specs.World.{AreJoined, is_live, way_by, way_of}

-- some choices
pub some_sites : Sites
some_sites m = record { yes = Lit (Value.Bool false); no = Lit (Value.Bool false) }

-- what holds of two graphs holds where both worlds are whole
pub both : (P : Way → Way → Type 0) (a b : Bool) (u v : Way) → a ≡ true → b ≡ true → P u v → P (way_by a u) (way_by b v)
both P true true u v e f h = h
both P true false u v e f h = cc
both P false b u v e f h = cc

-- what holds of a graph holds where the world is whole
pub one : (P : Way → Type 0) (a : Bool) (u : Way) → a ≡ true → P u → P (way_by a u)
one P true u e h = h
one P false u e h = cc

-- a world in which something lives is whole
pub lives_whole : (b : Bool) (at : Sites → Way) (m : ℕ) → ((sites : Sites) → (way_by b (at sites)).graph.live m ≡ true) → b ≡ true
lives_whole true at m h = refl
lives_whole false at m h = h some_sites

pub lives_live : (b : Bool) (s : Stored) (l : Lives) (q : Queued) (k m : ℕ) → ((sites : Sites) → (way_by b (way_of sites s l q k)).graph.live m ≡ true) → is_live s l m ≡ true
lives_live true s l q k m h = h some_sites
lives_live false s l q k m h = let f : false ≡ true = h some_sites in cc

-- what lives is in the store and not in the grave
pub live_there : (o : Option Node) (b : Bool) → (is_some o && b) ≡ true → IsSome o
live_there None b h = cc
live_there (Some n) b h = refl

pub live_apart : (o : Option Node) (b : Bool) → (is_some o && not b) ≡ true → b ≡ false
live_apart o false h = refl
live_apart None true h = cc
live_apart (Some n) true h = cc

pub live_by : (o : Option Node) (b : Bool) → IsSome o → b ≡ false → (is_some o && not b) ≡ true
live_by (Some n) false h e = refl
live_by (Some n) true h e = cc
live_by None b h e = cc

pub lives_there : (b : Bool) (s : Stored) (l : Lives) (q : Queued) (k m : ℕ) → ((sites : Sites) → (way_by b (way_of sites s l q k)).graph.live m ≡ true) → IsSome (node_at s m)
lives_there b s l q k m h = live_there (node_at s m) (not (has_item (grave l) m)) (lives_live b s l q k m h)

-- none is there
pub no_node : {B : Type 0} (o : Option Node) → o ≡ None → IsSome o → B
no_node None e h = cc
no_node (Some n) e h = cc

pub some_is : (o : Option Node) (n : Node) → o ≡ Some n → IsSome o
some_is o n e = ap is_some e

pub no_number : {B : Type 0} (o : Option ℕ) → o ≡ None → IsSome o → B
no_number None e h = cc
no_number (Some n) e h = cc

pub in_neither : (xs ys : List ℕ) (m : ℕ) → has_item xs m ≡ false → has_item ys m ≡ false → has_item (xs ++ ys) m ≡ false
in_neither xs ys m e f = by (has_item (xs ++ ys) m) (by_truth (has_item (xs ++ ys) m)) (has_append_cases xs ys m)
  where
    by : (b : Bool) → (b ≡ true) ⊎ (b ≡ false) → (b ≡ true → (has_item xs m ≡ true) ⊎ (has_item ys m ≡ true)) → b ≡ false
    by b (inl t) g = elim (g t) [ inl x ↦ true_false (has_item xs m) x e | inr y ↦ true_false (has_item ys m) y f ]
    by b (inr n) g = n

-- a member lives
pub member_live : (s : Stored) (l : Lives) → AreJoined s l → (x m : ℕ) → has_item (members l x) m ≡ true → is_live s l m ≡ true
member_live s l j x m h = live_by (node_at s m) (has_item (grave l) m) (j.there.member x m h) (j.apart x m h)
