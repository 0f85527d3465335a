-- Stores that differ in heights alone.
use Rattle.std.proofs.Common.{◌≡◌, ◌≢◌, ℕ, ◌<◌, ◌≤◌, List, length, ◌⊎◌, inl, inr, Option, Some, None, IsSome, refl, sym, ap, ◌∙◌, subst, arith, get_or-set_same, get_or-set_other, length-set}
use Rattle.std.specs.Option.{option_map}
use Rattle.std.proofs.lemmas.List.{get_or_past}
use Rattle.fr_links.proofs.Has.{by_number}
use Rattle.fr_queue.specs.Queue.{Queued}
use Rattle.fr_store.specs.declared.node.Node.{Node}
use Rattle.fr_store.specs.Nodes.{Stored, height_in, lifted, node_at, node_in, with_node}
use Rattle.fr_eras.specs.Heights.{AreQueuedRight, OnlyHeights, QueueFollows, Requeues, height_at}

by_bound : (i n : ℕ) → (i < n) ⊎ (n ≤ i)
by_bound i n = grind arith

same_itself : (o : Option Node) → o ≡ option_map (λ n. lifted n (height_in o)) o
same_itself None = refl
same_itself (Some n) = refl

pub only_itself : (s : Stored) → OnlyHeights s s
only_itself s = record { limit = refl; dependents = refl; long = refl; each = λ i. same_itself (node_at s i) }

pub only_then : (a b c : Stored) → OnlyHeights a b → OnlyHeights b c → OnlyHeights a c
only_then a b c p q = record {
  limit = q.limit ∙ p.limit;
  dependents = q.dependents ∙ p.dependents;
  long = q.long ∙ p.long;
  each = λ i. q.each i ∙ ap (option_map (λ n. lifted n (height_at c i))) (p.each i) ∙ twice (height_at b i) (height_at c i) (node_at a i);
}
  where
    twice : (g h : ℕ) (o : Option Node) → option_map (λ n. lifted n h) (option_map (λ n. lifted n g) o) ≡ option_map (λ n. lifted n h) o
    twice g h None = refl
    twice g h (Some n) = refl

pub only_node : (a b : Stored) (i : ℕ) (n : Node) → OnlyHeights a b → node_at a i ≡ Some n → node_at b i ≡ Some (lifted n (height_at b i))
only_node a b i n p e = p.each i ∙ ap (option_map (λ m. lifted m (height_at b i))) e

pub some_node : (o : Option Node) → IsSome o → (n : Node) × (o ≡ Some n)
some_node None h = cc
some_node (Some n) h = (n, refl)

pub is_node : (o : Option Node) (n : Node) → o ≡ Some n → IsSome o
is_node o n e = subst (λ (p : Option Node). IsSome p) (sym e) refl

pub only_back : (a b : Stored) (i : ℕ) (m : Node) → OnlyHeights a b → node_at b i ≡ Some m → (n : Node) × (node_at a i ≡ Some n) × (m ≡ lifted n (height_at b i))
only_back a b i m p e = was (node_at a i) m (height_at b i) (sym (p.each i) ∙ e)
  where
    was : (o : Option Node) (m : Node) (h : ℕ) → option_map (λ n. lifted n h) o ≡ Some m → (n : Node) × (o ≡ Some n) × (m ≡ lifted n h)
    was None m h e = cc
    was (Some n) m h e = (n, refl, cc)

pub only_live : (a b : Stored) (i : ℕ) → OnlyHeights a b → IsSome (node_at a i) → IsSome (node_at b i)
only_live a b i p h = let n = some_node (node_at a i) h in is_node (node_at b i) (lifted n.0 (height_at b i)) (only_node a b i n.0 p n.1)

pub only_was_live : (a b : Stored) (i : ℕ) → OnlyHeights a b → IsSome (node_at b i) → IsSome (node_at a i)
only_was_live a b i p h = let m = some_node (node_at b i) h in let n = only_back a b i m.0 p m.1 in is_node (node_at a i) n.0 n.1

-- the height that was read
pub height_is : (s : Stored) (i : ℕ) (n : Node) → node_at s i ≡ Some n → height_at s i ≡ n.height
height_is s i n e = ap height_in e

pub node_inside : (nodes : List (Option Node)) (i : ℕ) (n : Node) → node_in nodes i ≡ Some n → i < length nodes
node_inside nodes i n e = elim (by_bound i (length nodes)) [
  | inl lt ↦ lt
  | inr le ↦ none_some n (sym (get_or_past nodes i None le) ∙ e)
]
  where
    none_some : {A : Type 0} (n : Node) → None ≡ Some n → A
    none_some n e = cc

module _ (old new : Stored) (y h : ℕ) (n : Node) (is : node_at old y ≡ Some n) (writes : new ≡ with_node old y (Some (lifted n h))) where
  set_here : node_at new y ≡ Some (lifted n h)
  set_here = ap (λ (s : Stored). node_at s y) writes ∙ get_or-set_same old.nodes y (Some (lifted n h)) None (node_inside old.nodes y n is)

  set_other : (i : ℕ) → i ≢ y → node_at new i ≡ node_at old i
  set_other i apart = ap (λ (s : Stored). node_at s i) writes ∙ get_or-set_other old.nodes y i (Some (lifted n h)) None apart

  pub lifted_here : height_at new y ≡ h
  lifted_here = ap height_in set_here

  pub lifted_other : (i : ℕ) → i ≢ y → height_at new i ≡ height_at old i
  lifted_other i apart = ap height_in (set_other i apart)

  pub only_lifted : OnlyHeights old new
  only_lifted = record {
    limit = ap (λ (s : Stored). s.limit) writes;
    dependents = ap (λ (s : Stored). s.dependents) writes;
    long = ap (λ (s : Stored). length s.nodes) writes ∙ length-set old.nodes y (Some (lifted n h));
    each = λ i. elim (by_number i y) [
      | inl e ↦
          ap (node_at new) e ∙ set_here ∙ ap (λ (k : ℕ). Some (lifted n k)) (sym lifted_here)
          ∙ sym (ap (option_map (λ m. lifted m (height_at new y))) is)
          ∙ ap (λ (j : ℕ). option_map (λ m. lifted m (height_at new j)) (node_at old j)) (sym e)
      | inr apart ↦ set_other i apart ∙ same_itself (node_at old i)
          ∙ ap (λ (k : ℕ). option_map (λ m. lifted m k) (node_at old i)) (sym (lifted_other i apart))
    ];
  }

  module _ (queue queue' : Queued) (right : AreQueuedRight queue old) where
    queued_other : (i : ℕ) (o : Option ℕ) → i ≢ y → queue i ≡ o → o ≡ option_map (λ k. height_at new i) o
    queued_other i None apart e = refl
    queued_other i (Some k) apart e = ap (λ (j : ℕ). Some j) (right i k e ∙ sym (lifted_other i apart))

    pub follows_requeued : Requeues queue queue' y h → QueueFollows queue queue' new
    follows_requeued r i = elim (by_number i y) [
      | inl s ↦
          ap queue' s ∙ r.here ∙ ap (λ (k : ℕ). option_map (λ j. k) (queue y)) (sym lifted_here)
          ∙ ap (λ (m : ℕ). option_map (λ k. height_at new m) (queue m)) (sym s)
      | inr apart ↦ r.other i apart ∙ queued_other i (queue i) apart refl
    ]

pub follows_itself : (s : Stored) (queue : Queued) → AreQueuedRight queue s → QueueFollows queue queue s
follows_itself s queue right i = at (queue i) refl
  where
    at : (o : Option ℕ) → queue i ≡ o → o ≡ option_map (λ k. height_at s i) o
    at None e = refl
    at (Some k) e = ap (λ (j : ℕ). Some j) (right i k e)

pub follows_then : (b c : Stored) (p q r : Queued) → QueueFollows p q b → QueueFollows q r c → QueueFollows p r c
follows_then b c p q r f g i = g i ∙ ap (option_map (λ k. height_at c i)) (f i) ∙ twice (height_at b i) (height_at c i) (p i)
  where
    twice : (g h : ℕ) (o : Option ℕ) → option_map (λ k. h) (option_map (λ k. g) o) ≡ option_map (λ k. h) o
    twice g h None = refl
    twice g h (Some k) = refl

pub follows_right : (s : Stored) (p q : Queued) → QueueFollows p q s → AreQueuedRight q s
follows_right s p q f i h e = right (p i) (sym (f i) ∙ e)
  where
    right : (o : Option ℕ) → option_map (λ k. height_at s i) o ≡ Some h → h ≡ height_at s i
    right None e = cc
    right (Some k) e = cc
