-- A world in which a node was put into the store, into its era and into the agenda.
use Rattle.std.proofs.Common.{◌≡◌, ◌≢◌, ℕ, ◌+◌, ◌<◌, ◌≤◌, ◌^◌, List, [], ◌∷◌, ◌++◌, inl, inr, Option, Some, None, IsSome, is_some, max, true, false, not, ◌&&◌, nat_eq, ◌⊎◌, refl, sym, ap, ◌∙◌, subst, arith}
use Rattle.fr_links.specs.Lists.{has_item}
use Rattle.fr_links.proofs.Has.{by_number, eq_is, has_append_cases, has_append_left, has_append_right, here, or_case, true_false}
use Rattle.fr_queue.specs.Queue.{Queued, Sets}
use Rattle.fr_value.specs.declared.ids.EraId.{EraId}
use Rattle.fr_value.specs.declared.now.Held.{Held}
use Rattle.fr_store.specs.declared.node.Node.{Node}
use Rattle.fr_store.specs.declared.node.NodeKind.{NodeKind}
use Rattle.fr_store.specs.Nodes.{AreLow, Makes, Stored, height_in, least_height, most_nodes, new_node, node_at}
use Rattle.fr_eras.specs.Lives.{IsAlone, JoinsEra, Lives, grave, is_era, members}
use Rattle.fr_eras.specs.Heights.{height_at}
use Rattle.fr_eras.proofs.Theres.{made_alone, there_made, there_joins}
use Rattle.fr_meaning.specs.Evaluation.{most_levels}
use Rattle.fr_world.specs.Calls.{Adds}
use Rattle.fr_world.specs.World.{AreJoined, AreQueued, IsFit, IsWorld, are_different, era_at, is_live}
use Rattle.fr_world.proofs.Heights.{under_bound}
use Rattle.fr_world.proofs.Lists.{different_more}
use Rattle.fr_world.proofs.Nodes.{made_here, made_other}
use Rattle.fr_world.proofs.Whole.{live_by, live_there, no_node, some_is}

-- what the inputs of a new node name stands low
pub are_low : (s : Stored) (l : Lives) (q : Queued) (i h : ℕ) (inputs : List Held) → IsWorld s l q i h → AreLow s inputs
are_low s l q i h inputs w m n e at =
    let b = w.below m in
    let c = w.mild in
    let same : n.height ≡ height_at s m = ap height_in (sym at) in
    omega arith

-- a free number isn't queued
pub idle : (s t : Stored) (l : Lives) (q : Queued) (m : ℕ) (n : Node) → AreQueued s l q → Makes s t m n → q m ≡ None
idle s t l q m n a made = by (q m) (a.live m)
  where
    by : (o : Option ℕ) → (IsSome o → is_live s l m ≡ true) → o ≡ None
    by None f = refl
    by (Some k) f = no_node (node_at s m) made.free (live_there (node_at s m) (not (has_item (grave l) m)) (f refl))

module _ (s t : Stored) (m : ℕ) (n : Node) (made : Makes s t m n) where
  apart : (i : ℕ) → IsSome (node_at s i) → i ≢ m
  apart i h e = no_node (node_at s m) made.free (subst (λ (k : ℕ). IsSome (node_at s k)) e h)

  -- what was there has its height
  pub same_height : (i : ℕ) → IsSome (node_at s i) → height_at t i ≡ height_at s i
  same_height i h = ap height_in (made_other s t m n made i (apart i h))

  module _ (l k : Lives) (x : ℕ) (alone : IsAlone l m) (joins : JoinsEra l k x m) (in_era : is_era l x ≡ true) (its : n.era.0 ≡ x) where
    live_other : (i : ℕ) → i ≢ m → is_live t k i ≡ is_live s l i
    live_other i ne = ap (λ (o : Option Node). is_some o && not (has_item (grave k) i)) (made_other s t m n made i ne) ∙ ap (λ (xs : List ℕ). is_some (node_at s i) && not (has_item xs i)) joins.buried

    pub live_here : is_live t k m ≡ true
    live_here = live_by (node_at t m) (has_item (grave k) m) (some_is (node_at t m) n (made_here s t m n made)) (ap (λ (xs : List ℕ). has_item xs m) joins.buried ∙ alone.no_grave)

    live_more : (i : ℕ) → is_live s l i ≡ true → is_live t k i ≡ true
    live_more i h = live_other i (apart i (live_there (node_at s i) (not (has_item (grave l) i)) h)) ∙ h

    -- a member was one, or it is the new one in its era
    member_was : (y i : ℕ) → has_item (members k y) i ≡ true → ((i ≢ m) × (has_item (members l y) i ≡ true)) ⊎ ((i ≡ m) × (y ≡ x))
    member_was y i h = elim (by_number y x) [
      | inr ne ↦ let g = ap (λ (xs : List ℕ). has_item xs i) (sym (joins.each y ne)) ∙ h in inl (not_new y i g, g)
      | inl e ↦
          let f : has_item (members l x ++ m ∷ []) i ≡ true = ap (λ (xs : List ℕ). has_item xs i) (sym joins.here) ∙ ap (λ (z : ℕ). has_item (members k z) i) (sym e) ∙ h in
          elim (has_append_cases (members l x) (m ∷ []) i f) [
            | inl old ↦ let g = ap (λ (z : ℕ). has_item (members l z) i) e ∙ old in inl (not_new y i g, g)
            | inr new ↦ inr (or_case (nat_eq m i) false new (λ is. sym (eq_is m i is)) (λ never. cc), e)
          ]
    ]
      where
        not_new : (z v : ℕ) → has_item (members l z) v ≡ true → v ≢ m
        not_new z v g same = true_false (has_item (members l z) m) (ap (has_item (members l z)) (sym same) ∙ g) (alone.no_member z)

    joined_added : AreJoined s l → AreJoined t k
    joined_added j = record {
      there = there_joins l k t x m (there_made l s t m n j.there made) (some_is (node_at t m) n (made_here s t m n made)) joins;
      once = λ y. elim (by_number y x) [
        | inl e ↦ ap (λ (z : ℕ). are_different (members k z)) e ∙ ap are_different joins.here ∙ different_more (members l x) m (j.once x) (alone.no_member x)
        | inr ne ↦ ap are_different (joins.each y ne) ∙ j.once y
      ];
      apart = λ y i h. ap (λ (xs : List ℕ). has_item xs i) joins.buried ∙ elim (member_was y i h) [
        | inl p ↦ j.apart y i p.1
        | inr p ↦ ap (has_item (grave l)) p.0 ∙ alone.no_grave
      ];
      era = λ y i h. elim (member_was y i h) [
        | inl p ↦ ap era_at (made_other s t m n made i p.0) ∙ j.era y i p.1
        | inr p ↦ ap (λ (v : ℕ). era_at (node_at t v)) p.0 ∙ ap era_at (made_here s t m n made) ∙ its ∙ sym p.1
      ];
      listed = λ i h. elim (by_number i m) [
        | inl e ↦ subst (λ (v : ℕ). has_item (members k (era_at (node_at t v))) v ≡ true) (sym e) listed_here
        | inr ne ↦
            ap (λ (o : Option Node). has_item (members k (era_at o)) i) (made_other s t m n made i ne) ∙ more (era_at (node_at s i)) i (j.listed i (sym (live_other i ne) ∙ h))
      ];
      hollow = λ y e. elim (by_number y x) [
        | inl same ↦ true_false (is_era l x) in_era (ap (is_era l) (sym same) ∙ sym (joins.eras y) ∙ e)
        | inr ne ↦ joins.each y ne ∙ j.hollow y (sym (joins.eras y) ∙ e)
      ];
      owners = λ w e. live_more w (j.owners w (sym (joins.eras (w + 1)) ∙ e));
    }
      where
        more : (y i : ℕ) → has_item (members l y) i ≡ true → has_item (members k y) i ≡ true
        more y i h = elim (by_number y x) [
          | inl e ↦ ap (λ (z : ℕ). has_item (members k z) i) e ∙ ap (λ (xs : List ℕ). has_item xs i) joins.here ∙ has_append_left (members l x) (m ∷ []) i (ap (λ (z : ℕ). has_item (members l z) i) (sym e) ∙ h)
          | inr ne ↦ ap (λ (xs : List ℕ). has_item xs i) (joins.each y ne) ∙ h
        ]

        listed_here : has_item (members k (era_at (node_at t m))) m ≡ true
        listed_here = ap (λ (o : Option Node). has_item (members k (era_at o)) m) (made_here s t m n made) ∙ ap (λ (z : ℕ). has_item (members k z) m) its
            ∙ ap (λ (xs : List ℕ). has_item xs m) joins.here ∙ has_append_right (members l x) (m ∷ []) m (here m [])

    queued_added : (q r : Queued) → AreQueued s l q → Sets q r m (Some n.height) → AreQueued t k r
    queued_added q r a sets = record { live = live; right = right }
      where
        live : (i : ℕ) → IsSome (r i) → is_live t k i ≡ true
        live i h = elim (by_number i m) [
          | inl e ↦ ap (is_live t k) e ∙ live_here
          | inr ne ↦ live_more i (a.live i (ap is_some (sym (sets.other i ne)) ∙ h))
        ]

        right : (i g : ℕ) → r i ≡ Some g → g ≡ height_at t i
        right i g e = elim (by_number i m) [
          | inl same ↦
              let f : Some n.height ≡ Some g = sym sets.here ∙ ap r (sym same) ∙ e in
              let is : g ≡ n.height = cc in
              is ∙ sym (ap height_in (made_here s t m n made)) ∙ ap (height_at t) (sym same)
          | inr ne ↦ a.right i g (sym (sets.other i ne) ∙ e) ∙ sym (ap height_in (made_other s t m n made i ne))
        ]

-- the world where a node was added that is no higher than need be
pub world_added : (s t : Stored) (l k : Lives) (q r : Queued) (i h top m floor nest : ℕ) (kind : NodeKind) (inputs : List Held) (era : EraId)
    → IsWorld s l q i h → Adds s t l k q r m era.0 (new_node kind inputs era (least_height s.nodes floor inputs) nest i) → is_era l era.0 ≡ true
    → floor ≤ h + 1 → nest ≤ most_levels → h < 2 ^ 100 → top ≡ max h (least_height s.nodes floor inputs) → IsWorld t k r i top
world_added s t l k q r i h top m floor nest kind inputs era w a in_era low deep mild is = record {
  joined = joined_added s t m (new_node kind inputs era (least_height s.nodes floor inputs) nest i) a.makes l k era.0 a.alone a.joins in_era refl w.joined;
  queue = queued_added s t m (new_node kind inputs era (least_height s.nodes floor inputs) nest i) a.makes l k era.0 a.alone a.joins in_era refl q r w.queue a.queues;
  fit = fit;
  small = small;
  few = subst (λ (v : ℕ). v ≤ most_nodes) (sym a.makes.limit) w.few;
  below = below;
  mild = mild_top;
}
  where
    bound : least_height s.nodes floor inputs ≤ h + 1
    bound = under_bound s.nodes inputs floor h low w.below

    mild_top : top ≤ 2 ^ 100
    mild_top = let b : least_height s.nodes floor inputs ≤ h + 1 = bound in grind arith

    fit : (v : ℕ) (u : Node) → node_at t v ≡ Some u → IsFit i u
    fit v u e = elim (by_number v m) [
      | inl same ↦
          let f : Some (new_node kind inputs era (least_height s.nodes floor inputs) nest i) ≡ Some u = sym (made_here s t m (new_node kind inputs era (least_height s.nodes floor inputs) nest i) a.makes) ∙ ap (node_at t) (sym same) ∙ e in
          let is : new_node kind inputs era (least_height s.nodes floor inputs) nest i ≡ u = cc in
          subst (IsFit i) is (record { early = λ j never. cc; nest = deep })
      | inr ne ↦ w.fit v u (sym (made_other s t m (new_node kind inputs era (least_height s.nodes floor inputs) nest i) a.makes v ne) ∙ e)
    ]

    small : (v : ℕ) → IsSome (node_at t v) → v < t.limit
    small v e = subst (λ (b : ℕ). v < b) (sym a.makes.limit) (elim (by_number v m) [
      | inl same ↦ subst (λ (c : ℕ). c < s.limit) (sym same) a.makes.below
      | inr ne ↦ w.small v (ap is_some (sym (made_other s t m (new_node kind inputs era (least_height s.nodes floor inputs) nest i) a.makes v ne)) ∙ e)
    ])

    over : least_height s.nodes floor inputs ≤ top
    over = grind arith

    over_old : h ≤ top
    over_old = grind arith

    below : (v : ℕ) → height_at t v ≤ top
    below v = elim (by_number v m) [
      | inl same ↦ subst (λ (b : ℕ). b ≤ top) (sym (ap (height_at t) same ∙ ap height_in (made_here s t m (new_node kind inputs era (least_height s.nodes floor inputs) nest i) a.makes))) over
      | inr ne ↦
          let b : height_at s v ≤ h = w.below v in
          let c : h ≤ top = over_old in
          subst (λ (b : ℕ). b ≤ top) (sym (ap height_in (made_other s t m (new_node kind inputs era (least_height s.nodes floor inputs) nest i) a.makes v ne))) (omega arith)
    ]

-- what the calls give that make a node, join it to its era and queue it
pub adds : (s t : Stored) (l k : Lives) (q r : Queued) (m x : ℕ) (n v : Node) → AreJoined s l → Makes s t m n → JoinsEra l k x m → node_at t m ≡ Some v → Sets q r m (Some v.height) → Adds s t l k q r m x n
adds s t l k q r m x n v j made joins at sets = record {
  makes = made;
  alone = made_alone l s t m n j.there made;
  joins = joins;
  queues = subst (λ (g : ℕ). Sets q r m (Some g)) (ap height_in (sym at ∙ made_here s t m n made)) sets;
}

pub height_of_made : (s t : Stored) (m : ℕ) (n v : Node) → Makes s t m n → node_at t m ≡ Some v → v.height ≡ n.height
height_of_made s t m n v made at = ap height_in (sym at ∙ made_here s t m n made)
