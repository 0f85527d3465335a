-- A world in which eras began, the agenda changed, heights rose or the dead were buried.
use Rattle.std.proofs.Common.{◌≡◌, ℕ, ◌+◌, ◌<◌, ◌≤◌, ◌^◌, List, length, inl, inr, ◌⊎◌, Option, Some, None, IsSome, is_some, Bool, true, false, not, ◌&&◌, refl, sym, ap, ◌∙◌, subst, arith}
use Rattle.std.specs.Option.{option_map}
use Rattle.fr_links.specs.Lists.{has_item}
use Rattle.fr_links.proofs.Has.{by_number, by_truth, true_false}
use Rattle.fr_queue.specs.Queue.{Queued}
use Rattle.fr_store.specs.declared.node.Node.{Node}
use Rattle.fr_store.specs.Nodes.{Stored, height_in, lifted, most_nodes, node_at}
use Rattle.fr_store.proofs.Tables.{some_of}
use Rattle.fr_eras.specs.Burial.{Buries, GivesUp}
use Rattle.fr_eras.specs.Lives.{BeginsEra, Lives, grave, members}
use Rattle.fr_eras.specs.Heights.{OnlyHeights, QueueFollows, height_at}
use Rattle.fr_eras.proofs.Theres.{there_begins}
use Rattle.fr_nodes.specs.Kinds.{Sites}
use Rattle.fr_nodes.specs.Signals.{BuriesAll}
use Rattle.fr_world.specs.World.{AreJoined, AreQueued, IsFit, IsWorld, are_different, cell_at, done_at, era_at, graph_of, inputs_at, is_live, kind_at, later_at, level_at, next_in, value_at, way_of}
use Rattle.fr_world.proofs.Whole.{live_apart, live_by, no_number}

-- the agenda has what it had, or less, or live nodes at their heights
pub queue_kept : (s : Stored) (l : Lives) (q r : Queued) → AreQueued s l q
    → ((m : ℕ) → (r m ≡ q m) ⊎ ((r m ≡ None) ⊎ ((is_live s l m ≡ true) × (r m ≡ Some (height_at s m))))) → AreQueued s l r
queue_kept s l q r a how = record { live = λ m h. live m h (how m); right = λ m g e. right m g e (how m) }
  where
    live : (m : ℕ) → IsSome (r m) → (r m ≡ q m) ⊎ ((r m ≡ None) ⊎ ((is_live s l m ≡ true) × (r m ≡ Some (height_at s m)))) → is_live s l m ≡ true
    live m h (inl same) = a.live m (ap is_some (sym same) ∙ h)
    live m h (inr (inl none)) = no_number (r m) none h
    live m h (inr (inr p)) = p.0

    right : (m g : ℕ) → r m ≡ Some g → (r m ≡ q m) ⊎ ((r m ≡ None) ⊎ ((is_live s l m ≡ true) × (r m ≡ Some (height_at s m)))) → g ≡ height_at s m
    right m g e (inl same) = a.right m g (sym same ∙ e)
    right m g e (inr (inl none)) = no_number (r m) none (ap is_some e)
    right m g e (inr (inr p)) = let f : Some g ≡ Some (height_at s m) = sym e ∙ p.1 in let same : g ≡ height_at s m = cc in same

-- an era began whose owner lives
pub joined_begun : (s : Stored) (k v : Lives) (x w : ℕ) → AreJoined s k → BeginsEra k v x → x ≡ w + 1 → is_live s k w ≡ true → AreJoined s v
joined_begun s k v x w j b at lives = record {
  there = there_begins k v s x j.there b;
  once = λ y. ap are_different (b.each y) ∙ j.once y;
  apart = λ y m h. ap (λ (xs : List ℕ). has_item xs m) b.buried ∙ j.apart y m (has y m h);
  era = λ y m h. j.era y m (has y m h);
  listed = λ m h. ap (λ (xs : List ℕ). has_item xs m) (b.each (era_at (node_at s m))) ∙ j.listed m (sym (live_begun m) ∙ h);
  hollow = λ y e. b.each y ∙ elim (by_number y x) [
    | inl same ↦ ap (members k) same ∙ sym (b.each x) ∙ b.fresh
    | inr ne ↦ j.hollow y (sym (b.eras y ne) ∙ e)
  ];
  owners = λ o e. live_begun o ∙ elim (by_number (o + 1) x) [
    | inl same ↦ let is : w ≡ o = omega arith in subst (λ (i : ℕ). is_live s k i ≡ true) is lives
    | inr ne ↦ j.owners o (sym (b.eras (o + 1) ne) ∙ e)
  ];
}
  where
    has : (y m : ℕ) → has_item (members v y) m ≡ true → has_item (members k y) m ≡ true
    has y m h = ap (λ (xs : List ℕ). has_item xs m) (sym (b.each y)) ∙ h

    live_begun : (m : ℕ) → is_live s v m ≡ is_live s k m
    live_begun m = ap (λ (xs : List ℕ). is_some (node_at s m) && not (has_item xs m)) b.buried

pub queued_begun : (s : Stored) (k v : Lives) (q : Queued) → AreQueued s k q → grave v ≡ grave k → AreQueued s v q
queued_begun s k v q a buried = record {
  live = λ m h. ap (λ (xs : List ℕ). is_some (node_at s m) && not (has_item xs m)) buried ∙ a.live m h;
  right = a.right;
}

-- heights alone changed
module _ (s t : Stored) (only : OnlyHeights s t) where
  keeps_all : {X : Type 0} (f : Option Node → X) → ((n : Node) (h : ℕ) → f (Some (lifted n h)) ≡ f (Some n)) → (m : ℕ) → f (node_at t m) ≡ f (node_at s m)
  keeps_all {X} f same m = ap f (only.each m) ∙ by (node_at s m)
    where
      by : (o : Option Node) → f (option_map (λ n. lifted n (height_at t m)) o) ≡ f o
      by None = refl
      by (Some n) = same n (height_at t m)

  pub raised_some : (m : ℕ) → is_some (node_at t m) ≡ is_some (node_at s m)
  raised_some = keeps_all is_some (λ n h. refl)

  pub raised_done : (i m : ℕ) → done_at i (node_at t m) ≡ done_at i (node_at s m)
  raised_done i = keeps_all (done_at i) (λ n h. refl)

  raised_live : (l : Lives) (m : ℕ) → is_live t l m ≡ is_live s l m
  raised_live l m = ap (λ (b : Bool). b && not (has_item (grave l) m)) (raised_some m)

  raised_era : (m : ℕ) → era_at (node_at t m) ≡ era_at (node_at s m)
  raised_era = keeps_all era_at (λ n h. refl)

  raised_next : (l : Lives) (m : ℕ) → next_in (length t.nodes) (members l (era_at (node_at t m))) m ≡ next_in (length s.nodes) (members l (era_at (node_at s m))) m
  raised_next l m = ap (λ (o : ℕ). next_in o (members l (era_at (node_at t m))) m) only.long ∙ ap (λ (y : ℕ). next_in (length s.nodes) (members l y) m) (raised_era m)

  -- the graph is the same
  pub raised_graph : (sites : Sites) (l : Lives) → graph_of sites t l ≡ graph_of sites s l
  raised_graph sites l = λ i. record {
    live = λ m. raised_live l m i;
    kind = λ m. keeps_all (kind_at sites m) (λ n h. refl) m i;
    inputs = λ m. keeps_all inputs_at (λ n h. refl) m i;
    later = λ m. keeps_all later_at (λ n h. refl) m i;
    value = λ m. keeps_all value_at (λ n h. refl) m i;
    cell = λ m. keeps_all cell_at (λ n h. refl) m i;
    level = λ m. keeps_all level_at (λ n h. refl) m i;
    era = λ m. raised_era m i;
    members = members l;
    result_of = λ m. raised_next l m i;
  }

  joined_raised : (l : Lives) → AreJoined s l → AreJoined t l
  joined_raised l j = record {
    there = record { member = λ y m h. raised_some m ∙ j.there.member y m h; buried = λ m h. raised_some m ∙ j.there.buried m h };
    once = j.once;
    apart = j.apart;
    era = λ y m h. raised_era m ∙ j.era y m h;
    listed = λ m h. ap (λ (y : ℕ). has_item (members l y) m) (raised_era m) ∙ j.listed m (sym (raised_live l m) ∙ h);
    hollow = j.hollow;
    owners = λ w e. raised_live l w ∙ j.owners w e;
  }

  pub world_raised : (l : Lives) (q r : Queued) (i h top : ℕ) → IsWorld s l q i h → QueueFollows q r t → ((m : ℕ) → height_at t m ≤ top) → top ≤ 2 ^ 100 → IsWorld t l r i top
  world_raised l q r i h top w follows low mild = record {
    joined = joined_raised l w.joined;
    queue = record { live = λ m e. raised_live l m ∙ w.queue.live m (was m (q m) (follows m) e); right = λ m g e. right m g (q m) (follows m) e };
    fit = λ m n e. fit m n e (some_of (node_at s m) (sym (raised_some m) ∙ ap is_some e));
    small = λ m e. (let b = w.small m (sym (raised_some m) ∙ e) in subst (λ (k : ℕ). m < k) (sym only.limit) b);
    few = subst (λ (k : ℕ). k ≤ most_nodes) (sym only.limit) w.few;
    below = low;
    mild = mild;
  }
    where
      was : (m : ℕ) (o : Option ℕ) → r m ≡ option_map (λ g. height_at t m) o → IsSome (r m) → IsSome o
      was m None e h = no_number (r m) e h
      was m (Some g) e h = refl

      right : (m g : ℕ) (o : Option ℕ) → r m ≡ option_map (λ k. height_at t m) o → r m ≡ Some g → g ≡ height_at t m
      right m g None e f = let c : None ≡ Some g = sym e ∙ f in cc
      right m g (Some k) e f = let c : Some (height_at t m) ≡ Some g = sym e ∙ f in let same : g ≡ height_at t m = cc in same

      fit : (m : ℕ) (n : Node) → node_at t m ≡ Some n → (v : Node) × (node_at s m ≡ Some v) → IsFit i n
      fit m n e p =
          let same : Some n ≡ Some (lifted p.0 (height_at t m)) = sym e ∙ only.each m ∙ ap (option_map (λ (v : Node). lifted v (height_at t m))) p.1 in
          let is : lifted p.0 (height_at t m) ≡ n = cc in
          let f = w.fit m p.0 p.1 in
          let g : IsFit i (lifted p.0 (height_at t m)) = record { early = f.early; nest = f.nest } in
          subst (IsFit i) is g

-- the dead gave up their numbers
module _ (s t : Stored) (l k : Lives) (buries : Buries l k) (gives : GivesUp (grave l) s t) where
  live_none : (o : Option Node) (b : Bool) → b ≡ true → (is_some o && not b) ≡ false
  live_none None b e = refl
  live_none (Some n) true e = refl
  live_none (Some n) false e = cc

  live_some : (o : Option Node) (b : Bool) → b ≡ false → (is_some o && not b) ≡ is_some o
  live_some None b e = refl
  live_some (Some n) false e = refl
  live_some (Some n) true e = cc

  pub buried_taken : (m : ℕ) → is_some (node_at t m) ≡ is_live s l m
  buried_taken m = elim (by_truth (has_item (grave l) m)) [
    | inl g ↦ ap is_some (gives.out m g) ∙ sym (live_none (node_at s m) (has_item (grave l) m) g)
    | inr g ↦ ap is_some (gives.others m g) ∙ sym (live_some (node_at s m) (has_item (grave l) m) g)
  ]

  pub buried_live : (m : ℕ) → is_live t k m ≡ is_live s l m
  buried_live m = ap (λ (xs : List ℕ). is_some (node_at t m) && not (has_item xs m)) buries.empty ∙ live_some (node_at t m) false refl ∙ buried_taken m

  buried_node : (m : ℕ) → is_live s l m ≡ true → node_at t m ≡ node_at s m
  buried_node m h = gives.others m (live_apart (node_at s m) (has_item (grave l) m) h)

  stays_node : (m : ℕ) → IsSome (node_at t m) → node_at t m ≡ node_at s m
  stays_node m h = buried_node m (sym (buried_taken m) ∙ h)

  joined_buried : AreJoined s l → AreJoined t k
  joined_buried j = record {
    there = record { member = λ y m h. buried_taken m ∙ lives j y m h; buried = λ m h. true_false (has_item (grave k) m) h (ap (λ (xs : List ℕ). has_item xs m) buries.empty) };
    once = λ y. ap are_different (buries.each y) ∙ j.once y;
    apart = λ y m h. ap (λ (xs : List ℕ). has_item xs m) buries.empty;
    era = λ y m h. ap era_at (buried_node m (lives j y m h)) ∙ j.era y m (has y m h);
    listed = λ m h. (let was = sym (buried_live m) ∙ h in
        ap (λ (xs : List ℕ). has_item xs m) (buries.each (era_at (node_at t m))) ∙ ap (λ (o : Option Node). has_item (members l (era_at o)) m) (buried_node m was) ∙ j.listed m was);
    hollow = λ y e. buries.each y ∙ j.hollow y (sym (buries.eras y) ∙ e);
    owners = λ w e. buried_live w ∙ j.owners w (sym (buries.eras (w + 1)) ∙ e);
  }
    where
      has : (y m : ℕ) → has_item (members k y) m ≡ true → has_item (members l y) m ≡ true
      has y m h = ap (λ (xs : List ℕ). has_item xs m) (sym (buries.each y)) ∙ h

      lives : AreJoined s l → (y m : ℕ) → has_item (members k y) m ≡ true → is_live s l m ≡ true
      lives w y m h = live_by (node_at s m) (has_item (grave l) m) (w.there.member y m (has y m h)) (w.apart y m (has y m h))

  pub world_buried : (q : Queued) (i h : ℕ) → IsWorld s l q i h → IsWorld t k q i h
  world_buried q i h w = record {
    joined = joined_buried w.joined;
    queue = record {
      live = λ m e. buried_live m ∙ w.queue.live m e;
      right = λ m g e. w.queue.right m g e ∙ sym (ap height_in (buried_node m (w.queue.live m (ap is_some e))));
    };
    fit = λ m n e. w.fit m n (sym (stays_node m (ap is_some e)) ∙ e);
    small = λ m e. (let b = w.small m (ap is_some (sym (stays_node m e)) ∙ e) in subst (λ (k : ℕ). m < k) (sym gives.limit) b);
    few = subst (λ (k : ℕ). k ≤ most_nodes) (sym gives.limit) w.few;
    below = λ m. elim (by_truth (has_item (grave l) m)) [
      | inl g ↦ subst (λ (o : Option Node). height_in o ≤ h) (sym (gives.out m g)) (omega arith)
      | inr g ↦ subst (λ (o : Option Node). height_in o ≤ h) (sym (gives.others m g)) (w.below m)
    ];
    mild = w.mild;
  }

  pub buries_all : (sites : Sites) (q : Queued) (i : ℕ) → BuriesAll (way_of sites s l q i) (way_of sites t k q i)
  buries_all sites q i = record {
    live = buried_live;
    taken = buried_taken;
    same = λ m h. (let e = buried_node m h in record {
      kind = ap (kind_at sites m) e;
      inputs = ap inputs_at e;
      later = ap later_at e;
      value = ap value_at e;
      cell = ap cell_at e;
      level = ap level_at e;
      era = ap era_at e;
      done = ap (done_at i) e;
    });
    height = λ m h. ap height_in (buried_node m h);
    queue = λ m. refl;
    members = buries.each;
    result_of = λ m h. ap (λ (o : ℕ). next_in o (members k (era_at (node_at t m))) m) gives.long
        ∙ ap (λ (xs : List ℕ). next_in (length s.nodes) xs m) (buries.each (era_at (node_at t m)))
        ∙ ap (λ (o : Option Node). next_in (length s.nodes) (members l (era_at o)) m) (buried_node m h);
  }
