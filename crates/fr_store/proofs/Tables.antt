-- A table of nodes through its changes.
use Rattle.std.proofs.Common.{◌≡◌, ◌≢◌, ℕ, zero, suc, ◌+◌, ◌-◌, ◌<◌, ◌≤◌, List, [], ◌∷◌, ◌++◌, length, map, replicate, inl, inr, Option, Some, None, IsSome, Bool, true, false, nat_eq, cond, is_some, count_by, vec_capacity, get_or, slice_set, refl, sym, ap, ◌∙◌, subst, arith, get_or-set_same, get_or-set_other, length-set, length-append}
use Rattle.std.proofs.lemmas.List.{append-nil, get_or-map, get_or_past, length-map, same_lists}
use Rattle.std.proofs.lemmas.List.Sums.{get_or-le-sum_by, sum_by-set, sum_by_push}
use Rattle.slab.specs.Slab.{Slab, get, with_value, Updates}
use Rattle.slab.proofs.SlabLemmas.{Updates-with_value}
use Rattle.fr_links.specs.Lists.{has_item}
use Rattle.fr_links.specs.Rings.{AllDifferent}
use Rattle.fr_links.proofs.Has.{by_truth, cons_absent, different_push, eq_is, has_append_cases, has_append_left, has_append_right, here, or_case, true_false}
use Rattle.fr_store.specs.declared.node.Node.{Node}
use Rattle.fr_store.specs.declared.table.Table.{Table}
use Rattle.fr_store.specs.Nodes.{node_in, placed}
use Rattle.fr_store.specs.Kept.{IsTable, SameNumbers, key_at, node_under, nodes_of}
use Rattle.fr_store.proofs.Lists.{by_bound, by_number}

pub some_same : {A : Type 0} (x y : A) → Some x ≡ Some y → x ≡ y
some_same x y e = cc

pub some_of : {A : Type 0} (o : Option A) → IsSome o → (x : A) × (o ≡ Some x)
some_of None s = cc
some_of (Some x) s = (x, refl)

pub is_there : {A : Type 0} (o : Option A) (x : A) → o ≡ Some x → IsSome o
is_there o x e = ap is_some e

pub none_some : {A B : Type 0} (o : Option A) (x : A) → o ≡ None → o ≡ Some x → B
none_some o x e f = cc

-- the node of a number is the one under its key
pub node_by_key : (nodes : Slab Node) (keys : List (Option ℕ)) (i : ℕ) → node_in (map (node_under nodes) keys) i ≡ node_under nodes (key_at keys i)
node_by_key nodes keys i = elim (by_bound i (length keys)) [
  | inl lt ↦ get_or-map (node_under nodes) keys i None None lt
  | inr le ↦
      get_or_past (map (node_under nodes) keys) i None (subst (λ (n : ℕ). n ≤ i) (sym (length-map keys (node_under nodes))) le)
      ∙ ap (node_under nodes) (sym (get_or_past keys i None le))
]

-- a number that has a key is one of those that there are
pub key_within : (keys : List (Option ℕ)) (i key : ℕ) → key_at keys i ≡ Some key → i < length keys
key_within keys i key e = elim (by_bound i (length keys)) [
  | inl lt ↦ lt
  | inr le ↦ none_some (key_at keys i) key (get_or_past keys i None le) e
]

-- a number that has a node has a key
pub key_of : (nodes : Slab Node) (keys : List (Option ℕ)) (i : ℕ) (n : Node) → node_in (map (node_under nodes) keys) i ≡ Some n
    → (key : ℕ) × (key_at keys i ≡ Some key) × (get nodes key ≡ Some n)
key_of nodes keys i n e = by (key_at keys i) refl (sym (node_by_key nodes keys i) ∙ e)
  where
    by : (o : Option ℕ) → key_at keys i ≡ o → node_under nodes (key_at keys i) ≡ Some n → (key : ℕ) × (key_at keys i ≡ Some key) × (get nodes key ≡ Some n)
    by None is at = none_some (node_under nodes (key_at keys i)) n (ap (node_under nodes) is) at
    by (Some key) is at = (key, is, sym (ap (node_under nodes) is) ∙ at)

-- keys that lead to other nodes at one place alone
pub nodes_set : (f g : Option ℕ → Option Node) (old new : List (Option ℕ)) (i : ℕ) (x : Option Node) → length new ≡ length old → i < length old
    → g (key_at new i) ≡ x → ((j : ℕ) → j ≢ i → j < length old → g (key_at new j) ≡ f (key_at old j)) → map g new ≡ slice_set (map f old) i x
nodes_set f g old new i x len lt here others =
    same_lists (map g new) (slice_set (map f old) i x)
    (length-map new g ∙ len ∙ sym (length-map old f) ∙ sym (length-set (map f old) i x))
    (λ j d inside.
    let in_new : j < length new = subst (λ (n : ℕ). j < n) (length-map new g) inside in
    let in_old : j < length old = subst (λ (n : ℕ). j < n) len in_new in
    let long : i < length (map f old) = subst (λ (n : ℕ). i < n) (sym (length-map old f)) lt in
    get_or-map g new j None d in_new
    ∙ elim (by_number j i) [
      | inl e ↦ ap (λ (k : ℕ). g (key_at new k)) e ∙ here ∙ sym (ap (λ (k : ℕ). get_or (slice_set (map f old) i x) k d) e ∙ get_or-set_same (map f old) i x d long)
      | inr ne ↦ others j ne in_old ∙ sym (get_or-set_other (map f old) i j x d ne ∙ get_or-map f old j None d in_old)
    ])

-- one more key at the end, and the others lead where they led
pub nodes_push : (f g : Option ℕ → Option Node) (keys : List (Option ℕ)) (key : Option ℕ) (x : Option Node) → g key ≡ x
    → ((j : ℕ) → j < length keys → g (key_at keys j) ≡ f (key_at keys j)) → map g (keys ++ key ∷ []) ≡ map f keys ++ x ∷ []
nodes_push f g [] key x here others = ap (λ (y : Option Node). y ∷ []) here
nodes_push f g (k ∷ keys) key x here others =
    ap (λ (y : Option Node). y ∷ map g (keys ++ key ∷ [])) (others zero (omega arith))
    ∙ ap (λ (l : List (Option Node)). f k ∷ l) (nodes_push f g keys key x here (λ j lt. others (suc j) (omega arith)))

some_count : Option Node → ℕ
some_count o = cond (is_some o) 1 0

-- how many nodes there are where one was put, taken out or changed
pub count_set : (nodes : List (Option Node)) (i : ℕ) (x : Option Node) → i < length nodes
    → count_by is_some (slice_set nodes i x) + cond (is_some (node_in nodes i)) 1 0 ≡ count_by is_some nodes + cond (is_some x) 1 0
count_set nodes i x lt = sum_by-set (λ o. cond (is_some o) 1 0) nodes i x None lt

pub count_push : (nodes : List (Option Node)) (n : Node) → count_by is_some (nodes ++ Some n ∷ []) ≡ count_by is_some nodes + 1
count_push nodes n = sum_by_push (λ o. cond (is_some o) 1 0) nodes (Some n)

under_other : (old new : Slab Node) (key : ℕ) (slot : Option Node) → Updates old new key slot → (o : Option ℕ) → ((k : ℕ) → o ≡ Some k → k ≢ key)
    → node_under new o ≡ node_under old o
under_other old new key slot u None apart = refl
under_other old new key slot u (Some k) apart = u.others k (apart k refl)

-- the same numbers, and nodes at the same keys
pub table_kept : (old new : Table) → IsTable old → SameNumbers old new → vec_capacity old.free ≤ vec_capacity new.free
    → ((key : ℕ) → IsSome (get old.nodes key) → IsSome (get new.nodes key)) → count_by is_some (nodes_of new) ≡ count_by is_some (nodes_of old) → IsTable new
table_kept old new t e room there same = record {
  few = subst (λ (ks : List (Option ℕ)). length ks ≤ 4194304) (sym e.keys) t.few;
  keyed = λ i key at. there key (t.keyed i key (subst (λ (ks : List (Option ℕ)). key_at ks i ≡ Some key) e.keys at));
  once = λ i j key a b. t.once i j key (subst (λ (ks : List (Option ℕ)). key_at ks i ≡ Some key) e.keys a)
      (subst (λ (ks : List (Option ℕ)). key_at ks j ≡ Some key) e.keys b);
  counted = e.count ∙ t.counted ∙ sym same;
  free = λ i h. let f = t.free i (subst (λ (fs : List ℕ). has_item fs i ≡ true) e.free h) in
      (subst (λ (ks : List (Option ℕ)). i < length ks) (sym e.keys) f.0, subst (λ (ks : List (Option ℕ)). key_at ks i ≡ None) (sym e.keys) f.1);
  free_once = subst AllDifferent (sym e.free) t.free_once;
  whole =
      let a : new.count ≡ old.count = e.count in
      let b : length new.free.items ≡ length old.free.items = ap length e.free in
      let d : length new.keys.items ≡ length old.keys.items = ap length e.keys in
      let w = t.whole in
      omega arith;
  room =
      let d : length new.keys.items ≡ length old.keys.items = ap length e.keys in
      let w = t.room in
      omega arith;
}

-- a node is written under the key of its number
pub nodes_written : (old new : Table) (i key : ℕ) (m : Node) → IsTable old → SameNumbers old new → key_at old.keys.items i ≡ Some key
    → new.nodes ≡ with_value old.nodes key m → nodes_of new ≡ slice_set (nodes_of old) i (Some m)
nodes_written old new i key m t e at written =
    nodes_set (node_under old.nodes) (node_under new.nodes) old.keys.items new.keys.items i (Some m) (ap length e.keys) (key_within old.keys.items i key at)
    (ap (λ (ks : List (Option ℕ)). node_under new.nodes (key_at ks i)) e.keys ∙ ap (node_under new.nodes) at ∙ updated.changed)
    (λ j ne lt. ap (λ (ks : List (Option ℕ)). node_under new.nodes (key_at ks j)) e.keys
    ∙ under_other old.nodes new.nodes key (Some m) updated (key_at old.keys.items j) (λ k is same. ne (t.once j i key (is ∙ ap Some same) at)))
  where
    updated : Updates old.nodes new.nodes key (Some m)
    updated = subst (λ (s : Slab Node). Updates old.nodes s key (Some m)) (sym written) (Updates-with_value old.nodes key m (t.keyed i key at))

pub table_written : (old new : Table) (i key : ℕ) (m : Node) → IsTable old → SameNumbers old new → vec_capacity old.free ≤ vec_capacity new.free
    → key_at old.keys.items i ≡ Some key → new.nodes ≡ with_value old.nodes key m → IsTable new
table_written old new i key m t e room at written =
    table_kept old new t e room there
    (let lt : i < length (nodes_of old) = subst (λ (n : ℕ). i < n) (sym (length-map old.keys.items (node_under old.nodes))) (key_within old.keys.items i key at) in
    let c = count_set (nodes_of old) i (Some m) lt in
    let had : cond (is_some (node_in (nodes_of old) i)) 1 0 ≡ 1 =
    ap (λ (b : Bool). cond b 1 0) (ap is_some (node_by_key old.nodes old.keys.items i ∙ ap (node_under old.nodes) at) ∙ t.keyed i key at) in
    let after : count_by is_some (nodes_of new) ≡ count_by is_some (slice_set (nodes_of old) i (Some m)) =
    ap (count_by is_some) (nodes_written old new i key m t e at written) in
    after ∙ same_sum (count_by is_some (slice_set (nodes_of old) i (Some m))) (count_by is_some (nodes_of old)) (cond (is_some (node_in (nodes_of old) i)) 1 0) had c)
  where
    same_sum : (a b x : ℕ) → x ≡ 1 → a + x ≡ b + 1 → a ≡ b
    same_sum a b x e s = omega arith

    updated : Updates old.nodes new.nodes key (Some m)
    updated = subst (λ (s : Slab Node). Updates old.nodes s key (Some m)) (sym written) (Updates-with_value old.nodes key m (t.keyed i key at))

    there : (k : ℕ) → IsSome (get old.nodes k) → IsSome (get new.nodes k)
    there k h = elim (by_number k key) [
      | inl same ↦ ap (λ (x : ℕ). is_some (get new.nodes x)) same ∙ ap is_some updated.changed
      | inr ne ↦ ap is_some (updated.others k ne) ∙ h
    ]

pub placed_within : (nodes : List (Option Node)) (i : ℕ) (n : Node) → i < length nodes → placed nodes i n ≡ slice_set nodes i (Some n)
placed_within nodes i n lt =
    let none : i + 1 - length nodes ≡ 0 = omega arith in
    ap (λ (k : ℕ). slice_set (nodes ++ replicate k None) i (Some n)) none ∙ ap (λ (l : List (Option Node)). slice_set l i (Some n)) (append-nil nodes)

pub placed_behind : (nodes : List (Option Node)) (n : Node) → placed nodes (length nodes) n ≡ nodes ++ Some n ∷ []
placed_behind nodes n =
    let one : length nodes + 1 - length nodes ≡ 1 = omega arith in
    ap (λ (k : ℕ). slice_set (nodes ++ replicate k None) (length nodes) (Some n)) one ∙ at_end nodes
  where
    at_end : (l : List (Option Node)) → slice_set (l ++ None ∷ []) (length l) (Some n) ≡ l ++ Some n ∷ []
    at_end [] = refl
    at_end (o ∷ l) = ap (λ (k : List (Option Node)). o ∷ k) (at_end l)

-- what a table is after a node was put at a number that was free
pub record Reused (old new : Table) (i key : ℕ) (n : Node) : Type 0 where
  pub free : old.free.items ≡ new.free.items ++ i ∷ []
  pub keys : new.keys.items ≡ slice_set old.keys.items i (Some key)
  pub vacant : get old.nodes key ≡ None
  pub nodes : Updates old.nodes new.nodes key (Some n)
  pub count : new.count ≡ old.count + 1
  pub room : vec_capacity new.free ≡ vec_capacity old.free

-- what a table is after a node was put at a new number
pub record Added (old new : Table) (key : ℕ) (n : Node) : Type 0 where
  pub none : old.free.items ≡ []
  pub free : new.free.items ≡ []
  pub keys : new.keys.items ≡ old.keys.items ++ Some key ∷ []
  pub vacant : get old.nodes key ≡ None
  pub nodes : Updates old.nodes new.nodes key (Some n)
  pub count : new.count ≡ old.count + 1
  pub few : old.count < 4194304
  pub room : length old.keys.items + 1 ≤ vec_capacity new.free

-- what a table is after a node was taken out
pub record Freed (old new : Table) (i key : ℕ) : Type 0 where
  pub at : key_at old.keys.items i ≡ Some key
  pub free : new.free.items ≡ old.free.items ++ i ∷ []
  pub keys : new.keys.items ≡ slice_set old.keys.items i None
  pub nodes : Updates old.nodes new.nodes key None
  pub count : new.count + 1 ≡ old.count
  pub room : vec_capacity new.free ≡ vec_capacity old.free

-- the last of a list in which no number stands twice
split_last : (xs : List ℕ) (x : ℕ) → AllDifferent (xs ++ x ∷ []) → AllDifferent xs × (has_item xs x ≡ false)
split_last [] x d = (tt, refl)
split_last (y ∷ xs) x d =
    let r = split_last xs x d.1 in
    let n = append_absent xs x y d.0 in
    ((n.0, r.0), cons_absent y xs x n.1 r.1)
  where
    append_absent : (xs : List ℕ) (x y : ℕ) → has_item (xs ++ x ∷ []) y ≡ false → (has_item xs y ≡ false) × (y ≢ x)
    append_absent xs x y n = (
      absent_of xs y (λ h. has_append_left xs (x ∷ []) y h) n,
      λ e. true_false (has_item (xs ++ x ∷ []) y) (subst (λ (k : ℕ). has_item (xs ++ x ∷ []) k ≡ true) (sym e) (has_append_right xs (x ∷ []) x (here x []))) n,
    )
      where
        absent_of : (xs : List ℕ) (y : ℕ) → (has_item xs y ≡ true → has_item (xs ++ x ∷ []) y ≡ true) → has_item (xs ++ x ∷ []) y ≡ false → has_item xs y ≡ false
        absent_of xs y f n = elim (by_truth (has_item xs y)) [
          | inl h ↦ true_false (has_item (xs ++ x ∷ []) y) (f h) n
          | inr a ↦ a
        ]

module _ (old new : Table) (i key : ℕ) (n : Node) (t : IsTable old) (r : Reused old new i key n) where
  listed : has_item old.free.items i ≡ true
  listed = subst (λ (fs : List ℕ). has_item fs i ≡ true) (sym r.free) (has_append_right new.free.items (i ∷ []) i (here i []))

  was_free : (i < length old.keys.items) × (key_at old.keys.items i ≡ None)
  was_free = t.free i listed

  rest : AllDifferent new.free.items × (has_item new.free.items i ≡ false)
  rest = split_last new.free.items i (subst AllDifferent r.free t.free_once)

  key_here : key_at new.keys.items i ≡ Some key
  key_here = ap (λ (ks : List (Option ℕ)). key_at ks i) r.keys ∙ get_or-set_same old.keys.items i (Some key) None was_free.0

  key_other : (j : ℕ) → j ≢ i → key_at new.keys.items j ≡ key_at old.keys.items j
  key_other j ne = ap (λ (ks : List (Option ℕ)). key_at ks j) r.keys ∙ get_or-set_other old.keys.items i j (Some key) None ne

  long : length new.keys.items ≡ length old.keys.items
  long = ap length r.keys ∙ length-set old.keys.items i (Some key)

  -- no number had the new key
  apart : (j k : ℕ) → key_at old.keys.items j ≡ Some k → k ≢ key
  apart j k at e = none_some (get old.nodes k) (some_of (get old.nodes k) (t.keyed j k at)).0 (ap (get old.nodes) e ∙ r.vacant) (some_of (get old.nodes k) (t.keyed j k at)).1

  pub reused_nodes : nodes_of new ≡ slice_set (nodes_of old) i (Some n)
  reused_nodes =
      nodes_set (node_under old.nodes) (node_under new.nodes) old.keys.items new.keys.items i (Some n) long was_free.0
      (ap (node_under new.nodes) key_here ∙ r.nodes.changed)
      (λ j ne lt. ap (node_under new.nodes) (key_other j ne) ∙ under_other old.nodes new.nodes key (Some n) r.nodes (key_at old.keys.items j) (λ k is. apart j k is))

  pub reused_placed : nodes_of new ≡ placed (nodes_of old) i n
  reused_placed = reused_nodes ∙ sym (placed_within (nodes_of old) i n (subst (λ (m : ℕ). i < m) (sym (length-map old.keys.items (node_under old.nodes))) was_free.0))

  -- a key is the new one at the number, and else one that was
  by_key : {A : Type 0} (j k : ℕ) → key_at new.keys.items j ≡ Some k → (j ≡ i → k ≡ key → A) → (j ≢ i → key_at old.keys.items j ≡ Some k → A) → A
  by_key j k at f g = elim (by_number j i) [
    | inl e ↦ f e (some_same k key (sym at ∙ ap (λ (x : ℕ). key_at new.keys.items x) e ∙ key_here))
    | inr ne ↦ g ne (sym (key_other j ne) ∙ at)
  ]

  pub reused_table : IsTable new
  reused_table = record {
    few = subst (λ (m : ℕ). m ≤ 4194304) (sym long) t.few;
    keyed = λ j k at. by_key j k at
        (λ e same. ap (λ (x : ℕ). is_some (get new.nodes x)) same ∙ ap is_some r.nodes.changed)
        (λ ne was. ap is_some (r.nodes.others k (apart j k was)) ∙ t.keyed j k was);
    once = λ j m k a b. by_key j k a
        (λ e same. by_key m k b (λ f _. e ∙ sym f) (λ ne was. absurd (apart m k was same)))
        (λ ne was. by_key m k b (λ f same. absurd (apart j k was same)) (λ _ other. t.once j m k was other));
    counted =
        let lt : i < length (nodes_of old) = subst (λ (m : ℕ). i < m) (sym (length-map old.keys.items (node_under old.nodes))) was_free.0 in
        let c = count_set (nodes_of old) i (Some n) lt in
        let had : cond (is_some (node_in (nodes_of old) i)) 1 0 ≡ 0 =
        ap (λ (o : Option Node). cond (is_some o) 1 0) (node_by_key old.nodes old.keys.items i ∙ ap (node_under old.nodes) was_free.1) in
        more new.count old.count (count_by is_some (nodes_of old)) (count_by is_some (slice_set (nodes_of old) i (Some n))) (cond (is_some (node_in (nodes_of old) i)) 1 0)
        r.count t.counted had c ∙ sym (ap (count_by is_some) reused_nodes);
    free = λ j h.
        let f = t.free j (subst (λ (fs : List ℕ). has_item fs j ≡ true) (sym r.free) (has_append_left new.free.items (i ∷ []) j h)) in (
          subst (λ (m : ℕ). j < m) (sym long) f.0,
          key_other j (λ e. true_false (has_item new.free.items j) h (ap (λ (x : ℕ). has_item new.free.items x) e ∙ rest.1)) ∙ f.1,
        );
    free_once = rest.0;
    whole =
        let a = r.count in
        let b : length old.free.items ≡ length new.free.items + 1 = ap length r.free ∙ length-append new.free.items (i ∷ []) in
        let d = long in
        let w = t.whole in
        omega arith;
    room =
        let a = r.room in
        let d = long in
        let w = t.room in
        omega arith;
  }
    where
      more : (new_count old_count old_some new_some x : ℕ) → new_count ≡ old_count + 1 → old_count ≡ old_some → x ≡ 0 → new_some + x ≡ old_some + 1 → new_count ≡ new_some
      more a b d e x f g h k = omega arith

module _ (old new : Table) (key : ℕ) (n : Node) (t : IsTable old) (r : Added old new key n) where
  new_apart : (j k : ℕ) → key_at old.keys.items j ≡ Some k → k ≢ key
  new_apart j k at e = none_some (get old.nodes k) (some_of (get old.nodes k) (t.keyed j k at)).0 (ap (get old.nodes) e ∙ r.vacant) (some_of (get old.nodes k) (t.keyed j k at)).1

  new_here : key_at new.keys.items (length old.keys.items) ≡ Some key
  new_here = ap (λ (ks : List (Option ℕ)). key_at ks (length old.keys.items)) r.keys ∙ at_end old.keys.items
    where
      at_end : (ks : List (Option ℕ)) → key_at (ks ++ Some key ∷ []) (length ks) ≡ Some key
      at_end [] = refl
      at_end (k ∷ ks) = at_end ks

  new_other : (j : ℕ) → j ≢ length old.keys.items → key_at new.keys.items j ≡ key_at old.keys.items j
  new_other j ne = ap (λ (ks : List (Option ℕ)). key_at ks j) r.keys ∙ before old.keys.items j ne
    where
      before : (ks : List (Option ℕ)) (j : ℕ) → j ≢ length ks → key_at (ks ++ Some key ∷ []) j ≡ key_at ks j
      before [] zero ne = absurd (ne refl)
      before [] (suc j) ne = refl
      before (k ∷ ks) zero ne = refl
      before (k ∷ ks) (suc j) ne = before ks j (λ e. ne (ap suc e))

  new_long : length new.keys.items ≡ length old.keys.items + 1
  new_long = ap length r.keys ∙ length-append old.keys.items (Some key ∷ [])

  pub added_nodes : nodes_of new ≡ nodes_of old ++ Some n ∷ []
  added_nodes =
      ap (map (node_under new.nodes)) r.keys
      ∙ nodes_push (node_under old.nodes) (node_under new.nodes) old.keys.items (Some key) (Some n) r.nodes.changed
      (λ j lt. under_other old.nodes new.nodes key (Some n) r.nodes (key_at old.keys.items j) (λ k is. new_apart j k is))

  pub added_placed : nodes_of new ≡ placed (nodes_of old) (length old.keys.items) n
  added_placed =
      added_nodes ∙ sym (ap (λ (m : ℕ). placed (nodes_of old) m n) (sym (length-map old.keys.items (node_under old.nodes))) ∙ placed_behind (nodes_of old) n)

  by_new : {A : Type 0} (j k : ℕ) → key_at new.keys.items j ≡ Some k → (j ≡ length old.keys.items → k ≡ key → A) → (key_at old.keys.items j ≡ Some k → A) → A
  by_new j k at f g = elim (by_number j (length old.keys.items)) [
    | inl e ↦ f e (some_same k key (sym at ∙ ap (λ (x : ℕ). key_at new.keys.items x) e ∙ new_here))
    | inr ne ↦ g (sym (new_other j ne) ∙ at)
  ]

  pub added_table : IsTable new
  added_table = record {
    few =
        let a = new_long in
        let b : length old.free.items ≡ 0 = ap length r.none in
        let w = t.whole in
        let f = r.few in
        omega arith;
    keyed = λ j k at. by_new j k at
        (λ e same. ap (λ (x : ℕ). is_some (get new.nodes x)) same ∙ ap is_some r.nodes.changed)
        (λ was. ap is_some (r.nodes.others k (new_apart j k was)) ∙ t.keyed j k was);
    once = λ j m k a b. by_new j k a
        (λ e same. by_new m k b (λ f _. e ∙ sym f) (λ was. absurd (new_apart m k was same)))
        (λ was. by_new m k b (λ f same. absurd (new_apart j k was same)) (λ other. t.once j m k was other));
    counted = r.count ∙ ap (λ (x : ℕ). x + 1) t.counted ∙ sym (ap (count_by is_some) added_nodes ∙ count_push (nodes_of old) n);
    free = λ j h. true_false (has_item new.free.items j) h (ap (λ (fs : List ℕ). has_item fs j) r.free);
    free_once = subst AllDifferent (sym r.free) tt;
    whole =
        let a = new_long in
        let b : length old.free.items ≡ 0 = ap length r.none in
        let d : length new.free.items ≡ 0 = ap length r.free in
        let w = t.whole in
        let f = r.count in
        omega arith;
    room =
        let a = new_long in
        let b = r.room in
        omega arith;
  }

module _ (old new : Table) (i key : ℕ) (t : IsTable old) (r : Freed old new i key) where
  within : i < length old.keys.items
  within = key_within old.keys.items i key r.at

  none_here : key_at new.keys.items i ≡ None
  none_here = ap (λ (ks : List (Option ℕ)). key_at ks i) r.keys ∙ get_or-set_same old.keys.items i None None within

  same_other : (j : ℕ) → j ≢ i → key_at new.keys.items j ≡ key_at old.keys.items j
  same_other j ne = ap (λ (ks : List (Option ℕ)). key_at ks j) r.keys ∙ get_or-set_other old.keys.items i j None None ne

  same_long : length new.keys.items ≡ length old.keys.items
  same_long = ap length r.keys ∙ length-set old.keys.items i None

  pub freed_nodes : nodes_of new ≡ slice_set (nodes_of old) i None
  freed_nodes =
      nodes_set (node_under old.nodes) (node_under new.nodes) old.keys.items new.keys.items i None same_long within
      (ap (node_under new.nodes) none_here)
      (λ j ne lt. ap (node_under new.nodes) (same_other j ne)
      ∙ under_other old.nodes new.nodes key None r.nodes (key_at old.keys.items j) (λ k is same. ne (t.once j i key (is ∙ ap Some same) r.at)))

  -- a key is one that was, of another number
  by_old : {A : Type 0} (j k : ℕ) → key_at new.keys.items j ≡ Some k → (j ≢ i → key_at old.keys.items j ≡ Some k → A) → A
  by_old j k at g = elim (by_number j i) [
    | inl e ↦ none_some (key_at new.keys.items j) k (ap (λ (x : ℕ). key_at new.keys.items x) e ∙ none_here) at
    | inr ne ↦ g ne (sym (same_other j ne) ∙ at)
  ]

  not_listed : has_item old.free.items i ≡ false
  not_listed = elim (by_truth (has_item old.free.items i)) [
    | inl h ↦ none_some (key_at old.keys.items i) key (t.free i h).1 r.at
    | inr f ↦ f
  ]

  pub freed_table : IsTable new
  freed_table = record {
    few = subst (λ (m : ℕ). m ≤ 4194304) (sym same_long) t.few;
    keyed = λ j k at. by_old j k at (λ ne was.
        ap is_some (r.nodes.others k (λ same. ne (t.once j i key (was ∙ ap Some same) r.at))) ∙ t.keyed j k was);
    once = λ j m k a b. by_old j k a (λ _ was. by_old m k b (λ _ other. t.once j m k was other));
    counted =
        let lt : i < length (nodes_of old) = subst (λ (m : ℕ). i < m) (sym (length-map old.keys.items (node_under old.nodes))) within in
        let c = count_set (nodes_of old) i None lt in
        let had : cond (is_some (node_in (nodes_of old) i)) 1 0 ≡ 1 =
        ap (λ (b : Bool). cond b 1 0) (ap is_some (node_by_key old.nodes old.keys.items i ∙ ap (node_under old.nodes) r.at) ∙ t.keyed i key r.at) in
        fewer new.count old.count (count_by is_some (nodes_of old)) (count_by is_some (slice_set (nodes_of old) i None)) (cond (is_some (node_in (nodes_of old) i)) 1 0)
        r.count t.counted had c ∙ sym (ap (count_by is_some) freed_nodes);
    free = λ j h. elim (has_append_cases old.free.items (i ∷ []) j (subst (λ (fs : List ℕ). has_item fs j ≡ true) r.free h)) [
      | inl was ↦
          let f = t.free j was in
          let ne : j ≢ i = λ e. true_false (has_item old.free.items j) was (ap (λ (x : ℕ). has_item old.free.items x) e ∙ not_listed) in
          (subst (λ (m : ℕ). j < m) (sym same_long) f.0, same_other j ne ∙ f.1)
      | inr last ↦
          let e : i ≡ j = only i j last in
          (subst (λ (x : ℕ). x < length new.keys.items) e (subst (λ (m : ℕ). i < m) (sym same_long) within), ap (λ (x : ℕ). key_at new.keys.items x) (sym e) ∙ none_here)
    ];
    free_once = subst AllDifferent (sym r.free) (different_push old.free.items i t.free_once not_listed);
    whole =
        let a = r.count in
        let b : length new.free.items ≡ length old.free.items + 1 = ap length r.free ∙ length-append old.free.items (i ∷ []) in
        let d = same_long in
        let w = t.whole in
        omega arith;
    room =
        let a = r.room in
        let d = same_long in
        let w = t.room in
        omega arith;
  }
    where
      fewer : (new_count old_count old_some new_some x : ℕ) → new_count + 1 ≡ old_count → old_count ≡ old_some → x ≡ 1 → new_some + x ≡ old_some + 0 → new_count ≡ new_some
      fewer a b d e x f g h k = omega arith

      only : (x y : ℕ) → has_item (x ∷ []) y ≡ true → x ≡ y
      only x y h = or_case (nat_eq x y) false h (λ e. eq_is x y e) (λ f. cc)

-- what is under the key of a number is its node
pub under_key : (t : Table) (i key : ℕ) (n : Node) → key_at t.keys.items i ≡ Some key → node_in (nodes_of t) i ≡ Some n → get t.nodes key ≡ Some n
under_key t i key n at e = sym (node_by_key t.nodes t.keys.items i ∙ ap (node_under t.nodes) at) ∙ e

-- a free number is one of those that there are
pub free_within : (t : Table) (rest : List ℕ) (i : ℕ) → IsTable t → t.free.items ≡ rest ++ i ∷ [] → i < length t.keys.items
free_within t rest i k e = (k.free i (subst (λ (fs : List ℕ). has_item fs i ≡ true) (sym e) (has_append_right rest (i ∷ []) i (here i [])))).0

pub no_items : {A : Type 0} (xs : List A) → length xs ≡ 0 → xs ≡ []
no_items [] e = refl
no_items (x ∷ xs) e = absurd (omega arith)

-- where there is a node the count isn't 0
pub some_counted : (t : Table) (i : ℕ) → IsTable t → IsSome (node_in (nodes_of t) i) → 1 ≤ t.count
some_counted t i k s = by (node_in (nodes_of t) i) refl s
  where
    at_least : (x sum count : ℕ) → x ≡ 1 → x ≤ sum → count ≡ sum → 1 ≤ count
    at_least x sum count a b d = omega arith

    by : (o : Option Node) → node_in (nodes_of t) i ≡ o → IsSome o → 1 ≤ t.count
    by None e h = cc
    by (Some n) e h =
        let key = key_of t.nodes t.keys.items i n e in
        let lt : i < length (nodes_of t) = subst (λ (m : ℕ). i < m) (sym (length-map t.keys.items (node_under t.nodes))) (key_within t.keys.items i key.0 key.1) in
        let c = get_or-le-sum_by (λ o. cond (is_some o) 1 0) (nodes_of t) i None lt in
        at_least (cond (is_some (node_in (nodes_of t) i)) 1 0) (count_by is_some (nodes_of t)) t.count (ap (λ (o : Option Node). cond (is_some o) 1 0) e) c k.counted
