-- What each call makes of the places, and what contracts see of it.
use Rattle.std.proofs.Common.{◌≡◌, ◌≢◌, ℕ, suc, ◌+◌, ◌/◌, ◌^◌, ◌<◌, ◌≤◌, List, [], ◌∷◌, ◌++◌, length, map, max, inl, inr, Option, Some, None, IsSome, IsTrue, Bool, true, false, cond, nat_eq, slice_get, slice_index_or, slice_set, refl, sym, ap, ◌∙◌, subst, arith, add-one}
use Rattle.std.specs.List.{range_with_len}
use Rattle.std.proofs.lemmas.List.{length-map, map-id}
use Rattle.std.proofs.lemmas.List.FromFn.{length-map-range_with_len}
use Rattle.fr_links.specs.declared.place.Place.{Place}
use Rattle.fr_links.specs.declared.place.Places.{Places}
use Rattle.fr_links.specs.Lists.{Linked, has_item, list_at, list_of, others, with_empty, with_first, with_last, without}
use Rattle.fr_links.specs.Rings.{AreRings, IsLinked, IsThere, Puts, SameSize, TakesOut, item_place, items_in, linked, list_place, next_of, place_at, previous_of, ring_of}
use Rattle.fr_links.proofs.Has.{by_truth, eq_apart, eq_is, eq_self, half_item, half_list, has_append_cases, item_no_list, or_case, there, true_false}
use Rattle.fr_links.proofs.Kept.{after_place, before_place, first_is, grown, item_there, last_is, one_list, put_first, put_last, taken_out}
use Rattle.fr_links.proofs.Others.{others_has}
use Rattle.fr_links.proofs.Places.{read_item, there_item, there_list}
use Rattle.fr_links.proofs.Seen.{as_seen, first_item, has_at, items_seen, next_item}
use Rattle.fr_links.proofs.Segments.{back_again, first_in, last_in}
use Rattle.fr_links.proofs.Views.{found, in_none, in_some, inside, list_at_is, not_found, view_grown, view_map, view_set}

abbrev make : List (List ℕ) → ℕ → Linked
make lists items = record { lists = lists; items = items }

same_linked : (xs ys : List (List ℕ)) (m n : ℕ) → xs ≡ ys → m ≡ n → make xs m ≡ make ys n
same_linked xs ys m n e f = ap (λ (zs : List (List ℕ)). make zs m) e ∙ ap (make ys) f

module _ (places : Places) (lists items : ℕ) (k : IsLinked places lists items) (v : Linked) (is : linked places lists items ≡ v) where
  abbrev in_list : ℕ → List ℕ
  in_list l = items_in places items l

  abbrev Rings : Type 0
  Rings = AreRings (next_of places) (previous_of places) (ring_of places) lists items in_list

  one : (i l m : ℕ) → has_item (in_list l) i ≡ true → has_item (in_list m) i ≡ true → l ≡ m
  one i l m = one_list (next_of places) (previous_of places) (ring_of places) lists items in_list k.rings l m i

  pub list_below : (l : ℕ) → l < length v.lists → l < lists
  list_below l h = subst (λ (n : ℕ). l < n) (ap (λ (w : Linked). length w.lists) (sym is) ∙ length-map-range_with_len in_list 0 lists) h

  pub item_below : (i : ℕ) → i < v.items → i < items
  item_below i h = subst (λ (w : Linked). i < w.items) (sym is) h

  pub list_is : (l : ℕ) → list_at v.lists l ≡ in_list l
  list_is l = subst (λ (w : Linked). list_at w.lists l ≡ in_list l) is (list_at_is in_list lists k.rings.beyond l)

  pub absent : (i : ℕ) → list_of v.lists i ≡ None → (l : ℕ) → has_item (in_list l) i ≡ false
  absent i none = in_none in_list lists k.rings.beyond i (one i) (subst (λ (w : Linked). list_of w.lists i ≡ None) (sym is) none)

  pub stands : (i : ℕ) → IsSome (list_of v.lists i) → (l : ℕ) × (has_item (in_list l) i ≡ true)
  stands i some_list = in_some in_list lists k.rings.beyond i (one i) (subst (λ (w : Linked). IsSome (list_of w.lists i)) (sym is) some_list)

  pub list_fits : (l : ℕ) → l < length v.lists → l < 2 ^ 31
  list_fits l h =
      let below : l < lists = list_below l h in
      let room = k.for_lists in
      let few = k.few_lists in
      omega arith

  pub list_bound : (l : ℕ) → l < lists → IsThere places (list_place l)
  list_bound l below = let room = k.for_lists in there_list places l (omega arith)

  pub item_bound : (i : ℕ) → i < items → IsThere places (item_place i)
  item_bound i below = let room = k.for_items in there_item places i (omega arith)

  pub item_fits : (i : ℕ) → i < items → i < 2 ^ 31
  item_fits i below =
      let room = k.for_items in
      let few = k.few_items in
      omega arith

  pub item_stands_fits : (i : ℕ) → IsSome (list_of v.lists i) → i < items
  item_stands_fits i s = let at = stands i s in k.rings.small at.0 i at.1

  -- each place of a ring is a place
  ring_bound : (l p : ℕ) → l < lists → has_item (list_place l ∷ map item_place (in_list l)) p ≡ true → IsThere places p
  ring_bound l p below h = or_case (nat_eq (list_place l) p) (has_item (map item_place (in_list l)) p) h
      (λ e. subst (IsThere places) (eq_is (list_place l) p e) (list_bound l below))
      (λ later. let r = item_there (in_list l) p later in subst (IsThere places) (sym r.1) (item_bound r.0 (k.rings.small l r.0 r.2)))

  ring_bound_too : (l p : ℕ) → l < lists → has_item (map item_place (in_list l) ++ list_place l ∷ []) p ≡ true → IsThere places p
  ring_bound_too l p below h = elim (has_append_cases (map item_place (in_list l)) (list_place l ∷ []) p h) [
    | inl early ↦ ring_bound l p below (there (list_place l) p (map item_place (in_list l)) early)
    | inr last ↦ or_case (nat_eq (list_place l) p) false last (λ e. subst (IsThere places) (eq_is (list_place l) p e) (list_bound l below))
        (λ f. cc)
  ]

  pub last_bound : (l r : ℕ) → l < lists → r ≡ list_place l → IsThere places (previous_of places r)
  last_bound l r below e =
      subst (λ (q : ℕ). IsThere places (previous_of places q)) (sym e)
      (ring_bound l (previous_of places (list_place l)) below
      (last_in (next_of places) (previous_of places) (list_place l) (map item_place (in_list l)) (list_place l) (k.rings.segment l)))

  pub first_bound : (l r : ℕ) → l < lists → r ≡ list_place l → IsThere places (next_of places r)
  first_bound l r below e =
      subst (λ (q : ℕ). IsThere places (next_of places q)) (sym e)
      (ring_bound_too l (next_of places (list_place l)) below
      (first_in (next_of places) (previous_of places) (list_place l) (map item_place (in_list l)) (list_place l) (k.rings.segment l)))

  -- an item that stands in no list is no place of a ring
  pub not_in_ring : (l i p q : ℕ) → list_of v.lists i ≡ None → p ≡ item_place i → ring_of places q ≡ list_place l → p ≢ q
  not_in_ring l i p q none e r same =
      true_false (has_item (in_list l) i) (k.rings.owned l i (ap (ring_of places) (sym e ∙ same) ∙ r)) (absent i none l)

  pub ring_of_last : (l r : ℕ) → r ≡ list_place l → ring_of places (previous_of places r) ≡ list_place l
  ring_of_last l r e =
      subst (λ (q : ℕ). ring_of places (previous_of places q) ≡ list_place l) (sym e)
      (last_is (next_of places) (previous_of places) (ring_of places) lists items in_list k.rings l)

  pub ring_of_first : (l r : ℕ) → r ≡ list_place l → ring_of places (next_of places r) ≡ list_place l
  ring_of_first l r e =
      subst (λ (q : ℕ). ring_of places (next_of places q) ≡ list_place l) (sym e)
      (first_is (next_of places) (previous_of places) (ring_of places) lists items in_list k.rings l)

  -- the first place of a list, as it is read for a push in front
  module _ (l r n : ℕ) (in_lists : l < length v.lists) (er : r ≡ list_place l) (e : n ≡ next_of places r) where
    pub list_in_places : IsThere places r
    list_in_places = subst (IsThere places) (sym er) (list_bound l (list_below l in_lists))

    pub front_before_bound : IsThere places n
    front_before_bound = subst (IsThere places) (sym e) (first_bound l r (list_below l in_lists) er)

    front_last_is : previous_of places n ≡ r
    front_last_is =
        ap (previous_of places) (e ∙ ap (next_of places) er)
        ∙ back_again (next_of places) (previous_of places) (list_place l) (map item_place (in_list l)) (k.rings.segment l) ∙ sym er

    pub front_last_bound : IsThere places (previous_of places n)
    front_last_bound = subst (IsThere places) (sym front_last_is) list_in_places

    module _ (i p : ℕ) (none : list_of v.lists i ≡ None) (ep : p ≡ item_place i) where
      pub front_not_before : p ≢ n
      front_not_before = not_in_ring l i p n none ep (ap (ring_of places) e ∙ ring_of_first l r er)

      pub front_not_last : p ≢ previous_of places n
      front_not_last = not_in_ring l i p (previous_of places n) none ep (ap (ring_of places) (front_last_is ∙ er) ∙ k.rings.ring_self l)

    pub front_puts : (new : Places) (p : ℕ) → Puts places new p n r → Puts places new p (next_of places r) r
    front_puts new p puts = subst (λ (q : ℕ). Puts places new p q r) e puts

  module _ (new : Places) where
    kept : (list : ℕ → List ℕ) → AreRings (next_of new) (previous_of new) (ring_of new) lists items list → SameSize places new → IsLinked new lists items
    kept list rings size = record {
      rings = as_seen new lists items list rings;
      for_lists = subst (λ (n : ℕ). lists ≤ n) (sym size.lists) k.for_lists;
      for_items = subst (λ (n : ℕ). items ≤ n) (sym size.items) k.for_items;
      few_lists = subst (λ (n : ℕ). n ≤ 2 ^ 31) (sym size.lists) k.few_lists;
      few_items = subst (λ (n : ℕ). n ≤ 2 ^ 31) (sym size.items) k.few_items;
    }

    -- one list is another
    view_changed : (l : ℕ) (xs : List ℕ) → l < lists → AreRings (next_of new) (previous_of new) (ring_of new) lists items
        (λ m. cond (nat_eq m l) xs (in_list m))
        → linked new lists items ≡ record v { lists = slice_set v.lists l xs }
    view_changed l xs below rings =
        same_linked (map (items_in new items) (range_with_len 0 lists)) (slice_set v.lists l xs) items v.items
        (view_set in_list (items_in new items) lists l xs below
        (items_seen new lists items (λ m. cond (nat_eq m l) xs (in_list m)) rings l ∙ ap (λ (b : Bool). cond b xs (in_list l)) (eq_self l))
        (λ m apart. items_seen new lists items (λ n. cond (nat_eq n l) xs (in_list n)) rings m ∙ ap (λ (b : Bool). cond b xs (in_list m)) (eq_apart m l apart))
        ∙ ap (λ (w : Linked). slice_set w.lists l xs) is)
        (ap (λ (w : Linked). w.items) is)

    module _ (l i p r : ℕ) (in_lists : l < length v.lists) (in_items : i < v.items) (none : list_of v.lists i ≡ None) (ep : p ≡ item_place i)
        (er : r ≡ list_place l) where
      pushed_back : Puts places new p r r → AreRings (next_of new) (previous_of new) (ring_of new) lists items
          (λ m. cond (nat_eq m l) (in_list l ++ i ∷ []) (in_list m))
      pushed_back puts =
          put_last places new lists items in_list k.rings l i (list_below l in_lists) (item_below i in_items) (absent i none)
          (subst (λ (q : ℕ). Puts places new q (list_place l) (list_place l)) ep (subst (λ (q : ℕ). Puts places new p q q) er puts))

      pushed_front : Puts places new p (next_of places r) r → AreRings (next_of new) (previous_of new) (ring_of new) lists items
          (λ m. cond (nat_eq m l) (i ∷ in_list l) (in_list m))
      pushed_front puts =
          put_first places new lists items in_list k.rings l i (list_below l in_lists) (item_below i in_items) (absent i none)
          (subst (λ (q : ℕ). Puts places new q (next_of places (list_place l)) (list_place l)) ep
          (subst (λ (q : ℕ). Puts places new p (next_of places q) q) er puts))

      pub back_kept : Puts places new p r r → IsLinked new lists items
      back_kept puts = kept (λ m. cond (nat_eq m l) (in_list l ++ i ∷ []) (in_list m)) (pushed_back puts) puts.size

      pub back_seen : Puts places new p r r → linked new lists items ≡ record v { lists = with_last v.lists l i }
      back_seen puts =
          view_changed l (in_list l ++ i ∷ []) (list_below l in_lists) (pushed_back puts)
          ∙ ap (λ (xs : List ℕ). make (slice_set v.lists l (xs ++ i ∷ [])) v.items) (sym (list_is l))

      pub front_kept : Puts places new p (next_of places r) r → IsLinked new lists items
      front_kept puts = kept (λ m. cond (nat_eq m l) (i ∷ in_list l) (in_list m)) (pushed_front puts) puts.size

      pub front_seen : Puts places new p (next_of places r) r → linked new lists items ≡ record v { lists = with_first v.lists l i }
      front_seen puts =
          view_changed l (i ∷ in_list l) (list_below l in_lists) (pushed_front puts)
          ∙ ap (λ (xs : List ℕ). make (slice_set v.lists l (i ∷ xs)) v.items) (sym (list_is l))

    module _ (i p : ℕ) (s : IsSome (list_of v.lists i)) (ep : p ≡ item_place i) (takes : TakesOut places new p) where
      left : AreRings (next_of new) (previous_of new) (ring_of new) lists items (λ m. others (in_list m) i)
      left =
          let at = stands i s in
          taken_out places new lists items in_list k.rings at.0 i at.1 (subst (λ (q : ℕ). TakesOut places new q) ep takes)

      pub unlink_kept : IsLinked new lists items
      unlink_kept = kept (λ m. others (in_list m) i) left takes.size

      pub unlink_seen : linked new lists items ≡ record v { lists = without v.lists i }
      unlink_seen =
          same_linked (map (items_in new items) (range_with_len 0 lists)) (without v.lists i) items v.items
          (view_map in_list (items_in new items) (λ xs. others xs i) lists (λ m. items_seen new lists items (λ n. others (in_list n) i) left m)
          ∙ ap (λ (w : Linked). without w.lists i) is)
          (ap (λ (w : Linked). w.items) is)

      -- then it stands in no list
      pub unlinked : list_of (without v.lists i) i ≡ None
      unlinked =
          subst (λ (w : Linked). list_of w.lists i ≡ None) unlink_seen
          (not_found (items_in new items) lists unlink_kept.rings.beyond i
          (λ l m. one_list (next_of new) (previous_of new) (ring_of new) lists items (items_in new items) unlink_kept.rings l m i)
          (λ l. ap (λ (xs : List ℕ). has_item xs i) (items_seen new lists items (λ n. others (in_list n) i) left l) ∙ gone l))
        where
          gone : (l : ℕ) → has_item (others (in_list l) i) i ≡ false
          gone l = elim (by_truth (has_item (others (in_list l) i) i)) [ inl h ↦ absurd ((others_has (in_list l) i i h).1 refl) | inr n ↦ n ]

  -- where an item that stands in a list leads
  module _ (l i p : ℕ) (at : has_item (in_list l) i ≡ true) (ep : p ≡ item_place i) where
    below : l < lists
    below = inside in_list lists k.rings.beyond l i at

    pub after_bound : IsThere places (next_of places p)
    after_bound =
        subst (λ (q : ℕ). IsThere places (next_of places q)) (sym ep)
        (ring_bound_too l (next_of places (item_place i)) below
        (after_place (next_of places) (previous_of places) (ring_of places) lists items in_list k.rings l i at))

    pub before_bound : IsThere places (previous_of places p)
    before_bound =
        subst (λ (q : ℕ). IsThere places (previous_of places q)) (sym ep)
        (ring_bound l (previous_of places (item_place i)) below
        (before_place (next_of places) (previous_of places) (ring_of places) lists items in_list k.rings l i at))

  pub first_seen : (l r n : ℕ) (o : Option ℕ) → r ≡ list_place l → n ≡ next_of places r
      → (n ≡ r → o ≡ None) → (n ≢ r → o ≡ Some (n / 2)) → o ≡ slice_get (list_at v.lists l) 0
  first_seen l r n o er e none some_item =
      let leads : n ≡ next_of places (list_place l) = e ∙ ap (next_of places) er in
      elim (first_item (next_of places) (previous_of places) (list_place l) (list_place l) (in_list l) (k.rings.segment l)) [
        | inl ended ↦ none (leads ∙ ended.0 ∙ sym er) ∙ sym (ap (λ (xs : List ℕ). slice_get xs 0) (list_is l) ∙ ended.1)
        | inr more ↦
            some_item (λ same. item_no_list more.0 l (sym (leads ∙ more.1) ∙ same ∙ er))
            ∙ ap (λ (m : ℕ). Some (m / 2)) (leads ∙ more.1) ∙ ap (λ (m : ℕ). Some m) (half_item more.0)
            ∙ sym (ap (λ (xs : List ℕ). slice_get xs 0) (list_is l) ∙ more.2)
      ]

  pub first_beyond : (l : ℕ) → lists ≤ l → None ≡ slice_get (list_at v.lists l) 0
  first_beyond l le = sym (ap (λ (xs : List ℕ). slice_get xs 0) (list_is l ∙ k.rings.beyond l le))

  pub next_seen : (i : ℕ) (x : Place) (o : Option ℕ) → i < length places.items.items → x ≡ slice_index_or places.items.items i x
      → (x.next ≡ x.ring → o ≡ None) → (x.next ≢ x.ring → o ≡ Some (x.next / 2))
      → (l n : ℕ) → slice_get (list_at v.lists l) n ≡ Some i → o ≡ slice_get (list_at v.lists l) (n + 1)
  next_seen i x o bound e none some_item l n at =
      let there_at : slice_get (in_list l) n ≡ Some i = ap (λ (xs : List ℕ). slice_get xs n) (sym (list_is l)) ∙ at in
      let leads : x.next ≡ next_of places (item_place i) = ap (λ (y : Place). y.next) (read_item places i x bound e) in
      let its_ring : x.ring ≡ list_place l =
      ap (λ (y : Place). y.ring) (read_item places i x bound e) ∙ k.rings.owner l i (has_at (in_list l) n i there_at) in
      let after : slice_get (list_at v.lists l) (n + 1) ≡ slice_get (in_list l) (suc n) =
      ap (λ (xs : List ℕ). slice_get xs (n + 1)) (list_is l) ∙ ap (slice_get (in_list l)) (add-one n) in
      elim (next_item (next_of places) (previous_of places) (list_place l) (list_place l) (in_list l) n i (k.rings.segment l) there_at) [
        | inl ended ↦ none (leads ∙ ended.0 ∙ sym its_ring) ∙ sym (after ∙ ended.1)
        | inr more ↦
            some_item (λ same. item_no_list more.0 l (sym (leads ∙ more.1) ∙ same ∙ its_ring))
            ∙ ap (λ (m : ℕ). Some (m / 2)) (leads ∙ more.1) ∙ ap (λ (m : ℕ). Some m) (half_item more.0) ∙ sym (after ∙ more.2)
      ]

  -- an item in none of the lists
  in_no_list : (i : ℕ) → ((l : ℕ) → has_item (in_list l) i ≡ false) → list_of v.lists i ≡ None
  in_no_list i gone = subst (λ (w : Linked). list_of w.lists i ≡ None) is (not_found in_list lists k.rings.beyond i (one i) gone)

  in_that_list : (i l : ℕ) → has_item (in_list l) i ≡ true → list_of v.lists i ≡ Some l
  in_that_list i l h = subst (λ (w : Linked). list_of w.lists i ≡ Some l) is (found in_list lists k.rings.beyond i (one i) l h)

  pub only_list : (i l : ℕ) → IsTrue (has_item (list_at v.lists l) i) → list_of v.lists i ≡ Some l
  only_list i l h = in_that_list i l (ap (λ (xs : List ℕ). has_item xs i) (sym (list_is l)) ∙ h)

  pub list_of_beyond : (i : ℕ) → items ≤ i → list_of v.lists i ≡ None
  list_of_beyond i le = in_no_list i (λ l. elim (by_truth (has_item (in_list l) i)) [
    | inl h ↦ let lt : i < items = k.rings.small l i h in absurd (omega arith)
    | inr n ↦ n
  ])

  pub list_of_seen : (i p : ℕ) (x : Place) (o : Option ℕ) → p ≡ item_place i → i < length places.items.items → x ≡ slice_index_or places.items.items i x
      → (x.ring ≡ p → o ≡ None) → (x.ring ≢ p → o ≡ Some (x.ring / 2)) → o ≡ list_of v.lists i
  list_of_seen i p x o ep bound e none some_list =
      let its_ring : x.ring ≡ ring_of places (item_place i) = ap (λ (y : Place). y.ring) (read_item places i x bound e) in
      elim (k.rings.somewhere i) [
        | inl alone ↦
            none (its_ring ∙ alone ∙ sym ep)
            ∙ sym (in_no_list i (λ l. elim (by_truth (has_item (in_list l) i)) [
              | inl h ↦ absurd
                  (item_no_list i l (sym alone ∙ k.rings.owner l i h))
              | inr n ↦ n
            ]))
        | inr of_list ↦
            some_list (λ same. item_no_list i of_list.0 (sym ep ∙ sym same ∙ its_ring ∙ of_list.1))
            ∙ ap (λ (n : ℕ). Some (n / 2)) (its_ring ∙ of_list.1) ∙ ap (λ (n : ℕ). Some n) (half_list of_list.0)
            ∙ sym (in_that_list i of_list.0 (k.rings.owned of_list.0 i of_list.1))
      ]

  module _ (new : Places) (lists' items' : ℕ) (more_lists : lists ≤ lists') (more_items : items ≤ items')
      (same : (p : ℕ) → place_at new p ≡ place_at places p) where
    grown_rings : AreRings (next_of new) (previous_of new) (ring_of new) lists' items' in_list
    grown_rings =
        grown (next_of places) (previous_of places) (ring_of places) (next_of new) (previous_of new) (ring_of new) lists items lists' items' in_list k.rings
        (λ p. ap (λ (x : Place). x.next) (same p)) (λ p. ap (λ (x : Place). x.previous) (same p))
        (λ p. ap (λ (x : Place). x.ring) (same p)) more_lists more_items

    pub reserve_kept : lists' ≤ length new.lists.items → items' ≤ length new.items.items → length new.lists.items ≤ 2 ^ 31 → length new.items.items ≤ 2 ^ 31
        → IsLinked new lists' items'
    reserve_kept for_lists for_items few_lists few_items = record {
      rings = as_seen new lists' items' in_list grown_rings;
      for_lists = for_lists;
      for_items = for_items;
      few_lists = few_lists;
      few_items = few_items;
    }

    pub reserve_seen : (many : ℕ) → lists' ≡ max lists many → (linked new lists' items').lists ≡ with_empty v.lists many
    reserve_seen many e =
        ap (λ (n : ℕ). map (items_in new items') (range_with_len 0 n)) e
        ∙ view_grown in_list (items_in new items') lists many (items_seen new lists' items' in_list grown_rings) k.rings.beyond
        ∙ ap (λ (w : Linked). with_empty w.lists many) is

-- an item that leaves its list and is put at the end of another
module _ (places : Places) (lists items : ℕ) (k : IsLinked places lists items) (v : Linked) (is : linked places lists items ≡ v)
    (mid : Places) (i p l r : ℕ) (s : IsSome (list_of v.lists i)) (ep : p ≡ item_place i) (takes : TakesOut places mid p)
    (in_lists : l < length v.lists) (er : r ≡ list_place l) where
  abbrev then_seen : Linked
  then_seen = record v { lists = without v.lists i }

  then_kept : IsLinked mid lists items
  then_kept = unlink_kept places lists items k v is mid i p s ep takes

  then_is : linked mid lists items ≡ then_seen
  then_is = unlink_seen places lists items k v is mid i p s ep takes

  then_alone : list_of (without v.lists i) i ≡ None
  then_alone = unlinked places lists items k v is mid i p s ep takes

  item_usable : i < v.items
  item_usable = subst (λ (w : Linked). i < w.items) is (item_stands_fits places lists items k v is i s)

  list_usable : l < length (without v.lists i)
  list_usable = subst (λ (n : ℕ). l < n) (sym (length-map v.lists (λ xs. others xs i))) in_lists

  pub mid_last_bound : IsThere mid (previous_of mid r)
  mid_last_bound = last_bound mid lists items then_kept then_seen then_is l r (list_below places lists items k v is l in_lists) er

  pub mid_not_last : p ≢ previous_of mid r
  mid_not_last =
      not_in_ring mid lists items then_kept then_seen then_is l i p (previous_of mid r) then_alone ep
      (ring_of_last mid lists items then_kept then_seen then_is l r er)

  pub moved_kept : (new : Places) → Puts mid new p r r → IsLinked new lists items
  moved_kept new puts = back_kept mid lists items then_kept then_seen then_is new l i p r list_usable item_usable then_alone ep er puts

  pub moved_seen : (new : Places) → Puts mid new p r r → linked new lists items ≡ record v { lists = with_last (without v.lists i) l i }
  moved_seen new puts = back_seen mid lists items then_kept then_seen then_is new l i p r list_usable item_usable then_alone ep er puts

-- with no more lists and items, all is as it was
pub unchanged : (places : Places) (lists items : ℕ) (k : IsLinked places lists items) (v : Linked) (is : linked places lists items ≡ v) (new : Places)
    → ((p : ℕ) → place_at new p ≡ place_at places p) → linked new lists items ≡ v
unchanged places lists items k v is new same =
    same_linked (map (items_in new items) (range_with_len 0 lists)) v.lists items v.items
    (view_map (items_in places items) (items_in new items) (λ xs. xs) lists
    (items_seen new lists items (items_in places items) (grown_rings places lists items k v is new lists items (omega arith) (omega arith) same))
    ∙ map-id (map (items_in places items) (range_with_len 0 lists)) ∙ ap (λ (w : Linked). w.lists) is)
    (ap (λ (w : Linked). w.items) is)
