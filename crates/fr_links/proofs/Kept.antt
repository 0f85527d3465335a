-- The places stay rings as an item is put in or taken out, and as places are added.
use Rattle.std.proofs.Common.{◌≡◌, ◌≢◌, ℕ, ◌<◌, ◌≤◌, List, [], ◌∷◌, ◌++◌, map, ◌⊎◌, inl, inr, Bool, true, false, cond, nat_eq, sym, ap, ◌∙◌, subst, arith, append_assoc}
use Rattle.std.proofs.lemmas.List.{map-append}
use Rattle.fr_links.specs.declared.place.Places.{Places}
use Rattle.fr_links.specs.Lists.{has_item, others}
use Rattle.fr_links.specs.Rings.{AllDifferent, AreRings, IsSegment, Puts, TakesOut, item_place, list_place, next_of, previous_of, ring_of}
use Rattle.fr_links.proofs.Has.{by_number, by_truth, cons_absent, differ, different_places, different_push, eq_is, eq_self, has_append_cases, has_append_left, has_append_right, has_place, here, item_no_list, no_list_place, or_case, same_item, same_list, there, true_false}
use Rattle.fr_links.proofs.Others.{others_absent, others_different, others_has, others_keeps, others_split, split_at}
use Rattle.fr_links.proofs.Segments.{after_in, back_again, before_in, first_in, last_in, segment_frame, segment_out, segment_put_first, segment_put_last}

-- one of the lists is another, and each is what it was but that one
at_change : (P : ℕ → List ℕ → Type 0) (m l : ℕ) (xs ys : List ℕ) → P l xs → (m ≢ l → P m ys) → P m (cond (nat_eq m l) xs ys)
at_change P m l xs ys changed same = elim (by_number m l) [
  | inl e ↦ subst (λ (n : ℕ). P n (cond (nat_eq n l) xs ys)) (sym e) (subst (λ (c : Bool). P l (cond c xs ys)) (sym (eq_self l)) changed)
  | inr apart ↦ subst (λ (c : Bool). P m (cond c xs ys)) (sym (apart_is m l apart)) (same apart)
]
  where
    apart_is : (i j : ℕ) → i ≢ j → nat_eq i j ≡ false
    apart_is i j apart = grind arith

-- a place of an item is that of an item in the list
pub item_there : (xs : List ℕ) (p : ℕ) → has_item (map item_place xs) p ≡ true → (i : ℕ) × (p ≡ item_place i) × (has_item xs i ≡ true)
item_there [] p h = cc
item_there (x ∷ xs) p h = or_case (nat_eq (item_place x) p) (has_item (map item_place xs) p) h
    (λ e. (x, sym (eq_is (item_place x) p e), here x xs))
    (λ later. let r = item_there xs p later in (r.0, r.1, there x r.0 xs r.2))

module _ (next previous ring : ℕ → ℕ) (lists items : ℕ) (list : ℕ → List ℕ) (k : AreRings next previous ring lists items list) where
  -- each place of a ring knows its list
  pub ring_is : (l p : ℕ) → has_item (list_place l ∷ map item_place (list l)) p ≡ true → ring p ≡ list_place l
  ring_is l p h = or_case (nat_eq (list_place l) p) (has_item (map item_place (list l)) p) h
      (λ e. subst (λ (q : ℕ). ring q ≡ list_place l) (eq_is (list_place l) p e) (k.ring_self l))
      (λ later. let r = item_there (list l) p later in ap ring r.1 ∙ k.owner l r.0 r.2)

  pub ring_is_too : (l p : ℕ) → has_item (map item_place (list l) ++ list_place l ∷ []) p ≡ true → ring p ≡ list_place l
  ring_is_too l p h = elim (has_append_cases (map item_place (list l)) (list_place l ∷ []) p h) [
    | inl early ↦ ring_is l p (there (list_place l) p (map item_place (list l)) early)
    | inr last ↦ or_case (nat_eq (list_place l) p) false last (λ e. subst (λ (q : ℕ). ring q ≡ list_place l) (eq_is (list_place l) p e) (k.ring_self l))
        (λ f. cc)
  ]

  -- an item stands in one list at most
  pub one_list : (l m i : ℕ) → has_item (list l) i ≡ true → has_item (list m) i ≡ true → l ≡ m
  one_list l m i h g = same_list l m (sym (k.owner l i h) ∙ k.owner m i g)

  pub last_is : (l : ℕ) → ring (previous (list_place l)) ≡ list_place l
  last_is l = ring_is l (previous (list_place l)) (last_in next previous (list_place l) (map item_place (list l)) (list_place l) (k.segment l))

  pub first_is : (l : ℕ) → ring (next (list_place l)) ≡ list_place l
  first_is l = ring_is_too l (next (list_place l)) (first_in next previous (list_place l) (map item_place (list l)) (list_place l) (k.segment l))

  -- the list's places are all different
  pub different : (l : ℕ) → AllDifferent (list_place l ∷ map item_place (list l))
  different l = (no_list_place (list l) l, different_places (list l) (k.once l))

  pub absent_place : (l i : ℕ) → has_item (list l) i ≡ false → has_item (list_place l ∷ map item_place (list l)) (item_place i) ≡ false
  absent_place l i n = cons_absent (list_place l) (map item_place (list l)) (item_place i) (λ e. item_no_list i l (sym e)) (has_place (list l) i ∙ n)

  -- the places before and after an item are of its list's ring
  module _ (l i : ℕ) (stands : has_item (list l) i ≡ true) where
    parts : (ps : List ℕ) × (qs : List ℕ) × (list l ≡ ps ++ i ∷ qs)
    parts = split_at (list l) i stands

    in_two : map item_place (list l) ≡ map item_place parts.0 ++ item_place i ∷ map item_place parts.1
    in_two = ap (map item_place) parts.2 ∙ map-append item_place parts.0 (i ∷ parts.1)

    around : IsSegment next previous (list_place l) (map item_place parts.0 ++ item_place i ∷ map item_place parts.1) (list_place l)
    around = subst (λ (qs : List ℕ). IsSegment next previous (list_place l) qs (list_place l)) in_two (k.segment l)

    pub before_place : has_item (list_place l ∷ map item_place (list l)) (previous (item_place i)) ≡ true
    before_place =
        subst (λ (qs : List ℕ). has_item (list_place l ∷ qs) (previous (item_place i)) ≡ true) (sym in_two)
        (has_append_left (list_place l ∷ map item_place parts.0) (item_place i ∷ map item_place parts.1) (previous (item_place i))
        (before_in next previous (list_place l) (map item_place parts.0) (item_place i) (map item_place parts.1) (list_place l) around))

    pub after_place : has_item (map item_place (list l) ++ list_place l ∷ []) (next (item_place i)) ≡ true
    after_place =
        subst (λ (qs : List ℕ). has_item (qs ++ list_place l ∷ []) (next (item_place i)) ≡ true) (sym in_two)
        (subst (λ (qs : List ℕ). has_item qs (next (item_place i)) ≡ true)
        (sym (append_assoc (map item_place parts.0) (item_place i ∷ map item_place parts.1) (list_place l ∷ [])))
        (has_append_right (map item_place parts.0) (item_place i ∷ (map item_place parts.1 ++ list_place l ∷ [])) (next (item_place i))
        (there (item_place i) (next (item_place i)) (map item_place parts.1 ++ list_place l ∷ [])
        (after_in next previous (list_place l) (map item_place parts.0) (item_place i) (map item_place parts.1) (list_place l) around))))

module _ (old new : Places) (lists items : ℕ) (list : ℕ → List ℕ) (k : AreRings (next_of old) (previous_of old) (ring_of old) lists items list) where
  -- an item that stood in no list was put into one
  pub put : (l i before : ℕ) (xs : List ℕ) → l < lists → i < items → ((m : ℕ) → has_item (list m) i ≡ false)
      → ring_of old before ≡ list_place l → ring_of old (previous_of old before) ≡ list_place l → Puts old new (item_place i) before (list_place l)
      → IsSegment (next_of new) (previous_of new) (list_place l) (map item_place xs) (list_place l) → AllDifferent xs
      → ((j : ℕ) → has_item xs j ≡ true → (has_item (list l) j ≡ true) ⊎ (j ≡ i)) → ((j : ℕ) → has_item (list l) j ≡ true → has_item xs j ≡ true)
      → has_item xs i ≡ true
      → AreRings (next_of new) (previous_of new) (ring_of new) lists items (λ m. cond (nat_eq m l) xs (list m))
  put l i before xs in_lists in_items free at_before at_last p segment once only all it = record {
    segment = λ m. at_change (λ n zs. IsSegment (next_of new) (previous_of new) (list_place n) (map item_place zs) (list_place n)) m l xs (list m) segment
        (λ apart. frame m apart);
    once = λ m. at_change (λ n zs. AllDifferent zs) m l xs (list m) once (λ apart. k.once m);
    small = λ m j. at_change (λ n zs. has_item zs j ≡ true → j < items) m l xs (list m)
        (λ h. elim (only j h) [ inl was ↦ k.small l j was | inr e ↦ subst (λ (n : ℕ). n < items) (sym e) in_items ])
        (λ apart. k.small m j);
    owner = λ m j. at_change (λ n zs. has_item zs j ≡ true → ring_of new (item_place j) ≡ list_place n) m l xs (list m)
        (λ h. elim (only j h) [ inl was ↦ stays l j was | inr e ↦ ap (λ (n : ℕ). ring_of new (item_place n)) e ∙ p.ring_new ])
        (λ apart h. stays m j h);
    owned = λ m j. at_change (λ n zs. ring_of new (item_place j) ≡ list_place n → has_item zs j ≡ true) m l xs (list m)
        (λ r. elim (by_number j i) [
          | inl e ↦ subst (λ (n : ℕ). has_item xs n ≡ true) (sym e) it
          | inr differs ↦ all j (k.owned l j (sym (other j differs) ∙ r))
        ])
        (λ apart r. elim (by_number j i) [
          | inl e ↦ absurd (apart (same_list m l (sym r ∙ ap (λ (n : ℕ). ring_of new (item_place n)) e ∙ p.ring_new)))
          | inr differs ↦ k.owned m j (sym (other j differs) ∙ r)
        ]);
    somewhere = λ j. elim (by_number j i) [
      | inl e ↦ inr (l, ap (λ (n : ℕ). ring_of new (item_place n)) e ∙ p.ring_new)
      | inr differs ↦ elim (k.somewhere j) [ inl alone ↦ inl (other j differs ∙ alone) | inr some_list ↦ inr (some_list.0, other j differs ∙ some_list.1) ]
    ];
    ring_self = λ m. p.ring_other (list_place m) (λ e. item_no_list i m (sym e)) ∙ k.ring_self m;
    beyond = λ m. at_change (λ n zs. lists ≤ n → zs ≡ []) m l xs (list m) (λ le. absurd (omega arith)) (λ apart. k.beyond m);
  }
    where
      other : (j : ℕ) → j ≢ i → ring_of new (item_place j) ≡ ring_of old (item_place j)
      other j differs = p.ring_other (item_place j) (λ e. differs (same_item j i e))

      stays : (m j : ℕ) → has_item (list m) j ≡ true → ring_of new (item_place j) ≡ list_place m
      stays m j h = other j (differ (list m) j i h (free m)) ∙ k.owner m j h

      -- a place of another list is none of those that changed
      elsewhere : (m q : ℕ) → m ≢ l → ring_of old q ≡ list_place m → (q ≢ before) × (q ≢ previous_of old before) × (q ≢ item_place i)
      elsewhere m q apart r = (
        (λ e. apart (same_list m l (sym r ∙ ap (ring_of old) e ∙ at_before))),
        (λ e. apart (same_list m l (sym r ∙ ap (ring_of old) e ∙ at_last))),
        (λ e. true_false (has_item (list m) i) (k.owned m i (ap (ring_of old) (sym e) ∙ r)) (free m)),
      )

      frame : (m : ℕ) → m ≢ l → IsSegment (next_of new) (previous_of new) (list_place m) (map item_place (list m)) (list_place m)
      frame m apart =
          segment_frame (next_of old) (previous_of old) (next_of new) (previous_of new) (list_place m) (map item_place (list m)) (list_place m)
          (λ q h. let a = elsewhere m q apart (ring_is (next_of old) (previous_of old) (ring_of old) lists items list k m q h) in p.next_other q a.1 a.2)
          (λ q h. let a = elsewhere m q apart (ring_is_too (next_of old) (previous_of old)
          (ring_of old) lists items list k m q h) in p.previous_other q a.0 a.2)
          (k.segment m)

  pub put_last : (l i : ℕ) → l < lists → i < items → ((m : ℕ) → has_item (list m) i ≡ false) → Puts old new (item_place i) (list_place l) (list_place l)
      → AreRings (next_of new) (previous_of new) (ring_of new) lists items (λ m. cond (nat_eq m l) (list l ++ i ∷ []) (list m))
  put_last l i in_lists in_items free p =
      put l i (list_place l) (list l ++ i ∷ []) in_lists in_items free (k.ring_self l)
      (last_is (next_of old) (previous_of old) (ring_of old) lists items list k l) p
      (subst (λ (qs : List ℕ). IsSegment (next_of new) (previous_of new) (list_place l) qs (list_place l)) (sym (map-append item_place (list l) (i ∷ [])))
      (segment_put_last old new (list_place l) (map item_place (list l)) (list_place l) (item_place i) (list_place l) p
      (different (next_of old) (previous_of old) (ring_of old) lists items list k l) (no_list_place (list l) l)
      (absent_place (next_of old) (previous_of old) (ring_of old) lists items list k l i (free l)) (k.segment l)))
      (different_push (list l) i (k.once l) (free l))
      (λ j h. elim (has_append_cases (list l) (i ∷ []) j h) [ inl was ↦ inl was | inr last ↦ inr (only_one i j last) ])
      (λ j h. has_append_left (list l) (i ∷ []) j h)
      (has_append_right (list l) (i ∷ []) i (here i []))
    where
      only_one : (i j : ℕ) → has_item (i ∷ []) j ≡ true → j ≡ i
      only_one i j h = or_case (nat_eq i j) false h (λ e. sym (eq_is i j e)) (λ f. cc)

  pub put_first : (l i : ℕ) → l < lists → i < items → ((m : ℕ) → has_item (list m) i ≡ false)
      → Puts old new (item_place i) (next_of old (list_place l)) (list_place l)
      → AreRings (next_of new) (previous_of new) (ring_of new) lists items (λ m. cond (nat_eq m l) (i ∷ list l) (list m))
  put_first l i in_lists in_items free p =
      put l i (next_of old (list_place l)) (i ∷ list l) in_lists in_items free (first_is (next_of old) (previous_of old) (ring_of old) lists items list k l)
      (ap (ring_of old) (back_again (next_of old) (previous_of old) (list_place l) (map item_place (list l)) (k.segment l)) ∙ k.ring_self l) p
      (segment_put_first old new (list_place l) (map item_place (list l)) (item_place i) (list_place l) p
      (different (next_of old) (previous_of old) (ring_of old) lists items list k l)
      (absent_place (next_of old) (previous_of old) (ring_of old) lists items list k l i (free l)) (k.segment l))
      (free l, k.once l)
      (λ j h. or_case (nat_eq i j) (has_item (list l) j) h (λ e. inr (sym (eq_is i j e))) (λ later. inl later))
      (λ j h. there i j (list l) h)
      (here i (list l))

  -- an item left its list
  pub taken_out : (l i : ℕ) → has_item (list l) i ≡ true → TakesOut old new (item_place i)
      → AreRings (next_of new) (previous_of new) (ring_of new) lists items (λ m. others (list m) i)
  taken_out l i stands t = record {
    segment = λ m. elim (by_number m l) [
      | inl e ↦ subst (λ (n : ℕ). IsSegment (next_of new) (previous_of new) (list_place n) (map item_place (others (list n) i)) (list_place n)) (sym e) cut
      | inr apart ↦
          subst (λ (zs : List ℕ). IsSegment (next_of new) (previous_of new) (list_place m) (map item_place zs) (list_place m))
          (sym (others_absent (list m) i (absent m apart))) (frame m apart)
    ];
    once = λ m. others_different (list m) i (k.once m);
    small = λ m j h. k.small m j (others_has (list m) i j h).0;
    owner = λ m j h. let o = others_has (list m) i j h in other j o.1 ∙ k.owner m j o.0;
    owned = λ m j r. elim (by_number j i) [
      | inl e ↦ absurd (item_no_list i m (sym t.ring_new ∙ ap (λ (n : ℕ). ring_of new (item_place n)) (sym e) ∙ r))
      | inr differs ↦ others_keeps (list m) i j (k.owned m j (sym (other j differs) ∙ r)) differs
    ];
    somewhere = λ j. elim (by_number j i) [
      | inl e ↦ inl (subst (λ (n : ℕ). ring_of new (item_place n) ≡ item_place n) (sym e) t.ring_new)
      | inr differs ↦ elim (k.somewhere j) [ inl alone ↦ inl (other j differs ∙ alone) | inr some_list ↦ inr (some_list.0, other j differs ∙ some_list.1) ]
    ];
    ring_self = λ m. t.ring_other (list_place m) (λ e. item_no_list i m (sym e)) ∙ k.ring_self m;
    beyond = λ m le. ap (λ (zs : List ℕ). others zs i) (k.beyond m le);
  }
    where
      other : (j : ℕ) → j ≢ i → ring_of new (item_place j) ≡ ring_of old (item_place j)
      other j differs = t.ring_other (item_place j) (λ e. differs (same_item j i e))

      absent : (m : ℕ) → m ≢ l → has_item (list m) i ≡ false
      absent m apart = elim (by_truth (has_item (list m) i)) [
        | inl h ↦ absurd (apart (one_list (next_of old) (previous_of old) (ring_of old) lists items list k m l i h stands))
        | inr n ↦ n
      ]

      halves : (ps : List ℕ) × (qs : List ℕ) × (list l ≡ ps ++ i ∷ qs)
      halves = split_at (list l) i stands

      whole : map item_place (list l) ≡ map item_place halves.0 ++ item_place i ∷ map item_place halves.1
      whole = ap (map item_place) halves.2 ∙ map-append item_place halves.0 (i ∷ halves.1)

      in_parts : IsSegment (next_of old) (previous_of old) (list_place l) (map item_place halves.0 ++ item_place i ∷ map item_place halves.1) (list_place l)
      in_parts = subst (λ (qs : List ℕ). IsSegment (next_of old) (previous_of old) (list_place l) qs (list_place l)) whole (k.segment l)

      left_over : map item_place (others (list l) i) ≡ map item_place halves.0 ++ map item_place halves.1
      left_over =
          ap (λ (zs : List ℕ). map item_place (others zs i)) halves.2
          ∙ ap (map item_place) (others_split halves.0 i halves.1 (subst AllDifferent halves.2 (k.once l)))
          ∙ map-append item_place halves.0 halves.1

      cut : IsSegment (next_of new) (previous_of new) (list_place l) (map item_place (others (list l) i)) (list_place l)
      cut =
          subst (λ (qs : List ℕ). IsSegment (next_of new) (previous_of new) (list_place l) qs (list_place l)) (sym left_over)
          (segment_out old new (list_place l) (map item_place halves.0) (item_place i) (map item_place halves.1) (list_place l) t
          (subst (λ (qs : List ℕ). AllDifferent (list_place l ∷ qs)) whole (different (next_of old) (previous_of old) (ring_of old) lists items list k l))
          (subst (λ (qs : List ℕ). has_item qs (list_place l) ≡ false) whole (no_list_place (list l) l)) in_parts)

      before_is : ring_of old (previous_of old (item_place i)) ≡ list_place l
      before_is =
          ring_is (next_of old) (previous_of old) (ring_of old) lists items list k l (previous_of old (item_place i))
          (before_place (next_of old) (previous_of old) (ring_of old) lists items list k l i stands)

      after_is : ring_of old (next_of old (item_place i)) ≡ list_place l
      after_is =
          ring_is_too (next_of old) (previous_of old) (ring_of old) lists items list k l (next_of old (item_place i))
          (after_place (next_of old) (previous_of old) (ring_of old) lists items list k l i stands)

      frame : (m : ℕ) → m ≢ l → IsSegment (next_of new) (previous_of new) (list_place m) (map item_place (list m)) (list_place m)
      frame m apart =
          segment_frame (next_of old) (previous_of old) (next_of new) (previous_of new) (list_place m) (map item_place (list m)) (list_place m)
          (λ q h. t.next_other q (λ e. apart (same_list m l (sym (ring_is (next_of old) (previous_of old) (ring_of old) lists items list k m q h)
          ∙ ap (ring_of old) e ∙ before_is))))
          (λ q h. t.previous_other q (λ e. apart (same_list m l
          (sym (ring_is_too (next_of old) (previous_of old) (ring_of old) lists items list k m q h) ∙ ap (ring_of old) e ∙ after_is))))
          (k.segment m)

-- the same links, and more lists and items
pub grown : (next previous ring next' previous' ring' : ℕ → ℕ) (lists items lists' items' : ℕ) (list : ℕ → List ℕ)
    → AreRings next previous ring lists items list
    → ((p : ℕ) → next' p ≡ next p) → ((p : ℕ) → previous' p ≡ previous p) → ((p : ℕ) → ring' p ≡ ring p) → lists ≤ lists' → items ≤ items'
    → AreRings next' previous' ring' lists' items' list
grown next previous ring next' previous' ring' lists items lists' items' list k n p r more_lists more_items = record {
  segment = λ l. segment_frame next previous next' previous' (list_place l) (map item_place (list l)) (list_place l) (λ q h. n q) (λ q h. p q) (k.segment l);
  once = k.once;
  small = λ l i h. let lt : i < items = k.small l i h in omega arith;
  owner = λ l i h. r (item_place i) ∙ k.owner l i h;
  owned = λ l i e. k.owned l i (sym (r (item_place i)) ∙ e);
  somewhere = λ i. elim (k.somewhere i) [ inl alone ↦ inl (r (item_place i) ∙ alone) | inr some_list ↦ inr (some_list.0, r (item_place i) ∙ some_list.1) ];
  ring_self = λ l. r (list_place l) ∙ k.ring_self l;
  beyond = λ l le. k.beyond l (omega arith);
}

-- the same lists, told otherwise
pub retold : (next previous ring : ℕ → ℕ) (lists items : ℕ) (list list' : ℕ → List ℕ) → ((l : ℕ) → list' l ≡ list l)
    → AreRings next previous ring lists items list
    → AreRings next previous ring lists items list'
retold next previous ring lists items list list' same k = record {
  segment = λ l. subst (λ (xs : List ℕ). IsSegment next previous (list_place l) (map item_place xs) (list_place l)) (sym (same l)) (k.segment l);
  once = λ l. subst AllDifferent (sym (same l)) (k.once l);
  small = λ l i. subst (λ (xs : List ℕ). has_item xs i ≡ true → i < items) (sym (same l)) (k.small l i);
  owner = λ l i. subst (λ (xs : List ℕ). has_item xs i ≡ true → ring (item_place i) ≡ list_place l) (sym (same l)) (k.owner l i);
  owned = λ l i r. subst (λ (xs : List ℕ). has_item xs i ≡ true) (sym (same l)) (k.owned l i r);
  somewhere = k.somewhere;
  ring_self = k.ring_self;
  beyond = λ l le. same l ∙ k.beyond l le;
}
