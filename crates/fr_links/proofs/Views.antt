-- The list of lists that contracts see, by the items of each list.
use Rattle.std.proofs.Common.{◌≡◌, ◌≢◌, ℕ, ◌+◌, ◌-◌, ◌<◌, ◌≤◌, List, [], length, map, max, ◌⊎◌, inl, inr, Option, Some, None, IsSome, Bool, true, false, cond, get_or, nat_lt, slice_set, replicate, refl, sym, ap, ◌∙◌, subst, arith, get_or-set_same, get_or-set_other, length-set, length-append}
use Rattle.std.specs.List.{position_or_len, range_with_len}
use Rattle.std.proofs.lemmas.List.{get_or-append_right, get_or-map, get_or-replicate, get_or_append_left, get_or_past, length-map, length-replicate, same_lists}
use Rattle.std.proofs.lemmas.List.FromFn.{get_or-map-range_with_len, length-map-range_with_len}
use Rattle.std.proofs.lemmas.List.Quantifiers.{position-Some}
use Rattle.std.proofs.lemmas.List.Sums.{position_or_len_is}
use Rattle.fr_links.specs.Lists.{has_item, list_at, list_of, with_empty}
use Rattle.fr_links.proofs.Has.{by_number, by_truth, true_false}

by_bound : (i n : ℕ) → (i < n) ⊎ (n ≤ i)
by_bound i n = grind arith

-- the lists that a function gives, up to a number
abbrev lists_by : (ℕ → List ℕ) → ℕ → List (List ℕ)
lists_by f n = map f (range_with_len 0 n)

length_by : (f : ℕ → List ℕ) (n : ℕ) → length (lists_by f n) ≡ n
length_by f n = length-map-range_with_len f 0 n

at_by : (f : ℕ → List ℕ) (n l : ℕ) (d : List ℕ) → l < n → get_or (lists_by f n) l d ≡ f l
at_by f n l d lt = get_or-map-range_with_len f 0 n l l d lt (omega arith)

pub view_set : (f g : ℕ → List ℕ) (n l : ℕ) (xs : List ℕ) → l < n → g l ≡ xs → ((m : ℕ) → m ≢ l → g m ≡ f m)
    → map g (range_with_len 0 n) ≡ slice_set (map f (range_with_len 0 n)) l xs
view_set f g n l xs lt at_l others =
    same_lists (lists_by g n) (slice_set (lists_by f n) l xs) (length_by g n ∙ sym (length-set (lists_by f n) l xs ∙ length_by f n))
    (λ m d inside. let in_n : m < n = subst (λ (k : ℕ). m < k) (length_by g n) inside in
    elim (by_number m l) [
      | inl e ↦
          at_by g n m d in_n ∙ ap g e ∙ at_l
          ∙ sym (ap (λ (k : ℕ). get_or (slice_set (lists_by f n) l xs) k d) e
          ∙ get_or-set_same (lists_by f n) l xs d (subst (λ (k : ℕ). l < k) (sym (length_by f n)) lt))
      | inr apart ↦ at_by g n m d in_n ∙ others m apart ∙ sym (get_or-set_other (lists_by f n) l m xs d apart ∙ at_by f n m d in_n)
    ])

pub view_map : (f g : ℕ → List ℕ) (h : List ℕ → List ℕ) (n : ℕ) → ((m : ℕ) → g m ≡ h (f m)) → map g (range_with_len 0 n) ≡ map h (map f (range_with_len 0 n))
view_map f g h n each =
    same_lists (lists_by g n) (map h (lists_by f n)) (length_by g n ∙ sym (length-map (lists_by f n) h ∙ length_by f n))
    (λ m d inside. let in_n : m < n = subst (λ (k : ℕ). m < k) (length_by g n) inside in
    at_by g n m d in_n ∙ each m ∙ sym (ap h (at_by f n m [] in_n))
    ∙ sym (get_or-map h (lists_by f n) m [] d (subst (λ (k : ℕ). m < k) (sym (length_by f n)) in_n)))

pub view_grown : (f g : ℕ → List ℕ) (n many : ℕ) → ((m : ℕ) → g m ≡ f m) → ((m : ℕ) → n ≤ m → f m ≡ [])
    → map g (range_with_len 0 (max n many)) ≡ with_empty (map f (range_with_len 0 n)) many
view_grown f g n many each beyond =
    same_lists (lists_by g (max n many)) (with_empty (lists_by f n) many) (length_by g (max n many) ∙ sym long)
    (λ m d inside. let in_n : m < max n many = subst (λ (k : ℕ). m < k) (length_by g (max n many)) inside in
    at_by g (max n many) m d in_n ∙ each m ∙ at_grown m d in_n)
  where
    added : List (List ℕ)
    added = replicate (many - length (lists_by f n)) []

    long : length (with_empty (lists_by f n) many) ≡ max n many
    long =
        length-append (lists_by f n) (replicate (many - length (lists_by f n)) [])
        ∙ ap (λ (k : ℕ). length (lists_by f n) + k) (length-replicate (many - length (lists_by f n)) [])
        ∙ ap (λ (k : ℕ). k + (many - k)) (length_by f n) ∙ omega arith

    at_grown : (m : ℕ) (d : List ℕ) → m < max n many → f m ≡ get_or (with_empty (lists_by f n) many) m d
    at_grown m d in_n = elim (by_bound m n) [
      | inl lt ↦ sym (get_or_append_left (lists_by f n) (replicate (many - length (lists_by f n)) []) d m
          (subst (λ (k : ℕ). m < k) (sym (length_by f n)) lt) ∙ at_by f n m d lt)
      | inr le ↦
          let same : length (lists_by f n) ≡ n = length_by f n in
          beyond m le
          ∙ sym (get_or-append_right (lists_by f n) (replicate (many - length (lists_by f n)) []) n m d (length_by f n) le
          ∙ get_or-replicate (many - length (lists_by f n)) (m - n) [] d (omega arith))
    ]

module _ (f : ℕ → List ℕ) (n : ℕ) (beyond : (l : ℕ) → n ≤ l → f l ≡ []) where
  pub list_at_is : (l : ℕ) → list_at (map f (range_with_len 0 n)) l ≡ f l
  list_at_is l = elim (by_bound l n) [
    | inl lt ↦ at_by f n l [] lt
    | inr le ↦ get_or_past (lists_by f n) l [] (subst (λ (k : ℕ). k ≤ l) (sym (length_by f n)) le) ∙ sym (beyond l le)
  ]

  pub inside : (l i : ℕ) → has_item (f l) i ≡ true → l < n
  inside l i h = elim (by_bound l n) [
    | inl lt ↦ lt
    | inr le ↦ true_false (has_item (f l) i) h (ap (λ (xs : List ℕ). has_item xs i) (beyond l le))
  ]

  module _ (i : ℕ) (one : (l m : ℕ) → has_item (f l) i ≡ true → has_item (f m) i ≡ true → l ≡ m) where
    not_before : (l k : ℕ) → has_item (f l) i ≡ true → k < l → has_item (f k) i ≡ false
    not_before l k h lt = elim (by_truth (has_item (f k) i)) [
      | inl g ↦ let e : l ≡ k = one l k h g in absurd (omega arith)
      | inr no_item ↦ no_item
    ]

    pub found : (l : ℕ) → has_item (f l) i ≡ true → list_of (map f (range_with_len 0 n)) i ≡ Some l
    found l h =
        let lt : l < n = inside l i h in
        let same : length (lists_by f n) ≡ n = length_by f n in
        let at_l : position_or_len (λ xs. has_item xs i) (lists_by f n) ≡ l =
        position_or_len_is (λ xs. has_item xs i) (lists_by f n) l [] (omega arith)
        (λ k before. ap (λ (xs : List ℕ). has_item xs i) (at_by f n k [] (omega arith)) ∙ not_before l k h before)
        (λ _. ap (λ (xs : List ℕ). has_item xs i) (at_by f n l [] lt) ∙ h) in
        ap (λ (k : ℕ). cond (nat_lt k (length (lists_by f n))) (Some k) None) at_l
        ∙ ap (λ (b : Bool). cond b (Some l) None) (ap (nat_lt l) same ∙ is_below l n lt)
      where
        is_below : (l n : ℕ) → l < n → nat_lt l n ≡ true
        is_below l n lt = grind arith

    pub not_found : ((l : ℕ) → has_item (f l) i ≡ false) → list_of (map f (range_with_len 0 n)) i ≡ None
    not_found absent =
        let same : length (lists_by f n) ≡ n = length_by f n in
        let at_n : position_or_len (λ xs. has_item xs i) (lists_by f n) ≡ n =
        position_or_len_is (λ xs. has_item xs i) (lists_by f n) n [] (omega arith)
        (λ k before. ap (λ (xs : List ℕ). has_item xs i) (at_by f n k [] before) ∙ absent k)
        (λ below. absurd (omega arith)) in
        ap (λ (k : ℕ). cond (nat_lt k (length (lists_by f n))) (Some k) None) at_n
        ∙ ap (λ (b : Bool). cond b (Some n) None) (ap (nat_lt n) same ∙ not_itself n)
      where
        not_itself : (n : ℕ) → nat_lt n n ≡ false
        not_itself n = grind arith

    pub in_none : list_of (map f (range_with_len 0 n)) i ≡ None → (l : ℕ) → has_item (f l) i ≡ false
    in_none none l = elim (by_truth (has_item (f l) i)) [
      | inl h ↦ let e : list_of (map f (range_with_len 0 n)) i ≡ Some l = found l h in some_none l (sym e ∙ none)
      | inr no_item ↦ no_item
    ]
      where
        some_none : {A : Type 0} (l : ℕ) → Some l ≡ None → A
        some_none l e = cc

    pub in_this : (l : ℕ) → list_of (map f (range_with_len 0 n)) i ≡ Some l → has_item (f l) i ≡ true
    in_this l e =
        let s = position-Some (λ xs. has_item xs i) (lists_by f n) l [] e in
        ap (λ (xs : List ℕ). has_item xs i) (sym (at_by f n l [] (subst (λ (k : ℕ). l < k) (length_by f n) s.0))) ∙ s.1

    pub in_some : IsSome (list_of (map f (range_with_len 0 n)) i) → (l : ℕ) × (has_item (f l) i ≡ true)
    in_some s = let o = some_of (list_of (map f (range_with_len 0 n)) i) s in (o.0, in_this o.0 o.1)
      where
        some_of : (o : Option ℕ) → IsSome o → (l : ℕ) × (o ≡ Some l)
        some_of None s = cc
        some_of (Some l) s = (l, refl)
