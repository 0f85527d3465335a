-- Places that are added.
use Rattle.std.proofs.Common.{◌≡◌, ℕ, ◌+◌, ◌<◌, ◌≤◌, List, [], ◌∷◌, ◌++◌, length, ◌⊎◌, inl, inr, slice_index_or, sym, ap, ◌∙◌, subst, arith}
use Rattle.std.proofs.lemmas.List.{get_or_append_left, get_or_past, get_or_push, length_push}
use Rattle.fr_links.specs.declared.place.Ends.{Ends}
use Rattle.fr_links.specs.declared.place.Place.{Place}
use Rattle.fr_links.specs.Rings.{alone, ends_at, item_at, item_place, list_place}

compare : (i n : ℕ) → (i < n) ⊎ ((n ≡ i) ⊎ (n + 1 ≤ i))
compare i n = grind arith

-- one more that is what was shown past the end
pub one_more : {A : Type 0} (past : ℕ → A) (xs : List A) (n i : ℕ) → length xs ≡ n → slice_index_or (xs ++ past n ∷ []) i (past i) ≡ slice_index_or xs i (past i)
one_more past xs n i len = elim (compare i n) [
  | inl below ↦ get_or_append_left xs (past n ∷ []) (past i) i (subst (λ (k : ℕ). i < k) (sym len) below)
  | inr later ↦ elim later [
    | inl here ↦
        get_or_push xs (past n) (past i) i (len ∙ here)
        ∙ ap past here ∙ sym (get_or_past xs i (past i) (subst (λ (k : ℕ). k ≤ i) (sym len) (omega arith)))
    | inr above ↦
        get_or_past (xs ++ past n ∷ []) i (past i)
        (subst (λ (k : ℕ). k ≤ i) (sym (length_push xs (past n))) (subst (λ (k : ℕ). k + 1 ≤ i) (sym len) above))
        ∙ sym (get_or_past xs i (past i) (subst (λ (k : ℕ). k ≤ i) (sym len) (omega arith)))
  ]
]

pub one_more_item : (xs : List Place) (n i : ℕ) → length xs ≡ n → item_at (xs ++ alone (item_place n) ∷ []) i ≡ item_at xs i
one_more_item = one_more (λ n. alone (item_place n))

pub one_more_list : (xs : List Ends) (n l : ℕ) → length xs ≡ n → ends_at (xs ++ record { first = list_place n; last = list_place n } ∷ []) l ≡ ends_at xs l
one_more_list = one_more (λ n. record { first = list_place n; last = list_place n })
