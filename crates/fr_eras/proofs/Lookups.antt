-- What stands in lists of lists, as the calls of links change them.
use Rattle.std.proofs.Common.{◌≡◌, ◌≢◌, ℕ, zero, suc, ◌-◌, ◌<◌, ◌≤◌, List, [], ◌∷◌, ◌++◌, length, map, ◌⊎◌, inl, inr, Option, Some, None, IsSome, true, false, replicate, refl, sym, ap, ◌∙◌, subst, arith, get_or-set_same, get_or-set_other}
use Rattle.std.specs.List.{range_with_len}
use Rattle.std.proofs.lemmas.List.{get_or_default, get_or_past, same_lists}
use Rattle.std.proofs.lemmas.List.FromFn.{get_or-map-range_with_len, length-map-range_with_len}
use Rattle.std.proofs.lemmas.List.Quantifiers.{position-Some}
use Rattle.fr_links.specs.Lists.{has_item, list_at, list_of, others, with_empty, with_last, without}
use Rattle.fr_links.proofs.Has.{true_false}
use Rattle.fr_links.proofs.Views.{found, not_found}

by_bound : (i n : ℕ) → (i < n) ⊎ (n ≤ i)
by_bound i n = grind arith

pub at_without : (lists : List (List ℕ)) (item l : ℕ) → list_at (without lists item) l ≡ others (list_at lists l) item
at_without [] item l = refl
at_without (xs ∷ lists) item zero = refl
at_without (xs ∷ lists) item (suc l) = at_without lists item l

at_none : (n l : ℕ) → list_at (replicate n []) l ≡ []
at_none zero l = refl
at_none (suc n) zero = refl
at_none (suc n) (suc l) = at_none n l

at_more : (lists : List (List ℕ)) (n l : ℕ) → list_at (lists ++ replicate n []) l ≡ list_at lists l
at_more [] n l = at_none n l
at_more (xs ∷ lists) n zero = refl
at_more (xs ∷ lists) n (suc l) = at_more lists n l

pub at_empty : (lists : List (List ℕ)) (many l : ℕ) → list_at (with_empty lists many) l ≡ list_at lists l
at_empty lists many l = at_more lists (many - length lists) l

pub at_last : (lists : List (List ℕ)) (l item : ℕ) → l < length lists → list_at (with_last lists l item) l ≡ list_at lists l ++ item ∷ []
at_last lists l item lt = get_or-set_same lists l (list_at lists l ++ item ∷ []) [] lt

pub at_other : (lists : List (List ℕ)) (l m item : ℕ) → m ≢ l → list_at (with_last lists l item) m ≡ list_at lists m
at_other lists l m item apart = get_or-set_other lists l m (list_at lists l ++ item ∷ []) [] apart

pub has_inside : (lists : List (List ℕ)) (l i : ℕ) → has_item (list_at lists l) i ≡ true → l < length lists
has_inside lists l i h = elim (by_bound l (length lists)) [
  | inl lt ↦ lt
  | inr le ↦ true_false (has_item (list_at lists l) i) h (ap (λ (xs : List ℕ). has_item xs i) (get_or_past lists l [] le))
]

-- the lists are those that a lookup gives
looked_up : (lists : List (List ℕ)) → map (list_at lists) (range_with_len 0 (length lists)) ≡ lists
looked_up lists =
    same_lists (map (list_at lists) (range_with_len 0 (length lists))) lists (length-map-range_with_len (list_at lists) 0 (length lists))
    (λ k d inside.
    let lt : k < length lists = subst (λ (n : ℕ). k < n) (length-map-range_with_len (list_at lists) 0 (length lists)) inside in
    get_or-map-range_with_len (list_at lists) 0 (length lists) k k d lt (omega arith) ∙ get_or_default lists k [] d lt)

pub in_no_list : (lists : List (List ℕ)) (i : ℕ) → ((l : ℕ) → has_item (list_at lists l) i ≡ false) → list_of lists i ≡ None
in_no_list lists i absent =
    subst (λ (ls : List (List ℕ)). list_of ls i ≡ None) (looked_up lists)
    (not_found (list_at lists) (length lists) (λ l le. get_or_past lists l [] le) i (λ l m h g. true_false (has_item (list_at lists l) i) h (absent l)) absent)

pub in_this_list : (lists : List (List ℕ)) (i : ℕ) → ((l m : ℕ) → has_item (list_at lists l) i ≡ true → has_item (list_at lists m) i ≡ true → l ≡ m)
    → (l : ℕ) → has_item (list_at lists l) i ≡ true → list_of lists i ≡ Some l
in_this_list lists i one l h =
    subst (λ (ls : List (List ℕ)). list_of ls i ≡ Some l) (looked_up lists)
    (found (list_at lists) (length lists) (λ m le. get_or_past lists m [] le) i one l h)

pub from_this_list : (lists : List (List ℕ)) (i l : ℕ) → list_of lists i ≡ Some l → has_item (list_at lists l) i ≡ true
from_this_list lists i l e = (position-Some (λ xs. has_item xs i) lists l [] e).1

pub is_some : (o : Option ℕ) (l : ℕ) → o ≡ Some l → IsSome o
is_some o l e = subst (λ (p : Option ℕ). IsSome p) (sym e) refl
