-- In which lists an item stands after one was put in or taken out.
use Rattle.std.proofs.Common.{◌≡◌, ◌≢◌, ℕ, ◌<◌, ◌≤◌, List, [], ◌∷◌, ◌++◌, length, ◌⊎◌, inl, inr, Option, Some, None, IsSome, Bool, true, false, cond, is_some, nat_lt, refl, sym, ap, ◌∙◌, subst, arith, get_or-set_same, get_or-set_other}
use Rattle.std.proofs.lemmas.List.{get_or-map, get_or_past, length-map}
use Rattle.std.proofs.lemmas.List.Quantifiers.{position-Some}
use Rattle.std.proofs.lemmas.List.Sums.{fails_before_first}
use Rattle.std.specs.List.{position_or_len}
use Rattle.fr_links.specs.Lists.{has_item, list_at, list_of, others, with_last, without}
use Rattle.fr_links.proofs.Has.{by_truth, eq_is, has_append_cases, has_append_left, has_append_right, here, or_case, true_false}
use Rattle.fr_links.proofs.Others.{others_has, others_keeps}

pub by_bound : (i n : ℕ) → (i < n) ⊎ (n ≤ i)
by_bound i n = grind arith

pub by_number : (i j : ℕ) → (i ≡ j) ⊎ (i ≢ j)
by_number i j = grind arith

-- two tests are equal where each follows from the other
pub same_tests : (a b : Bool) → (a ≡ true → b ≡ true) → (b ≡ true → a ≡ true) → a ≡ b
same_tests true b f g = sym (f refl)
same_tests false true f g = g refl
same_tests false false f g = refl

-- an item that stands in no list is in none
pub in_none : (lists : List (List ℕ)) (item : ℕ) → ((l : ℕ) → has_item (list_at lists l) item ≡ false) → list_of lists item ≡ None
in_none lists item absent = none_of (list_of lists item) (λ l e.
    let s = position-Some (λ (xs : List ℕ). has_item xs item) lists l [] e in
    true_false (has_item (list_at lists l) item) s.1 (absent l))
  where
    none_of : (o : Option ℕ) → ((l : ℕ) → o ≡ Some l → ⊥) → o ≡ None
    none_of None f = refl
    none_of (Some l) f = absurd (f l refl)

pub last_here : (lists : List (List ℕ)) (l item : ℕ) → l < length lists → has_item (list_at (with_last lists l item) l) item ≡ true
last_here lists l item lt =
    subst (λ (xs : List ℕ). has_item xs item ≡ true) (sym (get_or-set_same lists l (list_at lists l ++ item ∷ []) [] lt))
    (has_append_right (list_at lists l) (item ∷ []) item (here item []))

pub last_elsewhere : (lists : List (List ℕ)) (l item m : ℕ) → m ≢ l → list_at (with_last lists l item) m ≡ list_at lists m
last_elsewhere lists l item m apart = get_or-set_other lists l m (list_at lists l ++ item ∷ []) [] apart

-- where another item stands, it stood
pub last_other : (lists : List (List ℕ)) (l item m other : ℕ) → l < length lists → other ≢ item
    → has_item (list_at (with_last lists l item) m) other ≡ has_item (list_at lists m) other
last_other lists l item m other lt apart = elim (by_number m l) [
  | inr ne ↦ ap (λ (xs : List ℕ). has_item xs other) (last_elsewhere lists l item m ne)
  | inl e ↦
      ap (λ (k : ℕ). has_item (list_at (with_last lists l item) k) other) e
      ∙ ap (λ (xs : List ℕ). has_item xs other) (get_or-set_same lists l (list_at lists l ++ item ∷ []) [] lt)
      ∙ same_tests (has_item (list_at lists l ++ item ∷ []) other) (has_item (list_at lists l) other)
      (λ h. elim (has_append_cases (list_at lists l) (item ∷ []) other h) [
        | inl was ↦ was
        | inr new ↦ or_case {A = has_item (list_at lists l) other ≡ true} _ false new (λ same. absurd (apart (sym (eq_is item other same)))) (λ f. cc)
      ])
      (λ was. has_append_left (list_at lists l) (item ∷ []) other was)
      ∙ ap (λ (k : ℕ). has_item (list_at lists k) other) (sym e)
]

pub list_without : (lists : List (List ℕ)) (item l : ℕ) → list_at (without lists item) l ≡ others (list_at lists l) item
list_without lists item l = elim (by_bound l (length lists)) [
  | inl lt ↦ get_or-map (λ (xs : List ℕ). others xs item) lists l [] [] lt
  | inr le ↦
      get_or_past (without lists item) l [] (subst (λ (n : ℕ). n ≤ l) (sym (length-map lists (λ (xs : List ℕ). others xs item))) le)
      ∙ ap (λ (xs : List ℕ). others xs item) (sym (get_or_past lists l [] le))
]

pub without_here : (lists : List (List ℕ)) (item l : ℕ) → has_item (list_at (without lists item) l) item ≡ false
without_here lists item l = ap (λ (xs : List ℕ). has_item xs item) (list_without lists item l) ∙ gone (list_at lists l)
  where
    gone : (xs : List ℕ) → has_item (others xs item) item ≡ false
    gone xs = elim (by_truth (has_item (others xs item) item)) [
      | inl h ↦ absurd ((others_has xs item item h).1 refl)
      | inr f ↦ f
    ]

pub without_other : (lists : List (List ℕ)) (item l other : ℕ) → other ≢ item → has_item (list_at (without lists item) l) other ≡ has_item (list_at lists l) other
without_other lists item l other apart =
    ap (λ (xs : List ℕ). has_item xs other) (list_without lists item l)
    ∙ same_tests (has_item (others (list_at lists l) item) other) (has_item (list_at lists l) other)
    (λ h. (others_has (list_at lists l) item other h).0) (λ h. others_keeps (list_at lists l) item other h apart)

-- an item that stands in a list is in some list
pub in_some : (lists : List (List ℕ)) (l item : ℕ) → has_item (list_at lists l) item ≡ true → IsSome (list_of lists item)
in_some lists l item h =
    let at : position_or_len (λ (xs : List ℕ). has_item xs item) lists ≤ l = elim (by_bound l (position_or_len (λ (xs : List ℕ). has_item xs item) lists)) [
      | inl lt ↦ true_false (has_item (list_at lists l) item) h (fails_before_first (λ (xs : List ℕ). has_item xs item) lists l [] lt)
      | inr le ↦ le
    ] in
    let there : l < length lists = elim (by_bound l (length lists)) [
      | inl lt ↦ lt
      | inr le ↦ true_false (has_item (list_at lists l) item) h (ap (λ (xs : List ℕ). has_item xs item) (get_or_past lists l [] le))
    ] in
    ap (λ (b : Bool). is_some (cond b (Some (position_or_len (λ (xs : List ℕ). has_item xs item) lists)) None))
    (below (position_or_len (λ (xs : List ℕ). has_item xs item) lists) (length lists) (omega arith))
  where
    below : (i n : ℕ) → i < n → nat_lt i n ≡ true
    below i n lt = grind arith
