-- Which numbers stand in a list.
use Rattle.std.proofs.Common.{◌≡◌, ◌≢◌, ℕ, ◌/◌, List, [], ◌∷◌, ◌++◌, map, ◌⊎◌, inl, inr, Bool, true, false, nat_eq, ◌||◌, refl, sym, ap, ◌∙◌, arith}
use Rattle.fr_links.specs.Lists.{has_item}
use Rattle.fr_links.specs.Rings.{AllDifferent, item_place, list_place}

pub by_number : (i j : ℕ) → (i ≡ j) ⊎ (i ≢ j)
by_number i j = grind arith

pub eq_self : (n : ℕ) → nat_eq n n ≡ true
eq_self n = grind arith

pub eq_is : (i j : ℕ) → nat_eq i j ≡ true → i ≡ j
eq_is i j e = grind arith

pub eq_apart : (i j : ℕ) → i ≢ j → nat_eq i j ≡ false
eq_apart i j apart = grind arith

pub by_truth : (b : Bool) → (b ≡ true) ⊎ (b ≡ false)
by_truth true = inl refl
by_truth false = inr refl

pub true_false : {A : Type 0} (b : Bool) → b ≡ true → b ≡ false → A
true_false b e f = cc

or_left : (a b : Bool) → a ≡ true → (a || b) ≡ true
or_left true b e = refl
or_left false b e = cc

or_right : (a b : Bool) → b ≡ true → (a || b) ≡ true
or_right true b e = refl
or_right false b e = e

pub or_none : (a b : Bool) → (a || b) ≡ false → (a ≡ false) × (b ≡ false)
or_none true b e = cc
or_none false b e = (refl, e)

none_or : (a b : Bool) → a ≡ false → b ≡ false → (a || b) ≡ false
none_or true b e f = cc
none_or false b e f = f

pub or_case : {A : Type 0} (a b : Bool) → (a || b) ≡ true → (a ≡ true → A) → (b ≡ true → A) → A
or_case true b h f g = f refl
or_case false b h f g = g h

pub here : (x : ℕ) (xs : List ℕ) → has_item (x ∷ xs) x ≡ true
here x xs = or_left (nat_eq x x) (has_item xs x) (eq_self x)

pub there : (x y : ℕ) (xs : List ℕ) → has_item xs y ≡ true → has_item (x ∷ xs) y ≡ true
there x y xs h = or_right (nat_eq x y) (has_item xs y) h

-- a number that is in a list differs from one that isn't
pub differ : (xs : List ℕ) (i j : ℕ) → has_item xs i ≡ true → has_item xs j ≡ false → i ≢ j
differ xs i j h n = λ e. true_false (has_item xs i) h (ap (λ (k : ℕ). has_item xs k) e ∙ n)

pub cons_absent : (x : ℕ) (xs : List ℕ) (i : ℕ) → x ≢ i → has_item xs i ≡ false → has_item (x ∷ xs) i ≡ false
cons_absent x xs i apart n = none_or (nat_eq x i) (has_item xs i) (eq_apart x i apart) n

split : (a b c : Bool) → (b ≡ true → c ≡ true) → (a || b) ≡ true → (a || c) ≡ true
split true b c f h = refl
split false b c f h = f h

pub has_append_left : (xs ys : List ℕ) (i : ℕ) → has_item xs i ≡ true → has_item (xs ++ ys) i ≡ true
has_append_left [] ys i h = cc
has_append_left (x ∷ xs) ys i h = split (nat_eq x i) (has_item xs i) (has_item (xs ++ ys) i) (λ t. has_append_left xs ys i t) h

pub has_append_right : (xs ys : List ℕ) (i : ℕ) → has_item ys i ≡ true → has_item (xs ++ ys) i ≡ true
has_append_right [] ys i h = h
has_append_right (x ∷ xs) ys i h = or_right (nat_eq x i) (has_item (xs ++ ys) i) (has_append_right xs ys i h)

-- an item is in one of the two
pub has_append_cases : (xs ys : List ℕ) (i : ℕ) → has_item (xs ++ ys) i ≡ true → (has_item xs i ≡ true) ⊎ (has_item ys i ≡ true)
has_append_cases [] ys i h = inr h
has_append_cases (x ∷ xs) ys i h = or_case (nat_eq x i) (has_item (xs ++ ys) i) h
    (λ e. inl (or_left (nat_eq x i) (has_item xs i) e))
    (λ t. elim (has_append_cases xs ys i t) [ inl l ↦ inl (there x i xs l) | inr r ↦ inr r ])

-- not in the whole, so not in the tail
pub not_tail : (xs : List ℕ) (x : ℕ) (ys : List ℕ) (z : ℕ) → has_item (xs ++ x ∷ ys) z ≡ false → has_item ys z ≡ false
not_tail [] x ys z n = (or_none (nat_eq x z) (has_item ys z) n).1
not_tail (w ∷ xs) x ys z n = not_tail xs x ys z (or_none (nat_eq w z) (has_item (xs ++ x ∷ ys) z) n).1

-- in the list or the end, so not this one
pub not_first : (ys : List ℕ) (b z i : ℕ) → has_item (ys ++ b ∷ []) i ≡ true → has_item ys z ≡ false → nat_eq z b ≡ false → i ≢ z
not_first [] b z i h n nb = or_case (nat_eq b i) false h (λ e same. true_false (nat_eq z b)
    (ap (λ (k : ℕ). nat_eq k b) (sym same ∙ sym (eq_is b i e)) ∙ eq_self b) nb) (λ f. cc)
not_first (y ∷ ys) b z i h n nb = or_case (nat_eq y i) (has_item (ys ++ b ∷ []) i) h
    (λ e same. true_false (nat_eq y z) (ap (λ (k : ℕ). nat_eq y k) (sym same) ∙ e) (or_none (nat_eq y z) (has_item ys z) n).0)
    (λ t. not_first ys b z i t (or_none (nat_eq y z) (has_item ys z) n).1 nb)

-- one more at the end, all different
pub different_push : (xs : List ℕ) (x : ℕ) → AllDifferent xs → has_item xs x ≡ false → AllDifferent (xs ++ x ∷ [])
different_push [] x d n = (refl, tt)
different_push (y ∷ xs) x d n =
    let apart = or_none (nat_eq y x) (has_item xs x) n in
    (not_pushed xs y x d.0 (λ e. true_false (nat_eq y x) (ap (λ (k : ℕ). nat_eq y k) e ∙ eq_self y) apart.0), different_push xs x d.1 apart.1)
  where
    not_pushed : (xs : List ℕ) (y x : ℕ) → has_item xs y ≡ false → x ≢ y → has_item (xs ++ x ∷ []) y ≡ false
    not_pushed [] y x n apart = none_or (nat_eq x y) false (eq_apart x y apart) refl
    not_pushed (z ∷ xs) y x n apart =
        let o = or_none (nat_eq z y) (has_item xs y) n in
        none_or (nat_eq z y) (has_item (xs ++ x ∷ []) y) o.0 (not_pushed xs y x o.1 apart)

-- the places of items are theirs alone
pub same_item : (i j : ℕ) → item_place i ≡ item_place j → i ≡ j
same_item i j e = omega arith

pub same_list : (l m : ℕ) → list_place l ≡ list_place m → l ≡ m
same_list l m e = omega arith

pub item_no_list : (i l : ℕ) → item_place i ≢ list_place l
item_no_list i l e = omega arith

pub half_item : (i : ℕ) → item_place i / 2 ≡ i
half_item i = omega arith

pub half_list : (l : ℕ) → list_place l / 2 ≡ l
half_list l = omega arith

pub eq_places : (i j : ℕ) → nat_eq (item_place i) (item_place j) ≡ nat_eq i j
eq_places i j = elim (by_number i j) [
  | inl e ↦ ap (λ (k : ℕ). nat_eq (item_place i) (item_place k)) (sym e) ∙ eq_self (item_place i) ∙ sym (eq_self i) ∙ ap (nat_eq i) e
  | inr apart ↦ eq_apart (item_place i) (item_place j) (λ e. apart (same_item i j e)) ∙ sym (eq_apart i j apart)
]

pub has_place : (xs : List ℕ) (i : ℕ) → has_item (map item_place xs) (item_place i) ≡ has_item xs i
has_place [] i = refl
has_place (x ∷ xs) i = ap (λ (b : Bool). b || has_item (map item_place xs) (item_place i)) (eq_places x i) ∙ ap (λ (b : Bool). nat_eq x i || b) (has_place xs i)

pub no_list_place : (xs : List ℕ) (l : ℕ) → has_item (map item_place xs) (list_place l) ≡ false
no_list_place [] l = refl
no_list_place (x ∷ xs) l = cons_absent (item_place x) (map item_place xs) (list_place l) (item_no_list x l) (no_list_place xs l)

pub different_places : (xs : List ℕ) → AllDifferent xs → AllDifferent (map item_place xs)
different_places [] d = tt
different_places (x ∷ xs) d = (has_place xs x ∙ d.0, different_places xs d.1)

pub halves : (xs : List ℕ) → map (λ place. place / 2) (map item_place xs) ≡ xs
halves [] = refl
halves (x ∷ xs) = ap (λ (n : ℕ). n ∷ map (λ place. place / 2) (map item_place xs)) (half_item x) ∙ ap (λ (l : List ℕ). x ∷ l) (halves xs)
