-- Places in lists of different numbers.
use Rattle.std.proofs.Common.{◌≡◌, ◌≢◌, ℕ, zero, suc, ◌+◌, List, [], ◌∷◌, ◌++◌, length, Option, Some, None, Bool, true, false, cond, nat_eq, slice_get, refl, sym, ap, ◌∙◌, subst, arith, append_assoc, length-append}
use Rattle.fr_links.specs.Lists.{has_item}
use Rattle.fr_links.specs.Rings.{AllDifferent}
use Rattle.fr_links.proofs.Has.{cons_absent, differ, eq_self, has_append_right, here, or_none}
use Rattle.fr_links.proofs.Others.{split_at}
use Rattle.fr_eras.specs.Order.{from_here, from_item}

pub first_of : (xs : List ℕ) (x : ℕ) → Some x ≡ slice_get xs 0 → (rest : List ℕ) × (xs ≡ x ∷ rest)
first_of [] x e = cc
first_of (y ∷ xs) x e = (xs, (let same : y ≡ x = cc in ap (λ (z : ℕ). z ∷ xs) same))

pub none_first : (xs : List ℕ) → None ≡ slice_get xs 0 → xs ≡ []
none_first [] e = refl
none_first (y ∷ xs) e = cc

pub at_seam : (xs : List ℕ) (y : ℕ) (ys : List ℕ) → slice_get (xs ++ y ∷ ys) (length xs) ≡ Some y
at_seam [] y ys = refl
at_seam (x ∷ xs) y ys = at_seam xs y ys

pub past_seam : (xs : List ℕ) (y : ℕ) (ys : List ℕ) → slice_get (xs ++ y ∷ ys) (length xs + 1) ≡ slice_get ys 0
past_seam [] y ys = refl
past_seam (x ∷ xs) y ys =
    let e : length (x ∷ xs) + 1 ≡ suc (length xs + 1) = omega arith in
    ap (slice_get (x ∷ xs ++ y ∷ ys)) e ∙ past_seam xs y ys

pub absent_before : (xs : List ℕ) (y : ℕ) (ys : List ℕ) → AllDifferent (xs ++ y ∷ ys) → has_item xs y ≡ false
absent_before [] y ys d = refl
absent_before (x ∷ xs) y ys d =
    let apart : y ≢ x = differ (xs ++ y ∷ ys) y x (has_append_right xs (y ∷ ys) y (here y ys)) d.0 in
    cons_absent x xs y (λ e. apart (sym e)) (absent_before xs y ys d.1)

from_seam : (xs : List ℕ) (y : ℕ) (ys : List ℕ) → has_item xs y ≡ false → from_item (xs ++ y ∷ ys) y ≡ y ∷ ys
from_seam [] y ys n = ap (λ (b : Bool). cond b (y ∷ ys) (from_item ys y)) (eq_self y)
from_seam (x ∷ xs) y ys n =
    let o = or_none (nat_eq x y) (has_item xs y) n in
    ap (λ (b : Bool). cond b (x ∷ xs ++ y ∷ ys) (from_item (xs ++ y ∷ ys) y)) o.0 ∙ from_seam xs y ys o.1

-- from the first item on there are all
pub from_first : (xs : List ℕ) → from_here xs (slice_get xs 0) ≡ xs
from_first [] = refl
from_first (x ∷ xs) = ap (λ (b : Bool). cond b (x ∷ xs) (from_item xs x)) (eq_self x)

-- from the item behind one on
from_next : (xs : List ℕ) (y : ℕ) (ys : List ℕ) → AllDifferent (xs ++ y ∷ ys) → from_here (xs ++ y ∷ ys) (slice_get ys 0) ≡ ys
from_next xs y [] d = refl
from_next xs y (z ∷ ys) d =
    let is : (xs ++ y ∷ []) ++ z ∷ ys ≡ xs ++ y ∷ z ∷ ys = append_assoc {A = ℕ} xs (y ∷ []) (z ∷ ys) in
    ap (λ (l : List ℕ). from_item l z) (sym is)
    ∙ from_seam (xs ++ y ∷ []) z ys (absent_before (xs ++ y ∷ []) z ys (subst AllDifferent (sym is) d))

-- one item after another
pub goes_over : (xs : List ℕ) (item : ℕ) (at : Option ℕ) → AllDifferent xs → has_item xs item ≡ true
    → ((place : ℕ) → slice_get xs place ≡ Some item → at ≡ slice_get xs (place + 1))
    → from_item xs item ≡ item ∷ from_here xs at
goes_over xs item at d h next =
    let s = split_at xs item h in
    let d' : AllDifferent (s.0 ++ item ∷ s.1) = subst AllDifferent s.2 d in
    let is : at ≡ slice_get s.1 0 =
    next (length s.0) (ap (λ (l : List ℕ). slice_get l (length s.0)) s.2 ∙ at_seam s.0 item s.1)
    ∙ ap (λ (l : List ℕ). slice_get l (length s.0 + 1)) s.2 ∙ past_seam s.0 item s.1 in
    ap (λ (l : List ℕ). from_item l item) s.2 ∙ from_seam s.0 item s.1 (absent_before s.0 item s.1 d')
    ∙ ap (λ (l : List ℕ). item ∷ l)
    (sym (ap (λ (l : List ℕ). from_here l at) s.2 ∙ ap (from_here (s.0 ++ item ∷ s.1)) is ∙ from_next s.0 item s.1 d'))

pub has_place : (xs : List ℕ) (place item : ℕ) → slice_get xs place ≡ Some item → has_item xs item ≡ true
has_place [] place item e = cc
has_place (x ∷ xs) zero item e = let same : x ≡ item = cc in subst (λ (y : ℕ). has_item (x ∷ xs) y ≡ true) same (here x xs)
has_place (x ∷ xs) (suc place) item e = has_append_right (x ∷ []) xs item (has_place xs place item e)

pub next_stands : (xs : List ℕ) (item : ℕ) (at : Option ℕ) → has_item xs item ≡ true
    → ((place : ℕ) → slice_get xs place ≡ Some item → at ≡ slice_get xs (place + 1))
    → (other : ℕ) → at ≡ Some other → has_item xs other ≡ true
next_stands xs item at h next other e =
    let s = split_at xs item h in
    let place : slice_get xs (length s.0) ≡ Some item = ap (λ (l : List ℕ). slice_get l (length s.0)) s.2 ∙ at_seam s.0 item s.1 in
    has_place xs (length s.0 + 1) other (sym (next (length s.0) place) ∙ e)

pub first_stands : (xs : List ℕ) (at : Option ℕ) → at ≡ slice_get xs 0 → (other : ℕ) → at ≡ Some other → has_item xs other ≡ true
first_stands xs at is other e = has_place xs 0 other (sym is ∙ e)

-- the place of an item, and the length for none
abbrev pub index_of : List ℕ → ℕ → ℕ
index_of [] item = 0
index_of (x ∷ xs) item = cond (nat_eq x item) 0 (suc (index_of xs item))

abbrev pub place_in : List ℕ → Option ℕ → ℕ
place_in xs None = length xs
place_in xs (Some item) = index_of xs item

index_seam : (xs : List ℕ) (y : ℕ) (ys : List ℕ) → has_item xs y ≡ false → index_of (xs ++ y ∷ ys) y ≡ length xs
index_seam [] y ys n = ap (λ (b : Bool). cond b 0 (suc (index_of ys y))) (eq_self y)
index_seam (x ∷ xs) y ys n =
    let o = or_none (nat_eq x y) (has_item xs y) n in
    ap (λ (b : Bool). cond b 0 (suc (index_of (xs ++ y ∷ ys) y))) o.0 ∙ ap (λ (k : ℕ). suc k) (index_seam xs y ys o.1)

pub place_here : (xs : List ℕ) (y : ℕ) (ys : List ℕ) → AllDifferent (xs ++ y ∷ ys) → place_in (xs ++ y ∷ ys) (Some y) ≡ length xs
place_here xs y ys d = index_seam xs y ys (absent_before xs y ys d)

pub place_next : (xs : List ℕ) (y : ℕ) (ys : List ℕ) → AllDifferent (xs ++ y ∷ ys) → place_in (xs ++ y ∷ ys) (slice_get ys 0) ≡ suc (length xs)
place_next xs y [] d = let e : length (xs ++ y ∷ []) ≡ length xs + 1 = length-append xs (y ∷ []) in omega arith
place_next xs y (z ∷ ys) d =
    let is : (xs ++ y ∷ []) ++ z ∷ ys ≡ xs ++ y ∷ z ∷ ys = append_assoc {A = ℕ} xs (y ∷ []) (z ∷ ys) in
    let e : length (xs ++ y ∷ []) ≡ length xs + 1 = length-append xs (y ∷ []) in
    let p : index_of (xs ++ y ∷ z ∷ ys) z ≡ length (xs ++ y ∷ []) =
    ap (λ (l : List ℕ). index_of l z) (sym is) ∙ index_seam (xs ++ y ∷ []) z ys (absent_before (xs ++ y ∷ []) z ys (subst AllDifferent (sym is) d)) in
    omega arith
