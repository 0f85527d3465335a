-- Numbers and tests of a list of parts, with a body behind it or none.
use Rattle.std.proofs.Common.{◌≡◌, ◌≢◌, ◌≤◌, ◌<◌, ◌+◌, ◌&&◌, ℕ, zero, suc, Bool, true, false, List, [], ◌∷◌, ◌++◌, map, length, drop, max, slice_get, Some, None, refl, sym, ap, add-zero, add-one, ◌∙◌, arith}
use Rattle.std.proofs.lemmas.Option.{slice_get_within}
use Rattle.fr_value.specs.Data.{total, greatest}
use Rattle.fr_core.specs.Shapes.{outer, all_true}
use Rattle.fr_core.specs.WellFormed.{all_at}

-- the parts alone

pub parts-outer : {X : Type 0} (xs : List X) → map (λ (x : ℕ × X). x.1) (outer xs) ≡ xs
parts-outer [] = refl
parts-outer (x ∷ xs) = ap (λ l. x ∷ l) (parts-outer xs)

pub parts-body : {X : Type 0} (xs : List X) (n : ℕ) (b : X) → map (λ (x : ℕ × X). x.1) (outer xs ++ (n, b) ∷ []) ≡ xs ++ b ∷ []
parts-body [] n b = refl
parts-body (x ∷ xs) n b = ap (λ l. x ∷ l) (parts-body xs n b)

-- a number of each, or a test

pub total-append : (ms ns : List ℕ) → total (ms ++ ns) ≡ total ms + total ns
total-append [] ns = omega arith
total-append (m ∷ ms) ns = omega (arith, total-append ms ns)

and_true : (a : Bool) → a && true ≡ a
and_true true = refl
and_true false = refl

and_assoc : (a b c : Bool) → a && (b && c) ≡ (a && b) && c
and_assoc true b c = refl
and_assoc false b c = refl

pub greatest-body : {X : Type 0} (f : X → ℕ) (xs : List X) (n : ℕ) (b : X) → greatest (map f (map (λ (x : ℕ × X). x.1) (outer xs ++ (n, b) ∷ []))) ≡ max (greatest (map f xs)) (f b)
greatest-body f [] n b = omega arith
greatest-body f (x ∷ xs) n b = omega (arith, greatest-body f xs n b)

pub total-body : {X : Type 0} (f : X → ℕ) (xs : List X) (n : ℕ) (b : X) → total (map f (map (λ (x : ℕ × X). x.1) (outer xs ++ (n, b) ∷ []))) ≡ total (map f xs) + f b
total-body f [] n b = omega arith
total-body f (x ∷ xs) n b = omega (arith, total-body f xs n b)

pub all_true-body : {X : Type 0} (f : X → Bool) (xs : List X) (n : ℕ) (b : X) → all_true (map f (map (λ (x : ℕ × X). x.1) (outer xs ++ (n, b) ∷ []))) ≡ all_true (map f xs) && f b
all_true-body f [] n b = and_true (f b)
all_true-body f (x ∷ xs) n b = ap (λ t. f x && t) (all_true-body f xs n b) ∙ and_assoc (f x) (all_true (map f xs)) (f b)

-- what is bound for each

pub widest-outer : {X : Type 0} (f : X → ℕ) (xs : List X) → greatest (map (λ (x : ℕ × X). x.0 + f x.1) (outer xs)) ≡ greatest (map f xs)
widest-outer f [] = refl
widest-outer f (x ∷ xs) = omega (arith, widest-outer f xs)

pub widest-body : {X : Type 0} (f : X → ℕ) (xs : List X) (n : ℕ) (b : X) → greatest (map (λ (x : ℕ × X). x.0 + f x.1) (outer xs ++ (n, b) ∷ [])) ≡ max (greatest (map f xs)) (n + f b)
widest-body f [] n b = omega arith
widest-body f (x ∷ xs) n b = omega (arith, widest-body f xs n b)

pub all_at-outer : {X : Type 0} (f : X → ℕ → Bool) (m : ℕ) (xs : List X) → all_at m (map (λ (x : ℕ × X). (x.0, f x.1)) (outer xs)) ≡ all_true (map (λ x. f x m) xs)
all_at-outer f m [] = refl
all_at-outer f m (x ∷ xs) = rw (add-zero, all_at-outer f m xs)

pub all_at-body : {X : Type 0} (f : X → ℕ → Bool) (m : ℕ) (xs : List X) (n : ℕ) (b : X)
    → all_at m (map (λ (x : ℕ × X). (x.0, f x.1)) (outer xs ++ (n, b) ∷ [])) ≡ all_true (map (λ x. f x m) xs) && f b (m + n)
all_at-body f m [] n b = and_true (f b (m + n))
all_at-body f m (x ∷ xs) n b = rw (add-zero, all_at-body f m xs n b) (and_assoc (f x m) (all_true (map (λ x. f x m) xs)) (f b (m + n)))

-- the part at a number

pub body_at : {X : Type 0} (xs : List X) (b : X) (i : ℕ) → i ≡ length xs → slice_get (xs ++ b ∷ []) i ≡ Some b
body_at [] b zero h = refl
body_at [] b (suc i) h = absurd cc
body_at (x ∷ xs) b zero h = absurd (omega (arith, h))
body_at (x ∷ xs) b (suc i) h = body_at xs b i (omega (arith, h))

pub entry_at : {X : Type 0} (xs : List X) (b : X) (i : ℕ) → i ≢ length xs → slice_get (xs ++ b ∷ []) i ≡ slice_get xs i
entry_at [] b zero h = absurd (h refl)
entry_at [] b (suc i) h = refl
entry_at (x ∷ xs) b zero h = refl
entry_at (x ∷ xs) b (suc i) h = entry_at xs b i (λ k. h (omega (arith, k)))

pub within_parts : {X : Type 0} (xs : List X) (i : ℕ) (x : X) → Some x ≡ slice_get xs i → i < length xs
within_parts xs i x h = slice_get_within xs i x (sym h)

pub past_parts : {X : Type 0} (xs : List X) (i : ℕ) → None ≡ slice_get xs i → length xs ≤ i
past_parts [] i h = omega arith
past_parts (x ∷ xs) zero h = absurd cc
past_parts (x ∷ xs) (suc i) h = omega (arith, past_parts xs i h)

-- those from a number on, where there is one of this number, and where there is none
pub drop_part : {X : Type 0} (xs : List X) (i : ℕ) (x : X) → Some x ≡ slice_get xs i → drop i xs ≡ x ∷ drop (i + 1) xs
drop_part [] i x h = absurd cc
drop_part (y ∷ xs) zero x h = let same : y ≡ x = cc in ap (λ z. z ∷ xs) same
drop_part (y ∷ xs) (suc i) x h = rw add-one (rw add-one at (drop_part xs i x h))

pub drop_none : {X : Type 0} (xs : List X) (i : ℕ) → None ≡ slice_get xs i → drop i xs ≡ []
drop_none [] zero h = refl
drop_none [] (suc i) h = refl
drop_none (x ∷ xs) zero h = absurd cc
drop_none (x ∷ xs) (suc i) h = drop_none xs i h
