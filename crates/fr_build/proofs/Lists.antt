-- Numbers in lists: those of two lists, and which stands before which.
use Rattle.std.proofs.Common.{◌≡◌, ◌⊎◌, inl, inr, ℕ, true, false, List, [], ◌∷◌, ◌++◌, arith}
use Rattle.fr_links.specs.Lists.{has_item}
use Rattle.fr_links.proofs.Has.{by_truth, true_false, here, there, has_append_left, has_append_right, has_append_cases}
use Rattle.fr_build.specs.Builds.{IsOnce, Precedes}

-- what stands in the one stands in the other
abbrev pub AreAmong : List ℕ → List ℕ → Type 0
AreAmong xs ys = (m : ℕ) → has_item xs m ≡ true → has_item ys m ≡ true

pub first_or_rest : (x m : ℕ) (xs : List ℕ) → has_item (x ∷ xs) m ≡ true → (has_item (x ∷ []) m ≡ true) ⊎ (has_item xs m ≡ true)
first_or_rest x m xs h = has_append_cases (x ∷ []) xs m h

pub only_item : (x m : ℕ) → has_item (x ∷ []) m ≡ true → x ≡ m
only_item x m h = grind arith

pub among_cons : (x : ℕ) (xs ys : List ℕ) → AreAmong xs ys → AreAmong (x ∷ xs) (x ∷ ys)
among_cons x xs ys sub m h = elim (first_or_rest x m xs h) [
  | inl l ↦ has_append_left (x ∷ []) ys m l
  | inr r ↦ there x m ys (sub m r)
]

pub not_in_first : (xs ys : List ℕ) (m : ℕ) → has_item (xs ++ ys) m ≡ false → has_item xs m ≡ false
not_in_first xs ys m n = elim (by_truth (has_item xs m)) [
  | inl t ↦ true_false (has_item (xs ++ ys) m) (has_append_left xs ys m t) n
  | inr f ↦ f
]

pub not_in_second : (xs ys : List ℕ) (m : ℕ) → has_item (xs ++ ys) m ≡ false → has_item ys m ≡ false
not_in_second xs ys m n = elim (by_truth (has_item ys m)) [
  | inl t ↦ true_false (has_item (xs ++ ys) m) (has_append_right xs ys m t) n
  | inr f ↦ f
]

pub in_neither : (xs ys : List ℕ) (m : ℕ) → has_item xs m ≡ false → has_item ys m ≡ false → has_item (xs ++ ys) m ≡ false
in_neither xs ys m n o = elim (by_truth (has_item (xs ++ ys) m)) [
  | inl t ↦ elim (has_append_cases xs ys m t) [
    | inl l ↦ true_false (has_item xs m) l n
    | inr r ↦ true_false (has_item ys m) r o
  ]
  | inr f ↦ f
]

pub once_append : (xs ys : List ℕ) → IsOnce xs → IsOnce ys → ((m : ℕ) → has_item xs m ≡ true → has_item ys m ≡ false) → IsOnce (xs ++ ys)
once_append [] ys o p apart = p
once_append (x ∷ xs) ys o p apart = (in_neither xs ys x o.0 (apart x (here x xs)), once_append xs ys o.1 p (λ m h. apart m (there x m xs h)))

pub precedes_left : (xs ys : List ℕ) (i j : ℕ) → Precedes xs i j → Precedes (xs ++ ys) i j
precedes_left [] ys i j p = absurd p
precedes_left (x ∷ xs) ys i j p = elim p [
  | inl h ↦ inl (h.0, has_append_left xs ys j h.1)
  | inr q ↦ inr (precedes_left xs ys i j q)
]

pub precedes_right : (xs ys : List ℕ) (i j : ℕ) → Precedes ys i j → Precedes (xs ++ ys) i j
precedes_right [] ys i j p = p
precedes_right (x ∷ xs) ys i j p = inr (precedes_right xs ys i j p)

-- the second is there
pub precedes_second : (xs : List ℕ) (i j : ℕ) → Precedes xs i j → has_item xs j ≡ true
precedes_second [] i j p = absurd p
precedes_second (x ∷ xs) i j p = elim p [
  | inl h ↦ there x j xs h.1
  | inr q ↦ there x j xs (precedes_second xs i j q)
]
