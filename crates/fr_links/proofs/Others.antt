-- A list without one of its numbers, and how many different numbers there are.
use Rattle.std.proofs.Common.{◌≡◌, ◌≢◌, ℕ, zero, suc, ◌<◌, ◌≤◌, List, [], ◌∷◌, ◌++◌, length, inl, inr, Bool, true, false, cond, not, nat_eq, refl, sym, ap, ◌∙◌, subst, arith}
use Rattle.fr_links.specs.Lists.{has_item, others}
use Rattle.fr_links.specs.Rings.{AllDifferent}
use Rattle.fr_links.proofs.Has.{by_truth, differ, eq_apart, eq_is, eq_self, here, or_case, or_none, there, true_false}

-- how the head decides
at_same : (x : ℕ) (xs : List ℕ) (i : ℕ) → nat_eq x i ≡ true → others (x ∷ xs) i ≡ others xs i
at_same x xs i e = ap (λ (c : Bool). cond (not c) (x ∷ others xs i) (others xs i)) e

at_other : (x : ℕ) (xs : List ℕ) (i : ℕ) → nat_eq x i ≡ false → others (x ∷ xs) i ≡ x ∷ others xs i
at_other x xs i e = ap (λ (c : Bool). cond (not c) (x ∷ others xs i) (others xs i)) e

pub others_has : (xs : List ℕ) (i j : ℕ) → has_item (others xs i) j ≡ true → (has_item xs j ≡ true) × (j ≢ i)
others_has [] i j h = cc
others_has (x ∷ xs) i j h = elim (by_truth (nat_eq x i)) [
  | inl e ↦
      let r = others_has xs i j (subst (λ (l : List ℕ). has_item l j ≡ true) (at_same x xs i e) h) in
      (there x j xs r.0, r.1)
  | inr e ↦
      or_case (nat_eq x j) (has_item (others xs i) j) (subst (λ (l : List ℕ). has_item l j ≡ true) (at_other x xs i e) h)
      (λ same. (subst (λ (k : ℕ). has_item (x ∷ xs) k ≡ true) (eq_is x j same) (here x xs), λ t. true_false (nat_eq x i) (ap (nat_eq x) (sym t) ∙ same) e))
      (λ later. let r = others_has xs i j later in (there x j xs r.0, r.1))
]

pub others_keeps : (xs : List ℕ) (i j : ℕ) → has_item xs j ≡ true → j ≢ i → has_item (others xs i) j ≡ true
others_keeps [] i j h apart = cc
others_keeps (x ∷ xs) i j h apart = elim (by_truth (nat_eq x i)) [
  | inl e ↦
      subst (λ (l : List ℕ). has_item l j ≡ true) (sym (at_same x xs i e))
      (or_case (nat_eq x j) (has_item xs j) h (λ same. absurd (apart (sym (eq_is x j same) ∙ eq_is x i e))) (λ later. others_keeps xs i j later apart))
  | inr e ↦
      subst (λ (l : List ℕ). has_item l j ≡ true) (sym (at_other x xs i e))
      (or_case (nat_eq x j) (has_item xs j) h
      (λ same. subst (λ (k : ℕ). has_item (x ∷ others xs i) k ≡ true) (eq_is x j same) (here x (others xs i)))
      (λ later. there x j (others xs i) (others_keeps xs i j later apart)))
]

pub others_absent : (xs : List ℕ) (i : ℕ) → has_item xs i ≡ false → others xs i ≡ xs
others_absent [] i n = refl
others_absent (x ∷ xs) i n = let o = or_none (nat_eq x i) (has_item xs i) n in at_other x xs i o.0 ∙ ap (λ (l : List ℕ). x ∷ l) (others_absent xs i o.1)

others_lacks : (xs : List ℕ) (i j : ℕ) → has_item xs j ≡ false → has_item (others xs i) j ≡ false
others_lacks xs i j n = elim (by_truth (has_item (others xs i) j)) [
  | inl h ↦ true_false (has_item xs j) (others_has xs i j h).0 n
  | inr l ↦ l
]

pub others_different : (xs : List ℕ) (i : ℕ) → AllDifferent xs → AllDifferent (others xs i)
others_different [] i d = tt
others_different (x ∷ xs) i d = elim (by_truth (nat_eq x i)) [
  | inl e ↦ subst AllDifferent (sym (at_same x xs i e)) (others_different xs i d.1)
  | inr e ↦ subst AllDifferent (sym (at_other x xs i e)) (others_lacks xs i x d.0, others_different xs i d.1)
]

-- where an item stands
pub split_at : (xs : List ℕ) (i : ℕ) → has_item xs i ≡ true → (ps : List ℕ) × (qs : List ℕ) × (xs ≡ ps ++ i ∷ qs)
split_at [] i h = cc
split_at (x ∷ xs) i h = or_case (nat_eq x i) (has_item xs i) h
    (λ e. ([], xs, ap (λ (k : ℕ). k ∷ xs) (eq_is x i e)))
    (λ later. let s = split_at xs i later in (x ∷ s.0, s.1, ap (λ (l : List ℕ). x ∷ l) s.2))

middle : (ps : List ℕ) (i : ℕ) (qs : List ℕ) → has_item (ps ++ i ∷ qs) i ≡ true
middle [] i qs = here i qs
middle (p ∷ ps) i qs = there p i (ps ++ i ∷ qs) (middle ps i qs)

pub others_split : (ps : List ℕ) (i : ℕ) (qs : List ℕ) → AllDifferent (ps ++ i ∷ qs) → others (ps ++ i ∷ qs) i ≡ ps ++ qs
others_split [] i qs d = at_same i qs i (eq_self i) ∙ others_absent qs i d.0
others_split (p ∷ ps) i qs d =
    let apart : i ≢ p = differ (ps ++ i ∷ qs) i p (middle ps i qs) d.0 in
    at_other p (ps ++ i ∷ qs) i (eq_apart p i (λ e. apart (sym e))) ∙ ap (λ (l : List ℕ). p ∷ l) (others_split ps i qs d.1)

-- one number stands in a list at most once
length_others : (xs : List ℕ) (i : ℕ) → AllDifferent xs → length xs ≤ suc (length (others xs i))
length_others [] i d = omega arith
length_others (x ∷ xs) i d = elim (by_truth (nat_eq x i)) [
  | inl e ↦
      let absent : has_item xs i ≡ false = subst (λ (k : ℕ). has_item xs k ≡ false) (eq_is x i e) d.0 in
      let same : length (others (x ∷ xs) i) ≡ length xs = ap length (at_same x xs i e ∙ others_absent xs i absent) in
      omega arith
  | inr e ↦
      let more : length (others (x ∷ xs) i) ≡ suc (length (others xs i)) = ap length (at_other x xs i e) in
      let le : length xs ≤ suc (length (others xs i)) = length_others xs i d.1 in
      omega arith
]

-- different numbers below a bound are no more than the bound
pub few_different : (n : ℕ) (xs : List ℕ) → AllDifferent xs → ((i : ℕ) → has_item xs i ≡ true → i < n) → length xs ≤ n
few_different zero [] d below = omega arith
few_different zero (x ∷ xs) d below = let h : x < 0 = below x (here x xs) in absurd (omega arith)
few_different (suc n) xs d below =
    let few : length (others xs n) ≤ n = few_different n (others xs n) (others_different xs n d)
    (λ i h. let o = others_has xs n i h in smaller i n (below i o.0) o.1) in
    let le : length xs ≤ suc (length (others xs n)) = length_others xs n d in
    omega arith
  where
    smaller : (i n : ℕ) → i < suc n → i ≢ n → i < n
    smaller i n lt apart = omega arith
