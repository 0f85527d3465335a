-- Sums over numbers, and over the members of eras.
use Rattle.std.proofs.Common.{◌≡◌, ◌≢◌, ℕ, zero, suc, ◌+◌, ◌<◌, inl, inr, List, [], ◌∷◌, Bool, true, false, nat_eq, ◌||◌, refl, ap, sym, ◌∙◌, arith, sum_by}
use Rattle.std.proofs.lemmas.List.Sums.{sum_by-cons}
use Rattle.fr_links.specs.Lists.{has_item}
use Rattle.fr_links.specs.Rings.{AllDifferent}
use Rattle.fr_links.proofs.Has.{by_number, eq_self, eq_is, eq_apart, by_truth, true_false, here, there}
use Rattle.fr_sums.specs.Sites.{when}
use Rattle.fr_sums.specs.Members.{sum_below}

sum_same : (n : ℕ) (f g : ℕ → ℕ) → ((i : ℕ) → i < n → f i ≡ g i) → sum_below n f ≡ sum_below n g
sum_same zero f g h = refl
sum_same (suc n) f g h =
    let a : sum_below n f ≡ sum_below n g = sum_same n f g (λ i lt. h i (omega arith)) in
    let b : f n ≡ g n = h n (omega arith) in omega arith

sum_plus : (n : ℕ) (f g : ℕ → ℕ) → sum_below n (λ i. f i + g i) ≡ sum_below n f + sum_below n g
sum_plus zero f g = refl
sum_plus (suc n) f g = let a : sum_below n (λ i. f i + g i) ≡ sum_below n f + sum_below n g = sum_plus n f g in omega arith

sum_none : (n : ℕ) (f : ℕ → ℕ) → ((i : ℕ) → i < n → f i ≡ 0) → sum_below n f ≡ 0
sum_none zero f h = refl
sum_none (suc n) f h =
    let a : sum_below n f ≡ 0 = sum_none n f (λ i lt. h i (omega arith)) in
    let b : f n ≡ 0 = h n (omega arith) in omega arith

-- one term alone
sum_one : (n : ℕ) (f : ℕ → ℕ) (j : ℕ) → j < n → ((i : ℕ) → i ≢ j → f i ≡ 0) → sum_below n f ≡ f j
sum_one zero f j lt h = absurd (omega arith)
sum_one (suc n) f j lt h = elim (by_number j n) [
  | inl e ↦
      let a : sum_below n f ≡ 0 = sum_none n f (λ i il. h i (λ (s : i ≡ j). absurd (omega arith))) in
      let b : f n ≡ f j = ap f (sym e) in omega arith
  | inr ne ↦
      let a : sum_below n f ≡ f j = sum_one n f j (omega arith) h in
      let b : f n ≡ 0 = h n (λ (s : n ≡ j). ne (sym s)) in omega arith
]

swap : (n m : ℕ) (f : ℕ → ℕ → ℕ) → sum_below n (λ i. sum_below m (λ j. f i j)) ≡ sum_below m (λ j. sum_below n (λ i. f i j))
swap zero m f = sym (sum_none m (λ j. 0) (λ j lt. refl))
swap (suc n) m f =
    let a : sum_below n (λ i. sum_below m (λ j. f i j)) ≡ sum_below m (λ j. sum_below n (λ i. f i j)) = swap n m f in
    let b : sum_below m (λ j. sum_below n (λ i. f i j) + f n j) ≡ sum_below m (λ j. sum_below n (λ i. f i j)) + sum_below m (λ j. f n j) = sum_plus m (λ j. sum_below n (λ i. f i j)) (λ j. f n j) in
    omega arith

first_apart : (f : ℕ → ℕ) (n : ℕ) → sum_below (suc n) f ≡ f 0 + sum_below n (λ i. f (suc i))
first_apart f zero = omega arith
first_apart f (suc n) = let e : sum_below (suc n) f ≡ f 0 + sum_below n (λ i. f (suc i)) = first_apart f n in omega arith

-- a sum over a list without repeats, as one over numbers
head_term : (n m : ℕ) (f : ℕ → ℕ) → m < n → sum_below n (λ i. when (nat_eq m i) (f i)) ≡ f m
head_term n m f lt =
    sum_one n (λ i. when (nat_eq m i) (f i)) m lt (λ i ne. ap (λ (b : Bool). when b (f i)) (eq_apart m i (λ (e : m ≡ i). ne (sym e))))
    ∙ ap (λ (b : Bool). when b (f m)) (eq_self m)

or_term : (a b : Bool) (v : ℕ) → (a ≡ true → b ≡ false) → when (a || b) v ≡ when a v + when b v
or_term true true v h = true_false true refl (h refl)
or_term true false v h = omega arith
or_term false b v h = omega arith

over_list : (n : ℕ) (f : ℕ → ℕ) (ms : List ℕ) → AllDifferent ms → ((m : ℕ) → has_item ms m ≡ true → m < n) → sum_by f ms ≡ sum_below n (λ i. when (has_item ms i) (f i))
over_list n f [] o b = sym (sum_none n (λ i. 0) (λ i lt. refl))
over_list n f (m ∷ ms) o b =
    let rest : sum_by f ms ≡ sum_below n (λ i. when (has_item ms i) (f i)) = over_list n f ms o.1 (λ i h. b i (there m i ms h)) in
    let split : sum_below n (λ i. when (nat_eq m i || has_item ms i) (f i)) ≡ sum_below n (λ i. when (nat_eq m i) (f i) + when (has_item ms i) (f i))
    = sum_same n _ _ (λ i lt. or_term (nat_eq m i) (has_item ms i) (f i) (λ e. ap (λ (j : ℕ). has_item ms j) (sym (eq_is m i e)) ∙ o.0)) in
    let two = sum_plus n (λ i. when (nat_eq m i) (f i)) (λ i. when (has_item ms i) (f i)) in
    let one : sum_below n (λ i. when (nat_eq m i) (f i)) ≡ f m = head_term n m f (b m (here m ms)) in
    let e1 : f m + sum_by f ms ≡ sum_below n (λ i. when (nat_eq m i) (f i)) + sum_below n (λ i. when (has_item ms i) (f i)) = omega arith in
    sum_by-cons f m ms ∙ e1 ∙ sym two ∙ sym split

-- what is told of numbers, of which those of some live, and each that lives is in the list of its own number once and in no other
pub record AreApart (n : ℕ) (live : ℕ → Bool) (era : ℕ → ℕ) (members : ℕ → List ℕ) : Type 0 where
  pub once : (x : ℕ) → AllDifferent (members x)
  pub here : (i : ℕ) → live i ≡ true → has_item (members (era i)) i ≡ true
  pub only : (x i : ℕ) → has_item (members x) i ≡ true → (live i ≡ true) × (era i ≡ x)
  pub number : (i : ℕ) → live i ≡ true → (i < n) × (era i < suc n)

module _ (n : ℕ) (live : ℕ → Bool) (era : ℕ → ℕ) (members : ℕ → List ℕ) (a : AreApart n live era members) where
  not_here : (i x : ℕ) → (has_item (members x) i ≡ true → ⊥) → has_item (members x) i ≡ false
  not_here i x h = elim (by_truth (has_item (members x) i)) [ inl t ↦ absurd (h t) | inr f ↦ f ]

  at_node : (f : ℕ → ℕ) (i : ℕ) → sum_below (suc n) (λ x. when (has_item (members x) i) (f i)) ≡ when (live i) (f i)
  at_node f i = elim (by_truth (live i)) [
    | inl t ↦
        sum_one (suc n) (λ x. when (has_item (members x) i) (f i)) (era i) (a.number i t).1
        (λ x ne. ap (λ (b : Bool). when b (f i)) (not_here i x (λ h. ne (sym (a.only x i h).1))))
        ∙ ap (λ (b : Bool). when b (f i)) (a.here i t) ∙ ap (λ (b : Bool). when b (f i)) (sym t)
    | inr no_life ↦
        sum_none (suc n) (λ x. when (has_item (members x) i) (f i))
        (λ x lt. ap (λ (b : Bool). when b (f i)) (not_here i x (λ h. true_false (live i) (a.only x i h).0 no_life)))
        ∙ ap (λ (b : Bool). when b (f i)) (sym no_life)
  ]

  -- over the eras, and in each over its members
  by_eras : (f : ℕ → ℕ) → sum_below (suc n) (λ x. sum_by f (members x)) ≡ sum_below n (λ i. when (live i) (f i))
  by_eras f =
      sum_same (suc n) (λ x. sum_by f (members x)) (λ x. sum_below n (λ i. when (has_item (members x) i) (f i)))
      (λ x lt. over_list n f (members x) (a.once x) (λ i h. (a.number i (a.only x i h).0).0))
      ∙ swap (suc n) n (λ x i. when (has_item (members x) i) (f i))
      ∙ sum_same n (λ i. sum_below (suc n) (λ x. when (has_item (members x) i) (f i))) (λ i. when (live i) (f i)) (λ i lt. at_node f i)

  -- THE SUM ALONG ERAS. Where `deep x` adds to each member of x what is deep in the member's own era, what is deep in the program's era is the sum over all that lives.
  pub tree_sum : (f deep : ℕ → ℕ) → ((x : ℕ) → deep x ≡ sum_by (λ m. f m + deep (suc m)) (members x)) → ((i : ℕ) → live i ≡ false → deep (suc i) ≡ 0)
      → deep 0 ≡ sum_below n (λ i. when (live i) (f i))
  tree_sum f deep opens none =
      let all : sum_below (suc n) (λ x. sum_by (λ m. f m + deep (suc m)) (members x)) ≡ sum_below n (λ i. when (live i) (f i + deep (suc i))) = by_eras (λ m. f m + deep (suc m)) in
      let left : sum_below (suc n) deep ≡ sum_below (suc n) (λ x. sum_by (λ m. f m + deep (suc m)) (members x)) = sum_same (suc n) deep _ (λ x lt. opens x) in
      let front : sum_below (suc n) deep ≡ deep 0 + sum_below n (λ i. deep (suc i)) = first_apart deep n in
      let right : sum_below n (λ i. when (live i) (f i + deep (suc i))) ≡ sum_below n (λ i. when (live i) (f i)) + sum_below n (λ i. deep (suc i))
      = sum_same n _ _ (λ i lt. term (live i) (f i) (deep (suc i)) (none i)) ∙ sum_plus n (λ i. when (live i) (f i)) (λ i. deep (suc i)) in
      omega (arith, all, left, front, right)
    where
      term : (b : Bool) (v d : ℕ) → (b ≡ false → d ≡ 0) → when b (v + d) ≡ when b v + d
      term true v d h = refl
      term false v d h = omega (arith, h refl)
