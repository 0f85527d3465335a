-- What holds of each element of a list, by recursion on the list.
use Rattle.std.proofs.Common.{◌⊎◌, ℕ, List, [], ◌∷◌, ◌++◌, refl, inl, inr}
use Rattle.std.specs.List.{AllByRecursion, flat_map}
use Rattle.fr_meaning.specs.Order.{IsOneOf}

module _ {A : Type 0} where
  pub each : (P : A → Type 0) → ((x : A) → P x) → (xs : List A) → AllByRecursion P xs
  each P f [] = tt
  each P f (x ∷ xs) = (f x, each P f xs)

  pub each_weaker : (P Q : A → Type 0) → ((x : A) → P x → Q x) → (xs : List A) → AllByRecursion P xs → AllByRecursion Q xs
  each_weaker P Q f [] h = tt
  each_weaker P Q f (x ∷ xs) h = (f x h.0, each_weaker P Q f xs h.1)

  pub each_both : (P Q R : A → Type 0) → ((x : A) → P x → Q x → R x) → (xs : List A) → AllByRecursion P xs → AllByRecursion Q xs → AllByRecursion R xs
  each_both P Q R f [] h g = tt
  each_both P Q R f (x ∷ xs) h g = (f x h.0 g.0, each_both P Q R f xs h.1 g.1)

  pub each_append : (P : A → Type 0) (xs ys : List A) → AllByRecursion P xs → AllByRecursion P ys → AllByRecursion P (xs ++ ys)
  each_append P [] ys h g = g
  each_append P (x ∷ xs) ys h g = (h.0, each_append P xs ys h.1 g)

  pub each_cut : (P : A → Type 0) (xs ys : List A) → AllByRecursion P (xs ++ ys) → AllByRecursion P xs × AllByRecursion P ys
  each_cut P [] ys h = (tt, h)
  each_cut P (x ∷ xs) ys h = let t = each_cut P xs ys h.1 in ((h.0, t.0), t.1)

pub each_flat : {A B : Type 0} (P : B → Type 0) (f : A → List B) (xs : List A) → AllByRecursion (λ x. AllByRecursion P (f x)) xs → AllByRecursion P (flat_map f xs)
each_flat P f [] h = tt
each_flat P f (x ∷ xs) h = each_append P (f x) (flat_map f xs) h.0 (each_flat P f xs h.1)

pub each_of_flat : {A B : Type 0} (P : B → Type 0) (f : A → List B) (xs : List A) → AllByRecursion P (flat_map f xs) → AllByRecursion (λ x. AllByRecursion P (f x)) xs
each_of_flat P f [] h = tt
each_of_flat P f (x ∷ xs) h = let t = each_cut P (f x) (flat_map f xs) h in (t.0, each_of_flat P f xs t.1)

-- what holds of each pair holds in the other order
pub each_flip : {A B : Type 0} (R : A → B → Type 0) (xs : List A) (ys : List B) → AllByRecursion (λ x. AllByRecursion (R x) ys) xs → AllByRecursion (λ y. AllByRecursion (λ x. R x y) xs) ys
each_flip R xs [] h = tt
each_flip R xs (y ∷ ys) h = (
  each_weaker (λ x. AllByRecursion (R x) (y ∷ ys)) (λ x. R x y) (λ x g. g.0) xs h,
  each_flip R xs ys (each_weaker (λ x. AllByRecursion (R x) (y ∷ ys)) (λ x. AllByRecursion (R x) ys) (λ x g. g.1) xs h),
)

-- what holds of each place holds of one of them
pub each_one : (P : List ℕ → Type 0) (ps : List (List ℕ)) (p : List ℕ) → AllByRecursion P ps → IsOneOf ps p → P p
each_one P [] p h g = absurd g
each_one P (q ∷ ps) p h (inl e) = rw (← e) h.0
each_one P (q ∷ ps) p h (inr g) = each_one P ps p h.1 g

pub each_is_one : (ps : List (List ℕ)) → AllByRecursion (IsOneOf ps) ps
each_is_one [] = tt
each_is_one (p ∷ ps) = (inl refl, each_weaker (IsOneOf ps) (IsOneOf (p ∷ ps)) (λ q h. inr h) ps (each_is_one ps))

pub one_append : (ps qs : List (List ℕ)) (p : List ℕ) → IsOneOf ps p ⊎ IsOneOf qs p → IsOneOf (ps ++ qs) p
one_append [] qs p (inl h) = absurd h
one_append [] qs p (inr h) = h
one_append (q ∷ ps) qs p (inl (inl e)) = inl e
one_append (q ∷ ps) qs p (inl (inr h)) = inr (one_append ps qs p (inl h))
one_append (q ∷ ps) qs p (inr h) = inr (one_append ps qs p (inr h))

pub one_of_append : (ps qs : List (List ℕ)) (p : List ℕ) → IsOneOf (ps ++ qs) p → IsOneOf ps p ⊎ IsOneOf qs p
one_of_append [] qs p h = inr h
one_of_append (q ∷ ps) qs p (inl e) = inl (inl e)
one_of_append (q ∷ ps) qs p (inr h) = elim (one_of_append ps qs p h) [ inl l ↦ inl (inr l) | inr r ↦ inr r ]
