-- What stands in a list.
use Rattle.std.specs.Prelude.{ℕ, zero, suc, ◌≡◌, ◌<◌, ◌⊎◌, List, [], ◌∷◌, ◌++◌, length, slice_index_or}
use Rattle.std.specs.List.{Contains}
use Rattle.std.proofs.Common.{refl, inl, inr, arith}
use Rattle.std.proofs.lemmas.List.Elements.{Contains-append_cases}
use Rattle.fr_core.specs.WellFormed.{AreDistinct}

pub nowhere : {X : Type 0} (x : X) → Contains [] x → ⊥
nowhere x h = let no_place : h.0 < 0 = h.1 in omega (arith, no_place)

pub here : {X : Type 0} (x y : X) (xs : List X) → y ≡ x → Contains (y ∷ xs) x
here x y xs e = (0, omega arith, e)

pub later : {X : Type 0} (x y : X) (xs : List X) → Contains xs x → Contains (y ∷ xs) x
later x y xs h = (suc h.0, omega (arith, h.1), h.2)

either_at : {X : Type 0} (x y : X) (xs : List X) (k : ℕ) → k < length (y ∷ xs) → slice_index_or (y ∷ xs) k x ≡ x → (y ≡ x) ⊎ Contains xs x
either_at x y xs zero h e = inl e
either_at x y xs (suc k) h e = inr (k, omega (arith, h), e)

-- it is the first, or stands behind it
pub first_or_later : {X : Type 0} (x y : X) (xs : List X) → Contains (y ∷ xs) x → (y ≡ x) ⊎ Contains xs x
first_or_later x y xs h = either_at x y xs h.0 h.1 h.2

-- names that are distinct in each of two lists and in both
pub distinct_append : (xs ys : List (List ℕ)) → AreDistinct xs → AreDistinct ys → ((x : List ℕ) → Contains xs x → Contains ys x → ⊥) → AreDistinct (xs ++ ys)
distinct_append [] ys h k apart = k
distinct_append (x ∷ xs) ys h k apart = (
  λ c. elim (Contains-append_cases xs ys x c) [ inl l ↦ h.0 l | inr r ↦ apart x (here x x xs refl) r ],
  distinct_append xs ys h.1 k (λ y l r. apart y (later y x xs l) r),
)
