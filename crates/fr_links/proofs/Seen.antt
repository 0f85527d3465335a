-- What following the places of a ring shows.
use Rattle.std.proofs.Common.{◌≡◌, ℕ, zero, suc, ◌/◌, ◌≤◌, List, [], ◌∷◌, length, map, ◌⊎◌, inl, inr, Some, None, true, slice_get, refl, sym, ap, ◌∙◌, subst}
use Rattle.std.proofs.lemmas.List.{length-map}
use Rattle.fr_links.specs.declared.place.Places.{Places}
use Rattle.fr_links.specs.Lists.{has_item}
use Rattle.fr_links.specs.Rings.{AreRings, IsSegment, item_place, items_in, list_place, next_of, previous_of, ring_of}
use Rattle.fr_links.proofs.Has.{halves, here, no_list_place, there}
use Rattle.fr_links.proofs.Kept.{retold}
use Rattle.fr_links.proofs.Others.{few_different}
use Rattle.fr_links.proofs.Segments.{seen}

module _ (places : Places) (lists items : ℕ) (list : ℕ → List ℕ)
    (k : AreRings (next_of places) (previous_of places) (ring_of places) lists items list) where
  pub items_seen : (l : ℕ) → items_in places items l ≡ list l
  items_seen l =
      let few : length (list l) ≤ items = few_different items (list l) (k.once l) (k.small l) in
      let as_many : length (map item_place (list l)) ≤ items = subst (λ (n : ℕ). n ≤ items) (sym (length-map (list l) item_place)) few in
      ap (map (λ place. place / 2)) (seen (next_of places) (previous_of places) items (list_place l) (map item_place (list l)) (list_place l) as_many
      (no_list_place (list l) l) (k.segment l))
      ∙ halves (list l)

  -- so the places are rings of what is seen
  pub as_seen : AreRings (next_of places) (previous_of places) (ring_of places) lists items (items_in places items)
  as_seen = retold (next_of places) (previous_of places) (ring_of places) lists items list (items_in places items) items_seen k

-- what stands after a place: the next item, or the end
pub first_item : (next previous : ℕ → ℕ) (a b : ℕ) (xs : List ℕ) → IsSegment next previous a (map item_place xs) b
    → ((next a ≡ b) × (slice_get xs 0 ≡ None)) ⊎ ((j : ℕ) × (next a ≡ item_place j) × (slice_get xs 0 ≡ Some j))
first_item next previous a b [] s = inl (s.0, refl)
first_item next previous a b (x ∷ xs) s = inr (x, s.0, refl)

pub next_item : (next previous : ℕ → ℕ) (a b : ℕ) (xs : List ℕ) (n i : ℕ) → IsSegment next previous a (map item_place xs) b → slice_get xs n ≡ Some i
    → ((next (item_place i) ≡ b) × (slice_get xs (suc n) ≡ None)) ⊎ ((j : ℕ) × (next (item_place i) ≡ item_place j) × (slice_get xs (suc n) ≡ Some j))
next_item next previous a b [] n i s e = cc
next_item next previous a b (x ∷ xs) zero i s e =
    let is : x ≡ i = cc in
    subst (λ (j : ℕ). ((next (item_place j) ≡ b) × (slice_get xs 0 ≡ None)) ⊎ ((m : ℕ) × (next (item_place j) ≡ item_place m) × (slice_get xs 0 ≡ Some m))) is
    (first_item next previous (item_place x) b xs s.2)
next_item next previous a b (x ∷ xs) (suc n) i s e = next_item next previous (item_place x) b xs n i s.2 e

pub has_at : (xs : List ℕ) (n i : ℕ) → slice_get xs n ≡ Some i → has_item xs i ≡ true
has_at [] n i e = cc
has_at (x ∷ xs) zero i e = let is : x ≡ i = cc in subst (λ (j : ℕ). has_item (x ∷ xs) j ≡ true) is (here x xs)
has_at (x ∷ xs) (suc n) i e = there x i xs (has_at xs n i e)
