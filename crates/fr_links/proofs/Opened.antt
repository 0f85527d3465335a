-- What the calls need of lists whose fields are open.
use Rattle.std.proofs.Common.{◌≡◌, ◌≢◌, ℕ, ◌%◌, ◌^◌, ◌<◌, ◌≤◌, length, None, IsSome, vec_len, sym, subst, arith}
use Rattle.fr_links.specs.declared.links.Links.TheInside.{Inside}
use Rattle.fr_links.specs.declared.place.Places.{Places}
use Rattle.fr_links.specs.Lists.{Linked, list_of}
use Rattle.fr_links.specs.Rings.{IsLinked, IsThere, TakesOut, item_place, linked, list_place, next_of, previous_of}
use Rattle.fr_links.proofs.Calls.{after_bound, before_bound, item_below, item_bound, item_fits, item_stands_fits, last_bound, list_below, list_bound, list_fits, not_in_ring, ring_of_last, stands}
use Rattle.fr_links.proofs.Places.{still_there}

-- the place of an item is even
pub even : (i p : ℕ) → p ≡ item_place i → p % 2 ≡ 0
even i p e = omega arith

module _ (a : Inside) (k : IsLinked a.places a.lists a.items) (v : Linked) (is : linked a.places a.lists a.items ≡ v) where
  pub fits_list : (l : ℕ) → l < length v.lists → l < 2 ^ 31
  fits_list = list_fits a.places a.lists a.items k v is

  pub fits_item : (i : ℕ) → i < v.items → i < 2 ^ 31
  fits_item i h = item_fits a.places a.lists a.items k v is i (item_below a.places a.lists a.items k v is i h)

  pub fits_standing : (i : ℕ) → IsSome (list_of v.lists i) → i < 2 ^ 31
  fits_standing i s = item_fits a.places a.lists a.items k v is i (item_stands_fits a.places a.lists a.items k v is i s)

  pub list_place_below : (l r : ℕ) → l < a.lists → r ≡ list_place l → IsThere a.places r
  list_place_below l r h e = subst (IsThere a.places) (sym e) (list_bound a.places a.lists a.items k v is l h)

  pub item_place_below : (i p : ℕ) → i < a.items → p ≡ item_place i → IsThere a.places p
  item_place_below i p h e = subst (IsThere a.places) (sym e) (item_bound a.places a.lists a.items k v is i h)

  pub has_list_place : (l r : ℕ) → l < length v.lists → r ≡ list_place l → IsThere a.places r
  has_list_place l r h e = list_place_below l r (list_below a.places a.lists a.items k v is l h) e

  pub has_item_place : (i p : ℕ) → i < v.items → p ≡ item_place i → IsThere a.places p
  has_item_place i p h e = item_place_below i p (item_below a.places a.lists a.items k v is i h) e

  pub has_standing_place : (i p : ℕ) → IsSome (list_of v.lists i) → p ≡ item_place i → IsThere a.places p
  has_standing_place i p s e = item_place_below i p (item_stands_fits a.places a.lists a.items k v is i s) e

  -- an item is kept at its number
  pub kept_below : (i : ℕ) → i < a.items → i < length a.places.items.items
  kept_below i h = let room : a.items ≤ length a.places.items.items = k.for_items in omega arith

  pub standing_kept : (i : ℕ) → IsSome (list_of v.lists i) → i < length a.places.items.items
  standing_kept i s = kept_below i (item_stands_fits a.places a.lists a.items k v is i s)

  -- as the vector's length tells
  pub standing_in_items : (i : ℕ) → IsSome (list_of v.lists i) → i < vec_len a.places.items
  standing_in_items i s = subst (λ (n : ℕ). i < n) (sym a.places.items.ok.0) (standing_kept i s)

  pub has_place_after : (i p : ℕ) → IsSome (list_of v.lists i) → p ≡ item_place i → IsThere a.places (next_of a.places p)
  has_place_after i p s e =
      let at = stands a.places a.lists a.items k v is i s in
      after_bound a.places a.lists a.items k v is at.0 i p at.1 e

  pub has_place_before : (i p : ℕ) → IsSome (list_of v.lists i) → p ≡ item_place i → IsThere a.places (previous_of a.places p)
  has_place_before i p s e =
      let at = stands a.places a.lists a.items k v is i s in
      before_bound a.places a.lists a.items k v is at.0 i p at.1 e

  pub has_last_place : (l r : ℕ) → l < length v.lists → r ≡ list_place l → IsThere a.places (previous_of a.places r)
  has_last_place l r h e = last_bound a.places a.lists a.items k v is l r (list_below a.places a.lists a.items k v is l h) e

  pub not_the_last : (l i p r : ℕ) → list_of v.lists i ≡ None → p ≡ item_place i → r ≡ list_place l → p ≢ previous_of a.places r
  not_the_last l i p r none ep er =
      not_in_ring a.places a.lists a.items k v is l i p (previous_of a.places r) none ep (ring_of_last a.places a.lists a.items k v is l r er)

-- the places after one was taken out
pub still_has : (places mid : Places) (p q : ℕ) → TakesOut places mid p → IsThere places q → IsThere mid q
still_has places mid p q takes = still_there places mid q takes.size
