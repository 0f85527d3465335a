-- Which places there are, and what stands at each.
use Rattle.std.proofs.Common.{◌≡◌, ℕ, ◌/◌, ◌^◌, ◌<◌, ◌≤◌, List, length, inl, inr, Bool, true, false, slice_index_or, if◌then◌else◌, refl, sym, ap, ◌∙◌, subst, arith}
use Rattle.std.proofs.lemmas.List.{get_or_read}
use Rattle.fr_links.specs.declared.place.Place.{Place}
use Rattle.fr_links.specs.declared.place.Places.{Places}
use Rattle.fr_links.specs.Rings.{AreMoreItems, AreMoreLists, Grows, IsThere, SameSize, alone, ends_at, is_item, item_at, item_place, list_place, place_at, ring_through}
use Rattle.fr_links.proofs.Has.{by_truth, half_item, half_list}

pub of_item : (i : ℕ) → is_item (item_place i) ≡ true
of_item i = grind arith

pub of_list : (l : ℕ) → is_item (list_place l) ≡ false
of_list l = grind arith

pub there_item : (ps : Places) (i : ℕ) → i < length ps.items.items → IsThere ps (item_place i)
there_item ps i h =
    subst (λ (b : Bool). item_place i / 2 < (if b then length ps.items.items else length ps.lists.items)) (sym (of_item i))
    (subst (λ (n : ℕ). n < length ps.items.items) (sym (half_item i)) h)

pub there_list : (ps : Places) (l : ℕ) → l < length ps.lists.items → IsThere ps (list_place l)
there_list ps l h =
    subst (λ (b : Bool). list_place l / 2 < (if b then length ps.items.items else length ps.lists.items)) (sym (of_list l))
    (subst (λ (n : ℕ). n < length ps.lists.items) (sym (half_list l)) h)

pub still_there : (old new : Places) (p : ℕ) → SameSize old new → IsThere old p → IsThere new p
still_there old new p size h = subst (λ (n : ℕ). p / 2 < n) (like (is_item p)) h
  where
    like : (b : Bool) → (if b then length old.items.items else length old.lists.items) ≡ (if b then length new.items.items else length new.lists.items)
    like true = sym size.items
    like false = sym size.lists

-- the place of an item, as it is read
pub read_item : (ps : Places) (i : ℕ) (x : Place) → i < length ps.items.items → x ≡ slice_index_or ps.items.items i x → x ≡ place_at ps (item_place i)
read_item ps i x below e =
    get_or_read ps.items.items i x below e (alone (item_place i))
    ∙ ap (item_at ps.items.items) (sym (half_item i))
    ∙ ap (λ (b : Bool). if b then item_at ps.items.items (item_place i / 2) else ring_through (item_place i) (ends_at ps.lists.items (item_place i / 2))) (sym (of_item i))

module _ (ps : Places) (p : ℕ) where
  pub at_item : is_item p ≡ true → place_at ps p ≡ item_at ps.items.items (p / 2)
  at_item e = ap (λ (b : Bool). if b then item_at ps.items.items (p / 2) else ring_through p (ends_at ps.lists.items (p / 2))) e

  pub at_list : is_item p ≡ false → place_at ps p ≡ ring_through p (ends_at ps.lists.items (p / 2))
  at_list e = ap (λ (b : Bool). if b then item_at ps.items.items (p / 2) else ring_through p (ends_at ps.lists.items (p / 2))) e

-- more lists and more items are more places
pub grows : (old new : Places) → AreMoreLists old.lists.items new.lists.items → AreMoreItems old.items.items new.items.items
    → length new.lists.items ≤ 2 ^ 31 → length new.items.items ≤ 2 ^ 31 → Grows old new
grows old new lists items few_lists few_items = record {
  same = λ p. elim (by_truth (is_item p)) [
    | inl even ↦ at_item new p even ∙ items.same (p / 2) ∙ sym (at_item old p even)
    | inr odd ↦ at_list new p odd ∙ ap (ring_through p) (lists.same (p / 2)) ∙ sym (at_list old p odd)
  ];
  lists = lists.more;
  items = items.more;
  few_lists = few_lists;
  few_items = few_items;
}

pub no_more_items : (items : List Place) → AreMoreItems items items
no_more_items items = record { more = omega arith; same = λ i. refl }
