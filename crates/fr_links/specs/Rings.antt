-- How the lists lie in places, each list as a ring through a place of its own.
use Rattle.std.specs.Prelude.{◌≡◌, ◌≢◌, ℕ, zero, suc, ◌+◌, ◌*◌, ◌/◌, ◌%◌, ◌^◌, ◌<◌, ◌≤◌, ◌⊎◌, List, [], ◌∷◌, length, map, Bool, true, false, cond, if◌then◌else◌, nat_eq, slice_index_or}
use Rattle.std.specs.List.{range_with_len}
use Rattle.fr_links.specs.declared.place.Ends.{Ends}
use Rattle.fr_links.specs.declared.place.Place.{Place}
use Rattle.fr_links.specs.declared.place.Places.{Places}
use Rattle.fr_links.specs.Lists.{Linked, has_item}

-- The place of an item.
abbrev pub item_place : ℕ → ℕ
item_place item = 2 * item

-- The place of a list.
abbrev pub list_place : ℕ → ℕ
list_place list = 2 * list + 1

-- A place that is a ring by itself.
abbrev pub alone : ℕ → Place
alone place = record { next = place; previous = place; ring = place }

-- The place of an item; one past the end is a ring by itself.
abbrev pub item_at : List Place → ℕ → Place
item_at items item = slice_index_or items item (alone (item_place item))

-- The ends of a list; one past the end is a ring by itself.
abbrev pub ends_at : List Ends → ℕ → Ends
ends_at lists list = slice_index_or lists list (record { first = list_place list; last = list_place list })

-- What stands at the place of a list, which is in its own ring.
abbrev pub ring_through : ℕ → Ends → Place
ring_through place ends = record { next = ends.first; previous = ends.last; ring = place }

-- Whether this is the place of an item.
abbrev pub is_item : ℕ → Bool
is_item place = nat_eq (place % 2) 0

-- What stands at a place.
abbrev pub place_at : Places → ℕ → Place
place_at places place =
    if is_item place then item_at places.items.items (place / 2) else ring_through place (ends_at places.lists.items (place / 2))

-- How many places there are of the kind of this one.
abbrev pub places_like : Places → ℕ → ℕ
places_like places place = if is_item place then length places.items.items else length places.lists.items

-- This is one of the places.
abbrev pub IsThere : Places → ℕ → Type 0
IsThere places place = place / 2 < places_like places place

-- The place that follows.
abbrev pub next_of : Places → ℕ → ℕ
next_of places place = (place_at places place).next

-- The place before.
abbrev pub previous_of : Places → ℕ → ℕ
previous_of places place = (place_at places place).previous

-- The place of the list that an item stands in, or its own place where it stands in none.
abbrev pub ring_of : Places → ℕ → ℕ
ring_of places place = (place_at places place).ring

-- The places from one on up to the stop, at most so many.
abbrev pub places_from : ℕ → (ℕ → ℕ) → ℕ → ℕ → List ℕ
places_from zero next stop place = []
places_from (suc n) next stop place = cond (nat_eq place stop) [] (place ∷ places_from n next stop (next place))

-- The items of a list, of which there are at most so many.
abbrev pub items_in : Places → ℕ → ℕ → List ℕ
items_in places items list = map (λ place. place / 2) (places_from items (next_of places) (list_place list) (next_of places (list_place list)))

-- What contracts see of the places.
abbrev pub linked : Places → ℕ → ℕ → Linked
linked places lists items = record { lists = map (items_in places items) (range_with_len 0 lists); items = items }

-- From the place a the places follow one another up to the place b, forwards and back.
abbrev pub IsSegment : (ℕ → ℕ) → (ℕ → ℕ) → ℕ → List ℕ → ℕ → Type 0
IsSegment next previous a [] b = (next a ≡ b) × (previous b ≡ a)
IsSegment next previous a (p ∷ ps) b = (next a ≡ p) × (previous p ≡ a) × IsSegment next previous p ps b

-- No number stands in the list twice.
abbrev pub AllDifferent : List ℕ → Type 0
AllDifferent [] = Unit {0}
AllDifferent (x ∷ xs) = (has_item xs x ≡ false) × AllDifferent xs

-- These are the items of each list, each list is a ring, and each item that stands in a list knows it.
pub record AreRings (next previous ring : ℕ → ℕ) (lists items : ℕ) (list : ℕ → List ℕ) : Type 0 where
  pub segment : (l : ℕ) → IsSegment next previous (list_place l) (map item_place (list l)) (list_place l)
  pub once : (l : ℕ) → AllDifferent (list l)
  pub small : (l i : ℕ) → has_item (list l) i ≡ true → i < items
  pub owner : (l i : ℕ) → has_item (list l) i ≡ true → ring (item_place i) ≡ list_place l
  pub owned : (l i : ℕ) → ring (item_place i) ≡ list_place l → has_item (list l) i ≡ true
  pub somewhere : (i : ℕ) → (ring (item_place i) ≡ item_place i) ⊎ ((l : ℕ) × (ring (item_place i) ≡ list_place l))
  pub ring_self : (l : ℕ) → ring (list_place l) ≡ list_place l
  pub beyond : (l : ℕ) → lists ≤ l → list l ≡ []

-- The places are rings, and there are places for all usable numbers.
pub record IsLinked (places : Places) (lists items : ℕ) : Type 0 where
  pub rings : AreRings (next_of places) (previous_of places) (ring_of places) lists items (items_in places items)
  pub for_lists : lists ≤ length places.lists.items
  pub for_items : items ≤ length places.items.items
  pub few_lists : length places.lists.items ≤ 2 ^ 31
  pub few_items : length places.items.items ≤ 2 ^ 31

-- There are as many places of lists and of items.
pub record SameSize (old new : Places) : Type 0 where
  pub lists : length new.lists.items ≡ length old.lists.items
  pub items : length new.items.items ≡ length old.items.items

-- One place was made to lead on to another.
pub record Leads (old new : Places) (place to : ℕ) : Type 0 where
  pub size : SameSize old new
  pub next_here : next_of new place ≡ to
  pub next_other : (p : ℕ) → p ≢ place → next_of new p ≡ next_of old p
  pub previous_same : (p : ℕ) → previous_of new p ≡ previous_of old p
  pub ring_same : (p : ℕ) → ring_of new p ≡ ring_of old p

-- One place was made to lead back to another.
pub record LeadsBack (old new : Places) (place to : ℕ) : Type 0 where
  pub size : SameSize old new
  pub next_same : (p : ℕ) → next_of new p ≡ next_of old p
  pub previous_here : previous_of new place ≡ to
  pub previous_other : (p : ℕ) → p ≢ place → previous_of new p ≡ previous_of old p
  pub ring_same : (p : ℕ) → ring_of new p ≡ ring_of old p

-- One place was put into a ring.
pub record Enters (old new : Places) (place ring : ℕ) : Type 0 where
  pub size : SameSize old new
  pub next_same : (p : ℕ) → next_of new p ≡ next_of old p
  pub previous_same : (p : ℕ) → previous_of new p ≡ previous_of old p
  pub ring_here : ring_of new place ≡ ring
  pub ring_other : (p : ℕ) → p ≢ place → ring_of new p ≡ ring_of old p

-- There are more lists, each of them a ring by itself.
pub record AreMoreLists (old new : List Ends) : Type 0 where
  pub more : length old ≤ length new
  pub same : (l : ℕ) → ends_at new l ≡ ends_at old l

-- There are more items, each of them a ring by itself.
pub record AreMoreItems (old new : List Place) : Type 0 where
  pub more : length old ≤ length new
  pub same : (i : ℕ) → item_at new i ≡ item_at old i

-- There are more places, each of them a ring by itself.
pub record Grows (old new : Places) : Type 0 where
  pub same : (p : ℕ) → place_at new p ≡ place_at old p
  pub lists : length old.lists.items ≤ length new.lists.items
  pub items : length old.items.items ≤ length new.items.items
  pub few_lists : length new.lists.items ≤ 2 ^ 31
  pub few_items : length new.items.items ≤ 2 ^ 31

-- One place was made to follow another.
pub record Joins (old new : Places) (first second : ℕ) : Type 0 where
  pub size : SameSize old new
  pub next_here : next_of new first ≡ second
  pub next_other : (p : ℕ) → p ≢ first → next_of new p ≡ next_of old p
  pub previous_here : previous_of new second ≡ first
  pub previous_other : (p : ℕ) → p ≢ second → previous_of new p ≡ previous_of old p
  pub ring_same : (p : ℕ) → ring_of new p ≡ ring_of old p

-- A place was put into a ring, before another place of it.
pub record Puts (old new : Places) (place before ring : ℕ) : Type 0 where
  pub size : SameSize old new
  pub next_last : next_of new (previous_of old before) ≡ place
  pub next_new : next_of new place ≡ before
  pub next_other : (p : ℕ) → p ≢ previous_of old before → p ≢ place → next_of new p ≡ next_of old p
  pub previous_before : previous_of new before ≡ place
  pub previous_new : previous_of new place ≡ previous_of old before
  pub previous_other : (p : ℕ) → p ≢ before → p ≢ place → previous_of new p ≡ previous_of old p
  pub ring_new : ring_of new place ≡ ring
  pub ring_other : (p : ℕ) → p ≢ place → ring_of new p ≡ ring_of old p

-- A place was taken out of its ring.
pub record TakesOut (old new : Places) (place : ℕ) : Type 0 where
  pub size : SameSize old new
  pub next_before : next_of new (previous_of old place) ≡ next_of old place
  pub next_other : (p : ℕ) → p ≢ previous_of old place → next_of new p ≡ next_of old p
  pub previous_after : previous_of new (next_of old place) ≡ previous_of old place
  pub previous_other : (p : ℕ) → p ≢ next_of old place → previous_of new p ≡ previous_of old p
  pub ring_new : ring_of new place ≡ place
  pub ring_other : (p : ℕ) → p ≢ place → ring_of new p ≡ ring_of old p
