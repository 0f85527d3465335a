-- What linked lists hold, and what each call makes of it.
use Rattle.std.specs.Prelude.{ℕ, ◌-◌, List, [], ◌∷◌, ◌++◌, length, map, filter, Option, Bool, not, nat_eq, position, replicate, slice_index_or, slice_set}
use Rattle.std.specs.List.{list_any}

-- The items of each list by the list's number, and below which number items can be put into a list.
pub record Linked : Type 0 where
  pub lists : List (List ℕ)
  pub items : ℕ

-- Whether an item stands in this list.
abbrev pub has_item : List ℕ → ℕ → Bool
has_item list item = list_any (λ other. nat_eq other item) list

-- The items of the list with this number.
abbrev pub list_at : List (List ℕ) → ℕ → List ℕ
list_at lists list = slice_index_or lists list []

-- The number of the list in which an item stands, or None where it stands in none.
abbrev pub list_of : List (List ℕ) → ℕ → Option ℕ
list_of lists item = position (λ list. has_item list item) lists

-- The lists where this item was put at the end of a list.
abbrev pub with_last : List (List ℕ) → ℕ → ℕ → List (List ℕ)
with_last lists list item = slice_set lists list (list_at lists list ++ item ∷ [])

-- The lists where this item was put at the front of a list.
abbrev pub with_first : List (List ℕ) → ℕ → ℕ → List (List ℕ)
with_first lists list item = slice_set lists list (item ∷ list_at lists list)

-- The items of a list but this one.
abbrev pub others : List ℕ → ℕ → List ℕ
others list item = filter (λ other. not (nat_eq other item)) list

-- The lists where this item was left out wherever it stood.
abbrev pub without : List (List ℕ) → ℕ → List (List ℕ)
without lists item = map (λ list. others list item) lists

-- The lists with empty ones at the end, so that there are at least this many.
abbrev pub with_empty : List (List ℕ) → ℕ → List (List ℕ)
with_empty lists many = lists ++ replicate (many - length lists) []
