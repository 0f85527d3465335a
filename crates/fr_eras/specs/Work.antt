-- The list of nodes from which heights are still to be raised.
use Rattle.std.specs.Prelude.{◌≡◌, ℕ, ◌^◌, ◌<◌, ◌≤◌, List, length, true}
use Rattle.fr_links.specs.Lists.{Linked, has_item, list_at}
use Rattle.fr_links.specs.Rings.{AllDifferent}

-- The nodes in order, and below which number no memory is wanted for one more.
pub record Working : Type 0 where
  pub nodes : List ℕ
  pub room : ℕ

-- What contracts see of the links.
abbrev pub working : Linked → Working
working links = record { nodes = list_at links.lists 0; room = links.items }

-- The links have one list, in which each node stands once.
pub record IsWork (links : Linked) (room : ℕ) : Type 0 where
  pub one : length links.lists ≡ 1
  pub wide : room ≡ links.items
  pub once : AllDifferent (list_at links.lists 0)
  pub few : links.items ≤ 2 ^ 32
  pub small : (i : ℕ) → has_item (list_at links.lists 0) i ≡ true → i < links.items
