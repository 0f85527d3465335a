-- How the members that are left are kept.
use Rattle.std.specs.Prelude.{◌≡◌, ℕ, List, Option, Some, true}
use Rattle.fr_links.specs.Lists.{has_item, list_at}
use Rattle.fr_eras.specs.Kept.{AreApart}

-- The item that comes next stands in the list.
pub record AreLeft (lists : List (List ℕ)) (list : ℕ) (at : Option ℕ) : Type 0 where
  pub apart : AreApart lists
  pub stands : (item : ℕ) → at ≡ Some item → has_item (list_at lists list) item ≡ true
