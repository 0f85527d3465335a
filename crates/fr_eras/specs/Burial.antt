-- What the burial of dead nodes does to the lists and to the store.
use Rattle.std.specs.Prelude.{◌≡◌, ◌≢◌, ℕ, List, [], ◌++◌, length, None, true, false}
use Rattle.fr_links.specs.Lists.{has_item, list_at}
use Rattle.fr_store.specs.Nodes.{Stored, node_at}
use Rattle.fr_eras.specs.Lives.{Lives, grave, is_era, members}
use Rattle.fr_eras.specs.Kept.{AreApart}

-- The grave is empty now, and the eras are as before.
pub record Buries (old new : Lives) : Type 0 where
  pub empty : grave new ≡ []
  pub each : (era : ℕ) → members new era ≡ members old era
  pub eras : (era : ℕ) → is_era new era ≡ is_era old era

-- These numbers have no node any more, and every other has what it had.
pub record GivesUp (gone : List ℕ) (old new : Stored) : Type 0 where
  pub limit : new.limit ≡ old.limit
  pub long : length new.nodes ≡ length old.nodes
  pub out : (i : ℕ) → has_item gone i ≡ true → node_at new i ≡ None
  pub others : (i : ℕ) → has_item gone i ≡ false → node_at new i ≡ node_at old i

-- List 0 is empty now, and the others are as before.
pub record Empties (old new : List (List ℕ)) : Type 0 where
  pub empty : list_at new 0 ≡ []
  pub each : (l : ℕ) → l ≢ 0 → list_at new l ≡ list_at old l
  pub long : length new ≡ length old
  pub apart : AreApart new

-- As far as the burial has come: some first items of list 0 are gone.
pub record Burying (old new : List (List ℕ)) (before after : Stored) : Type 0 where
  pub gone : List ℕ
  pub split : list_at old 0 ≡ gone ++ list_at new 0
  pub each : (l : ℕ) → l ≢ 0 → list_at new l ≡ list_at old l
  pub long : length new ≡ length old
  pub apart : AreApart new
  pub gives_up : GivesUp gone before after
