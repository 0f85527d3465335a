-- What the eras keep beside their lists.
use Rattle.std.specs.Prelude.{◌≡◌, ◌≢◌, ℕ, ◌+◌, ◌^◌, ◌<◌, ◌≤◌, List, [], ◌++◌, ◌⊎◌, Option, None, Bool, true, false, length, slice_get}
use Rattle.fr_links.specs.Lists.{has_item, list_at}
use Rattle.fr_links.specs.Rings.{AllDifferent}
use Rattle.fr_queue.specs.Queue.{Queued}
use Rattle.fr_eras.specs.Lives.{Lives, members, grave, is_era, Under, EndsWith}

-- What contracts see of the lists and of which numbers are eras'.
abbrev pub lives_of : List (List ℕ) → List Bool → Lives
lives_of lists begun = record { lists = lists; begun = begun }

-- Each item stands in one place of one list at most.
pub record AreApart (lists : List (List ℕ)) : Type 0 where
  pub once : (l : ℕ) → AllDifferent (list_at lists l)
  pub one : (l m i : ℕ) → has_item (list_at lists l) i ≡ true → has_item (list_at lists m) i ≡ true → l ≡ m
  pub small : (l i : ℕ) → has_item (list_at lists l) i ≡ true → i < 2 ^ 32

-- The lists and the eras fit together.
pub record AreLives (lives : Lives) : Type 0 where
  pub apart : AreApart lives.lists
  pub program : is_era lives 0 ≡ true
  pub empty : (era : ℕ) → is_era lives era ≡ false → members lives era ≡ []
  pub places : length lives.begun < length lives.lists
  pub few : length lives.begun ≤ 2 ^ 24 + 1

-- The list of work has room for every node in an era or the grave.
abbrev pub HasRoom : Lives → ℕ → Type 0
HasRoom lives room = (l i : ℕ) → has_item (list_at lives.lists l) i ≡ true → i < room

-- What holds of all eras.
pub record AreEras (lives : Lives) (room : ℕ) : Type 0 where
  pub fit : AreLives lives
  pub wide : HasRoom lives room

-- Some first items of a list went to the end of list 0, and nothing else changed.
pub record Moving (old new : List (List ℕ)) (list : ℕ) : Type 0 where
  pub moved : List ℕ
  pub from : list_at old list ≡ moved ++ list_at new list
  pub to : list_at new 0 ≡ list_at old 0 ++ moved
  pub other : (l : ℕ) → l ≢ list → l ≢ 0 → list_at new l ≡ list_at old l
  pub apart : AreApart new
  pub long : length new ≡ length old

-- Every item stood in a list before.
abbrev pub NoneCame : List (List ℕ) → List (List ℕ) → Type 0
NoneCame old new = (l i : ℕ) → has_item (list_at new l) i ≡ true → (m : ℕ) × (has_item (list_at old m) i ≡ true)

-- As far as the end of an era has come: of the nodes that went to the grave some were seen, so that they are queued no
-- more and their eras have ended, and the others wait, the first of them at hand.
pub record Killing (old cur : Lives) (before now : Queued) (era : ℕ) (at : Option ℕ) : Type 0 where
  pub seen : List ℕ
  pub waiting : List ℕ
  pub at_is : at ≡ slice_get waiting 0
  pub buried : grave cur ≡ (grave old ++ seen) ++ waiting
  pub seen_under : (node : ℕ) → has_item seen node ≡ true → Under old era node
  pub waiting_under : (node : ℕ) → has_item waiting node ≡ true → Under old era node
  pub each : (other : ℕ) → EndsWith (λ owner. has_item seen owner ≡ true) era other
      ⊎ ((members cur other ≡ members old other) × (is_era cur other ≡ is_era old other))
  pub done : (other : ℕ) → EndsWith (λ owner. has_item seen owner ≡ true) era other
      → (members cur other ≡ []) × (is_era cur other ≡ false)
      × ((node : ℕ) → has_item (members old other) node ≡ true → (has_item seen node ≡ true) ⊎ (has_item waiting node ≡ true))
  pub out : (node : ℕ) → has_item seen node ≡ true → now node ≡ None
  pub others : (node : ℕ) → has_item seen node ≡ false → now node ≡ before node
  pub lives : AreLives cur
  pub came : NoneCame old.lists cur.lists
