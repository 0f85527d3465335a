-- Which nodes live together, and what each call makes of it.
use Rattle.std.specs.Prelude.{◌≡◌, ◌≢◌, ℕ, ◌+◌, List, [], ◌∷◌, ◌++◌, ◌⊎◌, None, Bool, true, false, nat_eq, slice_index_or}
use Rattle.fr_links.specs.Lists.{has_item, list_at}
use Rattle.fr_queue.specs.Queue.{Queued}

-- List 0 is the grave and list e + 1 has the members of the era e; `begun` tells which numbers are eras'.
pub record Lives : Type 0 where
  pub lists : List (List ℕ)
  pub begun : List Bool

-- The members of an era, by the lists.
abbrev pub eras_in : List (List ℕ) → ℕ → List ℕ
eras_in lists era = list_at lists (era + 1)

-- The members of an era in order of creation; there are none where the era isn't there.
abbrev pub members : Lives → ℕ → List ℕ
members lives = eras_in lives.lists

-- The nodes in the grave, in the order in which they came there.
abbrev pub grave : Lives → List ℕ
grave lives = list_at lives.lists 0

-- Whether a number is told by a list of flags.
abbrev pub is_set : List Bool → ℕ → Bool
is_set flags number = slice_index_or flags number false

-- Whether an era is there.
abbrev pub is_era : Lives → ℕ → Bool
is_era lives era = is_set lives.begun era

-- The era of the program is there, without members, and no other.
pub record AreNew (lives : Lives) : Type 0 where
  pub each : (era : ℕ) → members lives era ≡ []
  pub eras : (era : ℕ) → is_era lives era ≡ nat_eq era 0
  pub buried : grave lives ≡ []

-- A node stands neither in an era nor in the grave.
pub record IsAlone (lives : Lives) (node : ℕ) : Type 0 where
  pub no_member : (era : ℕ) → has_item (members lives era) node ≡ false
  pub no_grave : has_item (grave lives) node ≡ false

-- A node is a member of an era.
pub record IsMember (lives : Lives) (node : ℕ) : Type 0 where
  pub era : ℕ
  pub has : has_item (members lives era) node ≡ true

-- The same eras with the same members, and the same grave.
pub record AreSame (old new : Lives) : Type 0 where
  pub each : (era : ℕ) → members new era ≡ members old era
  pub eras : (era : ℕ) → is_era new era ≡ is_era old era
  pub buried : grave new ≡ grave old

-- This era is there now and has no members, and nothing else changed.
pub record BeginsEra (old new : Lives) (era : ℕ) : Type 0 where
  pub here : is_era new era ≡ true
  pub fresh : members new era ≡ []
  pub each : (other : ℕ) → members new other ≡ members old other
  pub eras : (other : ℕ) → other ≢ era → is_era new other ≡ is_era old other
  pub buried : grave new ≡ grave old

-- This node is the last member of this era now, and nothing else changed.
pub record JoinsEra (old new : Lives) (era node : ℕ) : Type 0 where
  pub here : members new era ≡ members old era ++ node ∷ []
  pub each : (other : ℕ) → other ≢ era → members new other ≡ members old other
  pub eras : (other : ℕ) → is_era new other ≡ is_era old other
  pub buried : grave new ≡ grave old

-- All members of this era went to the end of the grave, the era isn't there any more, and nothing else changed.
pub record EndsEra (old new : Lives) (era : ℕ) : Type 0 where
  pub moved : grave new ≡ grave old ++ members old era
  pub empty : members new era ≡ []
  pub ended : is_era new era ≡ false
  pub each : (other : ℕ) → other ≢ era → members new other ≡ members old other
  pub eras : (other : ℕ) → other ≢ era → is_era new other ≡ is_era old other

-- A member of this era, or of the era of a node under it. The era that a node owns has its number plus 1.
pub data Under (old : Lives) (era : ℕ) : ℕ → Type 0 where
  Here : (node : ℕ) → has_item (members old era) node ≡ true → Under old era node
  Deeper : (node owner : ℕ) → has_item (members old (owner + 1)) node ≡ true → Under old era owner → Under old era node

-- An era ends with this one: it is this one, or its owner is among these nodes.
abbrev pub EndsWith : (ℕ → Type 0) → ℕ → ℕ → Type 0
EndsWith among era other = (other ≡ era) ⊎ ((owner : ℕ) × (among owner) × (other ≡ owner + 1))

-- Exactly what is under the era went to the end of the grave, and the eras that ended with it are there no more.
pub record Killed (old new : Lives) (era : ℕ) : Type 0 where
  pub moved : List ℕ
  pub buried : grave new ≡ grave old ++ moved
  pub only : (node : ℕ) → has_item moved node ≡ true → Under old era node
  pub all : (node : ℕ) → Under old era node → has_item moved node ≡ true
  pub ended : (other : ℕ) → EndsWith (Under old era) era other → (members new other ≡ []) × (is_era new other ≡ false)
  pub stay : (other : ℕ) → other ≢ era → ((owner : ℕ) → other ≡ owner + 1 → has_item moved owner ≡ false)
      → (members new other ≡ members old other) × (is_era new other ≡ is_era old other)

-- These nodes are queued no more, and every other as before.
pub record LeavesQueue (gone : ℕ → Type 0) (old new : Queued) : Type 0 where
  pub out : (node : ℕ) → gone node → new node ≡ None
  pub others : (node : ℕ) → (gone node → ⊥) → new node ≡ old node
