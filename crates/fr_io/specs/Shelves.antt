-- What a call leaves of a shelf.
use Rattle.std.specs.Prelude.{◌≡◌, ◌≢◌, ℕ, List, [], ◌∷◌, Option, IfSome}
use Rattle.fr_io.specs.Faults.{NoneFalls, NoneMoves, AnyRose}

-- what is told of each file's content, by its name
abbrev pub Holds : Type 0
Holds = List ℕ → Option (List ℕ)

-- what is told of how far each file was read
abbrev pub Reached : Type 0
Reached = List ℕ → Option ℕ

-- the counts of faults
abbrev pub Faults : Type 0
Faults = List ℕ → ℕ

-- a name is none of these
abbrev pub IsNoneOf : List ℕ → List (List ℕ) → Type 0
IsNoneOf name [] = Unit {0}
IsNoneOf name (f ∷ fs) = (name ≢ f) × IsNoneOf name fs

-- no file but these was read further
abbrev pub OthersUnread : List (List ℕ) → Reached → Reached → Type 0
OthersUnread names before now = (name : List ℕ) → IsNoneOf name names → now name ≡ before name

-- the count of no file but these moved, where that file is told
abbrev pub OthersStay : List (List ℕ) → Holds → Faults → Faults → Type 0
OthersStay names holds before now =
    (name : List ℕ) → IsNoneOf name names → IfSome (holds name) (λ _. now name ≡ before name)

-- a call read these files alone: the files stay as they are, no other was read or counts, and a count rises where
-- there was a fault and else stays
pub record Reads (names : List (List ℕ)) (fault : Type 0)
    (holds later : Holds) (reached further : Reached) (before now : Faults) : Type 0 where
  pub files : (name : List ℕ) → later name ≡ holds name
  pub unread : OthersUnread names reached further
  pub falls_not : NoneFalls before now
  pub rises : fault → AnyRose names before now
  pub stays : (fault → ⊥) → NoneMoves before now
  pub others_stay : OthersStay names holds before now
