-- What one step of a raising does to the store, the agenda and the list of work.
use Rattle.std.specs.Prelude.{◌≡◌, ℕ, ◌+◌, ◌^◌, ◌<◌, ◌≤◌, List, length, ◌⊎◌, Option, Some, IsSome, true, drop}
use Rattle.fr_links.specs.Lists.{has_item}
use Rattle.fr_queue.specs.Queue.{KeepsRoom, Queued, Room}
use Rattle.fr_store.specs.Nodes.{Edge, Stored, dependents_at, edge_number, has_reader, node_at}
use Rattle.fr_eras.specs.Raise.{CanRaise, Edges, Raising, Steps}
use Rattle.fr_eras.specs.Heights.{HasRoomFor, IsAbove, IsKept, IsResult, OnlyHeights, QueueFollows, height_at}
use Rattle.fr_eras.specs.Order.{from_here}
use Rattle.fr_eras.specs.Work.{Working}

-- What is left to do from a node, by the store as the raising began.
abbrev pub Rest : Type 1
Rest = Stored → ℕ → Type 0

-- Nothing is left.
abbrev pub nothing : Rest
nothing store upper = ⊥

-- A raising is under way from some heights on.
pub record IsRaising (edge : Edges) (numbers : ℕ) (height : ℕ → ℕ) (work : List ℕ) (x : ℕ) (left : ℕ → Type 0) : Type 0 where
  pub rank : ℕ → ℕ
  pub old : ℕ → ℕ
  pub many : ℕ
  pub top : ℕ
  pub id : ℕ
  pub can : CanRaise edge rank old numbers many top id
  pub raising : Raising edge rank old height top id work x left
  pub small : top + many < 2 ^ 120

-- The same, with the edges that were there as the raising began.
pub record GoesOn (members : ℕ → List ℕ) (store : Stored) (work : List ℕ) (x : ℕ) (left : Rest) : Type 0 where
  pub base : Stored
  pub only : OnlyHeights base store
  pub raising : IsRaising (IsAbove base members) (length base.nodes) (height_at store) work x (left base)

-- Whatever comes of it, only heights change, and room stays.
pub record KeepsAll (old new : Stored) (room room' : Room) (work work' : Working) : Type 0 where
  pub only : OnlyHeights old new
  pub stays : KeepsRoom room room'
  pub more : work.room ≤ work'.room

-- A part of a raising was done: from one rest to another.
pub record Advances (members : ℕ → List ℕ) (x : ℕ) (left rest : Rest) (old new : Stored) (queued queued' : Queued) (work work' : List ℕ) : Type 0 where
  pub queue : QueueFollows queued queued' new
  pub steps : (base : Stored) → OnlyHeights base old
      → Steps (IsAbove base members) (length base.nodes) x (height_at old) work (left base) (height_at new) work' (rest base)
  pub noted : (i : ℕ) → has_item work' i ≡ true → (has_item work i ≡ true) ⊎ IsSome (node_at new i)

-- Where there is room, no memory is wanted.
abbrev pub WantsNone : (ℕ → List ℕ) → Stored → Room → Working → ℕ → Rest → Type 0 → Type 0
WantsNone members store room work x left fine =
    (base : Stored) → OnlyHeights base store → (r : IsRaising (IsAbove base members) (length base.nodes) (height_at store) work.nodes x (left base))
    → HasRoomFor room work.room base (r.top + r.many) → fine

-- The readers of these edges are left, and what else a node keeps.
abbrev pub readers_left : (ℕ → List ℕ) → ℕ → List Edge → Rest
readers_left members x edges base upper = (has_reader edges upper ≡ true) ⊎ IsKept base members x upper

-- As far as the readers of a node have come.
pub record Reading (members : ℕ → List ℕ) (x : ℕ) (old new : Stored) (queued queued' : Queued) (room room' : Room) (work work' : Working) (at : Option ℕ) : Type 0 where
  pub place : ℕ
  pub at_is : at ≡ edge_number (dependents_at old x) place
  pub keeps : KeepsAll old new room room' work work'
  pub advances : Advances members x (λ base. IsAbove base members x) (readers_left members x (drop place (dependents_at old x))) old new queued queued' work.nodes work'.nodes

-- As far as the members of an era have come.
pub record Joining (members : ℕ → List ℕ) (x : ℕ) (old new : Stored) (queued queued' : Queued) (room room' : Room) (work work' : Working) (at : Option ℕ) : Type 0 where
  pub stands : (item : ℕ) → at ≡ Some item → has_item (members (x + 1)) item ≡ true
  pub keeps : KeepsAll old new room room' work work'
  pub advances : Advances members x (λ base. IsKept base members x)
      (λ base upper. (has_item (from_here (members (x + 1)) at) upper ≡ true) ⊎ IsResult base members x upper) old new queued queued' work.nodes work'.nodes

-- As far as a whole raising has come.
pub record Risen (members : ℕ → List ℕ) (id : ℕ) (old new : Stored) (queued queued' : Queued) (room room' : Room) (work work' : Working) : Type 0 where
  pub keeps : KeepsAll old new room room' work work'
  pub queue : QueueFollows queued queued' new
  pub live : (i : ℕ) → has_item work'.nodes i ≡ true → IsSome (node_at old i)
  pub raising : (rank : ℕ → ℕ) (many top : ℕ) → CanRaise (IsAbove old members) rank (height_at old) (length old.nodes) many top id
      → (z : ℕ) × Raising (IsAbove old members) rank (height_at old) (height_at new) top id work'.nodes z (nothing old)
