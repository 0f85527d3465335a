-- Nodes that are queued with their heights, and what each call makes of them.
use Rattle.std.specs.Prelude.{◌≡◌, ◌≢◌, ℕ, ◌≤◌, Option, Some, None, Bool, true, false, nat_eq}

-- The height of each node that is queued.
abbrev pub Queued : Type 0
Queued = ℕ → Option ℕ

-- For which nodes and heights no memory is wanted.
abbrev pub Room : Type 0
Room = ℕ → ℕ → Bool

-- This node has this height, or is not queued where there is none, and no other node changes.
pub record Sets (old new : Queued) (node : ℕ) (height : Option ℕ) : Type 0 where
  pub here : new node ≡ height
  pub other : (n : ℕ) → n ≢ node → new n ≡ old n

-- No node changes.
abbrev pub Same : Queued → Queued → Type 0
Same old new = (n : ℕ) → new n ≡ old n

-- This node was queued, at a height that no queued node is below, and is queued no more; no other node changes.
pub record Takes (old new : Queued) (node : ℕ) : Type 0 where
  pub height : ℕ
  pub was : old node ≡ Some height
  pub least : (n h : ℕ) → old n ≡ Some h → height ≤ h
  pub sets : Sets old new node None

-- No node is queued.
abbrev pub IsEmpty : Queued → Type 0
IsEmpty queued = (n : ℕ) → queued n ≡ None

-- Where there was room there is room.
abbrev pub KeepsRoom : Room → Room → Type 0
KeepsRoom old new = (n h : ℕ) → old n h ≡ true → new n h ≡ true

-- Whether this is the height.
abbrev pub is_height : Option ℕ → ℕ → Bool
is_height None h = false
is_height (Some k) h = nat_eq k h
