-- What is written where a source stands.
use Rattle.std.specs.Prelude.{ℕ, zero, suc, Bool, true, false, List, [], ◌∷◌, Some, None}
use Rattle.fr_value.specs.declared.ids.SrcId.{SrcId}
use Rattle.fr_value.specs.declared.value.Value.{Value}
use Rattle.fr_value.specs.declared.now.Now.{Now}
use Rattle.fr_value.specs.declared.now.Now.TheVariants.{Plain, Occ}
use Rattle.fr_core.specs.declared.inputs.Entry.{Entry}
use Rattle.fr_core.specs.declared.program.Input.{Input}

-- the list with one entry changed, or as it is where no entry stands at the index
abbrev pub with_at : {X : Type 0} → (X → X) → ℕ → List X → List X
with_at f n [] = []
with_at f zero (x ∷ xs) = f x ∷ xs
with_at f (suc n) (x ∷ xs) = x ∷ with_at f n xs

-- an event that occurs occurs no longer, and a plain value stays
abbrev pub cleared : Now → Now
cleared (Plain v) = Plain v
cleared (Occ o) = Occ None

-- an input has the new value, and an event occurs with it
abbrev pub written : Value → Now → Now
written v (Plain u) = Plain v
written v (Occ o) = Occ (Some v)

-- whether it is an event's state
abbrev pub is_event : Now → Bool
is_event (Plain v) = false
is_event (Occ o) = true

-- whether an event stands at an index
abbrev pub event_at : List Now → ℕ → Bool
event_at [] n = false
event_at (x ∷ xs) zero = is_event x
event_at (x ∷ xs) (suc n) = event_at xs n

-- the values where those of these sources that are events occur no longer
abbrev pub all_cleared : List SrcId → List Now → List Now
all_cleared [] xs = xs
all_cleared (n ∷ ns) xs = all_cleared ns (with_at cleared n.0 xs)

-- the values with these entries written one after the other
abbrev pub all_written : List Entry → List Now → List Now
all_written [] xs = xs
all_written (e ∷ es) xs = all_written es (with_at (written e.value) e.source.0 xs)

-- the values with the first values of these inputs put one after the other
abbrev pub firsts_put : List Input → List Now → List Now
firsts_put [] xs = xs
firsts_put (i ∷ is) xs = firsts_put is (with_at (λ _. Plain i.first) i.source.0 xs)
