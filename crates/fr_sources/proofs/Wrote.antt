-- One entry of a list changed.
use Rattle.std.proofs.Common.{◌≡◌, ◌≢◌, ℕ, zero, suc, ◌<◌, ◌≤◌, List, [], ◌∷◌, length, set, get_or, slice_get, Bool, Option, Some, None, true, false, refl, sym, ap, arith}
use Rattle.std.specs.Borrow.{Bor}
use Rattle.std.specs.Option.{option_map}
use Rattle.std.specs.Slice.{IsItemAt}
use Rattle.fr_value.specs.declared.value.Value.{Value}
use Rattle.fr_value.specs.declared.now.Now.{Now}
use Rattle.fr_value.specs.declared.now.Now.TheVariants.{Plain, Occ}
use Rattle.fr_sources.specs.Writes.{with_at, cleared, written, is_event, event_at}

pub set_is : {X : Type 0} (xs : List X) (n : ℕ) (x : X) → set xs n x ≡ with_at (λ _. x) n xs
set_is [] n x = refl
set_is (y ∷ xs) zero x = refl
set_is (y ∷ xs) (suc n) x = ap (λ ys. y ∷ ys) (set_is xs n x)

pub past_end : {X : Type 0} (f : X → X) (xs : List X) (n : ℕ) → length xs ≤ n → with_at f n xs ≡ xs
past_end f [] n h = refl
past_end f (x ∷ xs) zero h = absurd (omega arith)
past_end f (x ∷ xs) (suc n) h = ap (λ ys. x ∷ ys) (past_end f xs n (omega arith))

pub long_with : {X : Type 0} (f : X → X) (xs : List X) (n : ℕ) → length (with_at f n xs) ≡ length xs
long_with f [] n = refl
long_with f (x ∷ xs) zero = refl
long_with f (x ∷ xs) (suc n) = ap suc (long_with f xs n)

pub get_same : {X : Type 0} (f : X → X) (xs : List X) (n : ℕ) → slice_get (with_at f n xs) n ≡ option_map f (slice_get xs n)
get_same f [] n = refl
get_same f (x ∷ xs) zero = refl
get_same f (x ∷ xs) (suc n) = get_same f xs n

pub get_other : {X : Type 0} (f : X → X) (xs : List X) (n m : ℕ) → m ≢ n → slice_get (with_at f n xs) m ≡ slice_get xs m
get_other f [] n m h = refl
get_other f (x ∷ xs) zero zero h = absurd (h refl)
get_other f (x ∷ xs) zero (suc m) h = refl
get_other f (x ∷ xs) (suc n) zero h = refl
get_other f (x ∷ xs) (suc n) (suc m) h = get_other f xs n m (λ e. h (ap suc e))

pub clears : (xs : List Now) (n : ℕ) → event_at xs n ≡ true → with_at (λ _. Occ None) n xs ≡ with_at cleared n xs
clears [] n h = refl
clears (Plain v ∷ xs) zero h = cc
clears (Occ o ∷ xs) zero h = refl
clears (x ∷ xs) (suc n) h = ap (λ ys. x ∷ ys) (clears xs n h)

pub clears_nothing : (xs : List Now) (n : ℕ) → event_at xs n ≡ false → xs ≡ with_at cleared n xs
clears_nothing [] n h = refl
clears_nothing (Plain v ∷ xs) zero h = refl
clears_nothing (Occ o ∷ xs) zero h = cc
clears_nothing (x ∷ xs) (suc n) h = ap (λ ys. x ∷ ys) (clears_nothing xs n h)

pub occurs : (xs : List Now) (n : ℕ) (v : Value) → event_at xs n ≡ true → with_at (λ _. Occ (Some v)) n xs ≡ with_at (written v) n xs
occurs [] n v h = refl
occurs (Plain u ∷ xs) zero v h = cc
occurs (Occ o ∷ xs) zero v h = refl
occurs (x ∷ xs) (suc n) v h = ap (λ ys. x ∷ ys) (occurs xs n v h)

pub has_value : (xs : List Now) (n : ℕ) (v : Value) → event_at xs n ≡ false → with_at (λ _. Plain v) n xs ≡ with_at (written v) n xs
has_value [] n v h = refl
has_value (Plain u ∷ xs) zero v h = refl
has_value (Occ o ∷ xs) zero v h = cc
has_value (x ∷ xs) (suc n) v h = ap (λ ys. x ∷ ys) (has_value xs n v h)

-- what was written where no event stands is no occurrence
pub no_occurrence : (xs : List Now) (n : ℕ) (u v : Value) → event_at xs n ≡ false → option_map (written u) (slice_get xs n) ≡ Some (Occ (Some v)) → ⊥
no_occurrence [] n u v h e = cc
no_occurrence (Plain w ∷ xs) zero u v h e = cc
no_occurrence (Occ o ∷ xs) zero u v h e = cc
no_occurrence (x ∷ xs) (suc n) u v h e = no_occurrence xs n u v h e

no_event : (xs : List Now) (n : ℕ) → length xs ≤ n → event_at xs n ≡ false
no_event [] n h = refl
no_event (x ∷ xs) zero h = absurd (omega arith)
no_event (x ∷ xs) (suc n) h = no_event xs n (omega arith)

event_is : (xs : List Now) (n : ℕ) (x : Now) → n < length xs → x ≡ get_or xs n x → is_event x ≡ event_at xs n
event_is [] n x l h = absurd (omega arith)
event_is (y ∷ xs) zero x l h = ap is_event h
event_is (y ∷ xs) (suc n) x l h = event_is xs n x (omega arith) h

-- whether what was read is an event's state
abbrev pub read_event : Option (Bor Now) → Bool
read_event None = false
read_event (Some x) = is_event x.now

pub event_found : (xs : List Now) (n : ℕ) (r : Option (Bor Now)) → IsItemAt xs n r → read_event r ≡ event_at xs n
event_found xs n None h = sym (no_event xs n h.3)
event_found xs n (Some x) h = event_is xs n x.now h.3.0 h.1
