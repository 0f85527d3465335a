-- The entries of what is set, one after the other.
use Rattle.std.proofs.Common.{◌≡◌, ℕ, zero, suc, ◌+◌, ◌<◌, List, [], ◌∷◌, length, drop, slice_get, Option, Some, None, refl, ap, arith, add-one}
use Rattle.std.specs.Option.{option_map}
use Rattle.std.proofs.lemmas.Bool.{eq-eqb, ne_eqb}
use Rattle.std.proofs.lemmas.Option.{same_Some}
use Rattle.fr_value.specs.declared.ids.SrcId.{SrcId}
use Rattle.fr_value.specs.declared.value.Value.{Value}
use Rattle.fr_value.specs.declared.now.Now.{Now}
use Rattle.fr_core.specs.Sets.{value_in, AllBehind, AreRising}
use Rattle.fr_core.specs.declared.inputs.Entry.{Entry}
use Rattle.fr_sources.specs.Writes.{with_at, written, all_written}

-- the source of the entry at an index
abbrev source_of : List Entry → ℕ → Option SrcId
source_of es i = option_map (λ e. e.source) (slice_get es i)

comes_behind : (first : SrcId) (es : List Entry) (i : ℕ) (source : SrcId) → AllBehind first es → source_of es i ≡ Some source → first.0 < source.0
comes_behind first [] i source h at = absurd cc
comes_behind first (e ∷ es) zero source h at = let same = ap (λ (s : SrcId). s.0) (same_Some e.source source at) in omega (arith, h.0, same)
comes_behind first (e ∷ es) (suc i) source h at = comes_behind first es i source h.1 at

step : (es : List Entry) (i : ℕ) (xs : List Now) (source : SrcId) (v : Value) → AreRising es → source_of es i ≡ Some source → value_in source es ≡ Some v
    → all_written (drop (suc i) es) (with_at (written v) source.0 xs) ≡ all_written (drop i es) xs
step [] i xs source v h at is = absurd cc
step (e ∷ es) zero xs source v h at is =
    let same = same_Some e.source source at in
    let here : Some e.value ≡ Some v = rw (← same, eq-eqb e.source.0 e.source.0 refl) at is in
    rw (← same, same_Some e.value v here) refl
step (e ∷ es) (suc i) xs source v h at is =
    let above = comes_behind e.source es i source h.0 at in
    step es i xs source v h.1 at (rw (ne_eqb e.source.0 source.0 (λ q. omega (arith, above, q))) at is)

-- the entry at an index is written with the value that was found for its source
pub next_written : (es : List Entry) (i : ℕ) (xs : List Now) (source : SrcId) (v : Value) → AreRising es → option_map (λ e. e.source) (slice_get es i) ≡ Some source → value_in source es ≡ Some v
    → all_written (drop (i + 1) es) (with_at (written v) source.0 xs) ≡ all_written (drop i es) xs
next_written es i xs source v h at is = rw add-one (step es i xs source v h at is)

-- a value is found for the source of each entry
pub is_found : (es : List Entry) (i : ℕ) (source : SrcId) → AreRising es → option_map (λ e. e.source) (slice_get es i) ≡ Some source → value_in source es ≡ None → ⊥
is_found [] i source h at is = cc
is_found (e ∷ es) zero source h at is =
    let same = same_Some e.source source at in
    let here : Some e.value ≡ None = rw (← same, eq-eqb e.source.0 e.source.0 refl) at is in
    cc
is_found (e ∷ es) (suc i) source h at is =
    let above = comes_behind e.source es i source h.0 at in
    is_found es i source h.1 at (rw (ne_eqb e.source.0 source.0 (λ q. omega (arith, above, q))) at is)

-- each index within has an entry
pub is_there : (es : List Entry) (i : ℕ) → i < length es → option_map (λ e. e.source) (slice_get es i) ≡ None → ⊥
is_there [] i h at = omega arith
is_there (e ∷ es) zero h at = cc
is_there (e ∷ es) (suc i) h at = is_there es i (omega arith) at
