-- A walk over inputs in the order of their sources gives each source its value.
use Rattle.std.proofs.Common.{◌≡◌, ℕ, zero, suc, List, [], ◌∷◌, ◌++◌, None, true, false, refl, subst, ◌+◌, ◌-◌, ◌<◌, ◌≤◌, ◌==◌, drop, slice_get, append_assoc, arith}
use Rattle.std.proofs.lemmas.Bool.{eqb-true, eqb-false, ne_eqb}
use Rattle.std.proofs.lemmas.List.{drop-drop}
use Rattle.std.proofs.lemmas.List.Elements.{Contains-append_left, Contains-append_right}
use Rattle.std.specs.List.{Contains}
use Rattle.fr_value.specs.declared.value.Value.{Value}
use Rattle.fr_value.specs.declared.now.Now.{Now}
use Rattle.fr_core.specs.Sets.{value_in}
use Rattle.fr_core.specs.WellFormed.{AllAbove, AreNumbered, input_sources, event_sources}
use Rattle.fr_core.specs.declared.inputs.Entry.{Entry}
use Rattle.fr_core.specs.declared.program.Input.{Input}
use Rattle.fr_core.specs.declared.program.Program.{Program}
use Rattle.fr_meaning.specs.Afresh.{input_value, source_now, sources_from}
use Rattle.fr_afresh.specs.Walks.{numbers, AreBehind, begins_with, left_from}

lower : (n m : ℕ) (ms : List ℕ) → n ≤ m → AllAbove m ms → AllAbove n ms
lower n m [] h above = tt
lower n m (k ∷ ks) h above = (omega (arith, above.0, h), lower n m ks h above.1)

all_above : (ns : List ℕ) → ((n : ℕ) → Contains ns n → 1 ≤ n) → AllAbove 0 ns
all_above [] h = tt
all_above (n ∷ ns) h = (omega (arith, h n (0, omega arith, refl)), all_above ns (λ m c. h m (Contains-append_right (n ∷ []) ns m c)))

-- before the first source all inputs are to come
pub begins_behind : (p : Program) → AreNumbered p → AreBehind 0 p.inputs
begins_behind p h = record { above = all_above (input_sources p) (λ n c. ((h.without_gap n).0 (Contains-append_left (input_sources p) (event_sources p) n c)).0); rise = h.inputs_rise }

past_value : (i : Input) (is : List Input) (vs : List Value) (n : ℕ) → i.source.0 < n → input_value (i ∷ is) vs n ≡ input_value is (drop 1 vs) n
past_value i [] [] n h = refl
past_value i (j ∷ is) [] n h = refl
past_value i is (v ∷ vs) n h = rw (ne_eqb i.source.0 n (λ e. omega (arith, h, e))) refl

past : (i : Input) (is : List Input) (vs : List Value) (sets : List Entry) (n more : ℕ) → i.source.0 < n → sources_from (i ∷ is) vs sets n more ≡ sources_from is (drop 1 vs) sets n more
past i is vs sets n zero h = refl
past i is vs sets n (suc more) h = rw (past_value i is vs n h, past i is vs sets (n + 1) more (omega (arith, h))) refl

here_value : (i : Input) (is : List Input) (vs : List Value) (n : ℕ) → (i.source.0 == n) ≡ true → input_value (i ∷ is) vs n ≡ slice_get vs 0
here_value i is [] n h = refl
here_value i is (v ∷ vs) n h = rw h refl

no_value : (n : ℕ) (is : List Input) (vs : List Value) → AllAbove n (numbers is) → input_value is vs n ≡ None
no_value n [] vs h = refl
no_value n (i ∷ is) [] h = refl
no_value n (i ∷ is) (v ∷ vs) h = rw (ne_eqb i.source.0 n (λ e. omega (arith, h.0, e))) (no_value n is vs h.1)

none_behind : (n : ℕ) (is : List Input) → begins_with (n + 1) is ≡ false → AreBehind n is → AreBehind (n + 1) is
none_behind n [] other h = record { above = tt; rise = tt }
none_behind n (i ∷ is) other h =
    let high : n + 1 < i.source.0 = omega (arith, h.above.0, eqb-false i.source.0 (n + 1) other) in
    record { above = (high, lower (n + 1) i.source.0 _ (omega (arith, high)) h.rise.0); rise = h.rise }

first_behind : (n : ℕ) (is : List Input) → begins_with (n + 1) is ≡ true → AreBehind n is → AreBehind (n + 1) (drop 1 is)
first_behind n [] begins h = cc
first_behind n (i ∷ is) begins h = record { above = lower (n + 1) i.source.0 _ (omega (arith, eqb-true i.source.0 (n + 1) begins)) h.rise.0; rise = h.rise.1 }

first_step : (is : List Input) (vs : List Value) (sets : List Entry) (n more : ℕ) (now : Now) → begins_with (n + 1) is ≡ true → now ≡ source_now (slice_get vs 0) (value_in (record { 0 = n + 1 }) sets)
    → now ∷ sources_from (drop 1 is) (drop 1 vs) sets (n + 1 + 1) more ≡ sources_from is vs sets (n + 1) (suc more)
first_step [] vs sets n more now begins is_now = cc
first_step (i ∷ is) vs sets n more now begins is_now =
    rw (is_now, here_value i is vs (n + 1) begins, past i is vs sets (n + 1 + 1) more (omega (arith, eqb-true i.source.0 (n + 1) begins))) refl

get_first : (n : ℕ) (vs : List Value) → slice_get (drop n vs) 0 ≡ slice_get vs n
get_first zero vs = refl
get_first (suc n) [] = refl
get_first (suc n) (v ∷ vs) = get_first n vs

pub input_behind : (is : List Input) (next n : ℕ) → begins_with (n + 1) (drop next is) ≡ true → AreBehind n (drop next is) → AreBehind (n + 1) (drop (next + 1) is)
input_behind is next n begins h = rw (← drop-drop 1 next is) (first_behind n (drop next is) begins h)

pub event_behind : (is : List Input) (next n : ℕ) → begins_with (n + 1) (drop next is) ≡ false → AreBehind n (drop next is) → AreBehind (n + 1) (drop next is)
event_behind is next n other h = none_behind n (drop next is) other h

-- the next source is the input at index `next`
pub input_step : (is : List Input) (vs : List Value) (sets : List Entry) (next n : ℕ) (now : Now) → begins_with (n + 1) (drop next is) ≡ true → now ≡ source_now (slice_get vs next) (value_in (record { 0 = n + 1 }) sets)
    → (more : ℕ) → now ∷ left_from is vs sets (next + 1) (n + 1 + 1) more ≡ left_from is vs sets next (n + 1) (suc more)
input_step is vs sets next n now begins is_now more =
    rw (← drop-drop 1 next is, ← drop-drop 1 next vs) (first_step (drop next is) (drop next vs) sets n more now begins (rw (get_first next vs) is_now))

-- the next source is an event
pub event_step : (is : List Input) (vs : List Value) (sets : List Entry) (next n : ℕ) (now : Now) → begins_with (n + 1) (drop next is) ≡ false → AreBehind n (drop next is) → now ≡ source_now None (value_in (record { 0 = n + 1 }) sets)
    → (more : ℕ) → now ∷ left_from is vs sets next (n + 1 + 1) more ≡ left_from is vs sets next (n + 1) (suc more)
event_step is vs sets next n now other h is_now more = rw (is_now, no_value (n + 1) (drop next is) (drop next vs) (none_behind n (drop next is) other h).above) refl

-- one source more
pub sources_next : (done all : List Now) (is js : List Input) (vs : List Value) (sets : List Entry) (next after i last : ℕ) (now : Now) → i < last → js ≡ is
    → ((more : ℕ) → now ∷ left_from js vs sets after (i + 1 + 1) more ≡ left_from js vs sets next (i + 1) (suc more))
    → done ++ left_from is vs sets next (i + 1) (last - i) ≡ all → (done ++ now ∷ []) ++ left_from is vs sets after (i + 1 + 1) (last - (i + 1)) ≡ all
sources_next done all is js vs sets next after i last now within same step h =
    let e : last - i ≡ suc (last - (i + 1)) = omega arith in
    let goes_on = subst (λ (ks : List Input). now ∷ left_from ks vs sets after (i + 1 + 1) (last - (i + 1)) ≡ left_from ks vs sets next (i + 1) (suc (last - (i + 1)))) same (step (last - (i + 1))) in
    rw (append_assoc, goes_on) (rw e at h)
