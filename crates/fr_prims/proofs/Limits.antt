-- Lists within the limits, and beyond them.
use Rattle.std.specs.Prelude.{ℕ, ◌+◌, ◌<◌, ◌≡◌, List, [], ◌∷◌, ◌++◌, Option, Some, None, Ok, Err, length, drop, get_or, slice_get, zero, suc}
use Rattle.std.proofs.Common.{refl, sym, ◌∙◌, ap, subst, arith, add-one, drop-cons}
use Rattle.std.proofs.lemmas.Option.{slice_get_within}
use Rattle.std.specs.List.{flat_map}
use Rattle.fr_value.specs.declared.value.Datum.{Datum}
use Rattle.fr_value.specs.declared.value.Value.{Value}
use Rattle.fr_value.specs.declared.value.Value.TheVariants as value
use Rattle.fr_value.specs.declared.now.Bad.TheVariants.{Empty, TooBig}
use Rattle.fr_value.specs.Data.{datum_of, value_of, value_of-datum_of, AreFew, behind}
use Rattle.fr_value.proofs.Limits.{few_passes, few_fails}
use Rattle.fr_value.proofs.Measured.{few_parts}
use Rattle.fr_prims.specs.Data.{list_answer, car, cdr, item_answer, items_of}

-- a list within the limits is the answer
pub answer_few : (ds : List Datum) → AreFew ds → list_answer ds ≡ Ok (value.List ds)
answer_few ds h = rw (few_passes ds h) refl

-- a list beyond the limits is too big
pub answer_big : (ds : List Datum) → (AreFew ds → ⊥) → list_answer ds ≡ Err TooBig
answer_big ds n = rw (few_fails ds n) refl

-- the first item of a list
pub car_first : (ds : List Datum) (v : Value) → Some (datum_of v) ≡ slice_get ds 0 → car ds ≡ Ok v
car_first [] v h = absurd (omega (arith, slice_get_within [] 0 (datum_of v) (sym h)))
car_first (d ∷ ds) v h = sym (ap (λ o. elim o [ Some x ↦ Ok (value_of x) | None ↦ Err Empty ]) h) ∙ ap Ok (value_of-datum_of v)

pub car_none : (ds : List Datum) → None ≡ slice_get ds 0 → car ds ≡ Err Empty
car_none [] h = refl
car_none (d ∷ ds) h = absurd (subst (λ o. elim o as (λ o. Type 0) [ Some x ↦ ⊥ | None ↦ Unit {0} ]) h tt)

-- the list behind the first item
pub cdr_behind : (ds es : List Datum) → Some es ≡ behind ds → cdr ds ≡ Ok (value.List es)
cdr_behind [] es h = absurd (subst (λ o. elim o as (λ o. Type 0) [ Some x ↦ ⊥ | None ↦ Unit {0} ]) (sym h) tt)
cdr_behind (d ∷ ds) es h = ap (λ o. elim o [ Some x ↦ Ok (value.List x) | None ↦ Err Empty ]) (sym h)

pub cdr_none : (ds : List Datum) → None ≡ behind ds → cdr ds ≡ Err Empty
cdr_none [] h = refl
cdr_none (d ∷ ds) h = absurd (subst (λ o. elim o as (λ o. Type 0) [ Some x ↦ ⊥ | None ↦ Unit {0} ]) h tt)

-- an item that is found
pub item_found : (v : Value) (o : Option Datum) → Some (datum_of v) ≡ o → Ok v ≡ item_answer o
item_found v o h = sym (ap item_answer (sym h) ∙ ap Ok (value_of-datum_of v))

-- what is left to be joined is the next list's items and what is left behind it
pub joined_step : (vs : List Value) (i : ℕ) (v : Value) → i < length vs → v ≡ get_or vs i v → flat_map items_of (drop i vs) ≡ items_of v ++ flat_map items_of (drop (i + 1) vs)
joined_step vs i v h e = rw (add-one, drop-cons vs i v h) (ap (λ w. items_of w ++ flat_map items_of (drop (suc i) vs)) (sym e))

-- where all lists joined are within the limits, the last ones are
pub joined_few : (vs : List Value) (i : ℕ) → AreFew (flat_map items_of vs) → AreFew (flat_map items_of (drop i vs))
joined_few [] zero f = f
joined_few [] (suc i) f = f
joined_few (v ∷ vs) zero f = f
joined_few (v ∷ vs) (suc i) f = joined_few vs i (few_parts (items_of v) (flat_map items_of vs) f).1

-- where the last lists joined are beyond the limits, all of them are
pub joined_big : (vs : List Value) (i : ℕ) (v : Value) (ds : List Datum) → i < length vs → v ≡ get_or vs i v → ds ≡ flat_map items_of (drop (i + 1) vs) → (AreFew (items_of v ++ ds) → ⊥) → list_answer (flat_map items_of vs) ≡ Err TooBig
joined_big vs i v ds h e k n = answer_big (flat_map items_of vs) (λ f. n (subst AreFew (joined_step vs i v h e ∙ ap (λ x. items_of v ++ x) (sym k)) (joined_few vs i f)))
