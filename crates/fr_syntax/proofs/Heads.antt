-- Names one after the other, and forms by their first items.
use Rattle.std.specs.Prelude.{ℕ, suc, ◌≡◌, ◌<◌, ◌+◌, List, [], ◌∷◌, ◌++◌, length, drop, Option, Some, None}
use Rattle.std.proofs.Common.{refl, sym, ◌∙◌, ap, add-one, append_assoc, arith, get_or, drop-cons}
use Rattle.std.specs.Option.{option_map, option_and_then}
use Rattle.fr_value.specs.Data.{datum_of, data_of, value_of-datum_of}
use Rattle.fr_value.specs.declared.value.Datum.{Datum}
use Rattle.fr_value.specs.declared.value.Value.{Value}
use Rattle.fr_value.specs.declared.value.Value.TheVariants as value
use Rattle.fr_syntax.specs.Outlines.{symbol_of, keyword_of}
use Rattle.fr_syntax.specs.Shapes.{symbols, form_with, form_at, form_of}

abbrev Names : Type 0
Names = List (List ℕ)

-- the names from one place on
from_place : (vs : List Value) (i : ℕ) (v : Value) → i < length vs → v ≡ get_or vs i v
    → symbols (data_of (drop i vs)) ≡ option_and_then (λ s. option_map (λ ss. s ∷ ss) (symbols (data_of (drop (suc i) vs)))) (symbol_of v)
from_place vs i v h k =
    let e : drop i vs ≡ v ∷ drop (suc i) vs = drop-cons vs i v h ∙ ap (λ x. x ∷ drop (suc i) vs) (sym k) in
    rw (e, value_of-datum_of v) refl

further : (done : Names) (s : List ℕ) (rest : Option Names)
    → option_map (λ ss. (done ++ s ∷ []) ++ ss) rest ≡ option_map (λ ss. done ++ ss) (option_map (λ ss. s ∷ ss) rest)
further done s None = refl
further done s (Some ss) = ap Some (append_assoc done (s ∷ []) ss)

pub next_symbol : (done : Names) (vs : List Value) (i : ℕ) (v : Value) (s : List ℕ) → i < length vs → v ≡ get_or vs i v → Some s ≡ symbol_of v
    → option_map (λ ss. (done ++ s ∷ []) ++ ss) (symbols (data_of (drop (i + 1) vs))) ≡ option_map (λ ss. done ++ ss) (symbols (data_of (drop i vs)))
next_symbol done vs i v s h k e = rw (add-one, from_place vs i v h k, ← e) (further done s (symbols (data_of (drop (suc i) vs))))

pub no_symbol : (done : Names) (vs : List Value) (i : ℕ) (v : Value) → i < length vs → v ≡ get_or vs i v → None ≡ symbol_of v
    → None ≡ option_map (λ ss. done ++ ss) (symbols (data_of (drop i vs)))
no_symbol done vs i v h k e = rw (from_place vs i v h k, ← e) refl

pub opened_form : (v : Value) → form_of (datum_of v) ≡ form_at v
unfolding form_of
opened_form v = ap form_at (value_of-datum_of v)

-- no form, where the value is no list
pub no_list : (v : Value) → ((ds : List Datum) → v ≡ value.List ds → ⊥) → form_at v ≡ None
no_list (value.Int n) h = refl
no_list (value.Bool b) h = refl
no_list (value.Sym s) h = refl
no_list (value.Str s) h = refl
no_list (value.List ds) h = absurd (h ds refl)

-- the form of a list with a first item
pub headed : (vs rest : List Value) (head : Value) → vs ≡ head ∷ rest → form_at (value.List (data_of vs)) ≡ form_with (keyword_of head) (data_of rest)
headed vs rest head h = rw (h, value_of-datum_of head) refl

-- the form of a value that is a list of these
pub at_list : (v : Value) (ds : List Datum) (vs : List Value) → v ≡ value.List ds → data_of vs ≡ ds → form_of (datum_of v) ≡ form_at (value.List (data_of vs))
at_list v ds vs h k = opened_form v ∙ (rw (h, ← k) refl)

pub no_items : (vs : List Value) → length vs ≡ 0 → form_at (value.List (data_of vs)) ≡ None
no_items [] h = refl
no_items (v ∷ vs) h = absurd (omega (arith, h))
