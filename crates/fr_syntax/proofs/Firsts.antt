-- The first items of a list, as values.
use Rattle.std.specs.Prelude.{◌≡◌, List, [], ◌∷◌, Some, slice_get}
use Rattle.std.proofs.Common.{refl, sym, ◌∙◌, ap}
use Rattle.fr_value.specs.Data.{datum_of, value_of, value_of-datum_of}
use Rattle.fr_value.proofs.Meet.{same_some}
use Rattle.fr_value.specs.declared.value.Datum.{Datum}
use Rattle.fr_value.specs.declared.value.Value.{Value}
use Rattle.fr_value.specs.declared.value.Value.TheVariants as value
use Rattle.fr_syntax.specs.Outlines.{symbol_of, keyword_of, head_symbol, given, outline_of}

pub item_is : (v : Value) (d : Datum) → Some (datum_of v) ≡ Some d → v ≡ value_of d
item_is v d h = sym (value_of-datum_of v) ∙ ap value_of (same_some (datum_of v) d h)

pub first_symbol : (ds : List Datum) (v : Value) → Some (datum_of v) ≡ slice_get ds 0 → symbol_of v ≡ head_symbol (value.List ds)
first_symbol [] v h = cc
first_symbol (d ∷ ds) v h = ap symbol_of (item_is v d h)

pub first_two : (ds : List Datum) (v w : Value) → Some (datum_of v) ≡ slice_get ds 0 → Some (datum_of w) ≡ slice_get ds 1 → given (keyword_of v) w ≡ outline_of (value.List ds)
first_two [] v w h k = cc
first_two (d ∷ []) v w h k = cc
first_two (d ∷ e ∷ ds) v w h k = rw (item_is v d h, item_is w e k) refl
