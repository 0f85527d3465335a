-- Equality of structure, as a test.
use Rattle.std.specs.Prelude.{Bool, true, false, ◌&&◌, List, [], ◌∷◌}
use Rattle.std.specs.Ordering.{int_eq}
use Rattle.std.specs.Str.{bytes_eq}
use Rattle.fr_value.specs.declared.value.Datum.{Datum, fold-Datum, out-Datum}
use Rattle.fr_value.specs.declared.value.Datum.TheOpen.{Datum-F}
use Rattle.fr_value.specs.declared.value.Value.{Value}
use Rattle.fr_value.specs.Data.{datum_of}

-- tests one by one
abbrev pub test_each : List (Datum → Bool) → List Datum → Bool
test_each [] [] = true
test_each (f ∷ fs) (d ∷ ds) = f d && test_each fs ds
test_each _ _ = false

abbrev pub test_bool : Bool → Bool → Bool
test_bool true b = b
test_bool false true = false
test_bool false false = true

-- two layers are of one kind, and their parts pass
abbrev pub test_at : Datum-F (Datum → Bool) → Datum-F Datum → Bool
test_at (Datum-F.Int n) (Datum-F.Int m) = int_eq n m
test_at (Datum-F.Bool b) (Datum-F.Bool c) = test_bool b c
test_at (Datum-F.Sym s) (Datum-F.Sym t) = bytes_eq s t
test_at (Datum-F.Str s) (Datum-F.Str t) = bytes_eq s t
test_at (Datum-F.Seq fs) (Datum-F.Seq ds) = test_each fs ds
test_at _ _ = false

abbrev pub same_step : Datum-F (Datum → Bool) → Datum → Bool
same_step f d = test_at f (out-Datum d)

-- whether two data have the same structure
unfoldable pub same_datum : Datum → Datum → Bool
same_datum = fold-Datum (Datum → Bool) same_step

-- whether two values have the same structure
unfoldable pub is_same : Value → Value → Bool
is_same v w = same_datum (datum_of v) (datum_of w)
