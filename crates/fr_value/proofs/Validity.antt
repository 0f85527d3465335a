-- Values are valid data.
use Rattle.std.specs.Prelude.{Bool, true, ◌&&◌, ◌≡◌, List, [], ◌∷◌, ◌++◌}
use Rattle.std.specs.Str.{is_utf8}
use Rattle.std.proofs.lemmas.Bool.{and_from, and_parts}
use Rattle.fr_value.specs.declared.value.Datum.{Datum}
use Rattle.fr_value.specs.declared.value.Value.{Value}
use Rattle.fr_value.specs.declared.value.Value.TheVariants as value
use Rattle.fr_value.specs.Bytes.{is_name, is_short}
use Rattle.fr_value.specs.Valid.{fits, is_valid, are_valid, valid-Int, valid-Bool, valid-Sym, valid-Str, valid-Seq}
use Rattle.fr_value.specs.Data.{datum_of}

-- what makes a value's datum valid
abbrev pub value_valid : Value → Bool
value_valid (value.Int n) = fits n
value_valid (value.Bool b) = true
value_valid (value.Sym s) = is_name s && is_short s
value_valid (value.Str s) = is_utf8 s && is_short s
value_valid (value.List ds) = are_valid ds

pub valid_of : (v : Value) → is_valid (datum_of v) ≡ value_valid v
valid_of (value.Int n) = valid-Int n
valid_of (value.Bool b) = valid-Bool b
valid_of (value.Sym s) = valid-Sym s
valid_of (value.Str s) = valid-Str s
valid_of (value.List ds) = valid-Seq ds

pub valid-append : (xs ys : List Datum) → are_valid xs ≡ true → are_valid ys ≡ true → are_valid (xs ++ ys) ≡ true
valid-append [] ys p q = q
valid-append (x ∷ xs) ys p q = let h = and_parts _ _ p in and_from _ _ h.0 (valid-append xs ys h.1 q)
