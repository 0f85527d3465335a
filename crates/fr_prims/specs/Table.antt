-- The table of primitives.
use Rattle.std.specs.Prelude.{pos, ◌+ℤ◌, ◌*ℤ◌, not, List, ◌∷◌, length, reverse, Ok, Err}
use Rattle.std.specs.Int.RustNames.{int_div, int_rem, int_lt, int_le, unsigned_abs}
use Rattle.std.specs.Ordering.{int_eq}
use Rattle.std.specs.Fmt.{signed_decimal}
use Rattle.std.specs.Str.{chars}
use Rattle.fr_value.specs.Data.{data_of, datum_of}
use Rattle.fr_value.specs.Same.{is_same}
use Rattle.fr_value.specs.declared.value.Value.{Value}
use Rattle.fr_value.specs.declared.value.Value.TheVariants as value
use Rattle.fr_value.specs.declared.now.Bad.TheVariants.{Raised}
use Rattle.fr_value.specs.declared.primitive.Primitive.{Primitive}
use Rattle.fr_value.specs.declared.primitive.Primitive.TheVariants as prim
use Rattle.fr_prims.specs.Integers.{Answer, truth, one, two, on_integer, on_integers, is_integer, in_range, folded, subtracted, is_zero, is_negative, is_positive, is_even, int_mod, divided, extreme, compared, tested}
use Rattle.fr_prims.specs.Data.{is_boolean, is_symbol, is_string, is_list, is_true, is_null, is_pair, on_list, list_answer, car, cdr, list_ref, appended}
use Rattle.fr_prims.specs.Strings.{on_string, on_symbol, strings_appended, strings_equal}

-- what a primitive gives on values
abbrev pub prim_on : Primitive → List Value → Answer
prim_on prim.Add vs = folded ◌+ℤ◌ (pos 0) vs
prim_on prim.Mul vs = folded ◌*ℤ◌ (pos 1) vs
prim_on prim.Sub vs = subtracted vs
prim_on prim.Quotient vs = two (on_integers (divided int_div)) vs
prim_on prim.Remainder vs = two (on_integers (divided int_rem)) vs
prim_on prim.Modulo vs = two (on_integers (divided int_mod)) vs
prim_on prim.Abs vs = one (on_integer (λ n. in_range (pos (unsigned_abs n)))) vs
prim_on prim.Min vs = extreme int_lt vs
prim_on prim.Max vs = extreme (λ a b. int_lt b a) vs
prim_on prim.Equal vs = compared int_eq vs
prim_on prim.Less vs = compared int_lt vs
prim_on prim.Greater vs = compared (λ a b. int_lt b a) vs
prim_on prim.AtMost vs = compared int_le vs
prim_on prim.AtLeast vs = compared (λ a b. int_le b a) vs
prim_on prim.IsZero vs = tested is_zero vs
prim_on prim.IsPositive vs = tested is_positive vs
prim_on prim.IsNegative vs = tested is_negative vs
prim_on prim.IsEven vs = tested is_even vs
prim_on prim.IsOdd vs = tested (λ n. not (is_even n)) vs
prim_on prim.Not vs = one (λ v. truth (not (is_true v))) vs
prim_on prim.Same vs = two (λ v w. truth (is_same v w)) vs
prim_on prim.IsInteger vs = one (λ v. truth (is_integer v)) vs
prim_on prim.IsBoolean vs = one (λ v. truth (is_boolean v)) vs
prim_on prim.IsSymbol vs = one (λ v. truth (is_symbol v)) vs
prim_on prim.IsString vs = one (λ v. truth (is_string v)) vs
prim_on prim.IsList vs = one (λ v. truth (is_list v)) vs
prim_on prim.IsNull vs = one (λ v. truth (is_null v)) vs
prim_on prim.IsPair vs = one (λ v. truth (is_pair v)) vs
prim_on prim.List vs = list_answer (data_of vs)
prim_on prim.Cons vs = two (λ v w. on_list (λ ds. list_answer (datum_of v ∷ ds)) w) vs
prim_on prim.Car vs = one (on_list car) vs
prim_on prim.Cdr vs = one (on_list cdr) vs
prim_on prim.Length vs = one (on_list (λ ds. Ok (value.Int (pos (length ds))))) vs
prim_on prim.Append vs = appended vs
prim_on prim.Reverse vs = one (on_list (λ ds. Ok (value.List (reverse ds)))) vs
prim_on prim.ListRef vs = two (λ v w. on_list (λ ds. on_integer (list_ref ds) w) v) vs
prim_on prim.StringLength vs = one (on_string (λ s. Ok (value.Int (pos (length (chars s)))))) vs
prim_on prim.StringAppend vs = strings_appended vs
prim_on prim.StringEqual vs = strings_equal vs
prim_on prim.SymbolToString vs = one (on_symbol (λ s. Ok (value.Str s))) vs
prim_on prim.NumberToString vs = one (on_integer (λ n. Ok (value.Str (signed_decimal n)))) vs
prim_on prim.Raise vs = one (λ v. Err Raised) vs
