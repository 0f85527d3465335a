-- The table's values of closed arguments.
use Rattle.std.proofs.Common.{◌≡◌, pos, negsuc, true, false, [], ◌∷◌, Some, None, Ok, Err, refl, ap, codes}
use Rattle.fr_value.specs.Data.{value_of-datum_of}
use Rattle.fr_value.specs.declared.value.Datum.TheVariants as datum
use Rattle.fr_value.specs.declared.value.Value.{Value}
use Rattle.fr_value.specs.declared.value.Value.TheVariants as value
use Rattle.fr_value.specs.declared.now.Bad.TheVariants.{WrongType, Range, Zero, Empty, Arity, Raised}
use Rattle.fr_value.specs.declared.primitive.Primitive.TheVariants as prim
use Rattle.fr_prims.specs.Table.{prim_on}
use Rattle.fr_prims.specs.Names.{prim_named}

abbrev least : Value
least = value.Int (negsuc 9223372036854775807)

sum : prim_on prim.Add (value.Int (pos 1) ∷ value.Int (pos 2) ∷ value.Int (negsuc 0) ∷ []) ≡ Ok (value.Int (pos 2))
sum = refl

no_sum : prim_on prim.Add [] ≡ Ok (value.Int (pos 0))
no_sum = refl

-- a partial result that leaves 64 bits, although the whole sum doesn't
partial : prim_on prim.Add (value.Int (pos 9223372036854775807) ∷ value.Int (pos 1) ∷ value.Int (negsuc 0) ∷ []) ≡ Err Range
partial = refl

type_before_range : prim_on prim.Add (value.Int (pos 9223372036854775807) ∷ value.Int (pos 1) ∷ value.Bool true ∷ []) ≡ Err WrongType
type_before_range = refl

negation : prim_on prim.Sub (value.Int (pos 5) ∷ []) ≡ Ok (value.Int (negsuc 4))
negation = refl

no_negation : prim_on prim.Sub (least ∷ []) ≡ Err Range
no_negation = refl

truncated : prim_on prim.Quotient (value.Int (negsuc 6) ∷ value.Int (pos 2) ∷ []) ≡ Ok (value.Int (negsuc 2))
truncated = refl

least_quotient : prim_on prim.Quotient (least ∷ value.Int (negsuc 0) ∷ []) ≡ Err Range
least_quotient = refl

least_remainder : prim_on prim.Remainder (least ∷ value.Int (negsuc 0) ∷ []) ≡ Ok (value.Int (pos 0))
least_remainder = refl

dividends_sign : prim_on prim.Remainder (value.Int (negsuc 6) ∷ value.Int (pos 2) ∷ []) ≡ Ok (value.Int (negsuc 0))
dividends_sign = refl

divisors_sign : prim_on prim.Modulo (value.Int (negsuc 6) ∷ value.Int (pos 2) ∷ []) ≡ Ok (value.Int (pos 1))
divisors_sign = refl

by_zero : prim_on prim.Modulo (value.Int (pos 1) ∷ value.Int (pos 0) ∷ []) ≡ Err Zero
by_zero = refl

arity_before_type : prim_on prim.Quotient (value.Bool true ∷ []) ≡ Err Arity
arity_before_type = refl

type_before_zero : prim_on prim.Quotient (value.Bool true ∷ value.Int (pos 0) ∷ []) ≡ Err WrongType
type_before_zero = refl

rising : prim_on prim.Less (value.Int (pos 1) ∷ value.Int (pos 3) ∷ value.Int (pos 2) ∷ []) ≡ Ok (value.Bool false)
rising = refl

first_item : prim_on prim.Car (value.List (datum.Int (pos 7) ∷ []) ∷ []) ≡ Ok (value.Int (pos 7))
first_item = ap Ok (value_of-datum_of (value.Int (pos 7)))

no_first : prim_on prim.Car (value.List [] ∷ []) ≡ Err Empty
no_first = refl

last_first : prim_on prim.Reverse (value.List (datum.Int (pos 1) ∷ datum.Int (pos 2) ∷ []) ∷ []) ≡ Ok (value.List (datum.Int (pos 2) ∷ datum.Int (pos 1) ∷ []))
last_first = refl

no_item : prim_on prim.ListRef (value.List (datum.Int (pos 1) ∷ []) ∷ value.Int (pos 1) ∷ []) ≡ Err Range
no_item = refl

raised : prim_on prim.Raise (value.Int (pos 1) ∷ []) ≡ Err Raised
raised = refl

two_names : prim_named (codes "first") ≡ Some prim.Car
two_names = refl

no_name : prim_named (codes "second") ≡ None
no_name = refl
