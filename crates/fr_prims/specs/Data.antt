-- The primitives on lists, and the tests of any value.
use Rattle.std.specs.Prelude.{ℤ, pos, negsuc, Bool, true, false, not, if◌then◌else◌, List, [], ◌∷◌, slice_get, Option, Some, None, Ok, Err}
use Rattle.std.specs.List.{flat_map}
use Rattle.fr_value.specs.Data.{value_of, few}
use Rattle.fr_value.specs.declared.value.Datum.{Datum}
use Rattle.fr_value.specs.declared.value.Value.{Value}
use Rattle.fr_value.specs.declared.value.Value.TheVariants as value
use Rattle.fr_value.specs.declared.now.Bad.TheVariants.{WrongType, Range, Empty, TooBig}
use Rattle.fr_prims.specs.Integers.{Answer, typed}

-- a value is a truth value
abbrev pub is_boolean : Value → Bool
is_boolean (value.Bool b) = true
is_boolean v = false

-- a value is a symbol
abbrev pub is_symbol : Value → Bool
is_symbol (value.Sym s) = true
is_symbol v = false

-- a value is a string
abbrev pub is_string : Value → Bool
is_string (value.Str s) = true
is_string v = false

-- a value is a list
abbrev pub is_list : Value → Bool
is_list (value.List ds) = true
is_list v = false

-- a value is anything but `#f`
abbrev pub is_true : Value → Bool
is_true (value.Bool b) = b
is_true v = true

-- there is no item
abbrev pub no_items : List Datum → Bool
no_items [] = true
no_items (d ∷ ds) = false

-- a value is the empty list
abbrev pub is_null : Value → Bool
is_null (value.List ds) = no_items ds
is_null v = false

-- a value is a list that isn't empty
abbrev pub is_pair : Value → Bool
is_pair (value.List ds) = not (no_items ds)
is_pair v = false

-- what is given for a list
abbrev pub on_list : (List Datum → Answer) → Value → Answer
on_list f (value.List ds) = f ds
on_list f v = Err WrongType

-- a list as an answer, where it is within the limits
abbrev pub list_answer : List Datum → Answer
list_answer ds = if few ds then Ok (value.List ds) else Err TooBig

-- the first item of a list
abbrev pub car : List Datum → Answer
car [] = Err Empty
car (d ∷ ds) = Ok (value_of d)

-- the list behind the first item
abbrev pub cdr : List Datum → Answer
cdr [] = Err Empty
cdr (d ∷ ds) = Ok (value.List ds)

-- an item as an answer, if there is one
abbrev pub item_answer : Option Datum → Answer
item_answer None = Err Range
item_answer (Some d) = Ok (value_of d)

-- the item at an index, counted from 0
abbrev pub list_ref : List Datum → ℤ → Answer
list_ref ds (pos n) = item_answer (slice_get ds n)
list_ref ds (negsuc n) = Err Range

-- the items of a list; none for anything else, which is refused before
abbrev pub items_of : Value → List Datum
items_of (value.List ds) = ds
items_of v = []

-- lists joined
abbrev pub appended : List Value → Answer
appended vs = typed is_list vs (list_answer (flat_map items_of vs))
