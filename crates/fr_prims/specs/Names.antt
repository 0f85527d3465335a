-- The names of the primitives.
use Rattle.std.specs.Prelude.{ℕ, codes, if◌then◌else◌, List, [], ◌∷◌, Option, Some, None}
use Rattle.std.specs.Str.{bytes_eq}
use Rattle.std.specs.Option.{option_or}
use Rattle.fr_value.specs.declared.primitive.Primitive.{Primitive}
use Rattle.fr_value.specs.declared.primitive.Primitive.TheVariants as prim

-- names and their primitives
abbrev pub Entries : Type 0
Entries = List (List ℕ × Primitive)

-- the primitives of arithmetic and comparison
abbrev pub arithmetic : Entries
arithmetic =
    (codes "+", prim.Add) ∷ (codes "*", prim.Mul) ∷ (codes "-", prim.Sub) ∷ (codes "quotient", prim.Quotient)
    ∷ (codes "remainder", prim.Remainder) ∷ (codes "modulo", prim.Modulo) ∷ (codes "abs", prim.Abs) ∷ (codes "min", prim.Min)
    ∷ (codes "max", prim.Max) ∷ (codes "=", prim.Equal) ∷ (codes "<", prim.Less) ∷ (codes ">", prim.Greater)
    ∷ (codes "<=", prim.AtMost) ∷ (codes ">=", prim.AtLeast) ∷ []

-- the primitives that test a value
abbrev pub tests : Entries
tests =
    (codes "zero?", prim.IsZero) ∷ (codes "positive?", prim.IsPositive) ∷ (codes "negative?", prim.IsNegative) ∷ (codes "even?", prim.IsEven)
    ∷ (codes "odd?", prim.IsOdd) ∷ (codes "not", prim.Not) ∷ (codes "equal?", prim.Same) ∷ (codes "integer?", prim.IsInteger)
    ∷ (codes "boolean?", prim.IsBoolean) ∷ (codes "symbol?", prim.IsSymbol) ∷ (codes "string?", prim.IsString) ∷ (codes "list?", prim.IsList)
    ∷ (codes "null?", prim.IsNull) ∷ (codes "pair?", prim.IsPair) ∷ []

-- the primitives on lists and strings, and `raise`
abbrev pub lists_and_strings : Entries
lists_and_strings =
    (codes "list", prim.List) ∷ (codes "cons", prim.Cons) ∷ (codes "car", prim.Car) ∷ (codes "first", prim.Car)
    ∷ (codes "cdr", prim.Cdr) ∷ (codes "rest", prim.Cdr) ∷ (codes "length", prim.Length) ∷ (codes "append", prim.Append)
    ∷ (codes "reverse", prim.Reverse) ∷ (codes "list-ref", prim.ListRef) ∷ (codes "string-length", prim.StringLength) ∷ (codes "string-append", prim.StringAppend)
    ∷ (codes "string=?", prim.StringEqual) ∷ (codes "symbol->string", prim.SymbolToString) ∷ (codes "number->string", prim.NumberToString) ∷ (codes "raise", prim.Raise) ∷ []

-- the primitive of the first entry with a name
abbrev pub find : Entries → List ℕ → Option Primitive
find [] name = None
find (e ∷ es) name = if bytes_eq name e.0 then Some e.1 else find es name

-- the primitive that has a name, if there is one
abbrev pub prim_named : List ℕ → Option Primitive
prim_named name = option_or (find arithmetic name) (option_or (find tests name) (find lists_and_strings name))
