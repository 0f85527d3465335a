-- What the code's choices among similar primitives mean.
use Rattle.std.specs.Prelude.{ℤ, ◌+ℤ◌, ◌-ℤ◌, ◌*ℤ◌, Bool, not}
use Rattle.std.specs.Int.RustNames.{int_lt, int_le, int_div, int_rem}
use Rattle.std.specs.Ordering.{int_eq}
use Rattle.fr_value.specs.declared.value.Value.{Value}
use Rattle.fr_prims.specs.declared.integers.Operation.{Operation}
use Rattle.fr_prims.specs.declared.integers.Operation.TheVariants as operation
use Rattle.fr_prims.specs.declared.integers.Division.{Division}
use Rattle.fr_prims.specs.declared.integers.Division.TheVariants as division
use Rattle.fr_prims.specs.declared.comparisons.Relation.{Relation}
use Rattle.fr_prims.specs.declared.comparisons.Relation.TheVariants as relation
use Rattle.fr_prims.specs.declared.comparisons.Sign.{Sign}
use Rattle.fr_prims.specs.declared.comparisons.Sign.TheVariants as sign
use Rattle.fr_prims.specs.declared.kinds.Kind.{Kind}
use Rattle.fr_prims.specs.declared.kinds.Kind.TheVariants as kind
use Rattle.fr_prims.specs.Integers.{is_integer, is_zero, is_positive, is_negative, is_even, int_mod}
use Rattle.fr_prims.specs.Data.{is_boolean, is_symbol, is_string, is_list, is_null, is_pair}

-- the operation of a choice
abbrev pub op_of : Operation → ℤ → ℤ → ℤ
op_of operation.Add = ◌+ℤ◌
op_of operation.Multiply = ◌*ℤ◌
op_of operation.Subtract = ◌-ℤ◌

-- the division of a choice
abbrev pub division_of : Division → ℤ → ℤ → ℤ
division_of division.Quotient = int_div
division_of division.Remainder = int_rem
division_of division.Modulo = int_mod

-- the relation of a choice
abbrev pub stands_of : Relation → ℤ → ℤ → Bool
stands_of relation.Equal = int_eq
stands_of relation.Less = int_lt
stands_of relation.Greater = λ a b. int_lt b a
stands_of relation.AtMost = int_le
stands_of relation.AtLeast = λ a b. int_le b a

-- the test of a choice
abbrev pub sign_of : Sign → ℤ → Bool
sign_of sign.Zero = is_zero
sign_of sign.Positive = is_positive
sign_of sign.Negative = is_negative
sign_of sign.Even = is_even
sign_of sign.Odd = λ n. not (is_even n)

-- the test of a kind
abbrev pub kind_of : Kind → Value → Bool
kind_of kind.Integer = is_integer
kind_of kind.Boolean = is_boolean
kind_of kind.Symbol = is_symbol
kind_of kind.String = is_string
kind_of kind.List = is_list
kind_of kind.Null = is_null
kind_of kind.Pair = is_pair
